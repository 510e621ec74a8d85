-- The type nodes of lines without a fault are a type table.
use Rattle.std.proofs.Common.{◌≡◌, ℕ, suc, ◌+◌, ◌<◌, ◌^◌, ◌==◌, ◌&&◌, not, nat_lt, nat_le, Bool, true, false, ℤ, pos, negsuc, List, [], ◌∷◌, ◌++◌, length, map, drop, get_or, if◌then◌else◌, Option, Some, None, is_some, slice_get, IsTrue, All, refl, sym, ap, ◌∙◌, subst, arith}
use Rattle.std.specs.List.{filter_map, cons_option, list_all, AllByRecursion}
use Rattle.std.proofs.lemmas.Bool.{and_parts, and_from, eqb-true, ltb-true}
use Rattle.std.proofs.lemmas.List.{map-append, length-map, get_or-map, drop-map}
use Rattle.std.proofs.lemmas.List.Elements.{All-nil, All-cons, All-append, recursion_from_All, filter_map-append}
use Rattle.std.proofs.lemmas.Option.{slice_get_within, get_or_from_slice_get}
use Rattle.cfi_word.specs.declared.limits.TheConstants.{MAX_FIELDS, MAX_NODES}
use Rattle.cfi_type_table.specs.declared.kind.TheConstants.{VOID, INT, REAL, PTR, ARRAY, STRUCT, UNION, FUNC, VARFUNC}
use Rattle.cfi_type_table.specs.Kind.{number_count, has_arity, field_fits, is_callable_kind, is_callable as names_callable}
use Rattle.cfi_type_table.specs.Node.{Node, make_node}
use Rattle.cfi_type_table.specs.Spelling.{AreFields, IsNode, NamesBelow, AreTypes}
use Rattle.rv_line.specs.declared.line.Line.{Line}
use Rattle.rv_line.specs.declared.statement.NodeKind.{NodeKind}
use Rattle.rv_line.specs.declared.statement.NodeKind.TheVariants as kinds
use Rattle.rv_line.specs.declared.statement.Statement.{Statement}
use Rattle.rv_line.specs.declared.statement.Statement.TheVariants as statements
use Rattle.rv_line.specs.Statement.{has_count}
use Rattle.rv_asm.specs.declared.file.File.{File}
use Rattle.rv_asm.specs.Fault.{Found, Totals, line_fault, fault_at, found_at, totals_at}
use Rattle.rv_asm.specs.Made.{listed, nodes_in, nodes_of}
use Rattle.rv_asm.specs.Node.{number_of, is_node, is_callable, callable_in, names_nodes, is_word, is_integer, fits, node_of}
use Rattle.rv_asm.specs.Placed.{Placed, placed_behind}
use Rattle.rv_asm.specs.Symbols.{node_kind, kinds_in}
use Rattle.rv_asm.specs.Words.{low_word}
use Rattle.rv_asm.proofs.PlacedLemmas.{at_line, made-push}
use Rattle.cfi_made_law.proofs.LinkLemmas.{no_node, callable-from}
use Rattle.cfi_made_law.proofs.AsmOperandLemmas.{IsFormed}
use Rattle.cfi_made_law.proofs.AsmFormLemmas.{SaidFormed, IsFormedLine}
use Rattle.cfi_made_law.proofs.AsmLimitLemmas.{IsClear, clear-said}
use Rattle.cfi_made_law.proofs.AsmExactLemmas.{by-parts}
use Rattle.cfi_made_law.proofs.AsmRecordLemmas.{nodes-few}

-- ---- a node's fields

arity-of : (kind : NodeKind) (n : ℕ) → has_count kind n ≡ true → nat_le n MAX_FIELDS ≡ true
    → IsTrue (has_arity (number_of kind) n)
arity-of kinds.Void n is few = is
arity-of kinds.Int n is few = is
arity-of kinds.Real n is few = is
arity-of kinds.Ptr n is few = is
arity-of kinds.Array n is few = is
arity-of kinds.Struct n is few = few
arity-of kinds.Union n is few = few
arity-of kinds.Func n is few = and_from _ _ is few
arity-of kinds.VarFunc n is few = and_from _ _ is few

word-small : (number : ℤ) → is_word number ≡ true → low_word number < 2 ^ 32
word-small (pos n) is = omega arith
word-small (negsuc n) is = absurd (cc)

plain-fields : (kind place : ℕ) (fields : List ℤ) → (kind == INT) ≡ false → list_all is_word fields ≡ true
    → AreFields kind place (map low_word fields)
plain-fields kind place [] other all = tt
plain-fields kind place (f ∷ fields) other all =
    let parts = and_parts (is_word f) (list_all is_word fields) all in
    (word-small f parts.0, rw other refl, plain-fields kind (suc place) fields other parts.1)

int-fields : (fields : List ℤ) → (length fields == 2) ≡ true → list_all is_word fields ≡ true
    → is_integer (map low_word fields) ≡ true → AreFields INT 0 (map low_word fields)
int-fields [] two all fit = absurd (cc)
int-fields (a ∷ []) two all fit = absurd (cc)
int-fields (a ∷ b ∷ []) two all fit =
    let first = and_parts (is_word a) (list_all is_word (b ∷ [])) all in
    let second = and_parts (is_word b) (list_all is_word []) first.1 in
    let each = and_parts (field_fits INT 0 (low_word a)) (field_fits INT 1 (low_word b)) fit in
    (word-small a first.0, each.0, (word-small b second.0, each.1, tt))
int-fields (a ∷ b ∷ c ∷ rest) two all fit =
    let long : length (a ∷ b ∷ c ∷ rest) ≡ 2 = eqb-true _ 2 two in
    absurd (omega (arith, long))

fields-of : (kind : NodeKind) (fields : List ℤ) → has_count kind (length fields) ≡ true → list_all is_word fields ≡ true
    → fits kind (map low_word fields) ≡ true → AreFields (number_of kind) 0 (map low_word fields)
fields-of kinds.Int fields is all fit = int-fields fields is all fit
fields-of kinds.Void fields is all fit = plain-fields VOID 0 fields refl all
fields-of kinds.Real fields is all fit = plain-fields REAL 0 fields refl all
fields-of kinds.Ptr fields is all fit = plain-fields PTR 0 fields refl all
fields-of kinds.Array fields is all fit = plain-fields ARRAY 0 fields refl all
fields-of kinds.Struct fields is all fit = plain-fields STRUCT 0 fields refl all
fields-of kinds.Union fields is all fit = plain-fields UNION 0 fields refl all
fields-of kinds.Func fields is all fit = plain-fields FUNC 0 fields refl all
fields-of kinds.VarFunc fields is all fit = plain-fields VARFUNC 0 fields refl all

name-below : (count : ℕ) (number : ℤ) → is_node count number ≡ true → low_word number < count
name-below count (pos n) is = let less : n < count = ltb-true n count is in omega (arith, less)
name-below count (negsuc n) is = absurd (cc)

all-below : (count : ℕ) (fields : List ℤ) → list_all (is_node count) fields ≡ true
    → All (λ k. k < count) (map low_word fields)
all-below count [] all = All-nil (λ k. k < count)
all-below count (f ∷ fields) all =
    let parts = and_parts (is_node count f) (list_all (is_node count) fields) all in
    All-cons (λ k. k < count) (low_word f) (map low_word fields) (name-below count f parts.0)
    (all-below count fields parts.1)

-- ---- a node

record IsGood (count : ℕ) (kind : NodeKind) (node : Node) : Type 0 where
  shape : IsNode node
  names : NamesBelow count node
  kind_is : node.kind ≡ number_of kind

by-tests : (a b c : Bool) (made node : Node)
    → (if a then (if b then (if c then Some made else None) else None) else None) ≡ Some node
    → (a ≡ true) × (b ≡ true) × (c ≡ true) × (made ≡ node)
by-tests true true true made node is = (refl, refl, refl, cc)
by-tests true true false made node is = absurd (cc)
by-tests true false c made node is = absurd (cc)
by-tests false b c made node is = absurd (cc)

node-good : (count : ℕ) (kind : NodeKind) (fields : List ℤ) (node : Node) → has_count kind (length fields) ≡ true
    → names_nodes count kind fields ≡ true → node_of kind fields ≡ Some node → IsGood count kind node
node-good count kind fields node formed names is =
    let words = map low_word fields in
    let p = by-tests (nat_le (length fields) MAX_FIELDS) (list_all is_word fields) (fits kind words)
    (make_node (number_of kind) words) node is in
    subst (IsGood count kind) p.3 (record {
      shape = record {
        arity = subst (λ (n : ℕ). IsTrue (has_arity (number_of kind) n)) (sym (length-map fields low_word))
            (arity-of kind (length fields) formed p.0);
        fields = fields-of kind fields formed p.1 p.2;
      };
      names = subst (All (λ k. k < count)) (sym (drop-map low_word (number_count (number_of kind)) fields))
          (all-below count (drop (number_count (number_of kind)) fields) names);
      kind_is = refl;
    })

-- ---- the nodes of lines

abbrev kind_of : Node → ℕ
kind_of node = node.kind

record Makes (count : ℕ) (made : List Node) (said : List NodeKind) : Type 0 where
  shapes : All IsNode made
  names : All (NamesBelow count) made
  kinds_are : map kind_of made ≡ map number_of said

makes-none : (count : ℕ) → Makes count [] []
makes-none count = record { shapes = All-nil IsNode; names = All-nil (NamesBelow count); kinds_are = refl }

not-false : (b : Bool) → not b ≡ false → b ≡ true
not-false true is = refl
not-false false is = absurd (cc)

node-made : (count : ℕ) (kind : NodeKind) (fields : List ℤ) (o : Option Node) → node_of kind fields ≡ o
    → has_count kind (length fields) ≡ true → names_nodes count kind fields ≡ true → is_some o ≡ true
    → Makes count (listed o) (kind ∷ [])
node-made count kind fields None is formed names some = absurd (cc)
node-made count kind fields (Some node) is formed names some =
    let good = node-good count kind fields node formed names is in
    record {
      shapes = All-cons IsNode node [] good.shape (All-nil IsNode);
      names = All-cons (NamesBelow count) node [] good.names (All-nil (NamesBelow count));
      kinds_are = ap (λ (n : ℕ). n ∷ []) good.kind_is;
    }

said-made : (file : File) (found : Found) (totals : Totals) (s : Statement) → IsFormed s → IsClear file found totals s
    → Makes (length file.kinds) (nodes_in (Some s)) (listed (node_kind (Some s)))
said-made file found totals (statements.Node kind fields) formed clear =
    node-made (length file.kinds) kind fields (node_of kind fields) refl formed
    (not-false (names_nodes (length file.kinds) kind fields) clear.placed)
    (and_parts (is_some (node_of kind fields)) (nat_lt totals.nodes MAX_NODES) clear.fits).0
said-made file found totals statements.Blank formed clear = makes-none (length file.kinds)
said-made file found totals s formed clear = makes-none (length file.kinds)

-- a line of lines that are formed is formed
pub formed-at : (before behind : List Line) (line : Line)
    → AllByRecursion IsFormedLine ((before ++ line ∷ []) ++ behind) → IsFormedLine line
formed-at [] behind line all = all.0
formed-at (first ∷ before) behind line all = formed-at before behind line all.1

kinds-push : (before : List Line) (line : Line)
    → kinds_in (before ++ line ∷ []) ≡ kinds_in before ++ listed (node_kind line.statement)
kinds-push before line =
    filter_map-append (λ (l : Line). node_kind l.statement) before (line ∷ [])
    ∙ ap (λ (xs : List NodeKind). kinds_in before ++ xs) (one (node_kind line.statement))
  where
    one : (o : Option NodeKind) → cons_option o [] ≡ listed o
    one None = refl
    one (Some kind) = refl

abbrev AreMade : (count : ℕ) → (before : List Line) → Type 0
AreMade count before = Makes count (nodes_of before) (kinds_in before)

nodes-step : (file : File) (lines before : List Line) (line : Line) → IsFormedLine line
    → fault_at file lines (at_line before line) ≡ None → AreMade (length file.kinds) before
    → AreMade (length file.kinds) (before ++ line ∷ [])
nodes-step file lines before line formed none so_far = from line.statement formed.1 none refl
  where
    at : Placed
    at = at_line before line

    count : ℕ
    count = length file.kinds

    from : (o : Option Statement) → SaidFormed o
        → line_fault file (found_at file lines at) (totals_at file at) (length before + 1) line.label o ≡ None
        → line.statement ≡ o → AreMade count (before ++ line ∷ [])
    from None formed none is = absurd (cc)
    from (Some s) formed none is =
        let clear =
        clear-said file (found_at file lines at) (totals_at file at) (length before + 1) line.label s none in
        let more = said-made file (found_at file lines at) (totals_at file at) s formed clear in
        let made : nodes_of (before ++ line ∷ []) ≡ nodes_of before ++ nodes_in (Some s) =
        made-push (λ (a : Placed). nodes_in a.line.statement) before line
        ∙ ap (λ (x : Option Statement). nodes_of before ++ nodes_in x) is in
        let said : kinds_in (before ++ line ∷ []) ≡ kinds_in before ++ listed (node_kind (Some s)) =
        kinds-push before line ∙ ap (λ (x : Option Statement). kinds_in before ++ listed (node_kind x)) is in
        record {
          shapes = subst (All IsNode) (sym made)
              (All-append IsNode (nodes_of before) (nodes_in (Some s)) so_far.shapes more.shapes);
          names = subst (All (NamesBelow count)) (sym made)
              (All-append (NamesBelow count) (nodes_of before) (nodes_in (Some s)) so_far.names more.names);
          kinds_are = ap (map kind_of) made ∙ map-append kind_of (nodes_of before) (nodes_in (Some s))
              ∙ ap (λ (xs : List ℕ). xs ++ map kind_of (nodes_in (Some s))) so_far.kinds_are
              ∙ ap (λ (xs : List ℕ). map number_of (kinds_in before) ++ xs) more.kinds_are
              ∙ sym (map-append number_of (kinds_in before) (listed (node_kind (Some s))))
              ∙ ap (map number_of) (sym said);
        }

nodes-made : (file : File) (lines : List Line) → AllByRecursion IsFormedLine lines
    → filter_map (fault_at file lines) (placed_behind [] lines) ≡ [] → AreMade (length file.kinds) lines
nodes-made file lines formed clear =
    by-parts (AreMade (length file.kinds)) file lines
    (λ before line behind all none so_far. nodes-step file lines before line
    (formed-at before behind line (subst (AllByRecursion IsFormedLine) (sym all) formed)) none so_far)
    clear (makes-none (length file.kinds))

-- ---- the table

module _ (file : File) (lines : List Line) (formed : AllByRecursion IsFormedLine lines)
    (clear : filter_map (fault_at file lines) (placed_behind [] lines) ≡ []) (own : file.kinds ≡ kinds_in lines) where
  made : AreMade (length file.kinds) lines
  made = nodes-made file lines formed clear

  kinds-are : map kind_of (nodes_of lines) ≡ map number_of file.kinds
  kinds-are = made.kinds_are ∙ ap (map number_of) (sym own)

  count-is : length file.kinds ≡ length (nodes_of lines)
  count-is =
      sym (length-map file.kinds number_of) ∙ ap (λ (xs : List ℕ). length xs) (sym kinds-are)
      ∙ length-map (nodes_of lines) kind_of

  pub types-good : AreTypes (nodes_of lines)
  types-good = record {
    count = (nodes-few file lines clear).count;
    nodes = recursion_from_All IsNode (nodes_of lines) made.shapes;
    names = subst (λ (n : ℕ). AllByRecursion (NamesBelow n) (nodes_of lines)) count-is
        (recursion_from_All (NamesBelow (length file.kinds)) (nodes_of lines) made.names);
  }

  -- the number of a node of functions is that of one in the table
  callable-there : (n : ℕ) (kind : NodeKind) → slice_get file.kinds n ≡ Some kind
      → is_callable_kind (number_of kind) ≡ true → IsTrue (names_callable (nodes_of lines) n)
  callable-there n kind is callable =
      let within : n < length file.kinds = slice_get_within file.kinds n kind is in
      let below : n < length (nodes_of lines) = omega (arith, within, count-is) in
      let at : get_or file.kinds n kind ≡ kind = get_or_from_slice_get file.kinds n kind kind is in
      let same : kind_of (get_or (nodes_of lines) n no_node) ≡ number_of kind =
      sym (get_or-map kind_of (nodes_of lines) n no_node 0 below)
      ∙ ap (λ (xs : List ℕ). get_or xs n 0) kinds-are ∙ get_or-map number_of file.kinds n kind 0 within
      ∙ ap number_of at in
      callable-from (nodes_of lines) n below
      (subst (λ (k : ℕ). IsTrue (is_callable_kind k)) (sym same) callable)

  pub callable-good : (number : ℤ) (n : ℕ) → callable_in file.kinds number ≡ Some n
      → (n < 2 ^ 32) × IsTrue (names_callable (nodes_of lines) n)
  callable-good (negsuc m) n is = absurd (cc)
  callable-good (pos m) n is =
      let found = found-by (nat_lt m (2 ^ 32) && is_callable (slice_get file.kinds m)) m n is in
      let parts = and_parts (nat_lt m (2 ^ 32)) (is_callable (slice_get file.kinds m)) found.0 in
      subst (λ (k : ℕ). (k < 2 ^ 32) × IsTrue (names_callable (nodes_of lines) k)) found.1
      (ltb-true m (2 ^ 32) parts.0, kind-there m (slice_get file.kinds m) refl parts.1)
    where
      found-by : (b : Bool) (k o : ℕ) → (if b then Some k else None) ≡ Some o → (b ≡ true) × (k ≡ o)
      found-by true k o e = (refl, cc)
      found-by false k o e = absurd (cc)

      kind-there : (k : ℕ) (o : Option NodeKind) → slice_get file.kinds k ≡ o → is_callable o ≡ true
          → IsTrue (names_callable (nodes_of lines) k)
      kind-there k None at e = absurd (cc)
      kind-there k (Some kind) at e = callable-there k kind at e
