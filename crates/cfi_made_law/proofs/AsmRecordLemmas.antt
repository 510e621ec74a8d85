-- The type nodes and functions of lines without a fault are not too many, and have few bytes.
use Rattle.std.proofs.Common.{◌≡◌, ℕ, ◌+◌, ◌<◌, ◌≤◌, nat_lt, nat_le, Bool, true, false, ℤ, List, [], ◌∷◌, ◌++◌, length, map, if◌then◌else◌, Option, Some, None, option_map, unwrap_or, All, refl, sym, ap, ◌∙◌, subst, arith, inl, inr, length-append}
use Rattle.std.specs.List.{filter_map, list_all}
use Rattle.std.proofs.lemmas.Bool.{cases_Bool, and_parts, leb-true, ltb-true}
use Rattle.std.proofs.lemmas.List.{length-map}
use Rattle.std.proofs.lemmas.List.Elements.{All-nil, All-cons, All-append}
use Rattle.cfi_word.specs.declared.limits.TheConstants.{MAX_NODES, MAX_FIELDS, MAX_FUNCTIONS, MAX_NAME}
use Rattle.cfi_type_table.specs.Node.{Node}
use Rattle.cfi_aux.specs.declared.records.Function.{Function}
use Rattle.elf_read.specs.declared.object.Area.TheVariants as areas
use Rattle.rv_line.specs.declared.line.Line.{Line}
use Rattle.rv_line.specs.declared.statement.NodeKind.{NodeKind}
use Rattle.rv_line.specs.declared.statement.Statement.{Statement}
use Rattle.rv_line.specs.declared.statement.Statement.TheVariants as statements
use Rattle.rv_asm.specs.declared.file.File.{File}
use Rattle.rv_asm.specs.declared.spot.Spot.{Spot}
use Rattle.rv_asm.specs.Fault.{Found, Totals, statement_fits, line_fault, fault_at, found_at, totals_at}
use Rattle.rv_asm.specs.Made.{listed, nodes_in, nodes_of, begun, opened, open_after, ended, functions_in, functions_at, functions_of}
use Rattle.rv_asm.specs.Node.{callable_in, is_word, fits, node_by, node_of, number_of}
use Rattle.rv_asm.specs.Placed.{Placed, placed_behind, end_after, spot_after}
use Rattle.rv_asm.specs.Words.{low_word}
use Rattle.rv_asm.proofs.DraftedLemmas.{open-push}
use Rattle.rv_asm.proofs.PlacedLemmas.{at_line, made-push}
use Rattle.cfi_made_law.proofs.AsmLimitLemmas.{by-lines, clear-said}

-- a statement without a fault
abbrev Fits : File → (o : Option Statement) → Found → Totals → Type 0
Fits file o found totals = (number : ℕ) × (label : Option (List ℕ)) × (line_fault file found totals number label o ≡ None)

-- ---- types

few-fields : (f : Bool) (kind : ℕ) (words : List ℕ) (node : Node)
    → (if f then Some (record { kind = kind; fields = words }) else None) ≡ Some node → node.fields ≡ words
few-fields true kind words node e = let same : record { kind = kind; fields = words } ≡ node = cc in
    sym (ap (λ (n : Node). n.fields) same)
few-fields false kind words node e = cc

words-fields : (a : Bool) (kind : NodeKind) (fields : List ℤ) (node : Node)
    → (if a then node_by kind (map low_word fields) else None) ≡ Some node → length node.fields ≡ length fields
words-fields true kind fields node e =
    ap (λ (l : List ℕ). length l) (few-fields (fits kind (map low_word fields)) (number_of kind)
    (map low_word fields) node e)
    ∙ length-map fields low_word
words-fields false kind fields node e = cc

node-fields : (kind : NodeKind) (fields : List ℤ) (node : Node) → node_of kind fields ≡ Some node
    → length node.fields ≤ MAX_FIELDS
node-fields kind fields node e = elim (cases_Bool (nat_le (length fields) MAX_FIELDS)) [
  | inl few ↦
      let found : (if list_all is_word fields then node_by kind (map low_word fields) else None) ≡ Some node =
      rw few at e in
      omega (arith, leb-true _ _ few, words-fields (list_all is_word fields) kind fields node found)
  | inr many ↦ let never : None ≡ Some node = rw many at e in cc
]

abbrev HasFewFields : Node → Type 0
HasFewFields node = length node.fields ≤ MAX_FIELDS

pub record FewNodes (lines : List Line) : Type 0 where
  pub count : length (nodes_of lines) ≤ MAX_NODES
  pub fields : All HasFewFields (nodes_of lines)

listed-fields : (kind : NodeKind) (fields : List ℤ) (o : Option Node) → node_of kind fields ≡ o
    → All HasFewFields (listed o)
listed-fields kind fields None e = All-nil HasFewFields
listed-fields kind fields (Some node) e =
    All-cons HasFewFields node [] (node-fields kind fields node e) (All-nil HasFewFields)

node-one : (o : Option Node) → length (listed o) ≤ 1
node-one None = omega arith
node-one (Some node) = omega arith

said-nodes : (file : File) (found : Found) (totals : Totals) (s : Statement) → totals.nodes ≤ MAX_NODES
    → statement_fits file found.spot totals s ≡ true
    → (totals.nodes + length (nodes_in (Some s)) ≤ MAX_NODES) × All HasFewFields (nodes_in (Some s))
said-nodes file found totals (statements.Node kind fields) few fits =
    let room = ltb-true _ _ (and_parts _ (nat_lt totals.nodes MAX_NODES) fits).1 in
    (omega (arith, room, node-one (node_of kind fields)), listed-fields kind fields (node_of kind fields) refl)
said-nodes file found totals statements.Blank few fits = (omega (arith, few), All-nil HasFewFields)
said-nodes file found totals s few fits = (omega (arith, few), All-nil HasFewFields)

nodes-step : (file : File) (lines before : List Line) (line : Line) → fault_at file lines (at_line before line) ≡ None
    → FewNodes before → FewNodes (before ++ line ∷ [])
nodes-step file lines before line none few = nodes-from line.statement none refl
  where
    at : Placed
    at = at_line before line

    pushed : nodes_of (before ++ line ∷ []) ≡ nodes_of before ++ nodes_in line.statement
    pushed = made-push (λ (a : Placed). nodes_in a.line.statement) before line

    nodes-from : (o : Option Statement)
        → line_fault file (found_at file lines at) (totals_at file at) (length before + 1) line.label o ≡ None
        → line.statement ≡ o → FewNodes (before ++ line ∷ [])
    nodes-from None none is = absurd (cc)
    nodes-from (Some s) none is =
        let clear = clear-said file (found_at file lines at) (totals_at file at) (length before + 1) line.label s none in
        let both = said-nodes file (found_at file lines at) (totals_at file at) s few.count clear.fits in
        let all : nodes_of (before ++ line ∷ []) ≡ nodes_of before ++ nodes_in (Some s) =
        pushed ∙ ap (λ (x : Option Statement). nodes_of before ++ nodes_in x) is in
        record {
          count = omega (
            arith,
            ap (λ (l : List Node). length l) all,
            length-append (nodes_of before) (nodes_in (Some s)),
            both.0,
          );
          fields = subst (All HasFewFields) (sym all)
              (All-append HasFewFields (nodes_of before) (nodes_in (Some s)) few.fields both.1);
        }

pub nodes-few : (file : File) (lines : List Line)
    → filter_map (fault_at file lines) (placed_behind [] lines) ≡ [] → FewNodes lines
nodes-few file lines clear =
    by-lines FewNodes file lines (nodes-step file lines) clear
    (record { count = omega arith; fields = All-nil HasFewFields })

-- ---- functions

abbrev HasShortName : Function → Type 0
HasShortName f = length f.name ≤ MAX_NAME

abbrev opens : Option Function → ℕ
opens None = 0
opens (Some f) = 1

abbrev OpenShort : Option Function → Type 0
OpenShort None = Unit {0}
OpenShort (Some f) = HasShortName f

pub record FewFunctions (kinds : List NodeKind) (lines : List Line) : Type 0 where
  pub count : length (functions_of kinds lines) + opens (open_after kinds lines) ≤ MAX_FUNCTIONS
  pub names : All HasShortName (functions_of kinds lines)
  pub name : OpenShort (open_after kinds lines)

record FewMore (count : ℕ) (made : List Function) (next : Option Function) : Type 0 where
  total : count + length made + opens next ≤ MAX_FUNCTIONS
  names : All HasShortName made
  name : OpenShort next

opened-few : (count end : ℕ) (name : List ℕ) (taken : Bool) (o : Option ℕ) → count < MAX_FUNCTIONS
    → length name ≤ MAX_NAME → FewMore count [] (option_map (begun end name taken) o)
opened-few count end name taken None few short = record {
  total = omega (arith, few);
  names = All-nil HasShortName;
  name = tt;
}
opened-few count end name taken (Some ty) few short = record {
  total = omega (arith, few);
  names = All-nil HasShortName;
  name = short;
}

ended-few : (count end : ℕ) (o : Option Function) → count + opens o ≤ MAX_FUNCTIONS → OpenShort o
    → FewMore count (functions_in end o (Some statements.EndFunc)) None
ended-few count end None few short = record {
  total = omega (arith, few);
  names = All-nil HasShortName;
  name = tt;
}
ended-few count end (Some f) few short = record {
  total = omega (arith, few);
  names = All-cons HasShortName (ended end f) [] short (All-nil HasShortName);
  name = tt;
}

said-functions : (file : File) (spot : Spot) (totals : Totals) (kinds : List NodeKind) (end : ℕ) (o : Option Function)
    (s : Statement)
    → totals.functions + opens o ≤ MAX_FUNCTIONS → OpenShort o
    → statement_fits file spot totals s ≡ true
    → FewMore totals.functions (functions_in end o (Some s)) (unwrap_or (opened kinds end (Some s)) o)
said-functions file spot totals kinds end o (statements.Func name node taken) few short fits =
    let parts = and_parts (nat_lt totals.functions MAX_FUNCTIONS) (nat_le (length name) MAX_NAME) fits in
    opened-few totals.functions end name taken (callable_in kinds node) (ltb-true _ _ parts.0) (leb-true _ _ parts.1)
said-functions file spot totals kinds end o statements.EndFunc few short fits =
    ended-few totals.functions end o few short
said-functions file spot totals kinds end o s few short fits = record {
  total = omega (arith, few);
  names = All-nil HasShortName;
  name = short;
}

functions-step : (file : File) (lines before : List Line) (line : Line)
    → fault_at file lines (at_line before line) ≡ None
    → FewFunctions file.kinds before → FewFunctions file.kinds (before ++ line ∷ [])
functions-step file lines before line none few = functions-from line.statement none refl
  where
    at : Placed
    at = at_line before line

    end : ℕ
    end = end_after areas.Text before

    held : Option Function
    held = open_after file.kinds before

    functions-from : (o : Option Statement)
        → line_fault file (found_at file lines at) (totals_at file at) (length before + 1) line.label o ≡ None
        → line.statement ≡ o → FewFunctions file.kinds (before ++ line ∷ [])
    functions-from None none is = absurd (cc)
    functions-from (Some s) none is =
        let clear = clear-said file (found_at file lines at) (totals_at file at) (length before + 1) line.label s none in
        let more = said-functions file (spot_after before) (totals_at file at) file.kinds end held s few.count few.name
        clear.fits in
        let made : functions_of file.kinds (before ++ line ∷ [])
        ≡ functions_of file.kinds before ++ functions_in end held (Some s) =
        made-push (functions_at file.kinds) before line
        ∙ ap (λ (x : Option Statement). functions_of file.kinds before ++ functions_in end held x) is in
        let next : open_after file.kinds (before ++ line ∷ []) ≡ unwrap_or (opened file.kinds end (Some s)) held =
        open-push file.kinds before line
        ∙ ap (λ (x : Option Statement). unwrap_or (opened file.kinds end x) held) is in
        record {
          count = omega (
            arith,
            ap (λ (l : List Function). length l) made,
            length-append (functions_of file.kinds before) (functions_in end held (Some s)),
            ap opens next,
            more.total,
          );
          names = subst (All HasShortName) (sym made)
              (All-append HasShortName (functions_of file.kinds before) (functions_in end held (Some s)) few.names
              more.names);
          name = subst OpenShort (sym next) more.name;
        }

pub functions-few : (file : File) (lines : List Line)
    → filter_map (fault_at file lines) (placed_behind [] lines) ≡ []
    → FewFunctions file.kinds lines
functions-few file lines clear =
    by-lines (FewFunctions file.kinds) file lines (functions-step file lines) clear
    (record { count = omega arith; names = All-nil HasShortName; name = tt })
