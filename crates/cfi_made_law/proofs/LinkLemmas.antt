-- A linked module breaks no rule of objects, and its records are as records must be.
use Rattle.std.proofs.Common.{◌≡◌, ◌∙◌, ℕ, zero, suc, ◌+◌, ◌*◌, ◌%◌, ◌<◌, ◌≤◌, ◌^◌, not, List, [], ◌∷◌, ◌++◌, length, get_or, map, fold, filter, All, Option, None, IsTrue, refl, sym, ap, subst, inl, inr, arith, length-append}
use Rattle.std.specs.Prelude.{FitsSigned, ⊤}
use Rattle.std.specs.Int.{w32}
use Rattle.std.specs.List.{enumerate_from, AllByRecursion}
use Rattle.std.proofs.lemmas.Bool.{cases_Bool, and_parts, and_from, eq-eqb, eqb-true, lt-ltb, ltb-true}
use Rattle.std.proofs.lemmas.List.{length-map, get_or-map, get_or-append-add}
use Rattle.std.proofs.lemmas.List.Sums.{length-filter, count_by-le-length}
use Rattle.std.proofs.lemmas.List.Elements.{All-nil, All-head, All-tail, All-map, All-append, All-filter, All-weaker, All-from_recursion, recursion_from_All}
use Rattle.elf_read.specs.declared.object.Object.{Object}
use Rattle.elf_read.specs.declared.object.Place.{Place}
use Rattle.elf_read.specs.declared.object.Place.TheVariants as places
use Rattle.elf_read.specs.declared.object.Symbol.{Symbol}
use Rattle.elf_read.specs.declared.object.Reloc.{Reloc}
use Rattle.elf_read.specs.Sound.{IsInsideArea}
use Rattle.cfi_word.specs.declared.limits.TheConstants.{MAX_WORDS, MAX_DATA, MAX_NODES}
use Rattle.cfi_type_table.specs.Node.{Node, make_node, node_of}
use Rattle.cfi_type_table.specs.Kind.{is_callable_kind, is_callable}
use Rattle.cfi_aux.specs.Format.{is_whole, has_count}
use Rattle.cfi_aux.specs.Modules.{AreSpelled}
use Rattle.cfi_aux.specs.Records.{IsFunction, IsBranch, AreRecords}
use Rattle.cfi_aux.specs.Sound.{IsSoundModule}
use Rattle.cfi_aux.specs.declared.format.TheConstants.{SWITCH}
use Rattle.cfi_aux.specs.Version.{version_for}
use Rattle.cfi_aux.proofs.VersionLemmas.{records-written}
use Rattle.cfi_aux.specs.declared.modules.Module.{Module}
use Rattle.cfi_aux.specs.declared.records.Function.{Function}
use Rattle.cfi_aux.specs.declared.records.Kind.{Kind}
use Rattle.cfi_aux.specs.declared.records.Kind.TheVariants as branches
use Rattle.cfi_place.specs.Names.{Names}
use Rattle.cfi_link.specs.declared.start.Start.{Start}
use Rattle.cfi_link.specs.declared.joined.OwnReloc.{OwnReloc}
use Rattle.cfi_link.specs.Joined.{Joined, nothing, start_of, shifted, value_at, symbol_at, reloc_at, own_reloc_at, node_at, function_at, branch_at, with_module, joined_of}
use Rattle.cfi_link.specs.Chosen.{chosen_in, loses, is_local_symbol, settled_symbol, settled, in_order, numbers_of, reaches_of}
use Rattle.cfi_link.specs.Applied.{is_kept, renumbered, kept_in, by_area}
use Rattle.cfi_link.specs.Fault.{sizes_of, passed_by}
use Rattle.cfi_link.specs.Linked.{AreModules, Linked}
use Rattle.cfi_link.proofs.JoinedLemmas.{with_module-lengths, fold-below}
use Rattle.cfi_link.proofs.LimitLemmas.{few}
use Rattle.cfi_link.proofs.OutputLemmas.{length-in_order}
use Rattle.cfi_link.proofs.CellLemmas.{start_whole}
use Rattle.cfi_link.proofs.SoundLemmas.{all_enumerated, sound_all}
use Rattle.cfi_link.proofs.MadeLemmas.{sound_made}
use Rattle.cfi_link.proofs.TextSizeLemmas.{text_size}
use Rattle.cfi_made_law.proofs.OrderLemmas.{length-by_area, all-by_area}
use Rattle.cfi_made_law.proofs.ReadLemmas.{IsSmall, IsFit}

-- ---- nodes

get-left : {X : Type 0} (xs ys : List X) (n : ℕ) (d : X) → n < length xs → get_or (xs ++ ys) n d ≡ get_or xs n d
get-left [] ys n d less = absurd (omega (arith, less))
get-left (x ∷ xs) ys zero d less = refl
get-left (x ∷ xs) ys (suc n) d less = get-left xs ys n d (omega (arith, less))

callable-parts : (types : List Node) (n : ℕ) → IsTrue (is_callable types n)
    → (n < length types) × IsTrue (is_callable_kind (node_of types n).kind)
callable-parts types n is =
    let both = and_parts _ _ is in
    (ltb-true n (length types) both.0, both.1)

pub callable-from : (types : List Node) (n : ℕ) → n < length types
    → IsTrue (is_callable_kind (node_of types n).kind) → IsTrue (is_callable types n)
callable-from types n less is = and_from _ _ (lt-ltb n (length types) less) is

abbrev pub no_node : Node
no_node = make_node 0 []

callable-left : (old more : List Node) (n : ℕ) → IsTrue (is_callable old n) → IsTrue (is_callable (old ++ more) n)
callable-left old more n is =
    let parts = callable-parts old n is in
    callable-from (old ++ more) n (omega (arith, parts.0, length-append old more))
    (subst (λ (x : Node). IsTrue (is_callable_kind x.kind)) (sym (get-left old more n no_node parts.0)) parts.1)

callable-right : (start : Start) (old more : List Node) (n : ℕ) → IsTrue (is_callable more n)
    → IsTrue (is_callable (old ++ map (node_at start) more) (length old + n))
callable-right start old more n is =
    let parts = callable-parts more n is in
    let there = get_or-append-add old (map (node_at start) more) n no_node in
    let moved = get_or-map (node_at start) more n no_node no_node parts.0 in
    callable-from (old ++ map (node_at start) more) (length old + n)
    (omega (arith, parts.0, length-append old (map (node_at start) more), length-map more (node_at start)))
    (subst (λ (x : Node). IsTrue (is_callable_kind x.kind)) (sym (there ∙ moved)) parts.1)

-- ---- what joined modules keep

-- the value of a symbol that is in no area has a word
abbrev IsFar : Place → (value : ℕ) → Type 0
IsFar places.Undefined value = value < 2 ^ 32
IsFar places.Absolute value = value < 2 ^ 32
IsFar places.Text value = ⊤
IsFar places.Data value = ⊤

far-from : (place : Place) (value : ℕ) → value < 2 ^ 32 → IsFar place value
far-from places.Undefined value small = small
far-from places.Absolute value small = small
far-from places.Text value small = tt
far-from places.Data value small = tt

far-at : (start : Start) (place : Place) (value : ℕ) → IsFar place value → IsFar place (value_at start place value)
far-at start places.Undefined value far = far
far-at start places.Absolute value far = far
far-at start places.Text value far = tt
far-at start places.Data value far = tt

abbrev HasFar : Symbol → Type 0
HasFar s = IsFar s.place s.value

abbrev HasAddend : Reloc → Type 0
HasAddend r = FitsSigned w32 r.addend

record AreKept (joined : Joined) : Type 0 where
  pub words : length joined.text % 4 ≡ 0
  pub functions : All (IsFunction joined.types) joined.functions
  pub branches : All (IsBranch joined.types) joined.branches

-- and their symbols and relocations
record AreFit (joined : Joined) : Type 0 where
  pub far : All HasFar joined.symbols
  pub addends : All (λ own. HasAddend own.reloc) joined.relocs

-- a module whose text is of whole words, with records that are good
pub record IsReadModule (m : Module) : Type 0 where
  pub words : length m.object.text % 4 ≡ 0
  pub records : AreRecords m.types m.records

kept-none : AreKept nothing
kept-none = record {
  words = refl;
  functions = All-nil (IsFunction []);
  branches = All-nil (IsBranch []);
}

-- ---- records go up

shifted-whole : (by n : ℕ) → by % 4 ≡ 0 → n % 4 ≡ 0 → shifted by n % 4 ≡ 0
shifted-whole by n one other = omega (arith, one, other)

shifted-small : (by n : ℕ) → shifted by n < 2 ^ 32
shifted-small by n = omega arith

shifted-is : (by n : ℕ) → by + n < 2 ^ 32 → shifted by n ≡ by + n
shifted-is by n small = omega (arith, small)

pub function-left : (old more : List Node) (f : Function) → IsFunction old f → IsFunction (old ++ more) f
function-left old more f is = record {
  offset = is.offset;
  length = is.length;
  ty = (is.ty.0, callable-left old more f.ty is.ty.1);
  name = is.name;
}

callable-shifted : (start : Start) (old more : List Node) (n : ℕ) → start.types ≡ length old
    → length old + length more < 2 ^ 32 → IsTrue (is_callable more n)
    → IsTrue (is_callable (old ++ map (node_at start) more) (shifted start.types n))
callable-shifted start old more n same room is =
    let parts = callable-parts more n is in
    let to : shifted start.types n ≡ length old + n =
    shifted-is start.types n (omega (arith, same, room, parts.0)) ∙ ap (λ (k : ℕ). k + n) same in
    subst (λ (k : ℕ). IsTrue (is_callable (old ++ map (node_at start) more) k)) (sym to)
    (callable-right start old more n is)

whole-shifted : (by n : ℕ) → by % 4 ≡ 0 → IsTrue (is_whole n) → IsTrue (is_whole (shifted by n))
whole-shifted by n one is = eq-eqb _ 0 (shifted-whole by n one (eqb-true (n % 4) 0 is))

function-right : (start : Start) (old more : List Node) (f : Function) → start.types ≡ length old
    → start.text % 4 ≡ 0 → length old + length more < 2 ^ 32 → IsFunction more f
    → IsFunction (old ++ map (node_at start) more) (function_at start f)
function-right start old more f same whole room is = record {
  offset = (shifted-small start.text f.offset, whole-shifted start.text f.offset whole is.offset.1);
  length = is.length;
  ty = (shifted-small start.types f.ty, callable-shifted start old more f.ty same room is.ty.1);
  name = is.name;
}

pub branch-left : (old more : List Node) (b : Kind) → IsBranch old b → IsBranch (old ++ more) b
branch-left old more (branches.Call node) is = record {
  kind = is.kind;
  count = is.count;
  words = ((is.words.0.0, callable-left old more node is.words.0.1), tt);
  named = tt;
}
branch-left old more (branches.Tail node) is = record {
  kind = is.kind;
  count = is.count;
  words = ((is.words.0.0, callable-left old more node is.words.0.1), tt);
  named = tt;
}
branch-left old more branches.Return is = record { kind = is.kind; count = is.count; words = tt; named = tt }
branch-left old more (branches.Switch entries) is = record {
  kind = is.kind;
  count = is.count;
  words = is.words;
  named = tt;
}
branch-left old more (branches.Import name cell) is = record {
  kind = is.kind;
  count = is.count;
  words = is.words;
  named = is.named;
}

abbrev IsEntry : ℕ → Type 0
IsEntry n = (n < 2 ^ 32) × IsTrue (is_whole n)

branch-right : (start : Start) (old more : List Node) (b : Kind) → start.types ≡ length old
    → start.text % 4 ≡ 0 → start.static_data % 4 ≡ 0 → length old + length more < 2 ^ 32 → IsBranch more b
    → IsBranch (old ++ map (node_at start) more) (branch_at start b)
branch-right start old more (branches.Call node) same whole cells room is = record {
  kind = is.kind;
  count = is.count;
  words = ((shifted-small start.types node, callable-shifted start old more node same room is.words.0.1), tt);
  named = tt;
}
branch-right start old more (branches.Tail node) same whole cells room is = record {
  kind = is.kind;
  count = is.count;
  words = ((shifted-small start.types node, callable-shifted start old more node same room is.words.0.1), tt);
  named = tt;
}
branch-right start old more branches.Return same whole cells room is = record {
  kind = is.kind;
  count = is.count;
  words = tt;
  named = tt;
}
branch-right start old more (branches.Import name cell) same whole cells room is = record {
  kind = is.kind;
  count = is.count;
  words = (
    (shifted-small start.static_data cell, whole-shifted start.static_data cell cells is.words.0.1),
    tt,
  );
  named = is.named;
}
branch-right start old more (branches.Switch entries) same whole cells room is = record {
  kind = is.kind;
  count = subst (λ (n : ℕ). IsTrue (has_count SWITCH n)) (sym (length-map entries (shifted start.text))) is.count;
  words = recursion_from_All IsEntry (map (shifted start.text) entries)
      (All-map IsEntry (shifted start.text) entries
      (All-weaker IsEntry (λ n. IsEntry (shifted start.text n))
      (λ n one. (shifted-small start.text n, whole-shifted start.text n whole one.1)) entries
      (All-from_recursion IsEntry entries is.words)));
  named = tt;
}

-- ---- one module more

kept-more : (joined : Joined) (m : Module) → AreKept joined → IsReadModule m
    → length joined.types + length m.types < 2 ^ 32 → AreKept (with_module joined m)
unfolding with_module
kept-more joined m kept is room =
    let start = start_of joined in
    let old = joined.types in
    let more = m.types in
    let all = old ++ map (node_at start) more in
    record {
      words = omega (
        arith,
        length-append joined.text m.object.text,
        kept.words,
        is.words,
      );
      functions = All-append (IsFunction all) joined.functions (map (function_at start) m.records.functions)
          (All-weaker (IsFunction old) (IsFunction all) (function-left old (map (node_at start) more))
          joined.functions kept.functions)
          (All-map (IsFunction all) (function_at start) m.records.functions
          (All-weaker (IsFunction more) (λ f. IsFunction all (function_at start f))
          (λ f one. function-right start old more f refl kept.words room one) m.records.functions
          (All-from_recursion (IsFunction more) m.records.functions is.records.functions)));
      branches = All-append (IsBranch all) joined.branches (map (branch_at start) m.records.branches)
          (All-weaker (IsBranch old) (IsBranch all) (branch-left old (map (node_at start) more))
          joined.branches kept.branches)
          (All-map (IsBranch all) (branch_at start) m.records.branches
          (All-weaker (IsBranch more) (λ b. IsBranch all (branch_at start b))
          (λ b one. branch-right start old more b refl kept.words (start_whole (length joined.static_data)) room one) m.records.branches
          (All-from_recursion (IsBranch more) m.records.branches is.records.branches)));
    }

kept-fold : (modules : List Module) (joined : Joined) → AreKept joined → All IsReadModule modules
    → length (fold with_module joined modules).types ≤ MAX_NODES → AreKept (fold with_module joined modules)
kept-fold [] joined kept all limit = kept
kept-fold (m ∷ modules) joined kept all limit =
    let below = fold-below modules (with_module joined m) in
    let lengths = with_module-lengths joined m in
    kept-fold modules (with_module joined m)
    (kept-more joined m kept (All-head IsReadModule m modules all)
    (omega (arith, lengths.types, below.types, limit)))
    (All-tail IsReadModule m modules all) limit

fit-more : (joined : Joined) (m : Module) → AreFit joined → IsFit m.object → AreFit (with_module joined m)
unfolding with_module
fit-more joined m kept is =
    let start = start_of joined in
    record {
      far = All-append HasFar joined.symbols (map (symbol_at start) m.object.symbols) kept.far
          (All-map HasFar (symbol_at start) m.object.symbols
          (All-weaker (λ (s : Symbol). s.value < 2 ^ 32) (λ s. HasFar (symbol_at start s))
          (λ s small. far-at start s.place s.value (far-from s.place s.value small)) m.object.symbols is.values));
      addends = All-append (λ own. HasAddend own.reloc) joined.relocs
          (map (own_reloc_at start joined.count) (enumerate_from 0 m.object.relocs)) kept.addends
          (All-map (λ own. HasAddend own.reloc) (own_reloc_at start joined.count) (enumerate_from 0 m.object.relocs)
          (all_enumerated (λ r. HasAddend (reloc_at start r)) 0 m.object.relocs is.addends));
    }

fit-none : AreFit nothing
fit-none = record { far = All-nil HasFar; addends = All-nil (λ (own : OwnReloc). HasAddend own.reloc) }

fit-fold : (modules : List Module) (joined : Joined) → AreFit joined → All (λ m. IsFit m.object) modules
    → AreFit (fold with_module joined modules)
fit-fold [] joined kept all = kept
fit-fold (m ∷ modules) joined kept all =
    fit-fold modules (with_module joined m) (fit-more joined m kept (All-head (λ n. IsFit n.object) m modules all))
    (All-tail (λ n. IsFit n.object) m modules all)

-- ---- the output

small-from : (object : Object) (place : Place) (value : ℕ) → length object.text ≤ 4 * MAX_WORDS
    → length object.static_data ≤ MAX_DATA → IsInsideArea object place value → IsFar place value → value < 2 ^ 32
small-from object places.Undefined value text static_data inside far = far
small-from object places.Absolute value text static_data inside far = far
small-from object places.Text value text static_data inside far = omega (arith, inside, text)
small-from object places.Data value text static_data inside far = omega (arith, inside, static_data)

far-settled : (chosen : Names) (k : ℕ) (s : Symbol) → HasFar s → HasFar (settled_symbol chosen (k, s))
far-settled chosen k s far = elim (cases_Bool (loses chosen (k, s))) [
  | inl lost ↦ rw lost (omega arith)
  | inr stays ↦ rw stays far
]

far-kept : (chosen : Names) (symbols : List Symbol) → All HasFar symbols → All HasFar (in_order (settled chosen symbols))
far-kept chosen symbols all =
    let made : All HasFar (settled chosen symbols) =
    All-map HasFar (settled_symbol chosen) (enumerate_from 0 symbols)
    (All-weaker (λ (p : ℕ × Symbol). HasFar p.1) (λ (p : ℕ × Symbol). HasFar (settled_symbol chosen p))
    (λ p one. far-settled chosen p.0 p.1 one) (enumerate_from 0 symbols) (all_enumerated HasFar 0 symbols all)) in
    All-append HasFar (filter is_local_symbol (settled chosen symbols))
    (filter (λ s. not (is_local_symbol s)) (settled chosen symbols))
    (All-filter is_local_symbol HasFar (settled chosen symbols) made)
    (All-filter (λ s. not (is_local_symbol s)) HasFar (settled chosen symbols) made)

addends-kept : (reaches : List (Option ℕ)) (numbers : List ℕ) (relocs : List OwnReloc)
    → All (λ own. HasAddend own.reloc) relocs → All HasAddend (by_area (kept_in reaches numbers relocs))
addends-kept reaches numbers relocs all =
    all-by_area HasAddend (kept_in reaches numbers relocs)
    (All-map HasAddend (λ (own : OwnReloc). renumbered numbers own.reloc) (filter (is_kept reaches) relocs)
    (All-filter (is_kept reaches) (λ own. HasAddend own.reloc) relocs all))

relocs-few : (reaches : List (Option ℕ)) (numbers : List ℕ) (relocs : List OwnReloc)
    → length (by_area (kept_in reaches numbers relocs)) ≤ length relocs
relocs-few reaches numbers relocs =
    omega (
      arith,
      length-by_area (kept_in reaches numbers relocs),
      length-map (filter (is_kept reaches) relocs) (λ (own : OwnReloc). renumbered numbers own.reloc),
      length-filter (is_kept reaches) relocs,
      count_by-le-length (is_kept reaches) relocs,
    )

module _ (modules : List Module) (are : AreModules modules) (output : Module) (linked : Linked modules output) where
  abbrev joined : Joined
  joined = joined_of modules

  none : passed_by modules ≡ None
  none = linked.possible.within.limits

  pub linked-sound : IsSoundModule output
  linked-sound =
      let sound = sound_all modules are.sound are.written are.count none in
      sound_made joined output sound none (text_size joined output.object.text sound.words linked.made.text) linked.made

  pub linked-small : IsSmall output.object
  linked-small =
      let limits = few (sizes_of joined) none in
      let sound = sound_all modules are.sound are.written are.count none in
      let made = linked.made in
      record {
        sound = linked-sound.object_sound;
        text = omega (arith, text_size joined output.object.text sound.words made.text, limits.text);
        static_data = omega (arith, ap length made.static_data, limits.static_data);
        symbols = omega (
          arith,
          ap length made.symbols,
          length-in_order (chosen_in joined.symbols) joined.symbols,
          limits.symbols,
        );
        relocs = omega (
          arith,
          ap length made.relocs,
          relocs-few (reaches_of (chosen_in joined.symbols) joined.symbols) (numbers_of joined.symbols) joined.relocs,
          limits.relocs,
        );
      }

  pub linked-fits : All (λ m. IsFit m.object) modules → IsFit output.object
  linked-fits all =
      let kept = fit-fold modules nothing fit-none all in
      let made = linked.made in
      let far : All HasFar output.object.symbols =
      subst (λ (xs : List Symbol). All HasFar xs) (sym made.symbols)
      (far-kept (chosen_in joined.symbols) joined.symbols kept.far) in
      record {
        small = linked-small;
        values = λ k d inside.
            small-from output.object _ _ linked-small.text linked-small.static_data
            (linked-sound.object_sound.symbols k d inside).inside (far k d inside);
        addends = subst (λ (xs : List Reloc). All HasAddend xs) (sym made.relocs)
            (addends-kept (reaches_of (chosen_in joined.symbols) joined.symbols) (numbers_of joined.symbols)
            joined.relocs kept.addends);
      }

  pub linked-spelled : All IsReadModule modules → AreSpelled output.object output.types output.records
  linked-spelled all =
      let limits = few (sizes_of joined) none in
      let kept = kept-fold modules nothing kept-none all limits.types in
      let made = linked.made in
      record {
        table = linked-sound.table;
        types_spelled = made.types_spelled;
        version = version_for output.records.branches;
        good = records-written output.types output.records (record {
          function_count = omega (arith, ap length made.functions, limits.functions);
          branch_count = omega (arith, ap length made.branches, limits.branches);
          functions = subst (λ (ns : List Node). AllByRecursion (IsFunction ns) output.records.functions)
              (sym made.types)
              (subst (λ (fs : List Function). AllByRecursion (IsFunction joined.types) fs) (sym made.functions)
              (recursion_from_All (IsFunction joined.types) joined.functions kept.functions));
          branches = subst (λ (ns : List Node). AllByRecursion (IsBranch ns) output.records.branches)
              (sym made.types)
              (subst (λ (ks : List Kind). AllByRecursion (IsBranch joined.types) ks) (sym made.branches)
              (recursion_from_All (IsBranch joined.types) joined.branches kept.branches));
        });
        cells = output.cells;
        records_spelled = made.records_spelled;
      }
