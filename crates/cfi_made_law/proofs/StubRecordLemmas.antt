-- The records of a module with stubs are as records must be, and its sections spell its types and them.
use Rattle.std.proofs.Common.{◌≡◌, ◌∙◌, ℕ, ◌+◌, ◌%◌, ◌≤◌, ◌||◌, ◌==◌, IsTrue, not, Bool, true, leb, List, [], ◌∷◌, ◌++◌, length, get_or, map, filter, All, Some, None, refl, sym, ap, subst, inl, inr, arith, length-append}
use Rattle.std.specs.List.{AllByRecursion, enumerate_from, list_any}
use Rattle.std.proofs.lemmas.Bool.{cases_Bool, and_parts, and_from, eq-eqb, le-leb, leb-true, false≢true}
use Rattle.std.proofs.lemmas.Bool.Decides.{nat_tests}
use Rattle.std.proofs.lemmas.List.{get_or-append-add}
use Rattle.std.proofs.lemmas.List.Elements.{All-nil, All-cons, All-head, All-tail, All-append, All-weaker, All-from_recursion, recursion_from_All}
use Rattle.cfi_word.specs.declared.limits.TheConstants.{MAX_NAME}
use Rattle.elf_read.specs.Sound.{is_exported, is_defined, IsSoundSymbol, IsSoundObject}
use Rattle.elf_read.specs.declared.object.Binding.{Binding}
use Rattle.elf_read.specs.declared.object.Binding.TheVariants as bindings
use Rattle.elf_read.specs.declared.object.Object.{Object}
use Rattle.elf_read.specs.declared.object.Symbol.{Symbol}
use Rattle.cfi_type_table.specs.declared.kind.TheConstants.{FUNC}
use Rattle.cfi_type_table.specs.Node.{Node, make_node}
use Rattle.cfi_type_table.specs.Kind.{is_callable_kind, is_callable}
use Rattle.cfi_type_table.specs.Spelling.{spelling as types_spelling}
use Rattle.cfi_aux.specs.Format.{is_name_length, has_count, import_words}
use Rattle.cfi_aux.specs.Modules.{AreSpelled}
use Rattle.cfi_aux.specs.Placed.{is_global_binding}
use Rattle.cfi_aux.specs.Records.{IsName, IsFunction, IsBranch, AreRecordsIn, spelling_in}
use Rattle.cfi_aux.specs.Sound.{IsSoundModule}
use Rattle.cfi_aux.specs.Version.{version_for}
use Rattle.cfi_aux.specs.declared.format.TheConstants.{IMPORT, MIN_IMPORT, MAX_IMPORT}
use Rattle.cfi_aux.specs.declared.modules.Module.{Module}
use Rattle.cfi_aux.specs.declared.records.Function.{Function}
use Rattle.cfi_aux.specs.declared.records.Kind.{Kind}
use Rattle.cfi_aux.specs.declared.records.Records.{Records}
use Rattle.cfi_aux.proofs.VersionLemmas.{records-written}
use Rattle.cfi_import.proofs.LimitLemmas.{AreFew}
use Rattle.cfi_import.specs.declared.start.Start.{Start}
use Rattle.cfi_import.specs.Imports.{leads_to, is_wanted, is_import, imports_of, names_of}
use Rattle.cfi_import.specs.Start.{start_of, stub_offset, cell_offset}
use Rattle.cfi_import.specs.Stubs.{stub_type, stub_nodes, stub_function, stub_kind}
use Rattle.cfi_import.specs.Stubbed.{Parts, parts_of, parts_with, part_sizes, stubs_pass, AreSections, IsStubbed}
use Rattle.cfi_import.specs.inner.Room.{HasRoom}
use Rattle.cfi_import.proofs.MadeLemmas.{has-room, imports-sound, names-all, length-names}
use Rattle.cfi_made_law.specs.Read.{IsReadOf}
use Rattle.cfi_made_law.proofs.LinkLemmas.{IsReadModule, no_node, callable-from, function-left, branch-left}
use Rattle.cfi_made_law.proofs.SourceLemmas.{ReadIsSound}
use Rattle.cfi_made_law.proofs.StubWholeLemmas.{stubbed-few, stubbed-sound}

-- ---- names

name-count : (b : Binding) (n : ℕ) → is_global_binding b ≡ true → (not (is_exported b) || not (n == 0)) ≡ true
    → n ≤ MAX_NAME → IsTrue (is_name_length n)
name-count bindings.Global n wanted named small = grind (arith, nat_tests)
name-count bindings.Local n wanted named small = absurd (false≢true wanted)
name-count bindings.Weak n wanted named small = absurd (false≢true wanted)

-- what passes a test is what the filter lets through
filter-holds : {T : Type 0} (p : T → Bool) (xs : List T) → All (λ x. p x ≡ true) (filter p xs)
filter-holds p [] = All-nil (λ x. p x ≡ true)
filter-holds p (x ∷ xs) =
    elim (cases_Bool (p x)) [
      | inl here ↦ rw here (All-cons (λ x. p x ≡ true) x (filter p xs) here (filter-holds p xs))
      | inr other ↦ rw other (filter-holds p xs)
    ]

import-name : (object : Object) (one : ℕ × Symbol) → is_import object.relocs one ≡ true → IsSoundSymbol object one.1
    → IsName one.1.name
import-name object (number, s) is sound =
    let wanted = (and_parts (is_wanted s) (list_any (leads_to number) object.relocs) is).0 in
    let global = (and_parts (is_global_binding s.binding) (not (is_defined s.place)) wanted).0 in
    record {
      count = name-count s.binding (length s.name) global sound.named sound.name_size;
      text = sound.name_text;
    }

names-good : (object : Object) → All (IsSoundSymbol object) object.symbols → All IsName (names_of (imports_of object))
names-good object sound =
    let imports = imports_of object in
    let are = filter-holds (is_import object.relocs) (enumerate_from 0 object.symbols) in
    let sounds = imports-sound object sound in
    names-all IsName imports
    (λ k d lt. import-name object (get_or imports k d) (are k d lt) (sounds k d lt))

-- ---- functions and branches of stubs

functions-good : (types : List Node) (start : Start) (n : ℕ) (names : List (List ℕ)) → start.text % 4 ≡ 0
    → HasRoom start → n + length names ≤ start.count → IsTrue (is_callable types (stub_type start)) → All IsName names
    → All (IsFunction types) (map (stub_function start) (enumerate_from n names))
functions-good types start n [] whole room few callable good = All-nil (IsFunction types)
functions-good types start n (name ∷ names) whole room few callable good =
    All-cons (IsFunction types) (stub_function start (n, name)) (map (stub_function start) (enumerate_from (n + 1) names))
    (record {
      offset = (omega (arith, room.text, few), eq-eqb (stub_offset start n % 4) 0 (omega (arith, whole)));
      length = (omega arith, refl);
      ty = (omega (arith, room.types), callable);
      name = All-head IsName name names good;
    })
    (functions-good types start (n + 1) names whole room (omega (arith, few)) callable (All-tail IsName name names good))

import-count : (n : ℕ) → IsTrue (is_name_length n) → IsTrue (has_count IMPORT (import_words n))
import-count n is =
    let both = and_parts (leb 1 n) (leb n MAX_NAME) is in
    let least = leb-true 1 n both.0 in
    let most = leb-true n MAX_NAME both.1 in
    and_from (leb MIN_IMPORT (import_words n)) (leb (import_words n) MAX_IMPORT)
    (le-leb MIN_IMPORT (import_words n) (omega (arith, least)))
    (le-leb (import_words n) MAX_IMPORT (omega (arith, most)))

branches-good : (types : List Node) (m : Module) (count n : ℕ) (names : List (List ℕ)) → HasRoom (start_of m count)
    → n + length names ≤ count → All IsName names
    → All (IsBranch types) (map (stub_kind (start_of m count)) (enumerate_from n names))
branches-good types m count n [] room few good = All-nil (IsBranch types)
branches-good types m count n (name ∷ names) room few good =
    let start = start_of m count in
    let one = All-head IsName name names good in
    All-cons (IsBranch types) (stub_kind start (n, name)) (map (stub_kind start) (enumerate_from (n + 1) names))
    (record {
      kind = omega arith;
      count = import-count (length name) one.count;
      words = ((omega (arith, room.static_data, few), eq-eqb (cell_offset start n % 4) 0 (omega arith)), tt);
      named = one;
    })
    (branches-good types m count (n + 1) names room (omega (arith, few)) (All-tail IsName name names good))

-- the type of stubs is one of functions
stub-callable : (types : List Node) (start : Start) → start.types ≡ length types
    → IsTrue (is_callable (types ++ stub_nodes start) (stub_type start))
stub-callable types start same =
    let all = types ++ stub_nodes start in
    let there : get_or all (length types + 1) no_node ≡ make_node FUNC (start.types ∷ []) =
    get_or-append-add types (stub_nodes start) 1 no_node in
    let at : stub_type start ≡ length types + 1 = omega (arith, same) in
    subst (λ (k : ℕ). IsTrue (is_callable all k)) (sym at)
    (callable-from all (length types + 1) (omega (arith, length-append types (stub_nodes start)))
    (subst (λ (x : Node). IsTrue (is_callable_kind x.kind)) (sym there) refl))

-- ---- what is spelled

unfoldable records_by : List Function → List Kind → Records
records_by functions branches = record { functions = functions; branches = branches }

same-records : (a b : Records) → a.functions ≡ b.functions → a.branches ≡ b.branches → a ≡ b
same-records a b e1 e2 =
    let here : a ≡ records_by a.functions a.branches = unfold records_by in refl in
    let there : b ≡ records_by b.functions b.branches = unfold records_by in refl in
    cc

spelled-by : (m out : Module) (imports : List (ℕ × Symbol)) → IsReadOf m → IsReadModule m → IsSoundModule m
    → IsSoundModule out → imports ≡ imports_of m.object → parts_of out ≡ parts_with m imports
    → AreFew (part_sizes (parts_of out)) → AreSections imports m out → AreSpelled out.object out.types out.records
spelled-by m out [] read records sound good are parts limits sections =
    let whole = read.whole in
    let types : out.types ≡ m.types = ap (λ (p : Parts). p.types) parts in
    let same : out.records ≡ m.records = same-records out.records m.records (ap (λ (p : Parts). p.functions) parts)
    (ap (λ (p : Parts). p.branches) parts) in
    record {
      table = good.table;
      types_spelled = sections.0
          ∙ ap (λ (o : Object). o.types) whole.object_kept
          ∙ whole.parts.types_spelled
          ∙ ap (λ (ns : List Node). Some (types_spelling ns)) (sym types);
      version = whole.parts.version;
      good = subst (λ (ns : List Node). AreRecordsIn whole.parts.version ns out.records) (sym types)
          (subst (AreRecordsIn whole.parts.version m.types) (sym same) whole.parts.good);
      cells = out.cells;
      records_spelled = sections.1
          ∙ ap (λ (o : Object). o.records) whole.object_kept
          ∙ whole.parts.records_spelled
          ∙ ap (λ (r : Records). Some (spelling_in whole.parts.version r)) (sym same);
    }
spelled-by m out (one ∷ imports) read records sound good are parts limits sections =
    let all = one ∷ imports in
    let count = length all in
    let start = start_of m count in
    let names = names_of all in
    let types : out.types ≡ m.types ++ stub_nodes start = ap (λ (p : Parts). p.types) parts in
    let nodes = m.types ++ stub_nodes start in
    let room : HasRoom start = has-room m all (omega arith)
    (subst (λ (p : Parts). AreFew (part_sizes p)) parts limits) in
    let named : All IsName names =
    subst (λ (xs : List (ℕ × Symbol)). All IsName (names_of xs)) (sym are)
    (names-good m.object sound.object_sound.symbols) in
    let size = length-names all in
    let functions : All (IsFunction nodes) out.records.functions =
    subst (All (IsFunction nodes)) (sym (ap (λ (p : Parts). p.functions) parts))
    (All-append (IsFunction nodes) m.records.functions (map (stub_function start) (enumerate_from 0 names))
    (All-weaker (IsFunction m.types) (IsFunction nodes) (function-left m.types (stub_nodes start)) m.records.functions
    (All-from_recursion (IsFunction m.types) m.records.functions records.records.functions))
    (functions-good nodes start 0 names records.words room (omega (arith, size)) (stub-callable m.types start refl)
    named)) in
    let branches : All (IsBranch nodes) out.records.branches =
    subst (All (IsBranch nodes)) (sym (ap (λ (p : Parts). p.branches) parts))
    (All-append (IsBranch nodes) m.records.branches (map (stub_kind start) (enumerate_from 0 names))
    (All-weaker (IsBranch m.types) (IsBranch nodes) (branch-left m.types (stub_nodes start)) m.records.branches
    (All-from_recursion (IsBranch m.types) m.records.branches records.records.branches))
    (branches-good nodes m count 0 names room (omega (arith, size)) named)) in
    record {
      table = good.table;
      types_spelled = sections.0;
      version = version_for out.records.branches;
      good = records-written out.types out.records (record {
        function_count = limits.functions;
        branch_count = limits.branches;
        functions = subst (λ (ns : List Node). AllByRecursion (IsFunction ns) out.records.functions) (sym types)
            (recursion_from_All (IsFunction nodes) out.records.functions functions);
        branches = subst (λ (ns : List Node). AllByRecursion (IsBranch ns) out.records.branches) (sym types)
            (recursion_from_All (IsBranch nodes) out.records.branches branches);
      });
      cells = out.cells;
      records_spelled = sections.1;
    }

pub stubbed-spelled : (m out : Module) → IsReadOf m → IsReadModule m → IsSoundModule m → stubs_pass m ≡ None
    → IsStubbed m out → AreSpelled out.object out.types out.records
stubbed-spelled m out read records sound none made =
    spelled-by m out (imports_of m.object) read records sound (stubbed-sound m out sound none made) refl made.parts
    (stubbed-few m out none made) made.sections

-- a module that was read of a file breaks no rule
pub read-sound : ReadIsSound → (m : Module) → IsReadOf m → IsSoundModule m
read-sound reads m read = record {
  object_sound = subst IsSoundObject (sym read.whole.object_kept) (reads read.bytes read.object read.is);
  table = read.whole.parts.table;
}
