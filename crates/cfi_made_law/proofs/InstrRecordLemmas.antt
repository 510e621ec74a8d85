-- The records of an instrumented module are as records must be.
use Rattle.std.proofs.Common.{◌≡◌, ℕ, ◌+◌, ◌-◌, ◌/◌, ◌%◌, ◌<◌, ◌≤◌, ◌^◌, ◌==◌, not, false, List, map, All, length, get_or, Some, IsTrue, refl, ap, sym, subst, ◌∙◌, arith}
use Rattle.std.specs.List.{AllByRecursion}
use Rattle.std.proofs.lemmas.Bool.{and_from, eq-eqb, ne_eqb}
use Rattle.std.proofs.lemmas.List.{length-map}
use Rattle.std.proofs.lemmas.Option.{slice_get-get_or}
use Rattle.std.proofs.lemmas.List.Elements.{All-map, All-weaker, All-from_recursion, recursion_from_All}
use Rattle.cfi_type_table.specs.Node.{Node}
use Rattle.cfi_type_table.specs.Spelling.{AreTypes, spelling as types_spelling}
use Rattle.cfi_aux.specs.Extent.{byte_end}
use Rattle.cfi_aux.specs.Format.{is_whole, is_length, has_count}
use Rattle.cfi_aux.specs.Modules.{AreSpelled}
use Rattle.cfi_aux.specs.Records.{IsFunction, IsBranch, AreRecords}
use Rattle.cfi_aux.specs.declared.format.TheConstants.{SWITCH}
use Rattle.cfi_aux.specs.Version.{version_for}
use Rattle.cfi_aux.proofs.VersionLemmas.{records-written}
use Rattle.cfi_aux.specs.declared.modules.Module.{Module}
use Rattle.cfi_aux.specs.declared.records.Function.{Function}
use Rattle.cfi_aux.specs.declared.records.Kind.{Kind}
use Rattle.cfi_aux.specs.declared.records.Kind.TheVariants.{Call, Tail, Return, Switch, Import}
use Rattle.cfi_instr.specs.Words.{Words}
use Rattle.cfi_instr.specs.Functions.{byte_end_before}
use Rattle.cfi_instr.specs.Sizes.{moved}
use Rattle.cfi_instr.specs.Moves.{moved_function, moved_kind}
use Rattle.cfi_instr.specs.Output.{IsInstrumented}
use Rattle.cfi_instr_law.proofs.ItemLemmas.{item-some}
use Rattle.cfi_instr_law.proofs.BoundLemmas.{bound-moved, IsFormed, formed-at}
use Rattle.cfi_made_law.proofs.InstrLemmas.{t, long, offsets, sound, same, grows, HasWord, moved-word}

module _ (source out : Module) (made : IsInstrumented source out) where
  abbrev words : Words
  words = t source out made

  abbrev to : ℕ → ℕ
  to offset = moved words (offsets source out made) offset

  has-word : (offset : ℕ) → HasWord source out made (to offset)
  has-word offset = moved-word source out made offset

  whole-place : (n : ℕ) → HasWord source out made n → (n < 2 ^ 32) × IsTrue (is_whole n)
  whole-place n at = (omega (arith, at.is, at.within, made.fits), eq-eqb (n % 4) 0 (omega (arith, at.is)))

  -- ---- functions

  abbrev moves : Function → Function
  moves = moved_function words (offsets source out made)

  longer : (f : Function) (before : ℕ) → IsFormed words before f → to f.offset < to (byte_end f)
  longer f before is =
      let begins = bound-moved words (long source out made) f.offset is.begins in
      let ends = bound-moved words (long source out made) (byte_end f) is.ends in
      let legal = (sound source out made).linked.shaped.words.legal (f.offset / 4) is.inside in
      let some = item-some words source.object.symbols (long source out made) (offsets source out made)
      (f.offset / 4) is.begins.outer legal in
      let next : f.offset / 4 + 1 ≤ byte_end f / 4 = omega (arith, is.some, is.begins.whole, is.ends.whole) in
      omega (arith, begins, ends, some, grows source out made (f.offset / 4 + 1) (byte_end f / 4) next)

  length-good : (f : Function) (before : ℕ) → IsFormed words before f
      → ((moves f).length < 2 ^ 32) × IsTrue (is_length (moves f).length)
  length-good f before is =
      let begin = has-word f.offset in
      let last = has-word (byte_end f) in
      let more = longer f before is in
      let n : ℕ = to (byte_end f) - to f.offset in
      let four : n % 4 ≡ 0 = omega (arith, more, begin.is, last.is) in
      let some : (n == 0) ≡ false = ne_eqb n 0 (λ e. absurd (omega (arith, more, e))) in (
        omega (arith, last.is, last.within, made.fits),
        and_from (n % 4 == 0) (not (n == 0)) (eq-eqb (n % 4) 0 four) (rw some refl),
      )

  function-good : (types : List Node) (f : Function) (before : ℕ) → IsFormed words before f → IsFunction types f
      → IsFunction types (moves f)
  function-good types f before is good = record {
    offset = whole-place (to f.offset) (has-word f.offset);
    length = length-good f before is;
    ty = good.ty;
    name = good.name;
  }

  functions-good : (types : List Node) → All (IsFunction types) source.records.functions
      → All (IsFunction types) (map moves source.records.functions)
  functions-good types all =
      All-map (IsFunction types) moves source.records.functions
      (λ k d inside. function-good types _ (byte_end_before source.records.functions k)
      (formed-at words source.records.functions (sound source out made).linked.shaped.functions k
      (get_or source.records.functions k d) (slice_get-get_or source.records.functions k d inside) inside)
      (all k d inside))

  -- ---- branches

  abbrev turns : Kind → Kind
  turns = moved_kind words (offsets source out made)

  branch-good : (types : List Node) (kind : Kind) → IsBranch types kind → IsBranch types (turns kind)
  branch-good types (Call node) good = good
  branch-good types (Tail node) good = good
  branch-good types Return good = good
  branch-good types (Import name cell) good = good
  branch-good types (Switch entries) good = record {
    kind = good.kind;
    count = subst (λ (n : ℕ). IsTrue (has_count SWITCH n)) (sym (length-map entries to)) good.count;
    words = recursion_from_All (λ n. (n < 2 ^ 32) × IsTrue (is_whole n)) (map to entries)
        (All-map (λ n. (n < 2 ^ 32) × IsTrue (is_whole n)) to entries
        (λ k d inside. whole-place _ (has-word (get_or entries k d))));
    named = tt;
  }

  branches-good : (types : List Node) → All (IsBranch types) source.records.branches
      → All (IsBranch types) (map turns source.records.branches)
  branches-good types all =
      All-map (IsBranch types) turns source.records.branches
      (All-weaker (IsBranch types) (λ b. IsBranch types (turns b)) (branch-good types) source.records.branches all)

  -- ---- both sections

  functions-are : out.records.functions ≡ map moves source.records.functions
  functions-are =
      made.records.functions
      ∙ ap (λ (xs : List ℕ). map (moved_function words xs) source.records.functions) (same source out made)

  branches-are : out.records.branches ≡ map turns source.records.branches
  branches-are =
      made.records.branches
      ∙ ap (λ (xs : List ℕ). map (moved_kind words xs) source.records.branches) (same source out made)

  records-good : (types : List Node) → AreRecords types source.records → AreRecords types out.records
  records-good types are = record {
    function_count = omega (
      arith,
      ap (λ (fs : List Function). length fs) functions-are,
      length-map source.records.functions moves,
      are.function_count,
    );
    branch_count = omega (
      arith,
      ap (λ (ks : List Kind). length ks) branches-are,
      length-map source.records.branches turns,
      are.branch_count,
    );
    functions = subst (λ (fs : List Function). AllByRecursion (IsFunction types) fs) (sym functions-are)
        (recursion_from_All (IsFunction types) (map moves source.records.functions)
        (functions-good types (All-from_recursion (IsFunction types) source.records.functions are.functions)));
    branches = subst (λ (ks : List Kind). AllByRecursion (IsBranch types) ks) (sym branches-are)
        (recursion_from_All (IsBranch types) (map turns source.records.branches)
        (branches-good types (All-from_recursion (IsBranch types) source.records.branches are.branches)));
  }

  pub spelled : AreTypes source.types → AreRecords source.types source.records
      → AreSpelled out.object out.types out.records
  spelled types records = record {
    table = subst AreTypes (sym made.types) types;
    types_spelled = made.object.types ∙ ap (λ (ns : List Node). Some (types_spelling ns)) (sym made.types);
    version = version_for out.records.branches;
    good = records-written out.types out.records
        (subst (λ (ns : List Node). AreRecords ns out.records) (sym made.types) (records-good source.types records));
    cells = out.cells;
    records_spelled = made.object.records;
  }
