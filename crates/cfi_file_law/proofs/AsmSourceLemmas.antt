-- What the object of a source is read as: its module, or no module for the want of records or for a switch.
use Rattle.std.proofs.Common.{◌≡◌, ℕ, ◌+◌, ◌<◌, ◌≤◌, ◌^◌, Bool, true, false, List, [], length, get_or, Some, None, Ok, Err, All, refl, sym, ap, ◌∙◌, subst, arith, ⊎_elim}
use Rattle.std.specs.Prelude.{slice_get}
use Rattle.std.specs.List.{filter_map, AllByRecursion}
use Rattle.std.proofs.lemmas.Bool.{cases_lt}
use Rattle.std.proofs.lemmas.List.Elements.{All-append, All-filter, recursion_from_All}
use Rattle.std.proofs.lemmas.Option.{slice_get_within, get_or_from_slice_get}
use Rattle.cfi_word.specs.declared.limits.TheConstants.{MAX_ENTRIES}
use Rattle.cfi_text.specs.Lines.{lines_of}
use Rattle.elf_read.specs.declared.object.Area.TheVariants as areas
use Rattle.elf_read.specs.declared.object.Object.{Object}
use Rattle.cfi_type_table.specs.Spelling.{AreTypes, spelling as types_spelling}
use Rattle.cfi_type_table.proofs.Tables.{types_again}
use Rattle.cfi_aux.specs.declared.fault.AuxFault.TheVariants.{NoRecords, BadRecord}
use Rattle.cfi_aux.specs.declared.records.Kind.{Kind}
use Rattle.cfi_aux.specs.declared.records.Kind.TheVariants as branches
use Rattle.cfi_aux.specs.Modules.{AreSpelled, parts_in}
use Rattle.cfi_aux.specs.declared.modules.Module.{Module}
use Rattle.cfi_aux.specs.Version.{version_for}
use Rattle.cfi_aux.proofs.VersionLemmas.{records-written}
use Rattle.cfi_aux.specs.Records.{spelling as records_spelling, IsFunction, IsBranch, AreRecords}
use Rattle.rv_line.specs.declared.line.Line.{Line}
use Rattle.rv_names.specs.Names.{is_local, is_seen}
use Rattle.rv_asm.specs.Assembled.{object_in}
use Rattle.rv_asm.specs.Fault.{fault_at, end_faults, faults_of}
use Rattle.rv_asm.specs.Made.{only_if, open_after, functions_of, object_by}
use Rattle.rv_asm.specs.Placed.{placed, end_after, lines_in}
use Rattle.rv_asm.specs.Symbols.{said_in, names_in, file_in}
use Rattle.rv_asm.specs.declared.file.File.{File}
use Rattle.cfi_made_law.specs.Order.{object_of_file}
use Rattle.cfi_made_law.proofs.AsmFormLemmas.{IsFormedLine}
use Rattle.cfi_made_law.proofs.AsmNameLemmas.{lines-short}
use Rattle.cfi_made_law.proofs.AsmLimitLemmas.{room}
use Rattle.cfi_made_law.proofs.AsmRecordLemmas.{functions-few}
use Rattle.cfi_made_law.proofs.AsmBranchLemmas.{branches-few}
use Rattle.cfi_made_law.proofs.AsmSymbolLemmas.{HasInside, said-from, table-inside}
use Rattle.cfi_made_law.proofs.AsmLemmas.{unless-none, front-none}
use Rattle.cfi_file_law.specs.Source.{has_records, source_types, source_records, IsFew, IsFirstLong}
use Rattle.cfi_file_law.proofs.AsmTypeLemmas.{types-good}
use Rattle.cfi_file_law.proofs.AsmFunctionLemmas.{functions-good}
use Rattle.cfi_file_law.proofs.AsmKindLemmas.{IsAlmost, branch-whole, branch-two, no-imports, almost-cells, branches-good}
use Rattle.cfi_file_law.proofs.LongLemmas.{records-bad}

module _ (text : List ℕ) (object : Object) (is : object_in text ≡ Ok object) where
  abbrev lines : List Line
  lines = lines_in text

  abbrev file : File
  file = file_in lines

  parts : (faults_of file lines ≡ []) × (object_by file lines ≡ object)
  parts = unless-none (faults_of file lines) (object_by file lines) object is

  clear : filter_map (fault_at file lines) (placed lines) ≡ []
  clear =
      front-none (filter_map (fault_at file lines) (placed lines))
      (end_faults (length lines + 1) (open_after file.kinds lines)) parts.0

  formed : AllByRecursion IsFormedLine lines
  formed = lines-short (lines_of text)

  inside : All (HasInside lines) file.names
  inside =
      let table = table-inside lines (said_in lines) (said-from lines [] lines refl) in
      All-append (HasInside lines) _ _ (All-filter is_local (HasInside lines) (names_in lines) table)
      (All-filter is_seen (HasInside lines) (names_in lines) table)

  small : end_after areas.Text lines < 2 ^ 32
  small = let space = room file lines clear in omega (arith, space.within.text)

  types : AreTypes (source_types text)
  types = types-good file lines formed clear refl

  functions : AllByRecursion (IsFunction (source_types text)) (source_records text).functions
  functions =
      recursion_from_All (IsFunction (source_types text)) (functions_of file.kinds lines)
      (functions-good file lines formed clear refl)

  pub almost : All (IsAlmost (source_types text)) (source_records text).branches
  almost = branches-good file lines formed clear refl small inside

  types-are : has_records text ≡ true → object.types ≡ Some (types_spelling (source_types text))
  types-are on =
      ap (λ (o : Object). o.types) (sym parts.1) ∙ ap (λ (b : Bool). only_if b (types_spelling (source_types text))) on

  records-are : has_records text ≡ true → object.records ≡ Some (records_spelling (source_records text))
  records-are on =
      ap (λ (o : Object). o.records) (sym parts.1)
      ∙ ap (λ (b : Bool). only_if b (records_spelling (source_records text))) on

  -- ---- a module

  good : has_records text ≡ true → All IsFew (source_records text).branches
      → AreRecords (source_types text) (source_records text)
  good on few = record {
    function_count = omega (arith, (functions-few file lines clear).count);
    branch_count = (branches-few file lines clear).count on;
    functions = functions;
    branches = recursion_from_All (IsBranch (source_types text)) (source_records text).branches
        (λ k d within. branch-whole (source_types text) (get_or (source_records text).branches k d) (almost k d within)
        (few k d within));
  }

  -- the module that they are with the object
  abbrev pub source-made : Module
  source-made = record {
    object = object;
    types = source_types text;
    records = source_records text;
    cells = almost-cells (source_types text) (length object.static_data) (source_records text).branches almost;
  }

  pub source-spelled : has_records text ≡ true → All IsFew (source_records text).branches
      → AreSpelled object (source_types text) (source_records text)
  source-spelled on few = record {
    table = types;
    types_spelled = types-are on;
    version = version_for (source_records text).branches;
    good = records-written (source_types text) (source_records text) (good on few);
    cells = almost-cells (source_types text) (length object.static_data) (source_records text).branches almost;
    records_spelled = records-are on;
  }

  -- ---- no module

  pub source-bare : has_records text ≡ false → parts_in (object_of_file object) ≡ Err NoRecords
  source-bare off =
      let none : object.types ≡ None =
      ap (λ (o : Object). o.types) (sym parts.1)
      ∙ ap (λ (b : Bool). only_if b (types_spelling (source_types text))) off in
      rw none refl

  -- the branch that has too many words is a switch
  long-switch : (b : Kind) → IsAlmost (source_types text) b → ¬ (IsFew b)
      → (places : List ℕ) × (b ≡ branches.Switch places) × (length places < 2 ^ 32) × (MAX_ENTRIES < length places)
  long-switch (branches.Call node) is long = absurd (long (omega arith))
  long-switch (branches.Tail node) is long = absurd (long (omega arith))
  long-switch branches.Return is long = absurd (long (omega arith))
  long-switch (branches.Import name cell) is long = absurd is.entries
  long-switch (branches.Switch places) is long = (
    places,
    refl,
    is.entries.1,
    ⊎_elim (λ (more : MAX_ENTRIES < length places). more)
        (λ (few : length places ≤ MAX_ENTRIES). absurd (long few)) (cases_lt MAX_ENTRIES (length places)),
  )

  almost-at : (k : ℕ) (b : Kind) → slice_get (source_records text).branches k ≡ Some b
      → IsAlmost (source_types text) b
  almost-at k b there =
      let all = (source_records text).branches in
      subst (IsAlmost (source_types text)) (get_or_from_slice_get all k b b there)
      (almost k b (slice_get_within all k b there))

  pub source-long : has_records text ≡ true → (number : ℕ) → IsFirstLong (source_records text).branches number
      → parts_in (object_of_file object) ≡ Err (BadRecord (length (source_records text).functions + number))
  source-long on number first =
      let all = (source_records text).branches in
      let long = long-switch first.item (almost-at first.number first.item first.is) first.fails in
      let there : slice_get all number ≡ Some (branches.Switch long.0) =
      ap (slice_get all) first.here ∙ first.is ∙ ap (λ (b : Kind). Some b) long.1 in
      let size : ℕ = length object.static_data in
      let bad = records-bad (source_types text) size (source_records text) number long.0
      (omega (arith, (functions-few file lines clear).count)) ((branches-few file lines clear).count on) functions there
      (λ i b less at. branch-two (source_types text) size b (almost-at i b at)
      (first.before i b (omega (arith, less, first.here)) at)) (no-imports (source_types text) all almost) long.2
      long.3 in
      rw (types-are on, records-are on, types_again (source_types text) types, bad) refl
