-- The parts of the output joined.
use Rattle.std.proofs.Common.{◌≡◌, ℕ, zero, suc, ◌<◌, ◌≤◌, ◌^◌, Bool, IsTrue, List, map, All, length, get_or, refl, sym, ap, ◌∙◌, subst, arith}
use Rattle.std.specs.List.{flat_map, AllByRecursion}
use Rattle.std.proofs.lemmas.List.{length-map}
use Rattle.std.proofs.lemmas.List.Elements.{All-map}
use Rattle.elf_read.specs.declared.object.Symbol.{Symbol}
use Rattle.elf_read.specs.declared.object.Reloc.{Reloc}
use Rattle.elf_read.specs.Places.{joined}
use Rattle.cfi_type_table.specs.Spelling.{word}
use Rattle.cfi_unit.specs.declared.unit.Unit.{Unit as CodeUnit}
use Rattle.cfi_unit.specs.Unit.{IsUnit, words_of}
use Rattle.cfi_aux.specs.declared.modules.Module.{Module}
use Rattle.cfi_aux.specs.declared.records.Records.{Records}
use Rattle.cfi_aux.specs.declared.records.Function.{Function}
use Rattle.cfi_aux.specs.declared.records.Kind.{Kind}
use Rattle.cfi_aux.specs.declared.records.Kind.TheVariants as kinds
use Rattle.cfi_aux.specs.Records.{CanBeWritten}
use Rattle.cfi_aux.specs.Records as aux
use Rattle.cfi_aux.specs.Cells.{has_cell, have_cells}
use Rattle.cfi_aux.proofs.HaveCells.{cells-map}
use Rattle.cfi_instr.specs.Words.{Words, AreInsnsInRange, read_words, count_of}
use Rattle.cfi_instr.specs.Fault.{input_of, IsInstrumentable}
use Rattle.cfi_instr.proofs.RowTests.{PassesWords, good-words}
use Rattle.cfi_instr.specs.declared.sizes.TheConstants.{MAX_WORDS}
use Rattle.cfi_instr.specs.Sizes.{moved, words_before, offsets_of, AreSmall}
use Rattle.cfi_instr.specs.Reach.{IsLeast}
use Rattle.cfi_instr.specs.Units.{units_at, units_of, AllSpell}
use Rattle.cfi_instr.specs.Moves.{moved_symbol, moved_reloc, moved_function, moved_kind}
use Rattle.cfi_instr.specs.Output.{IsLayout, IsText, AreMoved}
use Rattle.cfi_instr.specs.inner.Arrangement.{Arrangement, units_by, AllSpellBy, moved_reloc_by, IsArrangementOf}
use Rattle.cfi_instr.proofs.SpellLemmas.{all-spelled}
use Rattle.cfi_unit.proofs.CodeLemmas.{AllByRecursion-append}

-- ---- text

joined-all : (give : ℕ → List CodeUnit) (n : ℕ) → ((w : ℕ) → w < n → AllByRecursion IsUnit (give w))
    → AllByRecursion IsUnit (joined give n)
joined-all give zero all = tt
joined-all give (suc n) all =
    AllByRecursion-append (joined give n) (give n) (joined-all give n (λ w lt. all w (omega arith))) (all n (omega arith))

pub text-is : (m : Module) (a : Arrangement) (text : List ℕ) → IsArrangementOf m a → AllSpellBy a
    → text ≡ flat_map word (flat_map words_of (units_by a)) → IsText m a.long a.offsets text
text-is m a text same spell is =
    let t = read_words m.object in
    let symbols = m.object.symbols in
    let here : AllSpell t symbols a.long a.offsets =
    subst (λ (x : Words). AllSpell x symbols a.long a.offsets) same.source
    (subst (λ (ss : List Symbol). AllSpell a.source ss a.long a.offsets) same.symbols spell) in
    record {
      words = flat_map words_of (units_of t symbols a.long a.offsets);
      units = record {
        fit = joined-all (units_at t symbols a.long a.offsets) (count_of t) here;
        spelled = refl;
      };
      bytes =
          is ∙ ap (λ (x : Words). flat_map word (flat_map words_of (units_of x a.symbols a.long a.offsets))) same.source
          ∙ ap (λ (ss : List Symbol). flat_map word (flat_map words_of (units_of t ss a.long a.offsets))) same.symbols;
    }

-- ---- symbols and relocations

pub symbols-are : (m : Module) (a : Arrangement) (found : List Symbol) → IsArrangementOf m a
    → found ≡ map (moved_symbol a.source a.offsets) a.symbols
    → found ≡ map (moved_symbol (read_words m.object) a.offsets) m.object.symbols
symbols-are m a found same made =
    made ∙ ap (λ (xs : List Symbol). map (moved_symbol a.source a.offsets) xs) same.symbols
    ∙ ap (λ (x : Words). map (moved_symbol x a.offsets) m.object.symbols) same.source

pub relocs-are : (m : Module) (a : Arrangement) (relocs slice found : List Reloc) → IsArrangementOf m a
    → slice ≡ relocs → found ≡ map (moved_reloc_by a) slice
    → found ≡ map (moved_reloc (read_words m.object) m.object.symbols a.long a.offsets) relocs
relocs-are m a relocs slice found same is made =
    made ∙ ap (λ (xs : List Reloc). map (moved_reloc_by a) xs) is
    ∙ ap (λ (ss : List Symbol). map (moved_reloc a.source ss a.long a.offsets) relocs) same.symbols
    ∙ ap (λ (x : Words). map (moved_reloc x m.object.symbols a.long a.offsets) relocs) same.source

-- ---- records

list-moved : (t : Words) (offsets : List ℕ) (kind : Kind)
    → aux.list_length (moved_kind t offsets kind) ≡ aux.list_length kind
list-moved t offsets (kinds.Call node) = refl
list-moved t offsets (kinds.Tail node) = refl
list-moved t offsets kinds.Return = refl
list-moved t offsets (kinds.Switch entries) = length-map entries (moved t offsets)
list-moved t offsets (kinds.Import name cell) = refl

cell-moved : (t : Words) (offsets : List ℕ) (size : ℕ) (kind : Kind) → IsTrue (has_cell size kind)
    → IsTrue (has_cell size (moved_kind t offsets kind))
cell-moved t offsets size (kinds.Call node) is = refl
cell-moved t offsets size (kinds.Tail node) is = refl
cell-moved t offsets size kinds.Return is = refl
cell-moved t offsets size (kinds.Switch entries) is = refl
cell-moved t offsets size (kinds.Import name cell) is = is

-- the output's data and records have the cells of the module
pub cells-moved : (m : Module) (t : Words) (offsets : List ℕ) (bytes : List ℕ) (branches : List Kind)
    → bytes ≡ m.object.static_data → branches ≡ map (moved_kind t offsets) m.records.branches
    → IsTrue (have_cells (length bytes) branches)
cells-moved m t offsets bytes branches same moved_is =
    let size = length m.object.static_data in
    subst (λ (xs : List ℕ). IsTrue (have_cells (length xs) branches)) (sym same)
    (subst (λ (bs : List Kind). IsTrue (have_cells size bs)) (sym moved_is)
    (cells-map size size (moved_kind t offsets) (cell-moved t offsets size) m.records.branches m.cells))

pub moved-written : (m : Module) (offsets : List ℕ) (r : Records) → AreMoved m offsets r
    → CanBeWritten m.records → CanBeWritten r
moved-written m offsets r moved_is can =
    let t = read_words m.object in
    let functions = m.records.functions in
    let branches = m.records.branches in
    record {
      functions =
          subst (λ (n : ℕ). n < 2 ^ 32)
          (sym (ap (λ (xs : List Function). length xs) moved_is.functions
          ∙ length-map functions (moved_function t offsets)))
          can.functions;
      branches =
          subst (λ (n : ℕ). n < 2 ^ 32)
          (sym (ap (λ (xs : List Kind). length xs) moved_is.branches ∙ length-map branches (moved_kind t offsets)))
          can.branches;
      names =
          subst (λ (xs : List Function). All (λ f. length f.name < 2 ^ 32) xs) (sym moved_is.functions)
          (All-map (λ (f : Function). length f.name < 2 ^ 32) (moved_function t offsets) functions can.names);
      words =
          subst (λ (xs : List Kind). All (λ b. aux.list_length b < 2 ^ 32) xs) (sym moved_is.branches)
          (All-map (λ (b : Kind). aux.list_length b < 2 ^ 32) (moved_kind t offsets) branches
          (λ i d lt. subst (λ (n : ℕ). n < 2 ^ 32) (sym (list-moved t offsets (get_or branches i d))) (can.words i d lt)));
    }

-- ---- what the steps before give to the object

pub spells-all : (m : Module) (t : Words) (symbols : List Symbol) (long : List Bool) (offsets : List ℕ)
    → t ≡ read_words m.object → AreInsnsInRange t.insns → IsInstrumentable (input_of m) → IsLeast t symbols long
    → words_before t long (count_of t) ≤ MAX_WORDS → AreSmall offsets → offsets ≡ offsets_of t long
    → AllSpell t symbols long offsets
spells-all m t symbols long offsets same range sound least fits small placed =
    let legal : PassesWords t =
    subst (λ (x : Words). PassesWords x) (sym same) (good-words (read_words m.object) sound.jumps.shaped.words) in
    let all : AllSpell t symbols long (offsets_of t long) =
    all-spelled t symbols long (record {
      range = range;
      legal = legal;
      enough = least.enough;
      fits = fits;
      small = subst (λ (xs : List ℕ). AreSmall xs) placed small;
    }) in
    subst (λ (xs : List ℕ). AllSpell t symbols long xs) (sym placed) all

-- the plan of the module itself
pub plan-is : (m : Module) (t : Words) (symbols : List Symbol) (long : List Bool) (offsets : List ℕ)
    → t ≡ read_words m.object → symbols ≡ m.object.symbols → IsLeast t symbols long → offsets ≡ offsets_of t long
    → IsLayout m long offsets
plan-is m t symbols long offsets same names least placed = record {
  least =
      subst (λ (x : Words). IsLeast x m.object.symbols long) same
      (subst (λ (ss : List Symbol). IsLeast t ss long) names least);
  placed = placed ∙ ap (λ (x : Words). offsets_of x long) same;
}
