-- No relocation sits on an item that lies in no function.
use Rattle.std.proofs.Common.{◌≡◌, ℕ, ◌+◌, ◌*◌, ◌/◌, ◌<◌, ◌≤◌, ℤ, Bool, true, false, eqb, List, map, length, get_or, refl, ap, sym, subst, ◌∙◌, inl, inr, ⊎_elim, arith}
use Rattle.std.proofs.lemmas.Bool.{cases_Bool, cases_lt, both_ways, and_parts, eqb-true, false≢true}
use Rattle.std.proofs.lemmas.List.{length-map, get_or-map}
use Rattle.std.proofs.lemmas.List.Folds.{Any-from_list_any}
use Rattle.elf_read.specs.declared.object.Area.{Area}
use Rattle.elf_read.specs.declared.object.Area.TheVariants as areas
use Rattle.elf_read.specs.declared.object.Reloc.{Reloc}
use Rattle.elf_read.specs.declared.object.Symbol.{Symbol}
use Rattle.cfi_aux.specs.declared.modules.Module.{Module}
use Rattle.cfi_instr.specs.Words.{Words, is_of_text, read_words, count_of}
use Rattle.cfi_instr.specs.Items.{is_inner, item_of}
use Rattle.cfi_instr.specs.Target.{named_symbol}
use Rattle.cfi_instr.specs.inner.Functions.{is_covered}
use Rattle.cfi_instr.specs.Fault.{input_of}
use Rattle.cfi_instr.proofs.RowTests.{PassesAll}
use Rattle.cfi_instr.specs.Sizes.{size_at, words_before, offsets_of}
use Rattle.cfi_instr.specs.Moves.{is_of_long, addend_by, offset_in, moved_by, moved_reloc}
use Rattle.cfi_instr.proofs.SizeLemmas.{total-grows}
use Rattle.cfi_instr_law.proofs.ItemLemmas.{item-some, begins-within}
use Rattle.cfi_instr_law.proofs.LaidLemmas.{is_at_word, touches}
use Rattle.cfi_instr_law.proofs.MovedLemmas.{FitsText, reloc-fits, goes-well}

-- of two items the one whose words have a place is the other where the other begins there
same-item : (t : Words) (long : List Bool) (v w : ℕ) → words_before t long w < words_before t long (w + 1)
    → words_before t long v ≤ words_before t long w → words_before t long w < words_before t long (v + 1) → v ≡ w
same-item t long v w some low high =
    ⊎_elim
    (λ (less : v < w). absurd (omega (arith, total-grows (size_at t long) (v + 1) w (omega (arith, less)), high)))
    (λ (more : w ≤ v).
    ⊎_elim
    (λ (less : w < v). absurd (omega (arith, total-grows (size_at t long) (w + 1) v (omega (arith, less)), low, some)))
    (λ (back : v ≤ w). omega (arith, more, back))
    (cases_lt w v))
    (cases_lt v w)

module _ (source : Module) (long : List Bool) (sound : PassesAll (input_of source)) where
  abbrev t : Words
  t = read_words source.object

  abbrev symbols : List Symbol
  symbols = source.object.symbols

  abbrev offsets : List ℕ
  offsets = offsets_of t long

  abbrev moves : Reloc → Reloc
  moves = moved_reloc t symbols long offsets

  abbrev relocs : List Reloc
  relocs = map moves source.object.relocs

  -- the place is within an item of a function
  pub record IsInFunction (at : ℕ) : Type 0 where
    pub item : ℕ
    pub inside : item < count_of t
    pub covered : is_covered source.records.functions (4 * item) ≡ true
    pub low : words_before t long item ≤ at
    pub high : at < words_before t long (item + 1)

  moved-in : (at : ℕ) (reloc : Reloc) (addend : ℤ) (area : Area) → reloc.area ≡ area
      → (area ≡ areas.Text → FitsText t source.records.functions reloc)
      → is_at_word at (moved_by area t long offsets addend reloc) ≡ true → IsInFunction at
  moved-in at reloc addend areas.Text is fits h =
      let fit = fits refl in
      let goes = goes-well t symbols long sound.linked.shaped.words reloc fit.fits in
      let to : ℕ = offset_in t offsets (is_of_long long reloc) reloc.offset in
      let both = and_parts (is_of_text reloc.area) (eqb to (4 * at)) h in
      let offset : to ≡ 4 * at = eqb-true to (4 * at) both.1 in
      let same : goes.at ≡ at = omega (arith, offset, goes.offset_is) in
      let range = begins-within t symbols long offsets (item_of t (reloc.offset / 4)) goes.at goes.begins in
      record {
        item = item_of t (reloc.offset / 4);
        inside = goes.inside;
        covered = fit.covered;
        low = omega (arith, range.0, same);
        high = omega (arith, range.1, same);
      }
  moved-in at reloc addend areas.Data is fits h =
      absurd (false≢true (ap is_of_text (sym is) ∙ (and_parts _ _ h).0))

  -- a relocation sits on a word of an item of a function
  touched-in : (at : ℕ) → touches relocs at ≡ true → IsInFunction at
  touched-in at h =
      let olds = source.object.relocs in
      let some = Any-from_list_any (is_at_word at) relocs h in
      let k : ℕ = some.0 in
      let within : k < length olds = subst (λ (n : ℕ). k < n) (length-map olds moves) some.2 in
      let reloc = get_or olds k some.1 in
      let moved : some.1 ≡ moves reloc = sym some.3 ∙ get_or-map moves olds k some.1 some.1 within in
      moved-in at reloc (addend_by t offsets (named_symbol symbols reloc) reloc.addend) reloc.area refl
      (λ is. reloc-fits t symbols source.records.functions olds k some.1 within
      (sound.linked.shaped.relocs k within) is)
      (ap (is_at_word at) (sym moved) ∙ some.4)

  pub untouched : (w : ℕ) → w < count_of t → is_inner t w ≡ false
      → is_covered source.records.functions (4 * w) ≡ false → touches relocs (words_before t long w) ≡ false
  untouched w inside outer bare = elim (cases_Bool (touches relocs (words_before t long w))) [
    | inl touched ↦
        let there = touched-in (words_before t long w) touched in
        let some = item-some t symbols long offsets w outer (sound.linked.shaped.words.legal w inside) in
        let same = same-item t long there.item w some there.low there.high in
        let covered = ap (λ (k : ℕ). is_covered source.records.functions (4 * k)) (sym same) ∙ there.covered in
        absurd (both_ways _ bare covered)
    | inr free ↦ free
  ]
