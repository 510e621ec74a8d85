-- An instrumented module at its place: its words are units that look as those that were made, and whose checks have
-- their slots.
use Rattle.std.proofs.Common.{◌≡◌, ℕ, ◌+◌, ◌*◌, ◌/◌, ◌<◌, ◌≤◌, ◌&&◌, Bool, true, false, eqb, ℤ, List, [], map, All, length, get_or, Option, Some, None, Result, Ok, refl, ap, sym, subst, ◌∙◌, arith}
use Rattle.std.specs.List.{list_any, flat_map}
use Rattle.std.proofs.lemmas.Bool.{and_from, leb-true, eq-eqb}
use Rattle.std.proofs.lemmas.List.{get_or-map, length-map}
use Rattle.std.proofs.lemmas.List.Folds.{list_any_at}
use Rattle.elf_read.specs.declared.object.Area.{Area}
use Rattle.elf_read.specs.declared.object.Area.TheVariants as areas
use Rattle.elf_read.specs.declared.object.Object.{Object}
use Rattle.elf_read.specs.declared.object.Reloc.{Reloc}
use Rattle.elf_read.specs.declared.object.Symbol.{Symbol}
use Rattle.cfi_type_table.specs.Spelling.{word}
use Rattle.cfi_word.specs.declared.sizes.TheConstants.{SLOTS}
use Rattle.cfi_unit.specs.declared.unit.Unit.{Unit as CodeUnit}
use Rattle.cfi_unit.specs.Unit.{words_of}
use Rattle.cfi_unit.specs.Code.{UnitCode}
use Rattle.cfi_aux.specs.declared.modules.Module.{Module}
use Rattle.cfi_aux.specs.declared.placed.Placed.{Placed}
use Rattle.cfi_instr.specs.Words.{Words, is_of_text, read_words, count_of}
use Rattle.cfi_instr.specs.Fault.{input_of}
use Rattle.cfi_instr.proofs.RowTests.{PassesAll}
use Rattle.cfi_instr.specs.Sizes.{offsets_of}
use Rattle.cfi_instr.specs.Units.{units_of}
use Rattle.cfi_instr.specs.Moves.{is_of_long, addend_by, moved_by, moved_reloc}
use Rattle.cfi_instr.specs.Output.{IsText}
use Rattle.cfi_instr.specs.Target.{named_symbol}
use Rattle.cfi_place.specs.declared.fault.PlaceFault.{PlaceFault}
use Rattle.cfi_place.specs.declared.room.Room.{Room}
use Rattle.cfi_place.specs.Names.{Names}
use Rattle.cfi_place.specs.Relocated.{Areas, high_parts}
use Rattle.cfi_place.specs.Slots.{checks_from, with_slots}
use Rattle.cfi_place.specs.Placed.{IsRoom, bytes_as_words, values_in, relocated, unless_undefined, where_fits, code_fits, placed_in, IsPlaced}
use Rattle.elf_read.specs.Lists.{Each}
use Rattle.cfi_unit.specs.Spots.{spots_of}
use Rattle.cfi_verify.specs.Spots.{checks_of}
use Rattle.cfi_verify.specs.Branches.{NamesSlot}
use Rattle.cfi_instr_law.proofs.SeenLemmas.{seen_from}
use Rattle.cfi_instr_law.proofs.BytesLemmas.{words-spelled, length-spelled}
use Rattle.cfi_instr_law.proofs.CodeLemmas.{units-small}
use Rattle.cfi_instr_law.proofs.ItemLemmas.{begins-in-all}
use Rattle.cfi_instr_law.proofs.MovedLemmas.{FitsText, reloc-fits, fits-rule, goes-well}
use Rattle.cfi_instr_law.proofs.RelocatedLemmas.{SitsIn, Sits, IsCode, relocated-code}
use Rattle.cfi_instr_law.proofs.SlotLemmas.{numbered, slots_in, slots-few, seen-numbered, units-numbered, slots-set, slots-named, slots-count, same-places}
use Rattle.cfi_instr_law.proofs.ReadLemmas.{read-one}

-- a relocation of the text is at the word
abbrev pub is_at_word : (at : ℕ) → Reloc → Bool
is_at_word at reloc = is_of_text reloc.area && eqb reloc.offset (4 * at)

-- some relocation is
abbrev pub touches : List Reloc → (at : ℕ) → Bool
touches relocs at = list_any (is_at_word at) relocs

-- what the words of a placed module are
pub record IsLaid (touched : ℕ → Bool) (source : List CodeUnit) (m : Placed) : Type 0 where
  pub code : List CodeUnit
  pub units : UnitCode m.words code
  pub looks : seen_from touched 0 code ≡ seen_from touched 0 source
  pub slots : Each (checks_of (spots_of 0 code)) (NamesSlot m)

-- ---- steps that went well

some-defined : (undefined : Option (List ℕ)) (next : Result Areas PlaceFault) (bytes : Areas)
    → unless_undefined undefined next ≡ Ok bytes → next ≡ Ok bytes
some-defined None next bytes e = e
some-defined (Some name) next bytes e = absurd (cc)

fit-then : (fits : Bool) (fault : PlaceFault) (next : Result Areas PlaceFault) (bytes : Areas)
    → where_fits fits fault next ≡ Ok bytes → (fits ≡ true) × (next ≡ Ok bytes)
fit-then true fault next bytes e = (refl, e)
fit-then false fault next bytes e = absurd (cc)

placed-steps : (object : Object) (room : Room) (names : Names) (bytes : Areas) → placed_in object room names ≡ Ok bytes
    → (code_fits object room ≡ true) × (relocated object room (values_in object room names) ≡ Ok bytes)
placed-steps object room names bytes e =
    let code = fit-then _ _ _ bytes (some-defined _ _ bytes e) in
    (code.0, (fit-then _ _ _ bytes code.1).1)

module _ (source m : Module) (long : List Bool) (sound : PassesAll (input_of source)) where
  abbrev t : Words
  t = read_words source.object

  abbrev symbols : List Symbol
  symbols = source.object.symbols

  abbrev offsets : List ℕ
  offsets = offsets_of t long

  abbrev made : List CodeUnit
  made = units_of t symbols long offsets

  abbrev moves : Reloc → Reloc
  moves = moved_reloc t symbols long offsets

  abbrev relocs : List Reloc
  relocs = map moves source.object.relocs

  -- what is known of a relocation that was moved
  sits-by : (touched : ℕ → Bool) (reloc : Reloc) (addend : ℤ) (area : Area) → reloc.area ≡ area
      → (area ≡ areas.Text → FitsText t source.records.functions reloc)
      → ((at : ℕ) → is_at_word at (moved_by area t long offsets addend reloc) ≡ true → touched at ≡ true)
      → Sits touched (spots_of 0 made) (moved_by area t long offsets addend reloc)
  sits-by touched reloc addend areas.Text is fits touch =
      let fit = (fits refl).fits in
      let goes = goes-well t symbols long sound.linked.shaped.words reloc fit in
      let rule = (fits-rule t reloc.kind (reloc.offset / 4) (is_of_long long reloc) fit).1 in
      subst (λ (a : Area). SitsIn touched (spots_of 0 made) a (moved_by areas.Text t long offsets addend reloc)) (sym is)
      (record {
        at = goes.at;
        offset_is = goes.offset_is;
        begins = begins-in-all t symbols long offsets (count_of t) _ goes.at goes.inside goes.begins;
        here = touch goes.at (and_from _ _ (ap is_of_text is) (eq-eqb _ _ goes.offset_is));
        formula = rule.formula;
        form = rule.form;
        rule = rule.rule;
        may = rule.may;
      })
  sits-by touched reloc addend areas.Data is fits touch =
      subst (λ (a : Area). SitsIn touched (spots_of 0 made) a (moved_by areas.Data t long offsets addend reloc)) (sym is)
      tt

  -- each of the module's relocations sits well
  pub all-sit : All (Sits (touches relocs) (spots_of 0 made)) relocs
  all-sit k d inside =
      let olds = source.object.relocs in
      let within : k < length olds = subst (λ (n : ℕ). k < n) (length-map olds moves) inside in
      let reloc = get_or olds k d in
      let moved : get_or relocs k d ≡ moves reloc = get_or-map moves olds k d d within in
      let touch : (at : ℕ) → is_at_word at (moves reloc) ≡ true → touches relocs at ≡ true = λ at h.
      list_any_at (is_at_word at) relocs k d inside (ap (is_at_word at) moved ∙ h) in
      subst (Sits (touches relocs) (spots_of 0 made)) (sym moved)
      (sits-by (touches relocs) reloc (addend_by t offsets (named_symbol symbols reloc) reloc.addend) reloc.area refl
      (λ is. reloc-fits t symbols source.records.functions olds k d within (sound.linked.shaped.relocs k within) is)
      touch)

  -- the text as it was made
  made-code : (touched : ℕ → Bool) → IsText source long offsets m.object.text → IsCode touched made m.object.text
  made-code touched text = record {
    code = made;
    fit = text.units.fit;
    bytes = text.bytes ∙ ap (λ (ws : List ℕ). flat_map word ws) text.units.spelled;
    looks = refl;
  }

  -- the slots that are left suffice
  enough-slots : (touched : ℕ → Bool) (room : Room) → IsRoom room → code_fits m.object room ≡ true
      → IsText source long offsets m.object.text → (c : List CodeUnit)
      → seen_from touched 0 c ≡ seen_from touched 0 made → room.slot_base + slots_in c ≤ SLOTS
  enough-slots touched room is fits text c looks =
      let within = leb-true _ _ fits in
      let bytes = ap (λ (xs : List ℕ). length xs) text.bytes ∙ length-spelled text.words in
      let words = ap (λ (xs : List ℕ). length xs) text.units.spelled in
      let same : slots_in c ≡ slots_in made =
      slots-count 0 c ∙ ap (λ (xs : List ℕ). length xs) (same-places touched c made looks) ∙ sym (slots-count 0 made) in
      omega (arith, within, bytes, words, same, slots-few made, is.size.most, is.slots)

  -- the words with their slots
  slotted : (touched : ℕ → Bool) (room : Room) (names : Names) (placed : Placed) → IsRoom room
      → IsText source long offsets m.object.text → (p : IsPlaced m room names placed)
      → IsCode touched made p.bytes.text → IsLaid touched made placed
  slotted touched room names placed is text p c =
      let steps = placed-steps m.object room names p.bytes p.is_placed in
      let old : bytes_as_words m.object.text ≡ flat_map words_of made =
      ap bytes_as_words (text.bytes ∙ ap (λ (ws : List ℕ). flat_map word ws) text.units.spelled)
      ∙ words-spelled (flat_map words_of made) (units-small made text.units.fit) in
      let new : bytes_as_words p.bytes.text ≡ flat_map words_of c.code =
      ap bytes_as_words c.bytes ∙ words-spelled (flat_map words_of c.code) (units-small c.code c.fit) in
      let read : p.words.0 ≡ made =
      read-one (bytes_as_words m.object.text) 0 p.words.0 made p.words.1 (record { fit = text.units.fit; spelled = old }) in
      let places : checks_from 0 p.words.0 ≡ checks_from 0 c.code =
      ap (checks_from 0) read ∙ sym (same-places touched c.code made c.looks) in
      let few = enough-slots touched room is steps.0 text c.code c.looks in
      record {
        code = numbered room.slot_base c.code;
        units = record {
          fit = units-numbered room.slot_base c.code c.fit few;
          spelled =
              p.words.2
              ∙ ap (λ (xs : List ℕ). with_slots room.slot_base xs (bytes_as_words p.bytes.text)) places
              ∙ ap (with_slots room.slot_base (checks_from 0 c.code)) new
              ∙ slots-set c.code [] 0 room.slot_base refl;
        };
        looks = seen-numbered touched 0 room.slot_base c.code ∙ c.looks;
        slots = λ k check at.
            slots-named 0 room.slot_base c.code k check at ∙ ap (λ (n : ℕ). n + k) (sym p.slot_base);
      }

  pub laid-by : (room : Room) (names : Names) (placed : Placed) → IsRoom room → IsText source long offsets m.object.text
      → All (Sits (touches relocs) (spots_of 0 made)) m.object.relocs → (p : IsPlaced m room names placed)
      → IsLaid (touches relocs) made placed
  laid-by room names placed is text sits p =
      let steps = placed-steps m.object room names p.bytes p.is_placed in
      let values = values_in m.object room names in
      slotted (touches relocs) room names placed is text p
      (relocated-code (touches relocs) made room values (high_parts room values m.object.relocs) 0 m.object.relocs _
      p.bytes sits (made-code (touches relocs) text) steps.1)
