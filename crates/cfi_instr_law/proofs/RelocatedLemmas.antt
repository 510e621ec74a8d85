-- Relocations that sit on the first words of units, one after the other.
use Rattle.std.proofs.Common.{◌≡◌, ℕ, ◌+◌, ◌*◌, Bool, true, List, [], ◌∷◌, All, Option, Some, Result, Ok, Err, refl, ap, sym, subst, ◌∙◌}
use Rattle.std.proofs.lemmas.List.Elements.{All-head, All-tail}
use Rattle.elf_read.specs.declared.object.Reloc.{Reloc}
use Rattle.elf_read.specs.declared.object.Area.{Area}
use Rattle.elf_read.specs.declared.object.Area.TheVariants as areas
use Rattle.cfi_unit.specs.declared.unit.Unit.{Unit as CodeUnit}
use Rattle.rv_reloc.specs.declared.fault.RelocFault.{RelocFault}
use Rattle.rv_reloc.specs.declared.table.Form.{Form}
use Rattle.rv_reloc.specs.declared.table.Formula.{Formula}
use Rattle.rv_reloc.specs.Table.{immediate as row, rule_of}
use Rattle.rv_reloc.specs.Field.{immediate}
use Rattle.rv_reloc.specs.Bytes.{word_at, with_word}
use Rattle.rv_reloc.specs.Applied.{applied}
use Rattle.cfi_place.specs.declared.room.Room.{Room}
use Rattle.cfi_place.specs.Relocated.{Areas, field_address, value_in, partner_in, applied_in, relocated_by, numbered, relocated_from}
use Rattle.cfi_values.specs.Then.{◌>>=◌}
use Rattle.cfi_unit.specs.declared.spot.Spot.{Spot}
use Rattle.cfi_unit.specs.Spots.{spots_of, BeginsUnit}
use Rattle.cfi_instr_law.proofs.SeenLemmas.{seen_from, same-begins}
use Rattle.cfi_instr_law.proofs.AppliedLemmas.{MayFill, IsFilled, applied-fills, same-ok}
use Rattle.cfi_instr_law.proofs.CodeLemmas.{bytes_of, AreUnits}
use Rattle.cfi_instr_law.proofs.StepLemmas.{step}

-- a relocation of the text fills an instruction with which a unit begins
pub record SitsWell (touched : ℕ → Bool) (spots : List Spot) (reloc : Reloc) : Type 0 where
  pub at : ℕ
  pub offset_is : reloc.offset ≡ 4 * at
  pub begins : BeginsUnit spots at
  pub here : touched at ≡ true
  pub formula : Formula
  pub form : Form
  pub rule : rule_of reloc.kind ≡ Some (row formula form)
  pub may : MayFill formula form

abbrev pub SitsIn : (touched : ℕ → Bool) (spots : List Spot) → Area → Reloc → Type 0
SitsIn touched spots areas.Text reloc = SitsWell touched spots reloc
SitsIn touched spots areas.Data reloc = Unit {0}

abbrev pub Sits : (touched : ℕ → Bool) (spots : List Spot) → Reloc → Type 0
Sits touched spots reloc = SitsIn touched spots reloc.area reloc

-- the text is that of units that look as others do
pub record IsCode (touched : ℕ → Bool) (source : List CodeUnit) (text : List ℕ) : Type 0 where
  pub code : List CodeUnit
  pub fit : AreUnits code
  pub bytes : text ≡ bytes_of code
  pub looks : seen_from touched 0 code ≡ seen_from touched 0 source

-- a step that went well had something to go on with
went : {A B E : Type 0} (r : Result A E) (f : A → Result B E) (y : B) → (r >>= f) ≡ Ok y
    → (x : A) × (r ≡ Ok x) × (f x ≡ Ok y)
went (Ok x) f y e = (x, refl, e)
went (Err fault) f y e = absurd (cc)

module _ (touched : ℕ → Bool) (source : List CodeUnit) where
  filled-code : (reloc : Reloc) (text after : List ℕ) (s : SitsWell touched (spots_of 0 source) reloc)
      → IsCode touched source text → IsFilled s.form reloc.offset text after → IsCode touched source after
  filled-code reloc text after s c f =
      let begins : BeginsUnit (spots_of 0 c.code) s.at =
      same-begins touched (spots_of 0 source) (spots_of 0 c.code) (sym c.looks) s.at s.begins in
      let fills : immediate s.form f.number (word_at (4 * s.at) (bytes_of c.code)) ≡ Ok f.new =
      ap (λ (n : ℕ). immediate s.form f.number (word_at n (bytes_of c.code))) (sym s.offset_is)
      ∙ ap (λ (xs : List ℕ). immediate s.form f.number (word_at reloc.offset xs)) (sym c.bytes)
      ∙ f.fills in
      let next = step touched c.code s.at s.form f.number f.new c.fit begins s.here f.small fills in
      record {
        code = next.next;
        fit = next.fit;
        bytes =
            f.bytes_are
            ∙ ap (λ (n : ℕ). with_word n f.new text) s.offset_is
            ∙ ap (with_word (4 * s.at) f.new) c.bytes
            ∙ next.bytes;
        looks = next.looks ∙ c.looks;
      }

  applied-code : (area : Area) (reloc : Reloc) (at value : ℕ) (partner : Option ℕ) (bytes after : Areas)
      → SitsIn touched (spots_of 0 source) area reloc → IsCode touched source bytes.text
      → applied_in area reloc at value partner bytes ≡ Ok after → IsCode touched source after.text
  applied-code areas.Text reloc at value partner bytes after s c e =
      let a = went (applied reloc at value partner bytes.text) (λ text. Ok (record bytes { text = text })) after e in
      let f = applied-fills s.formula s.form reloc at value partner bytes.text a.0 s.rule s.may a.1 in
      subst (λ (r : Areas). IsCode touched source r.text) (same-ok a.2) (filled-code reloc bytes.text a.0 s c f)
  applied-code areas.Data reloc at value partner bytes after s c e =
      let a = went (applied reloc at value partner bytes.static_data)
      (λ static_data. Ok (record bytes { static_data = static_data })) after e in
      subst (λ (r : Areas). IsCode touched source r.text) (same-ok a.2) c

  numbered-ok : (k : ℕ) (r : Result Areas RelocFault) (next : Areas) → numbered k r ≡ Ok next → r ≡ Ok next
  numbered-ok k (Ok bytes) next e = ap (λ (x : Areas). Ok x) (same-ok e)
  numbered-ok k (Err fault) next e = absurd (cc)

  pub relocated-code : (room : Room) (values : List (Option ℕ)) (parts : List (ℕ × ℕ)) (k : ℕ) (relocs : List Reloc)
      (bytes after : Areas) → All (Sits touched (spots_of 0 source)) relocs → IsCode touched source bytes.text
      → relocated_from room values parts k relocs bytes ≡ Ok after → IsCode touched source after.text
  unfolding relocated_from
  relocated-code room values parts k [] bytes after all c e =
      subst (λ (r : Areas). IsCode touched source r.text) (same-ok e) c
  relocated-code room values parts k (reloc ∷ relocs) bytes after all c e =
      let a = went (numbered k (relocated_by room values parts reloc bytes))
      (λ next. relocated_from room values parts (k + 1) relocs next) after e in
      let value = value_in values reloc in
      let one = applied-code reloc.area reloc (field_address room reloc) value (partner_in parts value) bytes a.0
      (All-head (Sits touched (spots_of 0 source)) reloc relocs all) c
      (numbered-ok k (relocated_by room values parts reloc bytes) a.0 a.1) in
      relocated-code room values parts (k + 1) relocs a.0 after
      (All-tail (Sits touched (spots_of 0 source)) reloc relocs all) one a.2
