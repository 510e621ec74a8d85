-- Relocations leave no less data than there was, whatever they change.
use Rattle.std.proofs.Common.{◌≡◌, ℕ, ◌+◌, ◌≤◌, Bool, true, false, List, [], ◌∷◌, ◌++◌, length, take, drop, Option, Some, None, Result, Ok, Err, min, refl, sym, ap, ◌∙◌, inl, inr, arith, length-append, length-drop}
use Rattle.std.specs.Int.{w32, to_le_bytes}
use Rattle.std.proofs.lemmas.Bool.{cases_lt}
use Rattle.std.proofs.lemmas.List.{length-take}
use Rattle.elf_read.specs.declared.object.Area.{Area}
use Rattle.elf_read.specs.declared.object.Area.TheVariants as areas
use Rattle.elf_read.specs.declared.object.Object.{Object}
use Rattle.elf_read.specs.declared.object.Reloc.{Reloc}
use Rattle.rv_reloc.specs.declared.table.Rule.{Rule}
use Rattle.rv_reloc.specs.Table.{rule_of}
use Rattle.rv_reloc.specs.Bytes.{word_at, with_word}
use Rattle.rv_reloc.specs.Field.{filled}
use Rattle.rv_reloc.specs.Formula.{number_by}
use Rattle.rv_reloc.specs.Applied.{filled_next, with_next, written, applied_by, applied}
use Rattle.cfi_values.specs.Then as chain
use Rattle.cfi_place.specs.declared.fault.PlaceFault.{PlaceFault}
use Rattle.cfi_place.specs.declared.fault.PlaceFault.TheVariants as faults
use Rattle.cfi_place.specs.declared.room.Room.{Room}
use Rattle.cfi_place.specs.Relocated.{Areas, areas_of, high_parts, field_address, value_in, partner_in, applied_in, numbered, relocated_by, relocated_from}
use Rattle.cfi_place.specs.Value.{undefined_in}
use Rattle.cfi_place.specs.Names.{Names}
use Rattle.cfi_place.specs.Placed.{values_in, relocated, unless_undefined, where_fits, code_fits, data_fits, placed_in}
use Rattle.cfi_modules.proofs.LengthLemmas.{ok_is, then_ok, then_applied, numbered_ok}
use Rattle.cfi_modules.proofs.PlacedLemmas.{unless_ok, fits_ok}

-- ---- words

more_with_word : (at word : ℕ) (bytes : List ℕ) → length bytes ≤ length (with_word at word bytes)
unfolding with_word
more_with_word at word bytes =
    let whole = length-append (take at bytes ++ to_le_bytes w32 word) (drop (at + 4) bytes) in
    let front = length-append (take at bytes) (to_le_bytes w32 word) in
    let taken : length (take at bytes) ≡ min at (length bytes) = length-take at bytes in
    let left = length-drop (at + 4) bytes in
    elim (cases_lt at (length bytes)) [
      | inl within ↦ omega (arith, whole, front, taken, left, within)
      | inr past ↦ omega (arith, whole, front, taken, left, past)
    ]

more_with_next : (at : ℕ) (found : Option ℕ) (bytes : List ℕ)
    → length bytes ≤ length (with_next at found bytes)
more_with_next at None bytes = omega arith
more_with_next at (Some word) bytes = more_with_word at word bytes

more_written : (rule : Rule) (number at : ℕ) (bytes new : List ℕ) → written rule number at bytes ≡ Ok new
    → length bytes ≤ length new
more_written rule number at bytes new done =
    let one = then_applied (filled rule.field number (word_at at bytes)) (λ word.
    chain.◌>>=◌ (filled_next rule.next number (word_at (at + 4) bytes)) (λ next.
    Ok (with_next (at + 4) next (with_word at word bytes)))) new done in
    let two = then_applied (filled_next rule.next number (word_at (at + 4) bytes)) (λ next.
    Ok (with_next (at + 4) next (with_word at one.0 bytes))) new one.2 in
    let same : with_next (at + 4) two.0 (with_word at one.0 bytes) ≡ new = ok_is two.2 in
    omega (
      arith,
      more_with_word at one.0 bytes,
      more_with_next (at + 4) two.0 (with_word at one.0 bytes),
      ap (λ (xs : List ℕ). length xs) same,
    )

more_by : (found : Option Rule) (reloc : Reloc) (at value : ℕ) (partner : Option ℕ) (bytes new : List ℕ)
    → applied_by found reloc at value partner bytes ≡ Ok new → length bytes ≤ length new
more_by None reloc at value partner bytes new done =
    let same = ap (λ (xs : List ℕ). length xs) (ok_is done) in omega (arith, same)
more_by (Some rule) reloc at value partner bytes new done =
    let step = then_applied (number_by rule.formula value reloc.addend at partner)
    (λ number. written rule number reloc.offset bytes) new done in
    more_written rule step.0 reloc.offset bytes new step.2

-- ---- relocations

more_in : (area : Area) (reloc : Reloc) (at value : ℕ) (partner : Option ℕ) (bytes new : Areas)
    → applied_in area reloc at value partner bytes ≡ Ok new → length bytes.static_data ≤ length new.static_data
more_in areas.Text reloc at value partner bytes new done =
    let step = then_ok (applied reloc at value partner bytes.text) (λ text. Ok (record bytes { text = text })) new done in
    let same : record bytes { text = step.0 } ≡ new = ok_is step.2 in
    omega (arith, ap (λ (a : Areas). length a.static_data) same)
more_in areas.Data reloc at value partner bytes new done =
    let step = then_ok (applied reloc at value partner bytes.static_data)
    (λ static_data. Ok (record bytes { static_data = static_data })) new done in
    let same : record bytes { static_data = step.0 } ≡ new = ok_is step.2 in
    omega (
      arith,
      ap (λ (a : Areas). length a.static_data) same,
      more_by (rule_of reloc.kind) reloc at value partner bytes.static_data step.0 step.1,
    )

more_relocated : (room : Room) (values : List (Option ℕ)) (parts : List (ℕ × ℕ)) (k : ℕ) (relocs : List Reloc)
    (bytes new : Areas) → relocated_from room values parts k relocs bytes ≡ Ok new
    → length bytes.static_data ≤ length new.static_data
unfolding relocated_from
more_relocated room values parts k [] bytes new done =
    let same : bytes ≡ new = ok_is done in
    omega (arith, ap (λ (a : Areas). length a.static_data) same)
more_relocated room values parts k (reloc ∷ relocs) bytes new done =
    let step = then_ok (numbered k (relocated_by room values parts reloc bytes))
    (λ next. relocated_from room values parts (k + 1) relocs next) new done in
    let one = more_in reloc.area reloc (field_address room reloc) (value_in values reloc)
    (partner_in parts (value_in values reloc)) bytes step.0
    (numbered_ok k (relocated_by room values parts reloc bytes) step.0 step.1) in
    let rest = more_relocated room values parts (k + 1) relocs step.0 new step.2 in
    omega (arith, one, rest)

-- ---- a placed object

pub more_placed : (object : Object) (room : Room) (names : Names) (bytes : Areas)
    → placed_in object room names ≡ Ok bytes → length object.static_data ≤ length bytes.static_data
more_placed object room names bytes done =
    let values = values_in object room names in
    let made = relocated object room values in
    let second = where_fits (data_fits object room) faults.DataFull made in
    let named = unless_ok (undefined_in object.symbols values object.relocs)
    (where_fits (code_fits object room) faults.CodeFull second) bytes done in
    let code = (fits_ok (code_fits object room) faults.CodeFull second bytes named).1 in
    let last = (fits_ok (data_fits object room) faults.DataFull made bytes code).1 in
    more_relocated room values (high_parts room values object.relocs) 0 object.relocs
    (areas_of object.text object.static_data) bytes last
