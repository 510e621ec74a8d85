use Rattle.std.proofs.Common.{◌≡◌, ◌∙◌, ◌<◌, ◌^◌, sym, subst, refl, rules, List, All, ℕ, Option, Ok}
use Rattle.elf_read.specs.declared.object.Symbol.{Symbol}
use Rattle.cfi_aux.specs.Placed.{address_of}
use Rattle.cfi_place.specs.Names.{find_in}
use Rattle.cfi_place.specs.Relocated.{areas_of}
use Rattle.cfi_place.specs.Placed.{IsFault, placed_by, placed_in, values_in}
use Rattle.cfi_place.proofs.PlacingLemmas.{addresses-fit, values-are, slots-are, functions-are}
use Rattle.cfi_place.proofs.placed.place.Goals as goal

pub exports-requires : goal.exports-requires
exports-requires c =
    addresses-fit c.args.unplaced.now.object c.args.room.now
    (record { text = c.requires.text; static_data = c.requires.static_data }) c.requires.sound.object_sound.symbols
    (subst (λ (xs : List Symbol). All (λ (s : Symbol). s.value < 2 ^ 32) xs) c.as_slice.ensures c.see_values.ensures)

pub values-requires : goal.values-requires
values-requires c =
    let room = c.args.room.now in
    subst (λ (xs : List Symbol). All (λ (s : Symbol). address_of room.base room.data_base s < 2 ^ 32) xs)
    (sym c.as_slice-2.ensures)
    (addresses-fit c.args.unplaced.now.object room
    (record { text = c.requires.text; static_data = c.requires.static_data }) c.requires.sound.object_sound.symbols
    (subst (λ (xs : List Symbol). All (λ (s : Symbol). s.value < 2 ^ 32) xs) c.as_slice.ensures c.see_values.ensures))

pub returns-in_err-text-clause-fault : goal.returns-in_err-text-clause-fault
returns-in_err-text-clause-fault c =
    let object = c.args.unplaced.now.object in
    let room = c.args.room.now in
    let names = find_in c.args.symbols.now in
    let same : c.deref.result.now ≡ values_in object room names =
    values-are object room names c.in_ok-exports.exports c.as_slice-2.result.now c.deref.result.now
    c.in_ok-exports.ensures c.as_slice-2.ensures (c.deref.ensures.value ∙ c.in_ok-values.ensures) in
    let due : IsFault c.in_err-text.field-0.0 (placed_in object room names) =
    subst (λ (values : List (Option ℕ)). IsFault c.in_err-text.field-0.0 (placed_by object room values)) same
    c.in_err-text.ensures.fault in
    search rules

pub returns-clause-ok : goal.returns-clause-ok
returns-clause-ok c =
    let object = c.args.unplaced.now.object in
    let room = c.args.room.now in
    let names = find_in c.args.symbols.now in
    let bytes = areas_of c.in_ok-text.text.items c.in_ok-text.static_data.items in
    let same : c.deref.result.now ≡ values_in object room names =
    values-are object room names c.in_ok-exports.exports c.as_slice-2.result.now c.deref.result.now
    c.in_ok-exports.ensures c.as_slice-2.ensures (c.deref.ensures.value ∙ c.in_ok-values.ensures) in
    record {
      bytes = bytes;
      is_placed = subst (λ (values : List (Option ℕ)). placed_by object room values ≡ Ok bytes) same c.in_ok-text.ensures.ok;
      base = refl;
      slot_base = refl;
      data_base = refl;
      words =
          slots-are object.text c.as_slice-3.result.now c.in_ok-text.text.items c.deref-2.result.now c.from_vec.result
          c.in_ok-words.words.items room.slot_base (sym c.as_slice-3.ensures) (sym c.deref-2.ensures.value)
          c.from_vec.ensures c.in_ok-words.ensures;
      static_data = c.from_vec-2.ensures;
      functions =
          functions-are object.symbols c.as_slice-4.result.now c.args.unplaced.now.records.functions
          c.as_slice-functions.result.now c.from_vec-3.result c.as_slice-4.ensures c.as_slice-functions.ensures
          (c.from_vec-3.ensures ∙ c.in_ok-functions.ensures);
      branches = c.from_vec-4.ensures ∙ c.in_ok-copied_branches.ensures ∙ c.as_slice-5.ensures;
      types = c.in_ok-copied.ensures;
      exports = c.in_ok-exports.ensures;
    }
