use Rattle.std.proofs.Common.{◌≡◌, ◌+◌, length}
use Rattle.cfi_unit.specs.Unit.{size_of}
use Rattle.cfi_unit.specs.Code.{BeginsAt}
use Rattle.cfi_unit.proofs.CodeLemmas.{BeginsAt-within}
use Rattle.cfi_place.specs.Slots.{check_at, with_slots}
use Rattle.cfi_place.proofs.SlotLemmas.{reads_more, reads_all}
use Rattle.cfi_place.proofs.slots.set_slots.Goals as goal

pub units-preserved : goal.units-preserved
units-preserved c =
    let source = c.args.source.now in
    let unit = c.in-Some.unit in
    let begins : BeginsAt source c.units.at unit = c.in-Some.ensures.some in
    let size : c.in-Some.size ≡ size_of unit = c.in-Some.ensures.size in
    let slot : c.set_unit-slot.result ≡ c.units.slot + length (check_at c.units.at unit) = c.set_unit-slot.ensures.slot in
    let words : c.set_unit-slot.new.words ≡ with_slots c.units.slot (check_at c.units.at unit) c.units.words =
    c.set_unit-slot.ensures.words in
    rw (size, slot, words)
    (reads_more source c.args.slot c.args.words.now c.units.at c.units.slot c.units.words unit c.units.invariant begins
    (BeginsAt-within source c.units.at unit begins))

-- no unit begins where reading stopped
pub returns : goal.returns
returns c =
    reads_all c.args.source.now c.args.slot c.args.words.now c.units.at c.units.slot c.units.words c.units.invariant
    (λ unit begins. c.in_default.not-Some (unit, size_of unit) (c.next_unit.ensures.only unit begins))
