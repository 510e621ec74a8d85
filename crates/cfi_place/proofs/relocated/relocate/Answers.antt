use Rattle.std.proofs.Common.{◌≡◌, ◌∙◌, Err, Ok, get_or}
use Rattle.cfi_place.specs.Relocated.{areas_of, high_parts, partner_in}
use Rattle.cfi_place.proofs.RelocatedLemmas.{relocated_by-is, relocated-stop, relocated-next, relocated-all}
use Rattle.cfi_place.proofs.relocated.relocate.Goals as goal
use Rattle.elf_read.proofs.NoReloc.{no_reloc}

pub returns-in-Err-clause-fault : goal.returns-in-Err-clause-fault
returns-in-Err-clause-fault c =
    let room = c.args.room.now in
    let values = c.args.values.now in
    let relocs = c.args.relocs.now in
    let parts = high_parts room values relocs in
    let bytes = areas_of c.loop-k.text c.loop-k.static_data in
    let partner : c.copied-partner.result ≡ partner_in parts c.value_in-value.result =
    c.copied-partner.ensures ∙ c.get.ensures.value ∙ c.in_ok-partners.ensures c.value_in-value.result in
    c.loop-k.invariant
    ∙ relocated-stop room values parts c.loop-k.k relocs bytes no_reloc c.in-Err.fault c.loop-k-test.true
    (relocated_by-is room values parts (get_or relocs c.loop-k.k no_reloc) bytes c.field_address-at.result
    c.value_in-value.result c.copied-partner.result (Err c.in-Err.fault) c.field_address-at.ensures
    c.value_in-value.ensures partner c.in-Err.ensures.fault)

pub loop-k-preserved : goal.loop-k-preserved
loop-k-preserved c =
    let room = c.args.room.now in
    let values = c.args.values.now in
    let relocs = c.args.relocs.now in
    let parts = high_parts room values relocs in
    let bytes = areas_of c.loop-k.text c.loop-k.static_data in
    let next = areas_of c.apply_in.new.text c.apply_in.new.static_data in
    let partner : c.copied-partner.result ≡ partner_in parts c.value_in-value.result =
    c.copied-partner.ensures ∙ c.get.ensures.value ∙ c.in_ok-partners.ensures c.value_in-value.result in
    c.loop-k.invariant
    ∙ relocated-next room values parts c.loop-k.k relocs bytes next no_reloc c.loop-k-test.true
    (relocated_by-is room values parts (get_or relocs c.loop-k.k no_reloc) bytes c.field_address-at.result
    c.value_in-value.result c.copied-partner.result (Ok next) c.field_address-at.ensures
    c.value_in-value.ensures partner c.in_default.ensures.ok)

pub returns-clause-ok : goal.returns-clause-ok
returns-clause-ok c =
    let room = c.args.room.now in
    let values = c.args.values.now in
    let relocs = c.args.relocs.now in
    let parts = high_parts room values relocs in
    c.loop-k.invariant
    ∙ relocated-all room values parts c.loop-k.k relocs (areas_of c.loop-k.text c.loop-k.static_data) c.loop-k-test.false
