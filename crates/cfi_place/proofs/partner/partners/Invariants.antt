use Rattle.std.proofs.Common.{◌≡◌, ℕ, take, nat_cmp}
use Rattle.std.specs.BTreeMap.{get}
use Rattle.cfi_place.specs.Relocated.{high_parts, partner_in}
use Rattle.cfi_place.proofs.partner.partners.Given as goal

abbrev pub invariant-loop-reloc : goal.invariant-loop-reloc
invariant-loop-reloc l =
    (address : ℕ) → get nat_cmp l.partners address
    ≡ partner_in (high_parts l.room l.values (take l.reloc-index l.relocs)) address
