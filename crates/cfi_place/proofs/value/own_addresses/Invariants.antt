use Rattle.std.proofs.Common.{◌≡◌, ℕ, List, take}
use Rattle.cfi_place.specs.Names.{find_in, first_in}
use Rattle.cfi_place.proofs.value.own_addresses.Given as goal

abbrev pub invariant-loop-name : goal.invariant-loop-name
invariant-loop-name l = (q : List ℕ) → find_in l.own q ≡ first_in (take l.name-index l.pairs) q
