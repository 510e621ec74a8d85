use Rattle.std.proofs.Common.{◌≡◌, ◌<◌, ℕ, true}
use Rattle.cfi_tables.specs.Keeping.{is_out}
use Rattle.cfi_tables.proofs.keeper.free_guest.Given as goal

abbrev pub invariant-loop-guest : goal.invariant-loop-guest
invariant-loop-guest l = (other : ℕ) → other < l.guest → is_out l.out other ≡ true
