use Rattle.std.proofs.Common.{◌≡◌, ℕ, ◌<◌, Some}
use Rattle.std.specs.List.{slice_get}
use Rattle.cfi_aux.specs.declared.placed.Placed.{Placed}
use Rattle.cfi_modules.specs.Entry.{IsGlobalOf, HasNoneOf}
use Rattle.cfi_modules.proofs.entry.entry_in.Given as goal

-- the modules so far have no such function
abbrev pub invariant-loop-placed : goal.invariant-loop-placed
invariant-loop-placed l =
    (k : ℕ) (m : Placed) → k < l.placed-index → slice_get l.modules k ≡ Some m → HasNoneOf (IsGlobalOf l.name) m
