use Rattle.std.proofs.Common.{◌≡◌, ◌<◌, ℕ, get_or}
use Rattle.cfi_types.proofs.still.have_classes.Given as goal

abbrev pub invariant-loop-i : goal.invariant-loop-i
invariant-loop-i l = (j : ℕ) → j < l.i
    → get_or l.classes (get_or l.named j 0) 0 ≡ get_or l.classes (get_or l.others j 0) 0
