use Rattle.std.proofs.Common.{List, ◌∷◌}
use Rattle.std.specs.List.Sorted.{IsPermutation}
use Rattle.cfi_aux.specs.declared.placed.Placed.{Placed}
use Rattle.elf_read.specs.Lists.{EachBelow}
use Rattle.cfi_verify.specs.Target.{LeadsWell, entries_of}
use Rattle.cfi_verify.proofs.target.first_stray.Given as goal

abbrev pub invariant-loop-spot : goal.invariant-loop-spot
invariant-loop-spot l =
    (loaded : List Placed) → IsPermutation (entries_of (l.placed ∷ loaded)) l.entries →
    EachBelow l.spots (LeadsWell l.placed loaded l.spots) l.spot-index
