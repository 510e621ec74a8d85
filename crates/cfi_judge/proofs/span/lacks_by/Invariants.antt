use Rattle.cfi_aux.specs.declared.placed.Placed.{Placed}
use Rattle.cfi_plan.specs.declared.journal.ModuleLine.{ModuleLine}
use Rattle.cfi_judge.specs.inner.Log.{IsBareIn}
use Rattle.cfi_judge.proofs.LogLemmas.{NoneBelow}
use Rattle.cfi_judge.proofs.span.lacks_by.Given as goal

-- none of the modules so far is the one
abbrev pub invariant-loop-at : goal.invariant-loop-at
invariant-loop-at l =
    NoneBelow (λ (line : ModuleLine) (p : Placed). IsBareIn l.span.least l.span.most l.retired line p l.number) l.lines
    l.modules l.at
