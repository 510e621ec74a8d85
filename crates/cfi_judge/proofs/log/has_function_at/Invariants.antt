use Rattle.cfi_aux.specs.declared.placed.Placed.{Placed}
use Rattle.cfi_plan.specs.declared.journal.ModuleLine.{ModuleLine}
use Rattle.cfi_modules.specs.Entry.{IsFirstOf, IsGlobal}
use Rattle.cfi_judge.specs.inner.Log.{IsThere}
use Rattle.cfi_judge.proofs.LogLemmas.{NoneBelow}
use Rattle.cfi_judge.proofs.log.has_function_at.Given as goal

-- none of the modules so far is the one
abbrev pub invariant-loop-at : goal.invariant-loop-at
invariant-loop-at l =
    NoneBelow (λ (line : ModuleLine) (p : Placed).
    IsThere (λ q. IsFirstOf IsGlobal q l.opened.address) l.retired line p l.opened.number l.opened.policy) l.lines
    l.modules l.at
