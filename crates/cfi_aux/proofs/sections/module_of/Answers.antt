use Rattle.cfi_aux.proofs.ModuleLemmas.{module_due}
use Rattle.cfi_aux.proofs.sections.module_of.Goals as goal

pub returns-clause-only : goal.returns-clause-only
returns-clause-only c = λ m is. module_due c.args.object m c.whole.result is c.whole.ensures.ok c.whole.ensures.fault
