use Rattle.cfi_class.proofs.TakenLemmas.{none_of_replicate}
use Rattle.cfi_class.proofs.taken.unmarked.Goals as goal

pub returns-clause-none : goal.returns-clause-none
returns-clause-none c =
    none_of_replicate c.args.count c.in_ok-marks.marks.items
    (c.in_ok-marks.ensures.items_if_clones_equal (λ mark clone. clone))
