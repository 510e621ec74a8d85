use Rattle.std.proofs.Common.{length}
use Rattle.std.proofs.lemmas.List.Sorted.{sorted_far, ranks_by}
use Rattle.cfi_fits.specs.contracts.signature.SignatureOrd.TheImpl.Laws.{total-law}
use Rattle.cfi_fits.proofs.OrderLemmas.{precedes}
use Rattle.cfi_fits.proofs.GatheringLemmas.{gather_moved}
use Rattle.cfi_fits.proofs.gathering.in_order.Goals as goal

pub returns-clause-all : goal.returns-clause-all
returns-clause-all c =
    gather_moved c.args.book.now c.args.classes.now (length c.args.book.now) 0 _ _ c.in_ok-signatures.ensures
    c.sort_unstable.ensures.permutation

pub returns-clause-order : goal.returns-clause-order
returns-clause-order c = λ i j d low within.
    precedes _ _ (sorted_far _ (ranks_by total-law (λ s. s)) _ c.sort_unstable.ensures.sorted i j d low within)
