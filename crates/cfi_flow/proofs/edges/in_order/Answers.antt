use Rattle.std.proofs.lemmas.List.Filters.{dedup_is}
use Rattle.std.proofs.lemmas.List.Kept.{Contains-dedup, Contains-from_dedup, IsStrictlySortedBy-dedup}
use Rattle.std.proofs.lemmas.List.Sorted.{Contains-permutation, IsPermutation-sym, length_permutation}
use Rattle.std.proofs.lemmas.Map.Keys.{Less-from_sorted}
use Rattle.cfi_word.specs.contracts.lists.EdgeOrd.TheImpl.Laws.{total-law, matches_eq-law}
use Rattle.cfi_word.specs.contracts.lists.EdgeEq.TheImpl.Laws.{laws-law}
use Rattle.cfi_flow.proofs.OrderLemmas.{precedes, same_edge, length-dedup, most_then}
use Rattle.cfi_flow.proofs.edges.in_order.Goals as goal

pub returns-clause-kept : goal.returns-clause-kept
returns-clause-kept c = λ e h.
    let is = dedup_is _ _ _ c.dedup.ensures.filtered in
    rw is (Contains-dedup laws-law same_edge _ e (Contains-permutation _ _ e c.sort_unstable.ensures.permutation h))

pub returns-clause-only : goal.returns-clause-only
returns-clause-only c = λ e h.
    let is = dedup_is _ _ _ c.dedup.ensures.filtered in
    Contains-permutation _ _ e (IsPermutation-sym _ _ c.sort_unstable.ensures.permutation)
    (Contains-from_dedup _ _ e (rw is at h))

pub returns-clause-order : goal.returns-clause-order
returns-clause-order c = λ i j d less within.
    let is = dedup_is _ _ _ c.dedup.ensures.filtered in
    let sorted = IsStrictlySortedBy-dedup total-law matches_eq-law _ c.sort_unstable.ensures.sorted in
    rw is (precedes _ _ (Less-from_sorted _ _ i j d sorted less (rw is at within)))

pub returns-clause-len : goal.returns-clause-len
returns-clause-len c =
    let is = dedup_is _ _ _ c.dedup.ensures.filtered in
    rw is (most_then _ _ _ (length-dedup _ _) (length_permutation _ _ c.sort_unstable.ensures.permutation))
