use Rattle.std.proofs.Common.{sym, subst}
use Rattle.std.specs.List.{Contains}
use Rattle.std.proofs.lemmas.List.Sorted.{searchable_from_sorted, Contains-permutation, IsPermutation-sym}
use Rattle.cfi_word.specs.contracts.lists.EdgeOrd.TheImpl.Laws.{total-law}
use Rattle.cfi_flow.proofs.fresh.sorted_edges.Goals as goal

pub returns-clause-order : goal.returns-clause-order
returns-clause-order c = λ edge.
    searchable_from_sorted total-law (λ e. e) c.sort_unstable.new.self.items edge c.sort_unstable.ensures.sorted

pub returns-clause-same : goal.returns-clause-same
returns-clause-same c = λ e.
    let is = c.in_ok-sorted.ensures in (
      λ h.
          subst (λ xs. Contains xs e) is
          (Contains-permutation _ _ e (IsPermutation-sym _ _ c.sort_unstable.ensures.permutation) h),
      λ h.
          Contains-permutation _ _ e c.sort_unstable.ensures.permutation (subst (λ xs. Contains xs e) (sym is) h),
    )
