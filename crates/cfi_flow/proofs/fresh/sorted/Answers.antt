use Rattle.std.proofs.Common.{ℕ, sym, subst}
use Rattle.std.specs.List.{Contains}
use Rattle.std.proofs.lemmas.List.Sorted.{IsNonDecreasingBy-from_sort, Contains-permutation, IsPermutation-sym}
use Rattle.cfi_flow.proofs.fresh.sorted.Goals as goal

pub returns-clause-order : goal.returns-clause-order
returns-clause-order c =
    IsNonDecreasingBy-from_sort (λ (x : ℕ). x) c.sort_unstable.new.self.items c.sort_unstable.ensures.sorted

pub returns-clause-same : goal.returns-clause-same
returns-clause-same c = λ x.
    let is = c.in_ok-sorted.ensures.items in (
      λ h.
          subst (λ xs. Contains xs x) is
          (Contains-permutation _ _ x (IsPermutation-sym _ _ c.sort_unstable.ensures.permutation) h),
      λ h.
          Contains-permutation _ _ x c.sort_unstable.ensures.permutation (subst (λ xs. Contains xs x) (sym is) h),
    )
