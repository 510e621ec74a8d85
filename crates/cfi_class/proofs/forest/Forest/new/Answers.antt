use Rattle.std.proofs.Common.{◌≡◌, ℕ, ◌<◌, refl, subst, sym, arith}
use Rattle.std.specs.List.{range_with_len}
use Rattle.std.proofs.lemmas.Iterator.{items_from_collect, YieldsList-from_range}
use Rattle.cfi_class.specs.inner.Forest.{IsForest, root_of}
use Rattle.cfi_class.proofs.ForestLemmas.{first_forest, first_roots}
use Rattle.cfi_class.proofs.forest.Forest.new.Goals as goal

-- the parents are the numbers from 0
numbers : (c : goal.In_ok-collect) → c.in_ok-collect.field-0.items ≡ range_with_len 0 c.args.nodes
numbers c =
    let h = items_from_collect _ c.collect.ensures.ran
    (YieldsList-from_range 0 c.args.nodes c.args.nodes refl (omega arith)) in
    let was = c.in_ok-collect.was in rw was at h

pub invariant_of-result : goal.invariant_of-result
invariant_of-result c = subst IsForest (sym (numbers c)) (first_forest c.args.nodes)

pub returns-clause-roots : goal.returns-clause-roots
returns-clause-roots c =
    subst (λ list. (node : ℕ) → node < c.args.nodes → root_of list node ≡ node) (sym (numbers c))
    (first_roots c.args.nodes)
