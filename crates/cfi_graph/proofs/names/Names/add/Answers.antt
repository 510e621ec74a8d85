use Rattle.std.proofs.Common.{ℕ, List, Bor}
use Rattle.cfi_graph.specs.inner.Names.{has_name}
use Rattle.cfi_graph.proofs.NameLemmas.{set_kept, both_hold, and_holds}
use Rattle.cfi_graph.proofs.names.Names.add.Goals as goal

pub returns-clause-kept : goal.returns-clause-kept
unfolding has_name
returns-clause-kept c = λ name has.
    let query : Bor (List ℕ) = record { ref_ptr = c.args.name.ref_ptr; now = name } in
    let both = both_hold _ _ has in
    and_holds _ _ (c.add.ensures.kept name both.0) (set_kept _ _ _ (c.in_ok-insert.ensures.updates.0 query) both.1)

pub returns-clause-has : goal.returns-clause-has
unfolding has_name
returns-clause-has c = and_holds _ _ c.add.ensures.has c.in_ok-insert.ensures.updates.1
