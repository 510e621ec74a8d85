use Rattle.std.proofs.Common.{◌≡◌, ◌∙◌, ◌+◌, [], ◌∷◌, ◌++◌, take, sym, ap, subst}
use Rattle.std.specs.Prelude.{All}
use Rattle.std.proofs.lemmas.List.{take_more}
use Rattle.cfi_graph.specs.Shaped.{IsShaped, IsBefore}
use Rattle.cfi_policy.specs.inner.Idle.{AreIdle}
use Rattle.cfi_policy.proofs.IdleLemmas.{branch_low, one_module_idle, before_one}
use Rattle.cfi_policy.proofs.idle.idle_branches.Goals as goal

pub add_idle-requires-clause-low : goal.add_idle-requires-clause-low
add_idle-requires-clause-low c =
    let item = c.placed-item.result in
    branch_low item (subst IsShaped (sym c.placed-item.is)
    (c.requires.graph.apart.shaped c.loop-placed.placed-index item c.loop-placed-test.true))

-- this turn's module has its branches too
pub loop-placed-preserved : goal.loop-placed-preserved
loop-placed-preserved c =
    let ms = c.args.modules.now in
    let bary = c.args.bary.now in
    let index = c.loop-placed.placed-index in
    let item = c.placed-item.result in
    let new = c.add_idle.new.idle.items in
    let more : take (index + 1) ms ≡ take index ms ++ item ∷ [] =
    take_more ms index item c.loop-placed-test.true ∙ ap (λ m. take index ms ++ m ∷ []) (sym c.placed-item.is) in
    let before = subst (λ m. All (λ earlier. IsBefore earlier m) (take index ms)) (sym c.placed-item.is)
    (before_one ms c.requires.graph.apart index item c.loop-placed-test.true) in
    subst (λ list. AreIdle list bary new) (sym more)
    (one_module_idle (take index ms) item bary c.loop-placed.idle.items new c.loop-placed.invariant
    c.in_ok-add_idle.ensures before)
