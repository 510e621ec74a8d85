use Rattle.std.proofs.Common.{◌≡◌, ◌+◌, ◌++◌, ◌∷◌, [], take, get_or, sym, subst}
use Rattle.std.proofs.lemmas.List.{take_more}
use Rattle.cfi_flow.specs.inner.Spread.{AreBegun}
use Rattle.cfi_flow.proofs.SpreadLemmas.{no_link, begun_more}
use Rattle.cfi_flow.proofs.spread.begin.Goals as goal

pub loop-seed-preserved : goal.loop-seed-preserved
loop-seed-preserved c =
    let seeds = c.args.seeds.now in
    let i = c.loop-seed.seed-index in
    let seed = get_or c.args.seeds.now c.loop-seed.seed-index no_link in
    let more : take (i + 1) seeds ≡ take i seeds ++ seed ∷ [] = take_more seeds i no_link c.loop-seed-test.true in
    subst (λ ss. AreBegun c.args.tags.now.items c.args.order.now.items ss c.visit.new.tags.items c.visit.new.order.items)
    (sym more)
    (begun_more _ _ _ _ _ _ (take i seeds) seed c.loop-seed.invariant c.in_ok-visit.ensures)
