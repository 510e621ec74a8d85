use Rattle.std.proofs.Common.{◌≡◌, ◌+◌, ◌++◌, ◌∷◌, [], take, get_or, sym, subst}
use Rattle.std.proofs.lemmas.List.{take_more}
use Rattle.cfi_flow.specs.inner.KeptWays.{AreTouched}
use Rattle.cfi_flow.proofs.SideLemmas.{touched_more}
use Rattle.cfi_flow.proofs.SpreadLemmas.{no_link}
use Rattle.cfi_flow.proofs.kept_ways.touched.Goals as goal

pub loop-change-preserved : goal.loop-change-preserved
loop-change-preserved c =
    let changes = c.args.changes.now in
    let i = c.loop-change.change-index in
    let change = get_or c.args.changes.now c.loop-change.change-index no_link in
    let more : take (i + 1) changes ≡ take i changes ++ change ∷ [] =
    take_more changes i no_link c.loop-change-test.true in
    subst (λ cs. AreTouched c.args.star.now c.args.fresh.items cs c.add_from.new.list.items) (sym more)
    (touched_more c.args.star.now c.args.fresh.items (take i changes) c.loop-change.list.items
    c.add_from.new.list.items change c.loop-change.invariant c.in_ok-add_from.ensures)
