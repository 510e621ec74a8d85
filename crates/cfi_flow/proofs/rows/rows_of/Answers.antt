use Rattle.std.proofs.Common.{◌≡◌, ◌+◌, ◌<◌, ◌++◌, ◌∷◌, [], take, set, get_or, slice_index_or, arith, sym, subst}
use Rattle.std.proofs.lemmas.List.{take_more}
use Rattle.cfi_flow.specs.declared.links.Link.{Link}
use Rattle.cfi_flow.specs.Rows.{AreRows}
use Rattle.cfi_flow.proofs.RowLemmas.{no_rows, more_rows}
use Rattle.cfi_flow.proofs.rows.rows_of.Goals as goal

pub loop-link-init : goal.loop-link-init
loop-link-init c = no_rows _ _ (c.in_ok-rows.ensures)

pub add-requires : goal.add-requires
add-requires c =
    let none : Link = record { from = 0; to = 0 } in
    let below : (get_or c.args.links.now c.loop-link.link-index none).from < c.args.count =
    c.requires c.loop-link.link-index none c.loop-link-test.true in
    omega (arith, below, c.loop-link.invariant.len)

pub loop-link-preserved : goal.loop-link-preserved
loop-link-preserved c =
    let none : Link = record { from = 0; to = 0 } in
    let links = c.args.links.now in
    let i = c.loop-link.link-index in
    let link = get_or c.args.links.now c.loop-link.link-index none in
    let below : link.from < c.args.count = c.requires i none c.loop-link-test.true in
    let more : take (i + 1) links ≡ take i links ++ link ∷ [] = take_more links i none c.loop-link-test.true in
    subst (λ rows. AreRows c.args.count (take (i + 1) links) rows) (sym c.in_ok-add.ensures)
    (subst (λ ls. AreRows c.args.count ls (set c.loop-link.rows link.from (slice_index_or c.loop-link.rows link.from [] ++ link.to ∷ []))) (sym more)
    (more_rows c.args.count (take i links) c.loop-link.rows link c.loop-link.invariant below))
