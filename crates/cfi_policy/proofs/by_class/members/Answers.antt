use Rattle.std.proofs.Common.{◌+◌, sym, subst}
use Rattle.cfi_flow.specs.Flow.{BeginBelow}
use Rattle.cfi_flow.specs.Rows.{AreRows}
use Rattle.cfi_policy.specs.inner.ByClass.{AreLinksBy, AreRowsBy}
use Rattle.cfi_values.proofs.ThenLemmas.{if_ok}
use Rattle.cfi_policy.proofs.MemberLemmas.{links_begin, rows_by}
use Rattle.cfi_policy.proofs.by_class.members.Goals as goal

pub rows_of-requires : goal.rows_of-requires
rows_of-requires c =
    subst (BeginBelow (c.args.count + 1)) (sym c.as_slice.ensures.value)
    (links_begin c.args.step c.args.count c.args.numbers.now c.in_ok-links.links.items c.in_ok-links.ensures)

pub returns : goal.returns
returns c =
    let links = c.as_slice.result.now in
    let are = subst (AreLinksBy c.args.step c.args.count c.args.numbers.now) (sym c.as_slice.ensures.value)
    c.in_ok-links.ensures in
    if_ok c.rows_of.result (AreRows (c.args.count + 1) links) (AreRowsBy c.args.step c.args.count c.args.numbers.now)
    (λ rows is. rows_by c.args.step c.args.count c.args.numbers.now links rows are is) c.rows_of.ensures
