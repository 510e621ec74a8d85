use Rattle.cfi_types.proofs.ListLemmas.{row_added}
use Rattle.cfi_types.proofs.lists.Lists.add.Goals as goal

pub returns : goal.returns
returns g c =
    row_added c.self.inside.rows.items c.args.self.now c.args.number c.args.item c.index_mut-row.result.now
    c.push.new.self c.self.view_is c.requires c.index_mut-row.ensures.value c.in_ok-push.ensures.items
