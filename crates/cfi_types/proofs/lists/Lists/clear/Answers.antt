use Rattle.cfi_types.proofs.ListLemmas.{row_cleared}
use Rattle.cfi_types.proofs.lists.Lists.clear.Goals as goal

pub returns : goal.returns
returns g c =
    row_cleared c.self.inside.rows.items c.args.self.now c.args.number c.clear.new.self c.self.view_is
    c.clear.ensures.items
