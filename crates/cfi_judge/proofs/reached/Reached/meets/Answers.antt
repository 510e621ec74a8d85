use Rattle.cfi_judge.proofs.ItemLemmas.{item_there}
use Rattle.cfi_judge.proofs.ReachedLemmas.{looked_up}
use Rattle.cfi_judge.proofs.reached.Reached.meets.Goals as goal

-- the row of the policy in force says so
pub returns : goal.returns
returns c = λ plan modules is.
    let r = c.args.self.now in
    let row = c.index.result.now in
    looked_up plan modules r is row (item_there r.rows.items r.policy row c.requires c.index.ensures)
    c.args.number c.args.meeting c.says.result c.says.ensures
