use Rattle.cfi_loader.proofs.load.add.Goals as goal

-- it is refused as it was before
pub returns-in-Unjoined-clause-fault : goal.returns-in-Unjoined-clause-fault
returns-in-Unjoined-clause-fault g c =
    c.refuse.ensures.after g.N.TableName.key c.args.keeper.now c.requires.kept c.requires.asks c.requires.absent

-- no epoch is left for any
pub returns-in-Nothing-clause-fault : goal.returns-in-Nothing-clause-fault
returns-in-Nothing-clause-fault g c =
    c.refuse_last.ensures.after g.N.TableName.key c.args.keeper.now c.requires.kept c.requires.asks c.requires.absent

-- no epoch is left for it
pub returns-in-Spent-clause-fault : goal.returns-in-Spent-clause-fault
returns-in-Spent-clause-fault g c =
    c.refuse_spent.ensures.after g.N.TableName.key c.args.keeper.now c.requires.kept c.requires.asks
    c.requires.absent
