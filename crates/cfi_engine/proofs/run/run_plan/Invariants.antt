use Rattle.cfi_engine.proofs.run.run_plan.Given as goal

-- the names are the table that was made, that of the slips, the plan and its modules
abbrev pub ghosts-run_named-N-TableName : goal.ghosts-run_named-N-TableName
ghosts-run_named-N-TableName g a = record { table = a.start.named.table; key = a.start.named.key }

abbrev pub ghosts-run_named-N-SlipsName : goal.ghosts-run_named-N-SlipsName
ghosts-run_named-N-SlipsName g a = record { slips = a.start.slips }

abbrev pub ghosts-run_named-N-LoaderName : goal.ghosts-run_named-N-LoaderName
ghosts-run_named-N-LoaderName g a =
    record { plan = a.start.ledger.course.plan; modules = a.start.ledger.course.modules }
