use Rattle.cfi_threads.proofs.plans.does_beside_a_held_lock.Given as goal

-- the names are the table that was made, that of the slips, the plan and its modules
abbrev pub ghosts-driven-N-TableName : goal.ghosts-driven-N-TableName
ghosts-driven-N-TableName g a = record { table = a.start.named.table; key = a.start.named.key }

abbrev pub ghosts-driven-N-SlipsName : goal.ghosts-driven-N-SlipsName
ghosts-driven-N-SlipsName g a = record { slips = a.start.slips }

abbrev pub ghosts-driven-N-LoaderName : goal.ghosts-driven-N-LoaderName
ghosts-driven-N-LoaderName g a =
    record { plan = a.start.ledger.course.plan; modules = a.start.ledger.course.modules }
