use Rattle.cfi_tables.specs.inner.Stores.{IsTesting, keeping_at}
use Rattle.cfi_tables.proofs.admission.test_all.Given as goal

abbrev pub invariant-loop-guest : goal.invariant-loop-guest
invariant-loop-guest g l =
    IsTesting g.N.TableName.table g.N.TableName.key (keeping_at l.fn.seat.me) g.A.Asks.entry l.seat.table_id l.seat.id
    l.seat.me l.guest
