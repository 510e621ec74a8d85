use Rattle.std.proofs.Common.{◌≡◌, ◌+◌}
use Rattle.cfi_tables.specs.Views.{keeper_of}
use Rattle.cfi_tables.specs.inner.Stores.{IsAt, HasStoredBelow, keeping_at}
use Rattle.cfi_tables.proofs.stores.store_tary.Given as goal

abbrev pub invariant-loop-index : goal.invariant-loop-index
invariant-loop-index g l =
    IsAt g.N.TableName.table l.seat.table_id l.seat.id l.seat.me (keeper_of l.seat.me.0)
    × HasStoredBelow g.N.TableName.key (keeper_of l.seat.me.0) (g.N.TableName.key.code_words + l.index)
    × (keeping_at l.seat.me ≡ keeping_at l.fn.seat.me)
