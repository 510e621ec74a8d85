use Rattle.std.proofs.Common.{◌≡◌, ◌+◌, ◌*◌}
use Rattle.cfi_tables.specs.Views.{keeper_of}
use Rattle.cfi_tables.specs.inner.Stores.{IsAt, HasStoredBelow, keeping_at}
use Rattle.cfi_tables.proofs.stores.store_bary.Given as goal

abbrev pub invariant-loop-slot : goal.invariant-loop-slot
invariant-loop-slot g l =
    IsAt g.N.TableName.table l.seat.table_id l.seat.id l.seat.me (keeper_of l.seat.me.0)
    × HasStoredBelow g.N.TableName.key (keeper_of l.seat.me.0) (2 * g.N.TableName.key.code_words + 1 + l.slot)
    × ((keeper_of l.seat.me.0).stored ≡ 2 * g.N.TableName.key.code_words + 1 + l.slot)
    × (keeping_at l.seat.me ≡ keeping_at l.fn.seat.me)
