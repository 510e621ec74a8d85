use Rattle.std.proofs.Common.{◌≡◌, ◌<◌, ℕ}
use Rattle.cfi_type_table.specs.declared.kind.TheConstants.{VARFUNC}
use Rattle.cfi_type_table.specs.Node.{node_of}
use Rattle.cfi_types.specs.Classes.{IsNodePlace, table_of}
use Rattle.cfi_fits.proofs.widening.any_variadic.Given as goal

abbrev pub invariant-loop-table : goal.invariant-loop-table
invariant-loop-table l = (t a : ℕ) → t < l.table → IsNodePlace l.book t a
    → (node_of (table_of l.book t) a).kind ≡ VARFUNC → ⊥
