-- What an update brings whose EPOCH store is not made yet, and what it is for.
use Rattle.std.specs.Prelude.{Option, option_map}
use Rattle.cfi_sim.specs.declared.aim.Aim.{Aim}
use Rattle.cfi_sim.specs.declared.aim.Aim.TheVariants.{Loading, Refreshing}
use Rattle.cfi_sim.specs.declared.pending.Pending.{Pending}
use Rattle.cfi_sim.specs.declared.pending.Pending.TheVariants.{Load, Refresh}

-- what an update is for, by what it brings
abbrev pub aim_by : Pending → Aim
aim_by (Load offer) = Loading offer.line.number
aim_by Refresh = Refreshing

-- the same of the one that is under way, if one is
abbrev pub aim_of : Option Pending → Option Aim
aim_of pending = option_map aim_by pending
