-- Where a line of a source stands, by where the line before it does. The code counts an end past 2^32 - 1 as that
-- number: a limit was passed long before.
use Rattle.std.specs.Prelude.{ℕ, ◌+◌, ◌-◌, ◌^◌, min, Option, Some, None}
use Rattle.elf_read.specs.declared.object.Area.{Area}
use Rattle.elf_read.specs.declared.object.Area.TheVariants as areas
use Rattle.rv_line.specs.declared.statement.Statement.{Statement}
use Rattle.rv_line.specs.declared.statement.Statement.TheVariants as statements
use Rattle.rv_asm.specs.declared.spot.Spot.{Spot}
use Rattle.rv_asm.specs.Spot.{text_size, data_size}

-- a sum, at most 2^32 - 1
abbrev pub plus : (end size : ℕ) → ℕ
plus end size = min (end + size) (2 ^ 32 - 1)

-- a size, at most that
abbrev pub at_most : (size : ℕ) → ℕ
at_most size = min size (2 ^ 32 - 1)

-- before the first line
abbrev pub start : Spot
start = record { area = areas.Text; text_end = 0; data_end = 0; pairs = 0 }

-- where the next line stands
abbrev pub beyond : Spot → (area : Area) → Statement → Spot
beyond spot areas.Text statement = record spot { text_end = plus spot.text_end (text_size statement) }
beyond spot areas.Data statement = record spot { data_end = plus spot.data_end (at_most (data_size statement)) }

-- where the line behind a statement stands
abbrev pub after : Spot → Statement → Spot
after spot statements.Text = record spot { area = areas.Text }
after spot statements.Data = record spot { area = areas.Data }
after spot (statements.La rd name) =
    beyond (record spot { pairs = plus spot.pairs 1 }) spot.area (statements.La rd name)
after spot statement = beyond spot spot.area statement

-- a line that says nothing adds nothing
abbrev pub after_line : Spot → Option Statement → Spot
after_line spot None = spot
after_line spot (Some statement) = after spot statement
