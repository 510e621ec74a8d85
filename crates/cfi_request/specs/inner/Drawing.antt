-- The number of drawn modules that a word says, and the command that two words make.
use Rattle.std.specs.Prelude.{ℕ, List, Option, Some, None, ◌&&◌, nat_le, if◌then◌else◌}
use Rattle.cfi_gen.specs.declared.shape.TheConstants.{MAX_COUNT, MIN_COUNT}
use Rattle.cfi_text.specs.Decimal.{small_number_in}
use Rattle.cfi_request.specs.declared.command.Command.{Command}
use Rattle.cfi_request.specs.declared.command.Command.TheVariants.{Gen}

-- the number, where it is within the limits
abbrev pub within_limits : Option ℕ → Option ℕ
within_limits None = None
within_limits (Some count) = if nat_le MIN_COUNT count && nat_le count MAX_COUNT then Some count else None

-- a count that may be drawn
abbrev pub count_in : (word : List ℕ) → Option ℕ
count_in word = within_limits (small_number_in word)

-- the command of a seed and a number of modules, where both are there
abbrev pub command_by : (seed count : Option ℕ) → Option Command
command_by None count = None
command_by (Some seed) None = None
command_by (Some seed) (Some count) = Some (Gen seed count)
