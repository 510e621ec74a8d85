-- What a report's lines of modules and of the journal say, in numbers of 32 bits.
use Rattle.std.specs.Prelude.{◌^◌, ◌<◌}
use Rattle.std.specs.List.{AllByRecursion}
use Rattle.cfi_plan.specs.declared.journal.Entry.{Entry}
use Rattle.cfi_plan.specs.declared.journal.ModuleLine.{ModuleLine}
use Rattle.cfi_report.specs.Line.{what_fields, who_field}
use Rattle.cfi_report.specs.Report.{IsField}

-- the numbers of a line of the journal are 32-bit numbers
pub record HasEntryFields (entry : Entry) : Type 0 where
  pub who : IsField (who_field entry.who)
  pub what : AllByRecursion IsField (what_fields entry.what)

-- those of a module's line are
pub record HasModuleFields (line : ModuleLine) : Type 0 where
  pub number : line.number < 2 ^ 32
  pub base : line.base < 2 ^ 32
  pub slot : line.slot < 2 ^ 32
  pub data_base : line.data_base < 2 ^ 32
  pub policy : line.policy < 2 ^ 32
