-- What a report says of a guest, in numbers of 32 bits and bytes of 8.
use Rattle.std.specs.Prelude.{◌≡◌, ◌⊎◌, ℕ, ◌^◌, ◌<◌, ◌≤◌, List, Some}
use Rattle.std.specs.List.{AllByRecursion}
use Rattle.cfi_model.specs.Raw.{Raw}
use Rattle.cfi_model.specs.Running.{IsSpent}
use Rattle.cfi_report.specs.Line.{log_fields, stop_fields}
use Rattle.cfi_report.specs.Report.{IsField}
use Rattle.cfi_report.specs.declared.report.GuestPart.{GuestPart}
use Rattle.cfi_unit.specs.declared.log.Log.{Log}
use Rattle.cfi_unit.specs.declared.log.Stop.TheVariants as stops

-- what a part says of a guest of this number and this entry
abbrev pub part_of : (number : ℕ) → (entry : List ℕ) → Raw → GuestPart
part_of number entry r = record {
  number = number;
  entry = entry;
  log = r.base.log;
  out = r.base.output;
  stop = r.base.stop;
  units = r.base.units;
  steps = r.base.steps;
}

-- the numbers of an entry of a log
abbrev pub IsEntry : Log → Type 0
IsEntry entry = AllByRecursion IsField (log_fields entry)

-- those of a part
pub record HasFields (part : GuestPart) : Type 0 where
  pub number : part.number < 2 ^ 32
  pub log : AllByRecursion IsEntry part.log
  pub out : AllByRecursion (λ byte. byte < 256) part.out
  pub stop : AllByRecursion IsField (stop_fields part.stop)
  pub units : part.units < 2 ^ 32
  pub steps : part.steps < 2 ^ 32

-- the guest has run at most as much as the fuel, and as much where it stopped it
pub record IsWithin (fuel : ℕ) (r : Raw) : Type 0 where
  pub most : r.base.steps ≤ fuel
  pub spent : r.base.stop ≡ Some stops.Fuel → r.base.steps ≡ fuel

-- the guest is where the raw machine is, or the fuel has stopped it there
abbrev pub IsEndOf : (last r : Raw) → Type 0
IsEndOf last r = (r ≡ last) ⊎ IsSpent last r
