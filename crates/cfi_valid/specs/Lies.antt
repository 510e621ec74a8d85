-- Two worked reports, each changed in one thing.
use Rattle.std.specs.Prelude.{ℕ, List, [], ◌∷◌, codes}
use Rattle.cfi_plan.specs.Bare.{bare_plan}
use Rattle.cfi_plan.specs.declared.journal.JournalLine.TheVariants.{LoadOk}
use Rattle.cfi_plan.specs.declared.journal.ModuleLine.{ModuleLine}
use Rattle.cfi_plan.specs.declared.journal.Who.{Who}
use Rattle.cfi_plan.specs.declared.plan.Plan.{Plan}
use Rattle.cfi_plan.specs.declared.plan.ScriptLine.{ScriptLine}
use Rattle.cfi_report.specs.declared.report.GuestPart.{GuestPart}
use Rattle.cfi_report.specs.declared.report.Report.{Report}
use Rattle.cfi_unit.specs.declared.log.Log.{Log}
use Rattle.cfi_valid.specs.Example.{hello_module, hello_part, hello_report}
use Rattle.cfi_valid.specs.LoadExample.{opener, plug, load_plan, line_at, load_part, load_report}
use Rattle.cfi_valid.specs.Valid.{IsValidReport}
use Rattle.cfi_word.specs.declared.map.TheConstants.{FIRST_BASE}

-- ---- that of the bare file

-- the report of the file that puts one `H`
abbrev pub hello : Report
hello = hello_report (0x48 ∷ [])

-- its guest's part
abbrev pub hello_guest : GuestPart
hello_guest = hello_part (0x48 ∷ [])

-- with another part of its guest, or another line of its module
abbrev pub hello_by : GuestPart → Report
hello_by part = record hello { guests = part ∷ [] }

-- it with another line for its module
abbrev pub hello_with : ModuleLine → Report
hello_with line = record hello { modules = line ∷ [] }

-- it is a valid report of that file
abbrev pub IsHello : Report → Type 0
IsHello report = IsValidReport bare_plan (hello_module ∷ []) report

-- ---- that of the run with a load

-- the report of the run with a load
abbrev pub opening : Report
opening = load_report 1

-- with another part of its guest, or another log
abbrev pub opening_by : GuestPart → Report
opening_by part = record opening { guests = part ∷ [] }

-- it with another log of its guest
abbrev pub opening_logged : List Log → Report
opening_logged log = opening_by (record load_part { log = log })

-- with the opened module at another place
abbrev pub opening_at : (base : ℕ) → Report
opening_at base = record opening {
  modules = line_at 0 (codes "main") FIRST_BASE 0 0 ∷ line_at 1 (codes "plug") base 1 1 ∷ [];
}

-- without the line of that module
abbrev pub opening_alone : Report
opening_alone = record opening { modules = line_at 0 (codes "main") FIRST_BASE 0 0 ∷ [] }

-- with its journal's line asked for by another
abbrev pub opening_asked : Who → Report
opening_asked who = record opening { journal = record { who = who; what = LoadOk 1 1 1 } ∷ [] }

-- with a line in the plan's script
abbrev pub scripted : ScriptLine → Plan
scripted line = record load_plan { script = line ∷ [] }

-- it is a valid report of that run
abbrev pub IsOpening : Plan → Report → Type 0
IsOpening plan report = IsValidReport plan (opener ∷ plug ∷ []) report
