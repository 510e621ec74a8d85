-- A report as far as its lines have been read.
use Rattle.std.specs.Prelude.{ℕ, Bool, true, false, List, [], ◌∷◌, ◌++◌, Option, Some, None}
use Rattle.cfi_plan.specs.declared.journal.ModuleLine.{ModuleLine}
use Rattle.cfi_plan.specs.declared.journal.Entry.{Entry}
use Rattle.cfi_unit.specs.declared.log.Log.{Log}
use Rattle.cfi_unit.specs.declared.log.Stop.{Stop}
use Rattle.cfi_report.specs.declared.line.Line.{Line}
use Rattle.cfi_report.specs.declared.line.Line.TheVariants as line
use Rattle.cfi_report.specs.declared.stage.Stage.{Stage}
use Rattle.cfi_report.specs.declared.stage.Stage.TheVariants as stages
use Rattle.cfi_report.specs.declared.report.Report.{Report}
use Rattle.cfi_report.specs.declared.report.GuestPart.{GuestPart}
use Rattle.cfi_report.specs.Report.{differ}

-- the fields of a report, those of the guest whose lines are read, and what the last line was
pub record ReportSoFar : Type 0 where
  pub stage : Stage
  pub epoch : ℕ
  pub policy : ℕ
  pub modules : List ModuleLine
  pub journal : List Entry
  pub guests : List GuestPart
  pub number : ℕ
  pub entry : List ℕ
  pub log : List Log
  pub out : List ℕ
  pub stop : Option Stop
  pub units : ℕ

-- before any line
abbrev pub no_lines : ReportSoFar
no_lines = record {
  stage = stages.Start;
  epoch = 0;
  policy = 0;
  modules = [];
  journal = [];
  guests = [];
  number = 0;
  entry = [];
  log = [];
  out = [];
  stop = None;
  units = 0;
}

-- the report of what was read
abbrev pub report_of : ReportSoFar → Report
report_of draft = record {
  epoch = draft.epoch;
  policy = draft.policy;
  modules = draft.modules;
  journal = draft.journal;
  guests = draft.guests;
}

-- which kinds of line may follow

-- nothing was read yet
abbrev pub is_start : Stage → Bool
is_start stages.Start = true
is_start _ = false

-- the title was
abbrev pub is_titled : Stage → Bool
is_titled stages.Titled = true
is_titled _ = false

-- a line of a module may come
abbrev pub takes_modules : Stage → Bool
takes_modules stages.Modules = true
takes_modules _ = false

-- one of the journal may
abbrev pub takes_journal : Stage → Bool
takes_journal stages.Modules = true
takes_journal stages.Journal = true
takes_journal _ = false

-- one of a guest may
abbrev pub takes_guests : Stage → Bool
takes_guests stages.Modules = true
takes_guests stages.Journal = true
takes_guests stages.Guests = true
takes_guests _ = false

-- an entry of a log may, but a pick of the policy of the pick before
abbrev pub takes_log : Stage → Log → Bool
takes_log (stages.Log None) entry = true
takes_log (stages.Log (Some last)) entry = differ last entry
takes_log _ entry = false

-- the output may
abbrev pub takes_out : Stage → Bool
takes_out (stages.Log last) = true
takes_out _ = false

-- what the guest has ended with may
abbrev pub takes_stop : Stage → Bool
takes_stop stages.Out = true
takes_stop _ = false

-- its units may
abbrev pub takes_units : Stage → Bool
takes_units stages.Stop = true
takes_units _ = false

-- its steps may
abbrev pub takes_steps : Stage → Bool
takes_steps stages.Units = true
takes_steps _ = false

-- the report has ended
abbrev pub is_whole : Stage → Bool
is_whole stages.Ended = true
is_whole _ = false

-- the line may follow
abbrev pub may_follow : Stage → Line → Bool
may_follow at line.Title = is_start at
may_follow at (line.Force epoch policy) = is_titled at
may_follow at (line.Module one) = takes_modules at
may_follow at (line.Journal entry) = takes_journal at
may_follow at (line.Guest number entry) = takes_guests at
may_follow at (line.Log entry) = takes_log at entry
may_follow at (line.Out bytes) = takes_out at
may_follow at (line.Stop stop) = takes_stop at
may_follow at (line.Units units) = takes_units at
may_follow at (line.Steps steps) = takes_steps at
may_follow at line.End = takes_guests at

-- the guest whose lines were read
abbrev pub part_of : ReportSoFar → (steps : ℕ) → GuestPart
part_of draft steps = record {
  number = draft.number;
  entry = draft.entry;
  log = draft.log;
  out = draft.out;
  stop = draft.stop;
  units = draft.units;
  steps = steps;
}

-- the draft with what the line says
abbrev pub with_report_line : ReportSoFar → Line → ReportSoFar
with_report_line draft line.Title = record draft { stage = stages.Titled }
with_report_line draft (line.Force epoch policy) = record draft { stage = stages.Modules; epoch = epoch; policy = policy }
with_report_line draft (line.Module one) = record draft { stage = stages.Modules; modules = draft.modules ++ one ∷ [] }
with_report_line draft (line.Journal entry) = record draft { stage = stages.Journal; journal = draft.journal ++ entry ∷ [] }
with_report_line draft (line.Guest number entry) =
    record draft { stage = stages.Log None; number = number; entry = entry; log = [] }
with_report_line draft (line.Log entry) = record draft { stage = stages.Log (Some entry); log = draft.log ++ entry ∷ [] }
with_report_line draft (line.Out bytes) = record draft { stage = stages.Out; out = bytes }
with_report_line draft (line.Stop stop) = record draft { stage = stages.Stop; stop = stop }
with_report_line draft (line.Units units) = record draft { stage = stages.Units; units = units }
with_report_line draft (line.Steps steps) =
    record draft {
      stage = stages.Guests;
      guests = draft.guests ++ part_of draft steps ∷ [];
      entry = [];
      log = [];
      out = [];
    }
with_report_line draft line.End = record draft { stage = stages.Ended }
