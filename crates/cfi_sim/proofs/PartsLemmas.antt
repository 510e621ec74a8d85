-- What is told of the end of a schedule.
use Rattle.std.proofs.Common.{◌≡◌, List, length, map, refl, subst}
use Rattle.cfi_model.specs.declared.phase.Phase.{Phase}
use Rattle.cfi_model.specs.Phases.{phase_of}
use Rattle.cfi_plan.specs.declared.journal.Entry.{Entry}
use Rattle.cfi_plan.specs.declared.journal.ModuleLine.{ModuleLine}
use Rattle.cfi_report.specs.declared.report.GuestPart.{GuestPart}
use Rattle.cfi_report.specs.declared.report.Report.{Report}
use Rattle.cfi_sim.specs.Told.{IsToldSim}
use Rattle.cfi_sim.specs.declared.standing.Standing.TheInside.{Inside}
use Rattle.cfi_sim.specs.inner.Standing.{Whole, whole_inside}
use Rattle.cfi_ledger.specs.Roster.{loaded_in_roster}
use Rattle.cfi_ledger.specs.declared.force.Force.{Force}
use Rattle.cfi_sim.specs.inner.Parts.{ArePartsOf}
use Rattle.cfi_valid.specs.Loaded.{module_line_of}

-- what the report says of what is in force
abbrev report_of : Force → List ModuleLine → List Entry → List GuestPart → Report
report_of f lines journal parts =
    record { epoch = f.epoch; policy = f.policy; modules = lines; journal = journal; guests = parts }

pub told_end : (a : Inside) (x : Whole) → whole_inside a ≡ x → (phase : Phase) → phase ≡ phase_of a.world.tables
    → (lines : List ModuleLine)
    → lines ≡ map (module_line_of a.plan.now.modules) (loaded_in_roster a.force.roster)
    → (journal : List Entry) → journal ≡ a.force.journal.lines → (parts : List GuestPart)
    → ArePartsOf a.plan.now a.world.guests (length a.plan.now.guests) parts
    → IsToldSim x.plan x.stage (record { phase = phase; report = report_of a.force lines journal parts })
told_end a x is phase phase_is lines lines_are journal journal_is parts told =
    subst
    (λ (w : Whole). IsToldSim w.plan w.stage (record {
      phase = phase;
      report = report_of a.force lines journal parts;
    })) is
    (record {
      phase = phase_is;
      journal = journal_is;
      epoch = refl;
      policy = refl;
      lines = lines_are;
      count = told.count;
      guests = λ number part at.
          let of = told.each number part at in
          record { r = of.r; there = of.there; entry = of.entry; told = of.told };
    })
