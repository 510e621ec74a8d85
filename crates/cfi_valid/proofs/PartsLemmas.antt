-- A report is valid where its journal leads to its force and its modules, and each of its guests has ended.
use Rattle.std.proofs.Common.{◌≡◌, List, length, map}
use Rattle.cfi_aux.specs.declared.modules.Module.{Module}
use Rattle.cfi_plan.specs.declared.plan.Plan.{Plan}
use Rattle.cfi_report.specs.declared.report.Report.{Report}
use Rattle.cfi_valid.specs.Course.{IsCourse}
use Rattle.cfi_valid.specs.Journal.{JournalState}
use Rattle.cfi_valid.specs.Loaded.{module_line_of}
use Rattle.cfi_valid.specs.Valid.{course_of, HasScript, OfEach, IsValidReport, IsEnded}
use Rattle.cfi_valid.proofs.ModulesLemmas.{journal_modules}

module _ (plan : Plan) (modules : List Module) (report : Report) (end : JournalState)
    (course : IsCourse (course_of plan modules report end)) (epoch : report.epoch ≡ end.epoch)
    (policy : report.policy ≡ end.policy) (lines : report.modules ≡ map (module_line_of plan.modules) end.loaded)
    (script : HasScript plan report) (count : length report.guests ≡ length plan.guests)
    (guests : OfEach report (IsEnded (course_of plan modules report end))) where
  abbrev pub valid_by : IsValidReport plan modules report
  valid_by = record {
    end = end;
    listed = journal_modules plan modules report end course lines;
    journal = record { course = course; epoch = epoch; policy = policy };
    script = script;
    guests = record { count = count; parts = λ number part there. (guests number part there).guest };
    replay = λ number part there. (guests number part there).replay;
    log = λ number part there. (guests number part there).log;
    steps = λ number part there. (guests number part there).steps;
  }
