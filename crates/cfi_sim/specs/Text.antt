-- The text of a simulation: its title, how far the updater has come, and the report.
use Rattle.std.specs.Prelude.{ℕ, List, ◌++◌, codes}
use Rattle.cfi_model.specs.declared.phase.Phase.{Phase}
use Rattle.cfi_model.specs.declared.phase.Phase.TheVariants as phases
use Rattle.cfi_report.specs.Report.{report_text}
use Rattle.cfi_sim.specs.declared.report.SimReport.{SimReport}
use Rattle.cfi_text.specs.Decimal.{dec_text}

-- the next word that the updater accesses, or that there is none
abbrev pub phase_text : Phase → List ℕ
phase_text phases.Idle = codes "idle"
phase_text (phases.Testing guest) = codes "testing " ++ dec_text guest
phase_text (phases.Code word) = codes "code " ++ dec_text word
phase_text (phases.Tary word) = codes "tary " ++ dec_text word
phase_text phases.Epoch = codes "epoch"
phase_text (phases.Bary slot) = codes "bary " ++ dec_text slot

-- the text of a simulation
abbrev pub sim_text : SimReport → List ℕ
sim_text sim = codes "sim 1\nupdater " ++ phase_text sim.phase ++ codes "\n" ++ report_text sim.report
