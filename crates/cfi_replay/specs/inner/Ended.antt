-- A state that has what a part says.
use Rattle.std.specs.Prelude.{◌≡◌}
use Rattle.cfi_model.specs.State.{State}
use Rattle.cfi_report.specs.declared.report.GuestPart.{GuestPart}
use Rattle.cfi_valid.specs.Replay.{shown_stop}

-- what was put, what was logged, and why it stopped
pub record HasEnd (last : State) (part : GuestPart) : Type 0 where
  pub output : last.output ≡ part.out
  pub log : last.log ≡ part.log
  pub stop : last.stop ≡ shown_stop part.stop
