-- The simulation of the bare file that puts one `H`, by a schedule without a line: nothing has happened.
use Rattle.std.specs.Prelude.{[], ◌∷◌, codes, None}
use Rattle.cfi_model.specs.declared.phase.Phase.TheVariants.{Idle}
use Rattle.cfi_report.specs.declared.report.GuestPart.{GuestPart}
use Rattle.cfi_sim.specs.declared.report.SimReport.{SimReport}
use Rattle.cfi_valid.specs.Example.{hello_line}

-- the part of its guest
abbrev pub still_part : GuestPart
still_part = record {
  number = 0;
  entry = codes "bare";
  log = [];
  out = [];
  stop = None;
  units = 0;
  steps = 0;
}

-- the simulation
abbrev pub still : SimReport
still = record {
  phase = Idle;
  report = record {
    epoch = 0;
    policy = 0;
    modules = hello_line ∷ [];
    journal = [];
    guests = still_part ∷ [];
  };
}
