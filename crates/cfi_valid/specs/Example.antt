-- The bare file that puts one `H` and exits with 7, and its report.
use Rattle.std.specs.Prelude.{ℕ, List, [], ◌∷◌, codes, Some}
use Rattle.cfi_aux.specs.declared.modules.Module.{Module}
use Rattle.cfi_bare.specs.Modules.{bare_module}
use Rattle.cfi_plan.specs.declared.journal.ModuleLine.{ModuleLine}
use Rattle.cfi_report.specs.declared.report.GuestPart.{GuestPart}
use Rattle.cfi_report.specs.declared.report.Report.{Report}
use Rattle.cfi_unit.specs.declared.log.Stop.TheVariants.{Exit}
use Rattle.cfi_word.specs.declared.map.TheConstants.{FIRST_BASE, DATA_START}

-- `addi x17,x0,2`, `addi x10,x0,72`, `ecall`, `addi x17,x0,1`, `addi x10,x0,7`, `ecall`, `j .`
abbrev pub hello_bytes : List ℕ
hello_bytes =
    0x93 ∷ 0x08 ∷ 0x20 ∷ 0x00 ∷ 0x13 ∷ 0x05 ∷ 0x80 ∷ 0x04 ∷ 0x73 ∷ 0x00 ∷ 0x00 ∷ 0x00
    ∷ 0x93 ∷ 0x08 ∷ 0x10 ∷ 0x00 ∷ 0x13 ∷ 0x05 ∷ 0x70 ∷ 0x00 ∷ 0x73 ∷ 0x00 ∷ 0x00 ∷ 0x00
    ∷ 0x6f ∷ 0x00 ∷ 0x00 ∷ 0x00 ∷ []

-- the module of the bare file
abbrev pub hello_module : Module
hello_module = bare_module hello_bytes

-- its line in a report
abbrev pub hello_line : ModuleLine
hello_line = record {
  number = 0;
  name = codes "bare";
  base = FIRST_BASE;
  slot = 0;
  data_base = DATA_START;
  policy = 0;
}

-- what its guest has come to, after it put these bytes
abbrev pub hello_part : (out : List ℕ) → GuestPart
hello_part out = record {
  number = 0;
  entry = codes "bare";
  log = [];
  out = out;
  stop = Some (Exit 7);
  units = 6;
  steps = 6;
}

-- its report, where the guest has put this
abbrev pub hello_report : (out : List ℕ) → Report
hello_report out = record {
  epoch = 0;
  policy = 0;
  modules = hello_line ∷ [];
  journal = [];
  guests = hello_part out ∷ [];
}
