-- Why a file is refused, in words: the layer that refuses it, the fault's name, and its fields, single spaces between.
use Rattle.std.specs.Prelude.{ℕ, List, ◌++◌, codes}
use Rattle.std.specs.Fmt.{decimal}
use Rattle.cfi_commands.specs.declared.refusal.Refusal.{Refusal}
use Rattle.cfi_commands.specs.declared.refusal.Refusal.TheVariants.{Bare, Elf, Aux, Instr, Asm, Link, Import, Plan, Place, Verify, Entry, Sim, Report, Judge}
use Rattle.cfi_commands.specs.Asm.{asm_text}
use Rattle.cfi_commands.specs.Aux.{aux_text}
use Rattle.cfi_commands.specs.Bare.{bare_text}
use Rattle.cfi_commands.specs.Elf.{elf_text}
use Rattle.cfi_commands.specs.Import.{import_text}
use Rattle.cfi_commands.specs.Instr.{instr_text}
use Rattle.cfi_commands.specs.Judge.{judge_text}
use Rattle.cfi_commands.specs.Link.{link_text}
use Rattle.cfi_commands.specs.Place.{place_text}
use Rattle.cfi_commands.specs.Plan.{plan_text}
use Rattle.cfi_commands.specs.Verify.{verify_text}

-- the words of a refusal: its layer, then what that says
abbrev pub refusal_text : Refusal → List ℕ
refusal_text (Bare fault) = codes "bare " ++ bare_text fault
refusal_text (Elf fault) = codes "elf " ++ elf_text fault
refusal_text (Aux fault) = aux_text fault
refusal_text (Instr fault) = codes "instr " ++ instr_text fault
refusal_text (Asm fault) = codes "asm " ++ asm_text fault
refusal_text (Link fault) = codes "link " ++ link_text fault
refusal_text (Import fault) = codes "import " ++ import_text fault
refusal_text (Plan fault) = codes "plan " ++ plan_text fault
refusal_text (Place fault) = codes "place " ++ place_text fault
refusal_text (Verify fault) = verify_text fault
refusal_text (Entry guest) = codes "entry NoEntry " ++ decimal guest
refusal_text (Sim line) = codes "sim BadEvent " ++ decimal line
refusal_text (Report line) = codes "report Syntax " ++ decimal line
refusal_text (Judge part) = codes "judge " ++ judge_text part
