-- Tests of direct jumps and branches that are stray.
use Rattle.std.specs.Prelude.{ℕ, ◌+◌, ◌*◌, Bool, true, false, not, ◌&&◌, ◌||◌, List, Option, Some, None, if◌then◌else◌}
use Rattle.elf_read.specs.declared.object.Symbol.{Symbol}
use Rattle.rv_insn.specs.declared.insn.Insn.{Insn}
use Rattle.rv_insn.specs.declared.insn.Insn.TheVariants as insns
use Rattle.cfi_aux.specs.declared.records.Function.{Function}
use Rattle.cfi_instr.specs.declared.target.Aim.{Aim}
use Rattle.cfi_instr.specs.declared.target.Aim.TheVariants as aims
use Rattle.cfi_instr.specs.Words.{Words, insn_at}
use Rattle.cfi_instr.specs.Insns.{is_unlinked}
use Rattle.cfi_values.specs.Some.{holds}
use Rattle.cfi_instr.specs.Items.{is_item, is_pair}
use Rattle.cfi_instr.specs.Target.{aim_of_jump, aim_of_pair}
use Rattle.cfi_instr.specs.inner.Functions.{is_own_item, is_entry}

-- a branch goes to an item of its own function
abbrev pub branches_well : Words → List Function → (at : ℕ) → Aim → Bool
branches_well t functions at (aims.Offset offset) = is_own_item t functions at offset
branches_well t functions at aims.Name = false
branches_well t functions at aims.Astray = false

-- a jump goes to a function's first item, or without link to an item of its own function; or it calls a name
abbrev pub jumps_well : Words → List Function → (at : ℕ) → (unlinked : Bool) → Aim → Bool
jumps_well t functions at unlinked (aims.Offset offset) =
    is_entry functions offset || (unlinked && is_own_item t functions at offset)
jumps_well t functions at unlinked aims.Name = true
jumps_well t functions at unlinked aims.Astray = false

-- an instruction that is an item by itself leads where it may
abbrev pub leads_well : Words → List Symbol → List Function → (w : ℕ) → Insn → Bool
leads_well t symbols functions w (insns.Branch cond rs1 rs2 off) =
    branches_well t functions (4 * w) (aim_of_jump t symbols w off)
leads_well t symbols functions w (insns.Jal rd off) =
    jumps_well t functions (4 * w) (is_unlinked (insns.Jal rd off)) (aim_of_jump t symbols w off)
leads_well t symbols functions w insn = true

-- the pair at the word does
abbrev pub calls_well : Words → List Symbol → List Function → (w : ℕ) → Bool
calls_well t symbols functions w =
    jumps_well t functions (4 * w) (holds is_unlinked (insn_at t (w + 1))) (aim_of_pair t symbols w)

-- the instruction of a word leads where it may
abbrev pub goes_by : Words → List Symbol → List Function → (w : ℕ) → Option Insn → Bool
goes_by t symbols functions w None = true
goes_by t symbols functions w (Some insn) = leads_well t symbols functions w insn

-- so does the item that begins at the word, a call or a single instruction
abbrev pub goes_well : Words → List Symbol → List Function → (w : ℕ) → Bool
goes_well t symbols functions w =
    if is_pair t w then calls_well t symbols functions w else goes_by t symbols functions w (insn_at t w)

-- the item at the word is stray
abbrev pub is_stray : Words → List Symbol → List Function → (w : ℕ) → Bool
is_stray t symbols functions w = is_item t w && not (goes_well t symbols functions w)
