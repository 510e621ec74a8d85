-- Where direct jumps and branches may lead. Offsets are in bytes.
use Rattle.std.specs.Prelude.{◌≡◌, ◌⊎◌, ℕ, ◌+◌, ◌*◌, Bool, true, false, List, Option, Some, ⊤}
use Rattle.elf_read.specs.declared.object.Symbol.{Symbol}
use Rattle.rv_insn.specs.declared.insn.Insn.{Insn}
use Rattle.rv_insn.specs.declared.insn.Insn.TheVariants as insns
use Rattle.cfi_aux.specs.declared.records.Function.{Function}
use Rattle.cfi_values.specs.Lists.{HasWith}
use Rattle.cfi_instr.specs.declared.target.Aim.{Aim}
use Rattle.cfi_instr.specs.declared.target.Aim.TheVariants as aims
use Rattle.cfi_instr.specs.Words.{Words, insn_at}
use Rattle.cfi_instr.specs.Insns.{is_unlinked}
use Rattle.cfi_values.specs.Some.{holds}
use Rattle.cfi_instr.specs.Items.{is_item, is_pair}
use Rattle.cfi_instr.specs.Target.{aim_of_jump, aim_of_pair}
use Rattle.cfi_instr.specs.Functions.{IsOwnItem}

-- a branch at the offset leads to an item of its own function
abbrev pub BranchMayLead : Words → List Function → (at : ℕ) → Aim → Type 0
BranchMayLead t functions at (aims.Offset offset) = IsOwnItem t functions at offset
BranchMayLead t functions at aims.Name = ⊥
BranchMayLead t functions at aims.Astray = ⊥

-- a jump leads to where a function begins, or without link to an item of its own function; or it calls a name
abbrev pub JumpMayLead : Words → List Function → (at : ℕ) → (unlinked : Bool) → Aim → Type 0
JumpMayLead t functions at unlinked (aims.Offset offset) =
    HasWith (λ f. f.offset) functions offset ⊎ ((unlinked ≡ true) × IsOwnItem t functions at offset)
JumpMayLead t functions at unlinked aims.Name = ⊤
JumpMayLead t functions at unlinked aims.Astray = ⊥

-- an instruction that is an item by itself leads where it may
abbrev pub InsnLeadsWell : Words → List Symbol → List Function → (w : ℕ) → Option Insn → Type 0
InsnLeadsWell t symbols functions w (Some (insns.Branch cond rs1 rs2 off)) =
    BranchMayLead t functions (4 * w) (aim_of_jump t symbols w off)
InsnLeadsWell t symbols functions w (Some (insns.Jal rd off)) =
    JumpMayLead t functions (4 * w) (is_unlinked (insns.Jal rd off)) (aim_of_jump t symbols w off)
InsnLeadsWell t symbols functions w insn = ⊤

-- and a pair does, whose second instruction says whether it links
abbrev pub PairLeadsWell : Words → List Symbol → List Function → (w : ℕ) → Type 0
PairLeadsWell t symbols functions w =
    JumpMayLead t functions (4 * w) (holds is_unlinked (insn_at t (w + 1))) (aim_of_pair t symbols w)

-- the item at the word, whose first instruction is this one, leads where it may
pub record ItemLeadsWell (t : Words) (symbols : List Symbol) (functions : List Function) (w : ℕ)
    (insn : Option Insn) : Type 0 where
  pub pair : is_pair t w ≡ true → PairLeadsWell t symbols functions w
  pub single : is_pair t w ≡ false → InsnLeadsWell t symbols functions w insn

-- the word does, where it begins an item
abbrev pub WordLeadsWell : Words → List Symbol → List Function → (w : ℕ) → Option Insn → Type 0
WordLeadsWell t symbols functions w insn = is_item t w ≡ true → ItemLeadsWell t symbols functions w insn
