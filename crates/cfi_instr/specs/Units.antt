-- The units that the items of a text become.
use Rattle.std.specs.Prelude.{ℕ, ◌+◌, ◌-◌, ◌<◌, ◌==◌, ◌&&◌, nat_le, ℤ, pos, negsuc, Bool, false, if◌then◌else◌, List, [], ◌∷◌, Option, Some, None, is_some, slice_index}
use Rattle.std.specs.List.{AllByRecursion}
use Rattle.elf_read.specs.declared.object.Symbol.{Symbol}
use Rattle.elf_read.specs.Places.{joined}
use Rattle.rv_insn.specs.declared.insn.Cond.{Cond}
use Rattle.rv_insn.specs.declared.insn.Cond.TheVariants as conds
use Rattle.rv_insn.specs.declared.insn.Insn.{Insn}
use Rattle.rv_insn.specs.declared.insn.Insn.TheVariants as insns
use Rattle.cfi_unit.specs.declared.unit.Unit.{Unit as CodeUnit}
use Rattle.cfi_unit.specs.declared.unit.Unit.TheVariants as units
use Rattle.cfi_unit.specs.Unit.{IsUnit}
use Rattle.cfi_instr.specs.Words.{Words, insn_at, reloc_on, count_of}
use Rattle.cfi_instr.specs.Insns.{is_linked, is_branch}
use Rattle.cfi_values.specs.Some.{holds}
use Rattle.cfi_instr.specs.Items.{is_inner, is_pair}
use Rattle.cfi_instr.specs.Target.{aim_of_jump}
use Rattle.cfi_instr.specs.Jumps.{ordinal_of}
use Rattle.cfi_instr.specs.Sizes.{is_long}
use Rattle.cfi_instr.specs.Reach.{target_of}

-- the condition that holds exactly where another does not
abbrev pub inverse : Cond → Cond
inverse conds.Beq = conds.Bne
inverse conds.Bne = conds.Beq
inverse conds.Blt = conds.Bge
inverse conds.Bge = conds.Blt
inverse conds.Bltu = conds.Bgeu
inverse conds.Bgeu = conds.Bltu

-- the way from one offset to another
abbrev pub distance : (from to : ℕ) → ℤ
distance from to = if nat_le from to then pos (to - from) else negsuc (from - to - 1)

-- the displacement from an offset of the output to the target of the jump or branch at the word; `under` where a
-- relocation will fill it
abbrev pub displacement_from : Words → List Symbol → (offsets : List ℕ) → (w from : ℕ) → (off under : ℤ) → ℤ
displacement_from t symbols offsets w from off under =
    if is_some (reloc_on t w) then under
    else distance from (target_of offsets (aim_of_jump t symbols w off))

-- an item that is one instruction, and no long branch: `off` is the displacement, `number` that of an indirect jump
abbrev pub unit_of : (number : ℕ) → (off : ℤ) → Insn → CodeUnit
unit_of number off (insns.Load kind rd rs1 imm) = units.Load kind rd rs1 imm
unit_of number off (insns.Store kind rs1 rs2 imm) = units.Store kind rs1 rs2 imm
unit_of number off (insns.Jalr rd rs1 imm) = units.Check (rd == 1) rs1 imm number
unit_of number off (insns.Branch cond rs1 rs2 was) = units.Branch cond rs1 rs2 off
unit_of number off (insns.Jal rd was) = units.Jump (rd == 1) off
unit_of number off insns.Ecall = units.Service
unit_of number off insn = units.Plain insn

-- the displacement of an instruction, which under a relocation stays as it was
abbrev pub off_of : Insn → ℤ
off_of (insns.Branch cond rs1 rs2 off) = off
off_of (insns.Jal rd off) = off
off_of insn = pos 0

-- an instruction as one unit, with what it leads to as far away as the output has it
abbrev pub short_unit : Words → List Symbol → (offsets : List ℕ) → (w : ℕ) → Insn → CodeUnit
short_unit t symbols offsets w insn =
    let off = off_of insn in
    unit_of (ordinal_of t w) (displacement_from t symbols offsets w (slice_index offsets w) off off) insn

-- a long branch: the inverse one, by 8, over a jump
abbrev pub over : Insn → CodeUnit
over (insns.Branch cond rs1 rs2 off) = units.Branch (inverse cond) rs1 rs2 (pos 8)
over insn = units.Plain insn

-- the jump of a long branch, one word behind its start
abbrev pub long_jump : Words → List Symbol → (offsets : List ℕ) → (w : ℕ) → Insn → CodeUnit
long_jump t symbols offsets w insn =
    units.Jump false (displacement_from t symbols offsets w (slice_index offsets w + 4) (off_of insn) (pos 0))

-- the word's instruction is a branch, and long
abbrev pub is_wide : (long : List Bool) → (w : ℕ) → Insn → Bool
is_wide long w insn = is_long long w && is_branch insn

-- the units of an item: a long branch is one over a jump, all else one unit
abbrev pub insn_units : Words → List Symbol → (long : List Bool) → (offsets : List ℕ) → (w : ℕ) → Option Insn
    → List CodeUnit
insn_units t symbols long offsets w None = []
insn_units t symbols long offsets w (Some insn) =
    if is_wide long w insn then over insn ∷ long_jump t symbols offsets w insn ∷ []
    else short_unit t symbols offsets w insn ∷ []

-- a pair becomes one jump, which a relocation will fill
abbrev pub pair_unit : Words → (w : ℕ) → CodeUnit
pair_unit t w = units.Jump (holds is_linked (insn_at t (w + 1))) (pos 0)

-- the units of the item that begins at the word
unfoldable pub units_at : Words → List Symbol → (long : List Bool) → (offsets : List ℕ) → (w : ℕ) → List CodeUnit
units_at t symbols long offsets w =
    if is_inner t w then []
    else (if is_pair t w then pair_unit t w ∷ [] else insn_units t symbols long offsets w (insn_at t w))

-- the units of all items, in order
abbrev pub units_of : Words → List Symbol → (long : List Bool) → (offsets : List ℕ) → List CodeUnit
units_of t symbols long offsets = joined (units_at t symbols long offsets) (count_of t)

-- each has a spelling
abbrev pub AreUnits : List CodeUnit → Type 0
AreUnits code = AllByRecursion IsUnit code

-- the units of each item do
abbrev pub AllSpell : Words → List Symbol → (long : List Bool) → (offsets : List ℕ) → Type 0
AllSpell t symbols long offsets = (w : ℕ) → w < count_of t → AreUnits (units_at t symbols long offsets w)
