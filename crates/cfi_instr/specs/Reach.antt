-- Which branches must be long: the least set for which every other branch reaches its target. A branch that is not
-- long has a displacement from -4096 to 4092 (RISC-V Unprivileged ISA 20191213, 2.5, the B immediate).
use Rattle.std.specs.Prelude.{◌≡◌, ℕ, ◌+◌, ◌/◌, ◌<◌, Bool, true, false, ◌&&◌, nat_le, List, length, Option, Some, None, slice_index, if◌then◌else◌, ⊤}
use Rattle.std.specs.List.{sum_by}
use Rattle.elf_read.specs.declared.object.Symbol.{Symbol}
use Rattle.rv_insn.specs.declared.insn.Insn.{Insn}
use Rattle.rv_insn.specs.declared.insn.Insn.TheVariants as insns
use Rattle.cfi_instr.specs.declared.target.Aim.{Aim}
use Rattle.cfi_instr.specs.declared.target.Aim.TheVariants as aims
use Rattle.cfi_instr.specs.declared.fault.InstrFault.{InstrFault}
use Rattle.cfi_instr.specs.declared.fault.InstrFault.TheVariants as faults
use Rattle.cfi_instr.specs.Words.{Words, insn_at, count_of}
use Rattle.cfi_instr.specs.Target.{aim_of_jump}
use Rattle.cfi_instr.specs.declared.sizes.TheConstants.{REACH_BACK, REACH_ON, MAX_WORDS}
use Rattle.cfi_instr.specs.Sizes.{is_long, words_before, offsets_of}

-- the offset of the unit that a jump leads to
abbrev pub target_of : (offsets : List ℕ) → Aim → ℕ
target_of offsets (aims.Offset offset) = slice_index offsets (offset / 4)
target_of offsets aims.Name = 0
target_of offsets aims.Astray = 0

-- the displacement from one offset to another fits a branch
abbrev pub is_near : (from to : ℕ) → Bool
is_near from to = nat_le to (from + REACH_ON) && nat_le from (to + REACH_BACK)

-- the unit at the word is near that of its target
abbrev pub reaches : (offsets : List ℕ) → (w : ℕ) → Aim → Bool
reaches offsets w aim = is_near (slice_index offsets w) (target_of offsets aim)

-- an instruction that is a branch reaches its target
abbrev pub branch_reaches : Words → List Symbol → (offsets : List ℕ) → (w : ℕ) → Insn → Bool
branch_reaches t symbols offsets w (insns.Branch cond rs1 rs2 off) =
    reaches offsets w (aim_of_jump t symbols w off)
branch_reaches t symbols offsets w insn = true

-- an instruction that is a branch reaches its target, any other is content
abbrev pub insn_reaches : Words → List Symbol → (offsets : List ℕ) → (w : ℕ) → Option Insn → Bool
insn_reaches t symbols offsets w None = true
insn_reaches t symbols offsets w (Some insn) = branch_reaches t symbols offsets w insn

-- so does that of a word
abbrev pub word_reaches : Words → List Symbol → (offsets : List ℕ) → (w : ℕ) → Bool
word_reaches t symbols offsets w = insn_reaches t symbols offsets w (insn_at t w)

-- every branch that is not long reaches its target
abbrev pub IsEnough : Words → List Symbol → (long : List Bool) → Type 0
IsEnough t symbols long = (w : ℕ) → w < count_of t → is_long long w ≡ false
    → word_reaches t symbols (offsets_of t long) w ≡ true

-- what is long in one set is long in another
abbrev pub IsWithin : (long other : List Bool) → Type 0
IsWithin long other = (w : ℕ) → is_long long w ≡ true → is_long other w ≡ true

-- the least set that is enough
pub record IsLeast (t : Words) (symbols : List Symbol) (long : List Bool) : Type 0 where
  pub size : length long ≡ count_of t
  pub enough : IsEnough t symbols long
  pub least : (other : List Bool) → IsEnough t symbols other → IsWithin long other

-- the output is too long even with the least set, and so with every set that is enough; unless memory ran out
abbrev pub IsPassed : Words → List Symbol → InstrFault → Type 0
IsPassed t symbols faults.TooLong =
    (long : List Bool) → IsEnough t symbols long → MAX_WORDS < words_before t long (count_of t)
IsPassed t symbols faults.Memory = ⊤
IsPassed t symbols fault = ⊥

-- how many words are not long
abbrev pub shorts : (long : List Bool) → ℕ
shorts long = sum_by (λ b. if b then 0 else 1) long
