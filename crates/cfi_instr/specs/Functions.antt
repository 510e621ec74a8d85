-- How the functions of a module's records may lie over the items of its text. Offsets and lengths are in bytes.
use Rattle.std.specs.Prelude.{◌≡◌, ℕ, ◌-◌, ◌*◌, ◌/◌, ◌<◌, ◌≤◌, ◌==◌, pos, true, if◌then◌else◌, List, length, slice_get, Option, Some, None}
use Rattle.std.specs.List.{Contains}
use Rattle.rv_insn.specs.declared.insn.Insn.{Insn}
use Rattle.rv_insn.specs.declared.insn.Insn.TheVariants.{OpImm}
use Rattle.rv_insn.specs.declared.insn.ImmOp.TheVariants.{Addi}
use Rattle.cfi_aux.specs.declared.records.Function.{Function}
use Rattle.cfi_aux.specs.Extent.{byte_end, Covers}
use Rattle.cfi_instr.specs.Words.{Words, insn_at, count_of}
use Rattle.cfi_instr.specs.Insns.{is_unlinked}
use Rattle.cfi_instr.specs.Items.{is_item, BeginsItem, IsItemBound}

-- the offset begins an item that is in one function with another offset
pub record IsOwnItem (t : Words) (functions : List Function) (at offset : ℕ) : Type 0 where
  pub home : Function
  pub has : Contains functions home
  pub from : Covers home at
  pub lies : Covers home offset
  pub item : BeginsItem t offset

-- where a function ends; before the first one, the text's start
abbrev pub byte_end_in : Option Function → ℕ
byte_end_in None = 0
byte_end_in (Some f) = byte_end f

-- where the function before that of the number ends
abbrev pub byte_end_before : List Function → (number : ℕ) → ℕ
byte_end_before functions number = if number == 0 then 0 else byte_end_in (slice_get functions (number - 1))

-- each item from one word up to another is `addi x0,x0,0`
abbrev pub IsPadding : Words → (from to : ℕ) → Type 0
IsPadding t from to = (w : ℕ) → from ≤ w → w < to → is_item t w ≡ true → insn_at t w ≡ Some (OpImm Addi 0 0 (pos 0))

-- a function has words, comes after the one before, which ends at an offset, stays in the text, and begins and ends at
-- items; and what stands between the two is padding
pub record IsWellFormed (t : Words) (before : ℕ) (f : Function) : Type 0 where
  pub some : 0 < f.length
  pub order : before ≤ f.offset
  pub within : byte_end f ≤ 4 * count_of t
  pub begins : BeginsItem t f.offset
  pub ends : IsItemBound t (byte_end f)
  pub idle : IsPadding t (before / 4) (f.offset / 4)

-- the function of the number is well formed
abbrev pub IsFormedBehind : Words → List Function → (number : ℕ) → Function → Type 0
IsFormedBehind t functions number f = IsWellFormed t (byte_end_before functions number) f

-- what stands after the last function is padding
abbrev pub EndsInPadding : Words → List Function → Type 0
EndsInPadding t functions = IsPadding t (byte_end_before functions (length functions) / 4) (count_of t)

-- the last word of a function is a jump that does not link
abbrev pub EndsInJump : Words → (number : ℕ) → Function → Type 0
EndsInJump t number f =
    (insn : Insn) × (insn_at t (byte_end f / 4 - 1) ≡ Some insn) × (is_unlinked insn ≡ true)
