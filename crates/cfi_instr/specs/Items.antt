-- The items of a text: one instruction, or an AUIPC and JALR pair under a relocation CALL or CALL_PLT. A word's number
-- counts from 0; an offset is in bytes.
use Rattle.std.specs.Prelude.{◌≡◌, ◌⊎◌, ℕ, ◌+◌, ◌-◌, ◌*◌, Bool, true, not, ◌&&◌, ◌==◌, nat_lt, if◌then◌else◌, is_some}
use Rattle.cfi_instr.specs.Words.{Words, insn_at, call_on, count_of}
use Rattle.cfi_instr.specs.Insns.{is_auipc, is_jalr}
use Rattle.cfi_values.specs.Some.{holds}

-- a pair begins at the word
abbrev pub is_pair : Words → (w : ℕ) → Bool
is_pair t w = is_some (call_on t w) && holds is_auipc (insn_at t w) && holds is_jalr (insn_at t (w + 1))

-- the word is the second one of a pair
abbrev pub is_inner : Words → (w : ℕ) → Bool
is_inner t w = not (w == 0) && is_pair t (w - 1)

-- an item begins at the word
abbrev pub is_item : Words → (w : ℕ) → Bool
is_item t w = nat_lt w (count_of t) && not (is_inner t w)

-- an item begins at the offset
abbrev pub BeginsItem : Words → (offset : ℕ) → Type 0
BeginsItem t offset = (w : ℕ) × (offset ≡ 4 * w) × (is_item t w ≡ true)

-- an item begins at the offset, or the text ends there
abbrev pub IsItemBound : Words → (offset : ℕ) → Type 0
IsItemBound t offset = BeginsItem t offset ⊎ (offset ≡ 4 * count_of t)

-- the first word of the item that a word is in
abbrev pub item_of : Words → (w : ℕ) → ℕ
item_of t w = if is_inner t w then w - 1 else w

-- an indirect jump: JALR, but in a pair
abbrev pub is_indirect : Words → (w : ℕ) → Bool
is_indirect t w = is_item t w && holds is_jalr (insn_at t w)
