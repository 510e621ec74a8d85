-- Indirect jumps and their records: record k belongs to the k-th indirect jump of the text.
use Rattle.std.specs.Prelude.{◌≡◌, ℕ, ◌*◌, ◌≤◌, Bool, true, false, List, length, slice_get, Option, Some, None, ⊤}
use Rattle.elf_read.specs.Places.{count_where}
use Rattle.rv_insn.specs.declared.insn.Insn.{Insn}
use Rattle.cfi_aux.specs.declared.records.Function.{Function}
use Rattle.cfi_aux.specs.declared.records.Kind.{Kind}
use Rattle.cfi_aux.specs.declared.records.Kind.TheVariants as kinds
use Rattle.cfi_instr.specs.Words.{Words, count_of}
use Rattle.cfi_instr.specs.Insns.{is_linked}
use Rattle.cfi_values.specs.Some.{holds}
use Rattle.cfi_instr.specs.Items.{is_indirect}
use Rattle.cfi_instr.specs.Functions.{IsOwnItem}
use Rattle.cfi_aux.specs.Records.{AllEntriesIn}

-- the number of an indirect jump: how many are before it
abbrev pub ordinal_of : Words → (w : ℕ) → ℕ
ordinal_of t w = count_where (is_indirect t) w

-- a jump that links is a call, and no other is
abbrev pub LinksAs : (linked : Bool) → Kind → Type 0
LinksAs true (kinds.Call node) = ⊤
LinksAs true kind = ⊥
LinksAs false (kinds.Call node) = ⊥
LinksAs false kind = ⊤

-- there is a record, and it fits
abbrev pub LinksAsIn : (linked : Bool) → Option Kind → Type 0
LinksAsIn linked None = ⊥
LinksAsIn linked (Some kind) = LinksAs linked kind

-- the word, where it is an indirect jump, has a record that fits
abbrev pub HasRecord : Words → List Kind → (w : ℕ) → Option Insn → Type 0
HasRecord t branches w insn =
    is_indirect t w ≡ true → LinksAsIn (holds is_linked insn) (slice_get branches (ordinal_of t w))

-- no records are left over
abbrev pub AreUsed : Words → List Kind → Type 0
AreUsed t branches = length branches ≤ ordinal_of t (count_of t)

-- each entry of the word's record, where it is an indirect jump and its record a switch, is an item of its function
abbrev pub SwitchFits : Words → List Function → List Kind → (w : ℕ) → Option Insn → Type 0
SwitchFits t functions branches w insn =
    is_indirect t w ≡ true → AllEntriesIn (IsOwnItem t functions (4 * w)) (slice_get branches (ordinal_of t w))
