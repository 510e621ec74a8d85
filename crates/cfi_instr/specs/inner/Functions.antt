-- Tests of the functions of a module's records, over the items of its text. Offsets and lengths are in bytes.
use Rattle.std.specs.Prelude.{ℕ, ◌-◌, ◌*◌, ◌/◌, Bool, false, not, ◌&&◌, ◌==◌, nat_lt, nat_le, List, Option, Some, None}
use Rattle.std.specs.List.{list_any, range_with_len, slice_get}
use Rattle.cfi_aux.specs.declared.records.Function.{Function}
use Rattle.cfi_aux.specs.Extent.{byte_end}
use Rattle.cfi_instr.specs.Words.{Words, insn_at, count_of}
use Rattle.cfi_instr.specs.Insns.{is_unlinked}
use Rattle.cfi_values.specs.Some.{holds}
use Rattle.cfi_instr.specs.Items.{is_item}
use Rattle.cfi_instr.specs.Functions.{byte_end_before}
use Rattle.cfi_instr.specs.inner.Insns.{is_nop}
use Rattle.cfi_instr.specs.inner.Items.{is_item_at, is_bound_at}

-- the offset is in the function
abbrev pub covers : (offset : ℕ) → Function → Bool
covers offset f = nat_le f.offset offset && nat_lt offset (byte_end f)

-- some function has it
abbrev pub is_covered : List Function → (offset : ℕ) → Bool
is_covered functions offset = list_any (covers offset) functions

-- one function has both
abbrev pub are_together : List Function → (a b : ℕ) → Bool
are_together functions a b = list_any (λ f. covers a f && covers b f) functions

-- a function begins there
abbrev pub is_entry : List Function → (offset : ℕ) → Bool
is_entry functions offset = list_any (λ f. f.offset == offset) functions

-- the offset begins an item that is in one function with another offset
abbrev pub is_own_item : Words → List Function → (at offset : ℕ) → Bool
is_own_item t functions at offset = is_item_at t offset && are_together functions at offset

-- an item that is not `addi x0,x0,0`
abbrev pub is_code : Words → (w : ℕ) → Bool
is_code t w = is_item t w && not (holds is_nop (insn_at t w))

-- there is one from offset a to offset b
abbrev pub has_code : Words → (a b : ℕ) → Bool
has_code t a b = list_any (is_code t) (range_with_len (a / 4) (b / 4 - a / 4))

-- a function after another that ends at `before` is well formed: not empty, in order, of whole items of the text, and
-- none but `addi x0,x0,0` between them
abbrev pub is_well_formed : Words → (before : ℕ) → Function → Bool
is_well_formed t before f =
    not (f.length == 0) && nat_le before f.offset && nat_le (byte_end f) (4 * count_of t) && is_item_at t f.offset
    && is_bound_at t (byte_end f) && not (has_code t before f.offset)

-- a function is well formed behind others; where there is none, no code is left
abbrev pub is_formed_at : Words → (before : ℕ) → Option Function → Bool
is_formed_at t before None = not (has_code t before (4 * count_of t))
is_formed_at t before (Some f) = is_well_formed t before f

-- function k is malformed; after the last one, the rest of the text is
abbrev pub is_malformed : Words → List Function → (k : ℕ) → Bool
is_malformed t functions k = not (is_formed_at t (byte_end_before functions k) (slice_get functions k))

-- the last item of a function is no jump without link: its last word is not that of one
abbrev pub runs_off : Words → Function → Bool
runs_off t f = not (holds is_unlinked (insn_at t (byte_end f / 4 - 1)))

-- a function runs off its end, if there is one
abbrev pub runs_off_at : Words → Option Function → Bool
runs_off_at t None = false
runs_off_at t (Some f) = runs_off t f

-- the function of this number does
abbrev pub falls_through : Words → List Function → (k : ℕ) → Bool
falls_through t functions k = runs_off_at t (slice_get functions k)
