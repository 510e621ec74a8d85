-- Tests of offsets at which items begin.
use Rattle.std.specs.Prelude.{ℕ, ◌*◌, ◌/◌, ◌%◌, Bool, ◌&&◌, ◌||◌, ◌==◌}
use Rattle.cfi_instr.specs.Words.{Words, count_of}
use Rattle.cfi_instr.specs.Items.{is_item}

-- an item begins at the offset
abbrev pub is_item_at : Words → (offset : ℕ) → Bool
is_item_at t offset = offset % 4 == 0 && is_item t (offset / 4)

-- an item begins at the offset, or the text ends there
abbrev pub is_bound_at : Words → (offset : ℕ) → Bool
is_bound_at t offset = is_item_at t offset || offset == 4 * count_of t
