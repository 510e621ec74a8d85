-- The registers of the raw machine: x0 to x27 as a list, and the four of the instrumentation.
use Rattle.std.specs.Prelude.{ℕ, ◌==◌, nat_lt, if◌then◌else◌, List, slice_index, take, replicate}
use Rattle.cfi_unit.specs.declared.unit.TheConstants.{FREE_REGISTERS}
use Rattle.cfi_model.specs.State.{regs_with}

-- the registers, by name where checks use them
pub record RegFile : Type 0 where
  pub free : List ℕ
  pub x28 : ℕ
  pub x29 : ℕ
  pub x30 : ℕ
  pub x31 : ℕ

-- the first registers of a list of all 32
unfoldable pub free_of : List ℕ → List ℕ
free_of words = take FREE_REGISTERS words

-- 32 words as registers
abbrev pub file_of : List ℕ → RegFile
file_of words = record {
  free = free_of words;
  x28 = slice_index words 28;
  x29 = slice_index words 29;
  x30 = slice_index words 30;
  x31 = slice_index words 31;
}

-- what a register holds
abbrev pub held : RegFile → ℕ → ℕ
held f k =
    if nat_lt k FREE_REGISTERS then slice_index f.free k else
    (if k == 28 then f.x28 else (if k == 29 then f.x29 else (if k == 30 then f.x30 else f.x31)))

-- the registers after a write
abbrev pub with_held : RegFile → (k value : ℕ) → RegFile
with_held f k value = record {
  free = if nat_lt k FREE_REGISTERS then regs_with f.free k value else f.free;
  x28 = if k == 28 then value else f.x28;
  x29 = if k == 29 then value else f.x29;
  x30 = if k == 30 then value else f.x30;
  x31 = if k == 31 then value else f.x31;
}

-- registers that hold 0
abbrev pub blank : RegFile
blank = record { free = replicate FREE_REGISTERS 0; x28 = 0; x29 = 0; x30 = 0; x31 = 0 }
