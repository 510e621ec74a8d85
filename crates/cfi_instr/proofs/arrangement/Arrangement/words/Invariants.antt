use Rattle.std.proofs.Common.{◌≡◌, ◌≤◌, ℕ, List}
use Rattle.std.specs.List.{flat_map}
use Rattle.elf_read.specs.Places.{joined}
use Rattle.cfi_unit.specs.Unit.{words_of}
use Rattle.cfi_instr.specs.Jumps.{ordinal_of}
use Rattle.cfi_instr.specs.inner.Arrangement.{Arrangement, units_at_by}
use Rattle.cfi_instr.proofs.arrangement.Arrangement.words.Given as goal

-- the words of the units of the items so far, and the number of the next indirect jump
pub record AreWords (a : Arrangement) (w : ℕ) (words : List ℕ) (number : ℕ) : Type 0 where
  pub spelled : words ≡ flat_map words_of (joined (units_at_by a) w)
  pub next : number ≡ ordinal_of a.source w
  pub few : number ≤ w

abbrev pub invariant-loop-w : goal.invariant-loop-w
invariant-loop-w l = AreWords l.self l.w l.words.items l.number
