use Rattle.std.proofs.Common.{◌≡◌, ◌<◌, ◌≤◌, ℕ, List, length, get_or}
use Rattle.cfi_instr.specs.declared.hops.Hop.{Hop}
use Rattle.cfi_instr.specs.inner.Hops.{StaysOrLoses}
use Rattle.cfi_instr.proofs.stretch.push_others.Given as goal

-- the branches before the number k stay or lose a word, and the others are as they were
pub record ArePushed (word : ℕ) (old new : List Hop) (k : ℕ) : Type 0 where
  pub size : length new ≡ length old
  pub passed : (j : ℕ) (d : Hop) → j < length old → j < k → StaysOrLoses word (get_or old j d) (get_or new j d)
  pub ahead : (j : ℕ) (d : Hop) → k ≤ j → get_or new j d ≡ get_or old j d

abbrev pub invariant-loop-k : goal.invariant-loop-k
invariant-loop-k l = ArePushed l.word l.initial.hops.items l.hops.items l.k
