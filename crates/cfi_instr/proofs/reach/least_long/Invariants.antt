use Rattle.std.proofs.Common.{◌≡◌, ◌≤◌, ℕ, List, Bool, length}
use Rattle.elf_read.specs.declared.object.Symbol.{Symbol}
use Rattle.cfi_instr.specs.Words.{Words, count_of}
use Rattle.cfi_instr.specs.declared.sizes.TheConstants.{MAX_WORDS}
use Rattle.cfi_instr.specs.Sizes.{words_before, offsets_of, AreSmall}
use Rattle.cfi_instr.specs.Reach.{IsEnough, IsWithin, shorts}
use Rattle.cfi_instr.proofs.reach.least_long.Given as goal

-- a set that is within every set that is enough, with its offsets
pub record IsGrown (t : Words) (symbols : List Symbol) (long : List Bool) (offsets : List ℕ) : Type 0 where
  pub size : length long ≡ count_of t
  pub within : (other : List Bool) → IsEnough t symbols other → IsWithin long other
  pub placed : offsets ≡ offsets_of t long
  pub small : AreSmall offsets
  pub fits : words_before t long (count_of t) ≤ MAX_WORDS

abbrev pub invariant-rounds : goal.invariant-rounds
invariant-rounds l = IsGrown l.source l.symbols l.long.items l.offsets.items

abbrev pub decreases-rounds : goal.decreases-rounds
decreases-rounds l = shorts l.long.items
