-- Branches that are not long yet, and what is left until each is out of its reach. `offsets` has the offset of each
-- word's unit in the output.
use Rattle.std.specs.Prelude.{◌≡◌, ◌⊎◌, ℕ, ◌+◌, ◌-◌, ◌*◌, ◌<◌, ◌≤◌, Bool, nat_lt, nat_le, if◌then◌else◌, List, length, All, slice_index}
use Rattle.elf_read.specs.declared.object.Symbol.{Symbol}
use Rattle.cfi_instr.specs.Words.{Words, count_of}
use Rattle.cfi_instr.specs.declared.hops.Hop.{Hop}
use Rattle.cfi_instr.specs.declared.sizes.TheConstants.{LONG_WORDS, REACH_BACK, REACH_ON}
use Rattle.cfi_instr.specs.Sizes.{is_long, size_at, offsets_of}
use Rattle.cfi_instr.specs.Reach.{is_near, word_reaches, IsEnough, IsWithin}

-- the branch goes over the word: what stands there is between it and its target
abbrev pub is_over : Hop → (word : ℕ) → Bool
is_over hop word = if nat_le hop.at word then nat_lt word hop.to else nat_le hop.to word

-- after the unit of the word has got one word more
abbrev pub after_growth : Hop → (word : ℕ) → Hop
after_growth hop word = if is_over hop word then record hop { left = hop.left - 1 } else hop

-- a branch is as it was, or as it is after the word's growth
abbrev pub StaysOrLoses : (word : ℕ) → (old new : Hop) → Type 0
StaysOrLoses word old new = (new ≡ old) ⊎ (new ≡ after_growth old word)

-- a branch stands at the word, which reaches its target where the two units are near, and which has one word more
-- where it is long
pub record IsHop (t : Words) (symbols : List Symbol) (hop : Hop) : Type 0 where
  pub inside : hop.at < count_of t
  pub target : hop.to < count_of t + 1
  pub leads : (offsets : List ℕ)
      → word_reaches t symbols offsets hop.at ≡ is_near (slice_index offsets hop.at) (slice_index offsets hop.to)
  pub grows : (long : List Bool) → size_at t long hop.at ≡ (if is_long long hop.at then LONG_WORDS else 1)

-- so many words more between the branch and its target take it out of its reach
pub record HasLeft (offsets : List ℕ) (hop : Hop) : Type 0 where
  pub on : hop.at ≤ hop.to → slice_index offsets hop.at + REACH_ON < slice_index offsets hop.to + 4 * hop.left
  pub back : hop.to < hop.at → slice_index offsets hop.to + REACH_BACK < slice_index offsets hop.at + 4 * hop.left

-- a branch of the text, with what is left where the units have these offsets
pub record IsMeasured (t : Words) (symbols : List Symbol) (offsets : List ℕ) (hop : Hop) : Type 0 where
  pub hop_is : IsHop t symbols hop
  pub left : HasLeft offsets hop

-- the branches of a text, and a set that is within each one that is enough
pub record AreReady (t : Words) (symbols : List Symbol) (hops : List Hop) (long : List Bool) : Type 0 where
  pub size : length long ≡ count_of t
  pub each : All (IsMeasured t symbols (offsets_of t long)) hops
  pub within : (other : List Bool) → IsEnough t symbols other → IsWithin long other
