-- Which policy is in force while a check tries: that of the epoch of which both its words are.
use Rattle.std.specs.Prelude.{◌≡◌, ℕ, ◌<◌}
use Rattle.cfi_word.specs.Table.{Tary, Bary}
use Rattle.cfi_word.specs.Word.{epoch_in}
use Rattle.cfi_model.specs.InForce.{GoesOn, history_of}
use Rattle.cfi_model.specs.Tables.{IsTables}
use Rattle.cfi_model.specs.TableMoments.{IsInForce}
use Rattle.cfi_model.specs.Words.{Tables, word_at}

-- the tables at three moments, one after the other
pub record AreMoments (early mid late : Tables) : Type 0 where
  pub early_is : IsTables early
  pub mid_is : IsTables mid
  pub late_is : IsTables late
  pub first : GoesOn early mid
  pub then : GoesOn mid late

-- A slot's word is of an epoch at one moment, and a code address's word is of the same epoch at a later one. At each
-- moment between them this epoch is in force, and so is its policy.
abbrev pub TriesHoldPolicies : Type 0
TriesHoldPolicies =
    (early mid late : Tables) → AreMoments early mid late → (epoch slot index : ℕ) → index < late.code_words →
    epoch_in (word_at early (Bary slot)) ≡ epoch → epoch_in (word_at late (Tary index)) ≡ epoch →
    IsInForce mid epoch ((history_of late).policy epoch)
