-- Classes of entries, and the policies of their words.
use Rattle.std.proofs.Common.{ℕ, ◌<◌, ◌≤◌, length, slice_index, arith}
use Rattle.cfi_word.specs.declared.limits.TheConstants.{MAX_CODE_WORDS}
use Rattle.cfi_word.specs.Ids.{IsField}
use Rattle.cfi_word.specs.Table.{Tary}
use Rattle.cfi_word.specs.Word.{policy_in}
use Rattle.cfi_model.specs.Tables.{IsTables}
use Rattle.cfi_model.specs.Words.{Tables, entry_at, policy_in_force, word_at}
use Rattle.cfi_model.proofs.InForceLemmas.{tary_policy}

pub tary_class : (t : Tables) (number place : ℕ) → IsTables t → number < length t.entries
    → IsField (slice_index (entry_at t number).image.tary place)
tary_class t number place is within = (is.closed number within).1.classes.tary_most place

pub bary_class : (t : Tables) (number place : ℕ) → IsTables t → number < length t.entries
    → IsField (slice_index (entry_at t number).image.bary place)
bary_class t number place is within = (is.closed number within).1.classes.bary_most place

pub tary_rises : (t : Tables) (index : ℕ) → IsTables t → index < t.code_words
    → policy_in_force t ≤ policy_in (word_at t (Tary index))
tary_rises t index is inside = tary_policy t is index inside

pub code_most : (t : Tables) (number : ℕ) → IsTables t → number < length t.entries
    → length (entry_at t number).image.code ≤ MAX_CODE_WORDS
code_most t number is within = omega (arith, (is.closed number within).1.classes.code_length, is.size.most)
