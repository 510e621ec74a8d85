-- Reading from the front of bytes: the value and the bytes after it, or the fault that is met first.
use Rattle.std.specs.Prelude.{◌≡◌, ℕ, zero, suc, List, [], ◌∷◌, Bool, Result, Ok, Err}
use Rattle.cfi_aux.specs.declared.fault.AuxFault.{AuxFault}
use Rattle.cfi_aux.specs.declared.fault.AuxFault.TheVariants.{NoRecords, Types, Version, Short, BadRecord, Memory}
use Rattle.cfi_type_table.specs.Reading.{word_or}
use Rattle.cfi_values.specs.Then.{◌>>=◌, unless_bad}

-- ---- what a call gives

-- a call that failed met this fault, unless memory ran out
abbrev pub ReadingFails : {Y : Type 0} → AuxFault → (due : Result Y AuxFault) → Type 0
ReadingFails Memory due = Unit {0}
ReadingFails NoRecords due = due ≡ Err NoRecords
ReadingFails (Types fault) due = due ≡ Err (Types fault)
ReadingFails Version due = due ≡ Err Version
ReadingFails Short due = due ≡ Err Short
ReadingFails (BadRecord k) due = due ≡ Err (BadRecord k)

-- what a call answered, seen by view, is what is due, unless memory ran out
abbrev pub ReadingGives : {X Y : Type 0} → (X → Y) → Result X AuxFault → (due : Result Y AuxFault) → Type 0
ReadingGives view (Ok x) due = due ≡ Ok (view x)
ReadingGives view (Err e) due = ReadingFails e due

-- ---- readers

-- what reads a value from the front of bytes and leaves the rest
abbrev pub Reader : Type 0 → Type 0
Reader X = List ℕ → Result (X × List ℕ) AuxFault

-- a word
abbrev pub next_word : Reader ℕ
next_word bytes = word_or Short bytes

-- a word that passes a test
unfoldable pub word_where : (test : ℕ → Bool) → AuxFault → Reader ℕ
word_where test fault bytes = next_word bytes >>= λ w. unless_bad (test w.0) fault (Ok w)

-- one, and another that depends on it
unfoldable pub and_with : {A B : Type 0} → Reader A → (A → Reader B) → Reader (A × B)
and_with first second bytes = first bytes >>= λ a. second a.0 a.1 >>= λ b. Ok ((a.0, b.0), b.1)

-- one, and another
unfoldable pub and_also : {A B : Type 0} → Reader A → Reader B → Reader (A × B)
and_also first second bytes = first bytes >>= λ a. second a.1 >>= λ b. Ok ((a.0, b.0), b.1)

-- what is read, seen as another value
unfoldable pub seen_as : {A B : Type 0} → (A → B) → Reader A → Reader B
seen_as view first bytes = first bytes >>= λ a. Ok (view a.0, a.1)

-- `count` of them, with the numbers from `at` on
unfoldable pub each : {A : Type 0} → (ℕ → Reader A) → (at count : ℕ) → Reader (List A)
each one at zero bytes = Ok ([], bytes)
each one at (suc count) bytes =
    one at bytes >>= λ first. each one (suc at) count first.1 >>= λ others. Ok (first.0 ∷ others.0, others.1)
