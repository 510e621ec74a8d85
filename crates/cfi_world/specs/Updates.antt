-- What the updater makes of the tables.
use Rattle.std.specs.Prelude.{ℕ, ◌+◌, ◌==◌, nat_lt, if◌then◌else◌, Bool, true, false, List, [], ◌∷◌, ◌++◌, drop, Option, Some, None}
use Rattle.cfi_word.specs.declared.lists.Image.{Image}
use Rattle.cfi_word.specs.declared.limits.TheConstants.{GUESTS}
use Rattle.cfi_model.specs.declared.history.Entry.{Entry}
use Rattle.cfi_model.specs.declared.phase.Phase.{Phase}
use Rattle.cfi_model.specs.declared.phase.Phase.TheVariants as phases
use Rattle.cfi_model.specs.Words.{Tables, entry_at, newest, before}

-- no update is under way
abbrev pub is_idle : Phase → Bool
is_idle phases.Idle = true
is_idle (phases.Testing guest) = false
is_idle (phases.Code next) = false
is_idle (phases.Tary next) = false
is_idle phases.Epoch = false
is_idle (phases.Bary next) = false

-- a refresh keeps the policy and the image, a load has the next policy
abbrev pub asked_entry : Tables → Option Image → Entry
asked_entry t None = record {
  policy = (entry_at t (newest t)).policy;
  image = (entry_at t (newest t)).image;
  mark = 0;
}
asked_entry t (Some image) = record {
  policy = (entry_at t (newest t)).policy + 1;
  image = image;
  mark = 0;
}

-- an update begins with the test of the first QUIET word
abbrev pub begun : Option Image → Tables → Tables
begun image t = record t { asked = Some (asked_entry t image); tested = 0 }

-- it was not admitted
abbrev pub dropped : Tables → Tables
dropped t = record t { asked = None; tested = 0 }

-- on how many first words two lists agree
abbrev pub agreeing : (old new : List ℕ) → ℕ
agreeing [] new = 0
agreeing (x ∷ old) [] = 0
agreeing (x ∷ old) (y ∷ new) = if x == y then agreeing old new + 1 else 0

-- the next store is the first from here on that is needed: a code word on which both images agree needs none
abbrev pub next_store : Tables → (from : ℕ) → ℕ
next_store t from =
    from + agreeing (drop from (entry_at t (before t)).image.code) (drop from (entry_at t (newest t)).image.code)

-- the tables at their next store, from this one on
abbrev pub at_store : (from : ℕ) → Tables → Tables
at_store from t = record t { stored = next_store t from }

-- a QUIET word was tested: the next one is, or after the last one the stores begin
abbrev pub quiet_passed : Entry → Tables → Tables
quiet_passed entry t =
    if nat_lt (t.tested + 1) GUESTS
    then record t { tested = t.tested + 1 }
    else at_store 0 (record t { entries = t.entries ++ entry ∷ []; stored = 0; asked = None; tested = 0 })

-- the tests are passed for what was asked for
abbrev pub passed_by : Option Entry → Tables → Tables
passed_by None t = t
passed_by (Some entry) t = quiet_passed entry t

-- a store was made
abbrev pub stored : Tables → Tables
stored t = at_store (t.stored + 1) t
