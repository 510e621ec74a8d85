-- The phases of an update, and which words are new in each.
use Rattle.std.specs.Prelude.{ℕ, ◌+◌, ◌-◌, ◌*◌, ◌==◌, nat_lt, if◌then◌else◌, Bool, true, false, Option, Some, None}
use Rattle.cfi_word.specs.Table.{Place, Epoch, Quiet, Code, Tary, Bary}
use Rattle.cfi_word.specs.Rank.{stores_of}
use Rattle.cfi_model.specs.declared.history.Entry.{Entry}
use Rattle.cfi_model.specs.declared.phase.Phase.{Phase}
use Rattle.cfi_model.specs.declared.phase.Phase.TheVariants as phases
use Rattle.cfi_model.specs.Words.{Tables, newest, before}

-- the phase after so many stores: the number is that of the next word of its area
abbrev pub phase_after : (code_words stored : ℕ) → Phase
phase_after code_words stored =
    if nat_lt stored code_words then phases.Code stored else
    (if nat_lt stored (2 * code_words) then phases.Tary (stored - code_words) else
    (if stored == 2 * code_words then phases.Epoch else
    (if nat_lt stored (stores_of code_words) then phases.Bary (stored - (2 * code_words + 1)) else phases.Idle)))

-- the phase where a test is under way, and else that of the stores
abbrev pub phase_by : Option Entry → (tested code_words stored : ℕ) → Phase
phase_by (Some entry) tested code_words stored = phases.Testing tested
phase_by None tested code_words stored = phase_after code_words stored

-- the phase of the tables
abbrev pub phase_of : Tables → Phase
phase_of t = phase_by t.asked t.tested t.code_words t.stored

-- the words that are of the newest entry in each phase; the others are of the one before
abbrev pub is_newest : Phase → Place → Bool
is_newest phases.Idle place = true
is_newest (phases.Testing guest) place = true
is_newest (phases.Code next) (Code index) = nat_lt index next
is_newest (phases.Code next) (Tary index) = false
is_newest (phases.Code next) Epoch = false
is_newest (phases.Code next) (Bary slot) = false
is_newest (phases.Code next) (Quiet guest) = false
is_newest (phases.Tary next) (Code index) = true
is_newest (phases.Tary next) (Tary index) = nat_lt index next
is_newest (phases.Tary next) Epoch = false
is_newest (phases.Tary next) (Bary slot) = false
is_newest (phases.Tary next) (Quiet guest) = false
is_newest phases.Epoch (Code index) = true
is_newest phases.Epoch (Tary index) = true
is_newest phases.Epoch Epoch = false
is_newest phases.Epoch (Bary slot) = false
is_newest phases.Epoch (Quiet guest) = false
is_newest (phases.Bary next) (Code index) = true
is_newest (phases.Bary next) (Tary index) = true
is_newest (phases.Bary next) Epoch = true
is_newest (phases.Bary next) (Bary slot) = nat_lt slot next
is_newest (phases.Bary next) (Quiet guest) = false

-- of which entry the word of a place is: the newest where it is stored, and else the one before
abbrev pub number_in : Phase → Tables → Place → ℕ
number_in phase t place = if is_newest phase place then newest t else before t

-- the updater has made one store more
abbrev pub one_more : Tables → Tables
one_more t = record t { stored = t.stored + 1 }
