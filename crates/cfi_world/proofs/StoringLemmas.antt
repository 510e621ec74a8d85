-- The phases of an update.
use Rattle.std.proofs.Common.{◌≡◌, ℕ, suc, ◌+◌, ◌-◌, ◌*◌, ◌<◌, ◌≤◌, ◌==◌, nat_lt, cond, Bool, true, false, List, [], ◌∷◌, length, Option, Some, None, refl, ap, arith}
use Rattle.std.proofs.lemmas.Bool.{lt-ltb, le-ltb}
use Rattle.std.proofs.lemmas.Bool.Decides.{nat_tests}
use Rattle.cfi_word.specs.Rank.{stores_of}
use Rattle.cfi_model.specs.declared.history.Entry.{Entry}
use Rattle.cfi_model.specs.declared.phase.Phase.{Phase}
use Rattle.cfi_model.specs.declared.phase.Phase.TheVariants as phases
use Rattle.cfi_model.specs.InForce.{in_force}
use Rattle.cfi_model.specs.Phases.{phase_after, phase_by, phase_of}
use Rattle.cfi_model.specs.Words.{Tables, newest, before}
use Rattle.cfi_model.proofs.PhaseLemmas.{IsRow, phase_row}
use Rattle.cfi_world.specs.Updates.{is_idle, agreeing}

row_idle : (c s : ℕ) (phase : Phase) → IsRow c s phase → is_idle phase ≡ true → stores_of c ≤ s
row_idle c s phases.Idle row is = row
row_idle c s (phases.Testing guest) row is = absurd (cc)
row_idle c s (phases.Code next) row is = absurd (cc)
row_idle c s (phases.Tary next) row is = absurd (cc)
row_idle c s phases.Epoch row is = absurd (cc)
row_idle c s (phases.Bary next) row is = absurd (cc)

row_busy : (c s : ℕ) (phase : Phase) → IsRow c s phase → is_idle phase ≡ false → s < stores_of c
row_busy c s phases.Idle row is = absurd (cc)
row_busy c s (phases.Testing guest) row is = absurd row
row_busy c s (phases.Code next) row is = omega (arith, row.0)
row_busy c s (phases.Tary next) row is = omega (arith, row.1)
row_busy c s phases.Epoch row is = omega (arith, row)
row_busy c s (phases.Bary next) row is = row.1

-- no update is under way
pub record AreIdle (t : Tables) : Type 0 where
  pub asked : t.asked ≡ None
  pub stored : stores_of t.code_words ≤ t.stored

idle_by : (asked : Option Entry) (tested c s : ℕ) → is_idle (phase_by asked tested c s) ≡ true
    → (asked ≡ None) × (stores_of c ≤ s)
idle_by None tested c s is = (refl, row_idle c s (phase_after c s) (phase_row c s) is)
idle_by (Some entry) tested c s is = absurd (cc)

pub idle_is : (t : Tables) → is_idle (phase_of t) ≡ true → AreIdle t
idle_is t is =
    let both = idle_by t.asked t.tested t.code_words t.stored is in
    record { asked = both.0; stored = both.1 }

-- stores are under way
pub record AreStoring (t : Tables) : Type 0 where
  pub asked : t.asked ≡ None
  pub stored : t.stored < stores_of t.code_words

-- the phase where the updater stores
abbrev pub is_storing : Phase → Bool
is_storing phases.Idle = false
is_storing (phases.Testing guest) = false
is_storing (phases.Code next) = true
is_storing (phases.Tary next) = true
is_storing phases.Epoch = true
is_storing (phases.Bary next) = true

-- a phase that is neither idle nor a test
pub stores_by : (phase : Phase) → (phase ≡ phases.Idle → ⊥) → ((guest : ℕ) → phase ≡ phases.Testing guest → ⊥)
    → is_storing phase ≡ true
stores_by phases.Idle none test = absurd (none refl)
stores_by (phases.Testing guest) none test = absurd (test guest refl)
stores_by (phases.Code index) none test = refl
stores_by (phases.Tary index) none test = refl
stores_by phases.Epoch none test = refl
stores_by (phases.Bary slot) none test = refl

row_storing : (c s : ℕ) (phase : Phase) → IsRow c s phase → is_storing phase ≡ true → s < stores_of c
row_storing c s phases.Idle row is = absurd (cc)
row_storing c s (phases.Testing guest) row is = absurd row
row_storing c s (phases.Code next) row is = omega (arith, row.0)
row_storing c s (phases.Tary next) row is = omega (arith, row.1)
row_storing c s phases.Epoch row is = omega (arith, row)
row_storing c s (phases.Bary next) row is = row.1

storing_by : (asked : Option Entry) (tested c s : ℕ) → is_storing (phase_by asked tested c s) ≡ true
    → (asked ≡ None) × (s < stores_of c)
storing_by None tested c s is = (refl, row_storing c s (phase_after c s) (phase_row c s) is)
storing_by (Some entry) tested c s is = absurd (cc)

pub storing_is : (t : Tables) → is_storing (phase_of t) ≡ true → AreStoring t
storing_is t is =
    let both = storing_by t.asked t.tested t.code_words t.stored is in
    record { asked = both.0; stored = both.1 }

-- the number in force grows with the stores
pub force_grows : (n c s s' : ℕ) → s ≤ s'
    → cond (nat_lt (2 * c) s) (n - 1) (n - 2) ≤ cond (nat_lt (2 * c) s') (n - 1) (n - 2)
force_grows n c s s' more = grind (arith, nat_tests)

-- all stores were made
pub force_newest : (t : Tables) → stores_of t.code_words ≤ t.stored → in_force t ≡ newest t
force_newest t all = ap (λ b. cond b (newest t) (before t)) (lt-ltb (2 * t.code_words) t.stored (omega (arith, all)))

pub force_before : (t : Tables) → t.stored ≤ t.code_words → in_force t ≡ before t
force_before t few = ap (λ b. cond b (newest t) (before t)) (le-ltb (2 * t.code_words) t.stored (omega (arith, few)))

either_most : (b : Bool) (n m : ℕ) → n ≤ m → cond b (n + 1) 0 ≤ suc m
either_most true n m less = omega arith
either_most false n m less = omega arith

-- two lists agree on no more words than they have
pub agreeing_most : (xs ys : List ℕ) → agreeing xs ys ≤ length xs
agreeing_most [] ys = omega arith
agreeing_most (x ∷ xs) [] = omega arith
agreeing_most (x ∷ xs) (y ∷ ys) =
    let rest = agreeing_most xs ys in
    either_most (x == y) (agreeing xs ys) (length xs) rest
