-- The first fault of a module, and that none stands against a module that is verified.
use Rattle.std.proofs.Common.{◌≡◌, ◌≢◌, ℕ, ◌+◌, ◌*◌, ◌<◌, ◌≤◌, List, [], length, refl, ⊎_elim, arith}
use Rattle.std.proofs.lemmas.Bool.{cases_lt}
use Rattle.cfi_aux.specs.declared.placed.Placed.{Placed}
use Rattle.cfi_verify.specs.declared.fault.VerifyFault.{VerifyFault}
use Rattle.cfi_verify.specs.declared.fault.VerifyFault.TheVariants as faults
use Rattle.cfi_unit.specs.Spots.{InsnsBelow}
use Rattle.cfi_verify.specs.Spots.{IsNotUnit}
use Rattle.cfi_verify.specs.Fault.{FaultStands, fault_number, fault_place, IsFirstFault, IsFault}
use Rattle.cfi_verify.specs.inner.Reading.{IsFirstIllegal, IsUnread}
use Rattle.cfi_unit.proofs.StopLemmas.{one_stop}

pub bound : (fault : VerifyFault) → fault_number fault < 11
bound faults.Empty = omega arith
bound fault = omega arith

positive : (fault : VerifyFault) → 0 < fault_number fault
positive faults.Empty = omega arith
positive fault = omega arith

module _ (m : Placed) (loaded : List Placed) where
  -- no fault of a lower number stands
  abbrev pub Clear : (n : ℕ) → Type 0
  Clear n = (other : VerifyFault) → fault_number other < n → ¬ FaultStands m loaded other

  pub clear_one : Clear 1
  clear_one = λ other less. absurd (omega (arith, less, positive other))

  pub clear_more : (n : ℕ) → Clear n → ((other : VerifyFault) → fault_number other ≡ n → ¬ FaultStands m loaded other) →
      Clear (n + 1)
  clear_more n clear here = λ other less.
      ⊎_elim (λ (low : fault_number other < n). clear other low)
      (λ (high : n ≤ fault_number other). here other (omega (arith, less, high)))
      (cases_lt (fault_number other) n)

  -- a fault stands, none of a lower number does, and none of its number at an earlier place
  pub is_first : (fault : VerifyFault) → FaultStands m loaded fault → Clear (fault_number fault) →
      ((other : VerifyFault) → fault_number other ≡ fault_number fault → FaultStands m loaded other →
      fault_place fault ≤ fault_place other) → IsFirstFault m loaded fault
  is_first fault stands clear least = record {
    stands = stands;
    first = λ other also earlier.
        ⊎_elim (λ (low : fault_number other < fault_number fault). clear other low also)
        (λ (same : (fault_number other ≡ fault_number fault) × (fault_place other < fault_place fault)).
        absurd (omega (arith, least other same.0 also, same.1)))
        earlier;
  }

  -- ---- no words, words that are no instructions, words that are no units

  none_empty : m.words ≢ [] → (other : VerifyFault) → fault_number other ≡ 1 → ¬ FaultStands m loaded other
  none_empty some faults.Empty e = some
  none_empty some other e = absurd (omega (arith, e))

  none_illegal : InsnsBelow m.words (length m.words) → (other : VerifyFault) → fault_number other ≡ 2 →
      ¬ FaultStands m loaded other
  none_illegal insns (faults.Illegal o) e = λ s. s.3 (insns s.0 s.1)
  none_illegal insns other e = absurd (omega (arith, e))

  pub clear_two : m.words ≢ [] → Clear 2
  clear_two some = clear_more 1 clear_one (none_empty some)

  pub clear_three : m.words ≢ [] → InsnsBelow m.words (length m.words) → Clear 3
  clear_three some insns = clear_more 2 (clear_two some) (none_illegal insns)

  least_illegal : (o at : ℕ) → o ≡ 4 * at → IsFirstIllegal m.words at → (other : VerifyFault) → fault_number other ≡ 2 →
      FaultStands m loaded other → o ≤ fault_place other
  least_illegal o at here first (faults.Illegal k) e = λ s.
      ⊎_elim (λ (low : s.0 < at). absurd (s.3 (first.before s.0 low)))
      (λ (high : at ≤ s.0). omega (arith, high, here, s.2))
      (cases_lt s.0 at)
  least_illegal o at here first other e = absurd (omega (arith, e))

  pub first_illegal : m.words ≢ [] → (o at : ℕ) → o ≡ 4 * at → IsFirstIllegal m.words at →
      IsFirstFault m loaded (faults.Illegal o)
  first_illegal some o at here first =
      is_first (faults.Illegal o) (at, first.within, here, first.fails) (clear_two some)
      (least_illegal o at here first)

  least_stop : (o : ℕ) → IsNotUnit m.words o → (other : VerifyFault) → fault_number other ≡ 3 → FaultStands m loaded other →
      o ≤ fault_place other
  least_stop o stops (faults.NotUnit k) e = λ s.
      omega (arith, one_stop m.words stops.at s.at stops.stops s.stops, stops.here, s.here)
  least_stop o stops other e = absurd (omega (arith, e))

  pub first_stop : m.words ≢ [] → InsnsBelow m.words (length m.words) → (o : ℕ) → IsNotUnit m.words o →
      IsFirstFault m loaded (faults.NotUnit o)
  first_stop some insns o stops =
      is_first (faults.NotUnit o) stops (clear_three some insns) (least_stop o stops)

  -- the fault of words that are no units
  pub unread_fault : (fault : VerifyFault) → m.words ≢ [] → IsUnread m.words fault → IsFault m loaded fault
  unread_fault (faults.Illegal o) some u = λ not_memory. first_illegal some o u.0 u.1 u.2
  unread_fault (faults.NotUnit o) some u = λ not_memory. first_stop some u.0 o u.1
  unread_fault faults.Memory some u = λ not_memory. absurd (not_memory refl)
  unread_fault faults.Empty some u = absurd u
  unread_fault (faults.Slot o) some u = absurd u
  unread_fault (faults.Functions k) some u = absurd u
  unread_fault (faults.FallsThrough k) some u = absurd u
  unread_fault (faults.Target o) some u = absurd u
  unread_fault (faults.Kinds o) some u = absurd u
  unread_fault (faults.Switch k) some u = absurd u
