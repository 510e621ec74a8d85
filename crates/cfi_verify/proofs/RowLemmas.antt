-- The first fault of a module whose units are read, and that none stands against one that is verified.
use Rattle.std.proofs.Common.{◌≡◌, ◌≢◌, ℕ, ◌*◌, ◌<◌, ◌≤◌, List, [], length, Some, subst, ⊎_elim, inl, inr, arith}
use Rattle.std.specs.List.{slice_get}
use Rattle.std.proofs.lemmas.Option.{get_or_from_slice_get, slice_get_within}
use Rattle.cfi_aux.specs.declared.placed.Placed.{Placed}
use Rattle.cfi_verify.specs.declared.fault.VerifyFault.{VerifyFault}
use Rattle.cfi_verify.specs.declared.fault.VerifyFault.TheVariants as faults
use Rattle.cfi_unit.specs.declared.spot.Spot.{Spot}
use Rattle.cfi_verify.specs.declared.checks.CheckSpot.{CheckSpot}
use Rattle.elf_read.specs.Lists.{Each, Breaks, IsFirstBreak, own_number}
use Rattle.cfi_verify.specs.Spots.{checks_of}
use Rattle.cfi_unit.specs.Spots.{AreSpots}
use Rattle.cfi_verify.specs.Functions.{FitsBehind, IsIdleBehind, EndsWell}
use Rattle.cfi_verify.specs.Target.{LeadsWell}
use Rattle.cfi_verify.specs.Branches.{NamesSlot, KindFits, EntriesFit}
use Rattle.cfi_verify.specs.Fault.{unit_place, check_place, FaultStandsIn, FaultStands, fault_number, fault_place, IsFirstFault, Verifies, IsLaidOut, IsVerifiedAs}
use Rattle.cfi_verify.specs.inner.Places.{IsFirstUnfit, IsFirstMisfit}
use Rattle.cfi_verify.proofs.ListLemmas.{break_of, no_break, first_is_least}
use Rattle.cfi_verify.proofs.SpotLemmas.{spots-rising, checks-within, checks-rising, rise_from}
use Rattle.cfi_unit.proofs.SpotLemmas.{AreSpots-one}
use Rattle.cfi_unit.proofs.StopLemmas.{code_insns, no_stop}
use Rattle.cfi_verify.proofs.FaultLemmas.{bound, Clear, clear_more, clear_three, is_first}

module _ (m : Placed) (loaded : List Placed) (spots : List Spot) (are : AreSpots m.words spots) where
  -- what stands against the module stands against these units
  here : (fault : VerifyFault) → ((xs : List Spot) × AreSpots m.words xs × FaultStandsIn m loaded xs fault) →
      FaultStandsIn m loaded spots fault
  here fault s = subst (λ (xs : List Spot). FaultStandsIn m loaded xs fault) (AreSpots-one m.words s.0 spots s.1 are) s.2

  none_stop : (other : VerifyFault) → fault_number other ≡ 3 → ¬ FaultStands m loaded other
  none_stop (faults.NotUnit o) e = λ s. no_stop m.words are.code s.at are.units s.stops
  none_stop other e = absurd (omega (arith, e))

  pub clear_four : m.words ≢ [] → Clear m loaded 4
  clear_four some =
      clear_more m loaded 3 (clear_three m loaded some (code_insns m.words are.code are.units)) none_stop

  unit_rise : (i j : ℕ) (x y : Spot) → slice_get spots i ≡ Some x → slice_get spots j ≡ Some y → i ≤ j →
      unit_place i x ≤ unit_place j y
  unit_rise i j x y first second order =
      omega (arith, rise_from (λ (s : Spot). s.at) spots (spots-rising m.words spots are) i j x y first second order)

  check_rise : (i j : ℕ) (x y : CheckSpot) → slice_get (checks_of spots) i ≡ Some x →
      slice_get (checks_of spots) j ≡ Some y → i ≤ j → check_place i x ≤ check_place j y
  check_rise i j x y first second order =
      omega (
        arith,
        rise_from (λ (c : CheckSpot). c.at) (checks_of spots) (checks-rising m.words spots are) i j x y first second
            order,
      )

  own_rise : {T : Type 0} (xs : List T) (i j : ℕ) (x y : T) → slice_get xs i ≡ Some x → slice_get xs j ≡ Some y →
      i ≤ j → own_number i x ≤ own_number j y
  own_rise xs i j x y first second order = order

  -- ---- slots

  abbrev pub Slots : Type 0
  Slots = Each (checks_of spots) (NamesSlot m)

  none_slot : Slots → (other : VerifyFault) → fault_number other ≡ 4 → ¬ FaultStands m loaded other
  none_slot each (faults.Slot o) e = λ s. no_break (checks_of spots) (NamesSlot m) check_place o each
      (here (faults.Slot o) s)
  none_slot each other e = absurd (omega (arith, e))

  least_slot : (o : ℕ) → IsFirstBreak (checks_of spots) check_place (NamesSlot m) o → (other : VerifyFault) →
      fault_number other ≡ 4 → FaultStands m loaded other → o ≤ fault_place other
  least_slot o first (faults.Slot k) e = λ s.
      first_is_least (checks_of spots) (NamesSlot m) check_place o k check_rise first (here (faults.Slot k) s)
  least_slot o first other e = absurd (omega (arith, e))

  pub first_slot : Clear m loaded 4 → (o : ℕ) → IsFirstBreak (checks_of spots) check_place (NamesSlot m) o →
      IsFirstFault m loaded (faults.Slot o)
  first_slot clear o first =
      is_first m loaded (faults.Slot o) (spots, are, break_of (checks_of spots) (NamesSlot m) check_place o first) clear
      (least_slot o first)

  pub clear_five : m.words ≢ [] → Slots → Clear m loaded 5
  clear_five some slots = clear_more m loaded 4 (clear_four some) (none_slot slots)

  -- ---- functions

  abbrev pub Functions : Type 0
  Functions = Each m.functions (FitsBehind m spots) × IsIdleBehind m spots

  none_functions : Functions → (other : VerifyFault) → fault_number other ≡ 5 → ¬ FaultStands m loaded other
  none_functions each (faults.Functions k) e = λ s.
      ⊎_elim
      (λ (b : Breaks m.functions own_number (FitsBehind m spots) k).
      no_break m.functions (FitsBehind m spots) own_number k each.0 b)
      (λ (b : (k ≡ length m.functions) × ¬ IsIdleBehind m spots). b.1 each.1)
      (here (faults.Functions k) s)
  none_functions each other e = absurd (omega (arith, e))

  unfit_in : (k : ℕ) → IsFirstUnfit m spots k → FaultStandsIn m loaded spots (faults.Functions k)
  unfit_in k first =
      ⊎_elim
      (λ (b : IsFirstBreak m.functions own_number (FitsBehind m spots) k).
      inl (break_of m.functions (FitsBehind m spots) own_number k b))
      (λ (b : (k ≡ length m.functions) × Each m.functions (FitsBehind m spots) × ¬ IsIdleBehind m spots).
      inr (b.0, b.2))
      first

  least_unfit : (k : ℕ) → IsFirstUnfit m spots k → (n : ℕ) → FaultStandsIn m loaded spots (faults.Functions n) → k ≤ n
  least_unfit k first n s =
      ⊎_elim
      (λ (a : IsFirstBreak m.functions own_number (FitsBehind m spots) k).
      ⊎_elim
      (λ (b : Breaks m.functions own_number (FitsBehind m spots) n).
      first_is_least m.functions (FitsBehind m spots) own_number k n (own_rise m.functions) a b)
      (λ (b : (n ≡ length m.functions) × ¬ IsIdleBehind m spots).
      omega (arith, slice_get_within m.functions a.number a.item a.is, a.here, b.0))
      s)
      (λ (a : (k ≡ length m.functions) × Each m.functions (FitsBehind m spots) × ¬ IsIdleBehind m spots).
      ⊎_elim
      (λ (b : Breaks m.functions own_number (FitsBehind m spots) n).
      absurd (no_break m.functions (FitsBehind m spots) own_number n a.1 b))
      (λ (b : (n ≡ length m.functions) × ¬ IsIdleBehind m spots). omega (arith, a.0, b.0))
      s)
      first

  least_functions : (k : ℕ) → IsFirstUnfit m spots k → (other : VerifyFault) → fault_number other ≡ 5 →
      FaultStands m loaded other → k ≤ fault_place other
  least_functions k first (faults.Functions n) e = λ s. least_unfit k first n (here (faults.Functions n) s)
  least_functions k first other e = absurd (omega (arith, e))

  pub first_functions : Clear m loaded 5 → (k : ℕ) → IsFirstUnfit m spots k →
      IsFirstFault m loaded (faults.Functions k)
  first_functions clear k first =
      is_first m loaded (faults.Functions k) (spots, are, unfit_in k first) clear (least_functions k first)

  pub clear_six : m.words ≢ [] → Slots → Functions → Clear m loaded 6
  clear_six some slots functions = clear_more m loaded 5 (clear_five some slots) (none_functions functions)

  -- ---- ends

  abbrev pub Ends : Type 0
  Ends = Each m.functions (EndsWell spots)

  none_open : Ends → (other : VerifyFault) → fault_number other ≡ 6 → ¬ FaultStands m loaded other
  none_open each (faults.FallsThrough k) e = λ s.
      no_break m.functions (EndsWell spots) own_number k each (here (faults.FallsThrough k) s)
  none_open each other e = absurd (omega (arith, e))

  least_open : (k : ℕ) → IsFirstBreak m.functions own_number (EndsWell spots) k → (other : VerifyFault) →
      fault_number other ≡ 6 → FaultStands m loaded other → k ≤ fault_place other
  least_open k first (faults.FallsThrough n) e = λ s.
      first_is_least m.functions (EndsWell spots) own_number k n (own_rise m.functions) first
      (here (faults.FallsThrough n) s)
  least_open k first other e = absurd (omega (arith, e))

  pub first_open : Clear m loaded 6 → (k : ℕ) → IsFirstBreak m.functions own_number (EndsWell spots) k →
      IsFirstFault m loaded (faults.FallsThrough k)
  first_open clear k first =
      is_first m loaded (faults.FallsThrough k) (spots, are, break_of m.functions (EndsWell spots) own_number k first)
      clear (least_open k first)

  pub clear_seven : m.words ≢ [] → Slots → Functions → Ends → Clear m loaded 7
  clear_seven some slots functions ends = clear_more m loaded 6 (clear_six some slots functions) (none_open ends)

  -- ---- targets

  abbrev pub Targets : Type 0
  Targets = Each spots (LeadsWell m loaded spots)

  none_target : Targets → (other : VerifyFault) → fault_number other ≡ 7 → ¬ FaultStands m loaded other
  none_target each (faults.Target o) e = λ s.
      no_break spots (LeadsWell m loaded spots) unit_place o each (here (faults.Target o) s)
  none_target each other e = absurd (omega (arith, e))

  least_target : (o : ℕ) → IsFirstBreak spots unit_place (LeadsWell m loaded spots) o → (other : VerifyFault) →
      fault_number other ≡ 7 → FaultStands m loaded other → o ≤ fault_place other
  least_target o first (faults.Target k) e = λ s.
      first_is_least spots (LeadsWell m loaded spots) unit_place o k unit_rise first (here (faults.Target k) s)
  least_target o first other e = absurd (omega (arith, e))

  pub first_target : Clear m loaded 7 → (o : ℕ) → IsFirstBreak spots unit_place (LeadsWell m loaded spots) o →
      IsFirstFault m loaded (faults.Target o)
  first_target clear o first =
      is_first m loaded (faults.Target o) (spots, are, break_of spots (LeadsWell m loaded spots) unit_place o first)
      clear (least_target o first)

  pub clear_eight : Clear m loaded 7 → Targets → Clear m loaded 8
  clear_eight clear targets = clear_more m loaded 7 clear (none_target targets)

  -- ---- kinds

  abbrev pub Kinds : Type 0
  Kinds = Each (checks_of spots) (KindFits m) × (length m.branches ≤ length (checks_of spots))

  none_kinds : Kinds → (other : VerifyFault) → fault_number other ≡ 8 → ¬ FaultStands m loaded other
  none_kinds each (faults.Kinds o) e = λ s.
      ⊎_elim
      (λ (b : Breaks (checks_of spots) check_place (KindFits m) o).
      no_break (checks_of spots) (KindFits m) check_place o each.0 b)
      (λ (b : (o ≡ 4 * length m.words) × (length (checks_of spots) < length m.branches)).
      absurd (omega (arith, b.1, each.1)))
      (here (faults.Kinds o) s)
  none_kinds each other e = absurd (omega (arith, e))

  misfit_in : (o : ℕ) → IsFirstMisfit m (checks_of spots) o → FaultStandsIn m loaded spots (faults.Kinds o)
  misfit_in o first =
      ⊎_elim
      (λ (b : IsFirstBreak (checks_of spots) check_place (KindFits m) o).
      inl (break_of (checks_of spots) (KindFits m) check_place o b))
      (λ (b : (o ≡ 4 * length m.words) × Each (checks_of spots) (KindFits m)
      × (length (checks_of spots) < length m.branches)). inr (b.0, b.2))
      first

  -- a check stands before the end of the words
  check_before : (number : ℕ) (check : CheckSpot) → slice_get (checks_of spots) number ≡ Some check →
      check.at < length m.words
  check_before number check is =
      subst (λ (c : CheckSpot). c.at < length m.words) (get_or_from_slice_get (checks_of spots) number check check is)
      (checks-within m.words spots are number check (slice_get_within (checks_of spots) number check is))

  least_misfit : (o : ℕ) → IsFirstMisfit m (checks_of spots) o → (k : ℕ) →
      FaultStandsIn m loaded spots (faults.Kinds k) → o ≤ k
  least_misfit o first k s =
      ⊎_elim
      (λ (a : IsFirstBreak (checks_of spots) check_place (KindFits m) o).
      ⊎_elim
      (λ (b : Breaks (checks_of spots) check_place (KindFits m) k).
      first_is_least (checks_of spots) (KindFits m) check_place o k check_rise a b)
      (λ (b : (k ≡ 4 * length m.words) × (length (checks_of spots) < length m.branches)).
      omega (arith, check_before a.number a.item a.is, a.here, b.0))
      s)
      (λ (a : (o ≡ 4 * length m.words) × Each (checks_of spots) (KindFits m)
      × (length (checks_of spots) < length m.branches)).
      ⊎_elim
      (λ (b : Breaks (checks_of spots) check_place (KindFits m) k).
      absurd (no_break (checks_of spots) (KindFits m) check_place k a.1 b))
      (λ (b : (k ≡ 4 * length m.words) × (length (checks_of spots) < length m.branches)). omega (arith, a.0, b.0))
      s)
      first

  least_kinds : (o : ℕ) → IsFirstMisfit m (checks_of spots) o → (other : VerifyFault) → fault_number other ≡ 8 →
      FaultStands m loaded other → o ≤ fault_place other
  least_kinds o first (faults.Kinds k) e = λ s. least_misfit o first k (here (faults.Kinds k) s)
  least_kinds o first other e = absurd (omega (arith, e))

  pub first_kinds : Clear m loaded 8 → (o : ℕ) → IsFirstMisfit m (checks_of spots) o →
      IsFirstFault m loaded (faults.Kinds o)
  first_kinds clear o first =
      is_first m loaded (faults.Kinds o) (spots, are, misfit_in o first) clear (least_kinds o first)

  pub clear_nine : Clear m loaded 8 → Kinds → Clear m loaded 9
  clear_nine clear kinds = clear_more m loaded 8 clear (none_kinds kinds)

  -- ---- switches

  none_switch : Each (checks_of spots) (EntriesFit m spots) → (other : VerifyFault) → fault_number other ≡ 9 →
      ¬ FaultStands m loaded other
  none_switch each (faults.Switch k) e = λ s.
      no_break (checks_of spots) (EntriesFit m spots) own_number k each (here (faults.Switch k) s)
  none_switch each other e = absurd (omega (arith, e))

  least_switch : (k : ℕ) → IsFirstBreak (checks_of spots) own_number (EntriesFit m spots) k → (other : VerifyFault) →
      fault_number other ≡ 9 → FaultStands m loaded other → k ≤ fault_place other
  least_switch k first (faults.Switch n) e = λ s.
      first_is_least (checks_of spots) (EntriesFit m spots) own_number k n (own_rise (checks_of spots)) first
      (here (faults.Switch n) s)
  least_switch k first other e = absurd (omega (arith, e))

  pub first_switch : Clear m loaded 9 → (k : ℕ) →
      IsFirstBreak (checks_of spots) own_number (EntriesFit m spots) k → IsFirstFault m loaded (faults.Switch k)
  first_switch clear k first =
      is_first m loaded (faults.Switch k)
      (spots, are, break_of (checks_of spots) (EntriesFit m spots) own_number k first) clear (least_switch k first)

none_memory : (m : Placed) (loaded : List Placed) (other : VerifyFault) → fault_number other ≡ 10 → ¬ FaultStands m loaded other
none_memory m loaded faults.Memory e = λ s. s.2
none_memory m loaded other e = absurd (omega (arith, e))

-- no fault up to `FallsThrough` stands against a module that is laid out
pub clear_laid : (m : Placed) (loaded : List Placed) (spots : List Spot) → IsLaidOut m spots → Clear m loaded 7
clear_laid m loaded spots l =
    clear_seven m loaded spots l.units l.some l.slots (l.functions, l.idle) l.ends

-- no fault stands against a module that is verified
pub no_fault : (m : Placed) (loaded : List Placed) (spots : List Spot) → IsVerifiedAs m loaded spots →
    Verifies m loaded
no_fault m loaded spots v = λ fault.
    let are = v.laid.units in
    let eight = clear_eight m loaded spots are (clear_laid m loaded spots v.laid) v.targets in
    let nine = clear_nine m loaded spots are eight (v.kinds, v.records) in
    let ten = clear_more m loaded 9 nine (none_switch m loaded spots are v.switches) in
    clear_more m loaded 10 ten (none_memory m loaded) fault (bound fault)
