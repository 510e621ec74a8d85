-- A module is verified, or some fault is its first.
use Rattle.std.proofs.Common.{◌≡◌, ◌≢◌, ◌⊎◌, ℕ, ◌*◌, ◌<◌, ◌≤◌, List, [], ◌∷◌, length, refl, inl, inr, ⊎_elim, arith}
use Rattle.std.proofs.lemmas.Bool.{cases_lt}
use Rattle.elf_read.specs.Lists.{Each, IsFirstBreak, own_number}
use Rattle.cfi_aux.specs.declared.placed.Placed.{Placed}
use Rattle.cfi_unit.specs.declared.spot.Spot.{Spot}
use Rattle.cfi_unit.specs.Spots.{AreSpots, StopsAt, InsnsBelow}
use Rattle.cfi_verify.specs.declared.fault.VerifyFault.{VerifyFault}
use Rattle.cfi_verify.specs.declared.fault.VerifyFault.TheVariants as faults
use Rattle.cfi_verify.specs.declared.checks.CheckSpot.{CheckSpot}
use Rattle.cfi_verify.specs.Spots.{checks_of}
use Rattle.cfi_verify.specs.Functions.{FitsBehind, IsIdleBehind, EndsWell}
use Rattle.cfi_verify.specs.Target.{LeadsWell}
use Rattle.cfi_verify.specs.Branches.{NamesSlot, KindFits, EntriesFit}
use Rattle.cfi_verify.specs.Fault.{unit_place, check_place, IsFirstFault, Verifies, IsLaidOut, IsVerified}
use Rattle.cfi_verify.specs.inner.Reading.{IsFirstIllegal}
use Rattle.cfi_verify.proofs.FaultLemmas.{clear_one, is_first, first_illegal, first_stop}
use Rattle.cfi_verify.proofs.RowLemmas.{clear_four, clear_five, clear_six, clear_laid, clear_eight, clear_nine, first_slot, first_functions, first_open, first_target, first_kinds, first_switch}
use Rattle.cfi_verify_law.proofs.DecideLemmas.{Decided}
use Rattle.cfi_verify_law.proofs.UnitLemmas.{read_units}
use Rattle.cfi_verify_law.proofs.SearchLemmas.{searched, words_searched}
use Rattle.cfi_verify_law.proofs.RowLemmas.{names_slot, fits_behind, idle_behind, ends_well, leads_well, kind_fits, entries_fit}

module _ (m : Placed) (loaded : List Placed) where
  -- some fault is the first
  abbrev pub HasFirst : Type 0
  HasFirst = (fault : VerifyFault) × IsFirstFault m loaded fault

  -- ---- of a module whose units are read, row by row

  module _ (some : m.words ≢ []) (spots : List Spot) (are : AreSpots m.words spots) where
    abbrev Checks : (P : ℕ → CheckSpot → Type 0) → Type 0
    Checks P = Each (checks_of spots) P

    slots : Checks (NamesSlot m) ⊎ HasFirst
    slots =
        ⊎_elim (λ (each : Checks (NamesSlot m)). inl each)
        (λ (found : (o : ℕ) × IsFirstBreak (checks_of spots) check_place (NamesSlot m) o).
        inr (faults.Slot found.0, first_slot m loaded spots are (clear_four m loaded spots are some) found.0 found.1))
        (searched check_place (NamesSlot m) (names_slot m) (checks_of spots))

    functions : Checks (NamesSlot m) → (Each m.functions (FitsBehind m spots) × IsIdleBehind m spots) ⊎ HasFirst
    functions named =
        let clear = clear_five m loaded spots are some named in
        ⊎_elim
        (λ (each : Each m.functions (FitsBehind m spots)).
        ⊎_elim (λ (idle : IsIdleBehind m spots). inl (each, idle))
        (λ (fails : ¬ IsIdleBehind m spots).
        inr (
          faults.Functions (length m.functions),
          first_functions m loaded spots are clear (length m.functions) (inr (refl, each, fails)),
        ))
        (idle_behind m spots))
        (λ (found : (k : ℕ) × IsFirstBreak m.functions own_number (FitsBehind m spots) k).
        inr (faults.Functions found.0, first_functions m loaded spots are clear found.0 (inl found.1)))
        (searched own_number (FitsBehind m spots) (fits_behind m spots) m.functions)

    laid : IsLaidOut m spots ⊎ HasFirst
    laid =
        ⊎_elim
        (λ (named : Checks (NamesSlot m)).
        ⊎_elim
        (λ (fit : Each m.functions (FitsBehind m spots) × IsIdleBehind m spots).
        ⊎_elim
        (λ (each : Each m.functions (EndsWell spots)).
        inl
        (record { some = some; units = are; slots = named; functions = fit.0; idle = fit.1; ends = each }))
        (λ (found : (k : ℕ) × IsFirstBreak m.functions own_number (EndsWell spots) k).
        inr (
          faults.FallsThrough found.0,
          first_open m loaded spots are (clear_six m loaded spots are some named fit) found.0 found.1,
        ))
        (searched own_number (EndsWell spots) (ends_well spots) m.functions))
        (λ (first : HasFirst). inr first)
        (functions named))
        (λ (first : HasFirst). inr first)
        slots

    -- ---- of one that is laid out

    module _ (is_laid : IsLaidOut m spots) where
      targets : Each spots (LeadsWell m loaded spots) ⊎ HasFirst
      targets =
          ⊎_elim (λ (each : Each spots (LeadsWell m loaded spots)). inl each)
          (λ (found : (o : ℕ) × IsFirstBreak spots unit_place (LeadsWell m loaded spots) o).
          inr (
            faults.Target found.0,
            first_target m loaded spots are (clear_laid m loaded spots is_laid) found.0 found.1,
          ))
          (searched unit_place (LeadsWell m loaded spots) (leads_well m loaded spots) spots)

      kinds : Each spots (LeadsWell m loaded spots) →
          (Checks (KindFits m) × (length m.branches ≤ length (checks_of spots))) ⊎ HasFirst
      kinds leads =
          let clear = clear_eight m loaded spots are (clear_laid m loaded spots is_laid) leads in
          ⊎_elim
          (λ (each : Checks (KindFits m)).
          ⊎_elim
          (λ (more : length (checks_of spots) < length m.branches).
          inr (
            faults.Kinds (4 * length m.words),
            first_kinds m loaded spots are clear (4 * length m.words) (inr (refl, each, more)),
          ))
          (λ (few : length m.branches ≤ length (checks_of spots)). inl (each, few))
          (cases_lt (length (checks_of spots)) (length m.branches)))
          (λ (found : (o : ℕ) × IsFirstBreak (checks_of spots) check_place (KindFits m) o).
          inr (faults.Kinds found.0, first_kinds m loaded spots are clear found.0 (inl found.1)))
          (searched check_place (KindFits m) (kind_fits m) (checks_of spots))

      flows : IsVerified m loaded ⊎ HasFirst
      flows =
          ⊎_elim
          (λ (leads : Each spots (LeadsWell m loaded spots)).
          ⊎_elim
          (λ (fit : Checks (KindFits m) × (length m.branches ≤ length (checks_of spots))).
          let eight = clear_eight m loaded spots are (clear_laid m loaded spots is_laid) leads in
          ⊎_elim
          (λ (each : Checks (EntriesFit m spots)).
          inl (
            spots,
            record { laid = is_laid; targets = leads; kinds = fit.0; records = fit.1; switches = each },
          ))
          (λ (found : (k : ℕ) × IsFirstBreak (checks_of spots) own_number (EntriesFit m spots) k).
          inr (
            faults.Switch found.0,
            first_switch m loaded spots are (clear_nine m loaded spots are eight fit) found.0 found.1,
          ))
          (searched own_number (EntriesFit m spots) (entries_fit m spots) (checks_of spots)))
          (λ (first : HasFirst). inr first)
          (kinds leads))
          (λ (first : HasFirst). inr first)
          targets

    rows : IsVerified m loaded ⊎ HasFirst
    rows = ⊎_elim flows (λ (first : HasFirst). inr first) laid

  -- ---- of any module

  no_words : (words : List ℕ) → Decided (words ≡ [])
  no_words [] = inl refl
  no_words (word ∷ words) = inr (λ none. absurd (cc))

  first_empty : m.words ≡ [] → IsFirstFault m loaded faults.Empty
  first_empty none = is_first m loaded faults.Empty none (clear_one m loaded) (λ other e stands. omega arith)

  read : m.words ≢ [] → IsVerified m loaded ⊎ HasFirst
  read some =
      ⊎_elim
      (λ (insns : InsnsBelow m.words (length m.words)).
      ⊎_elim (λ (spots : (xs : List Spot) × AreSpots m.words xs). rows some spots.0 spots.1)
      (λ (stop : (at : ℕ) × StopsAt m.words at).
      inr (
        faults.NotUnit (4 * stop.0),
        first_stop m loaded some insns (4 * stop.0) (record { at = stop.0; here = refl; stops = stop.1 }),
      ))
      (read_units m.words))
      (λ (found : (at : ℕ) × IsFirstIllegal m.words at).
      inr (faults.Illegal (4 * found.0), first_illegal m loaded some (4 * found.0) found.0 refl found.1))
      (words_searched m.words)

  pub verified_or_first : IsVerified m loaded ⊎ HasFirst
  verified_or_first =
      ⊎_elim (λ (none : m.words ≡ []). inr (faults.Empty, first_empty none)) (λ (some : m.words ≢ []). read some)
      (no_words m.words)

  -- where none stands, none is the first
  pub verified : Verifies m loaded → IsVerified m loaded
  verified verifies =
      ⊎_elim (λ (is : IsVerified m loaded). is) (λ (first : HasFirst). absurd (verifies first.0 first.1.stands))
      verified_or_first
