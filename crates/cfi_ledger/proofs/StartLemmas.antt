-- The start modules, one after the other.
use Rattle.std.proofs.Common.{◌≡◌, ◌≢◌, ℕ, ◌+◌, ◌<◌, ◌≤◌, ◌++◌, Bool, true, false, cond, List, [], ◌∷◌, length, get_or, All, AllPairs, Some, refl, sym, ap, subst, ◌∙◌, arith, length-append}
use Rattle.std.specs.Option.{option_map_or}
use Rattle.std.specs.List.{slice_get}
use Rattle.std.proofs.lemmas.List.Sums.{sum_by-cons}
use Rattle.std.proofs.lemmas.List.{map-append}
use Rattle.std.proofs.lemmas.List.Elements.{All-cons, All-nil, All-weaker}
use Rattle.std.proofs.lemmas.List.Kept.{AllPairs-cons}
use Rattle.std.proofs.lemmas.Option.{slice_get-get_or}
use Rattle.cfi_aux.specs.declared.modules.Module.{Module}
use Rattle.cfi_aux.specs.declared.placed.Placed.{Placed}
use Rattle.cfi_plan.specs.Draft.{starts, one_if}
use Rattle.cfi_plan.specs.declared.journal.ModuleLine.{ModuleLine}
use Rattle.cfi_plan.specs.declared.plan.Plan.{Plan}
use Rattle.cfi_plan.specs.declared.plan.PlanModule.{PlanModule}
use Rattle.cfi_modules.specs.Order.{Joins, IsJoinFault}
use Rattle.cfi_modules.specs.Series.{IsRefusedBy}
use Rattle.cfi_modules.specs.declared.fault.JoinFault.{JoinFault}
use Rattle.cfi_modules.specs.declared.fault.JoinFault.TheVariants as joins
use Rattle.cfi_valid.specs.Journal.{IsOpeningState, starts_from}
use Rattle.cfi_valid.specs.Loaded.{LoadedModule, planned_name}
use Rattle.cfi_valid.specs.Opening.{IsFirstUnjoined}
use Rattle.cfi_valid.specs.declared.retirement.Retirement.{Retirement}
use Rattle.cfi_valid.proofs.StartLemmas.{StartsAreLoaded, one_of, starts_cons, starts_same, starts_more, starts_all, unjoined}
use Rattle.cfi_ledger.specs.Opening.{IsStartFault}
use Rattle.cfi_ledger.specs.declared.fault.OpenFault.TheVariants.{NoEntry}
use Rattle.cfi_ledger.specs.declared.fault.StartFault.TheVariants.{Open}
use Rattle.cfi_ledger.specs.Roster.{Roster, HasJoined, line_by, loaded_in_roster, loaded_of, origin_of, series_of}
use Rattle.cfi_ledger.specs.Starts.{AreStarted, opened_state, start_fault_of}
use Rattle.cfi_modules.proofs.LiveLemmas.{all_live_in}
use Rattle.cfi_ledger.proofs.JoinedLemmas.{joined_roster}
use Rattle.cfi_valid.proofs.KeptLemmas.{loaded_more, places_are}

-- ---- the numbers of start modules

-- as many as there are start modules
length_one : (start : Bool) (number : ℕ) → length (one_of start number) ≡ one_if start
length_one true number = refl
length_one false number = refl

pub starts_count : (number : ℕ) (ms : List PlanModule) → length (starts_from number ms) ≡ starts ms
starts_count number [] = refl
starts_count number (m ∷ ms) =
    ap (λ (xs : List ℕ). length xs) (starts_cons m.start number (starts_from (number + 1) ms))
    ∙ omega (
      arith,
      length-append (one_of m.start number) (starts_from (number + 1) ms),
      length_one m.start number,
      starts_count (number + 1) ms,
      sum_by-cons (λ (x : PlanModule). one_if x.start) m ms,
    )

-- none is below the first, and each is above those before it
starts_least : (number : ℕ) (ms : List PlanModule) → All (λ (k : ℕ). number ≤ k) (starts_from number ms)
starts_least number [] = All-nil (λ (k : ℕ). number ≤ k)
starts_least number (m ∷ ms) = by m.start
    (All-weaker (λ (k : ℕ). number + 1 ≤ k) (λ (k : ℕ). number ≤ k) (λ k past. omega (arith, past))
    (starts_from (number + 1) ms) (starts_least (number + 1) ms))
  where
    by : (start : Bool) → All (λ (k : ℕ). number ≤ k) (starts_from (number + 1) ms)
        → All (λ (k : ℕ). number ≤ k)
        (cond start (number ∷ starts_from (number + 1) ms) (starts_from (number + 1) ms))
    by true rest = All-cons (λ (k : ℕ). number ≤ k) number (starts_from (number + 1) ms) (omega arith) rest
    by false rest = rest

pub starts_apart : (number : ℕ) (ms : List PlanModule) → AllPairs ◌<◌ (starts_from number ms)
starts_apart number [] = λ i j d less within. absurd (omega (arith, within))
starts_apart number (m ∷ ms) = by m.start (starts_apart (number + 1) ms)
  where
    by : (start : Bool) → AllPairs ◌<◌ (starts_from (number + 1) ms)
        → AllPairs ◌<◌ (cond start (number ∷ starts_from (number + 1) ms) (starts_from (number + 1) ms))
    by true rest =
        AllPairs-cons ◌<◌ number (starts_from (number + 1) ms)
        (All-weaker (λ (k : ℕ). number + 1 ≤ k) (λ (k : ℕ). number < k) (λ k past. omega (arith, past))
        (starts_from (number + 1) ms) (starts_least (number + 1) ms)) rest
    by false rest = rest

-- ---- faults

-- no start module's fault is that of a guest
pub never_lost : (number : ℕ) (fault : JoinFault) (guest : ℕ) → start_fault_of number fault ≢ Open (NoEntry guest)
never_lost number (joins.Place fault) guest same = absurd (cc)
never_lost number (joins.Verify fault) guest same = absurd (cc)
never_lost number joins.Memory guest same = absurd (cc)

-- ---- the modules so far

starts_are : (plan : Plan) (modules : List Module) (number : ℕ) (r : Roster) → AreStarted plan modules number r
    → StartsAreLoaded plan modules number (loaded_in_roster r) r.placed
starts_are plan modules number r so_far =
    record { starts = so_far.starts; policies = so_far.policies; order = so_far.order }

module _ (plan : Plan) (modules : List Module) where
  module _ (number : ℕ) (one : PlanModule) (within : number < length plan.modules)
      (is : one ≡ get_or plan.modules number one) (r : Roster) (so_far : AreStarted plan modules number r) where
    these : StartsAreLoaded plan modules number (loaded_in_roster r) r.placed
    these = starts_are plan modules number r so_far

    -- a module that does not belong to the start
    pub started_same : one.start ≡ false → AreStarted plan modules (number + 1) r
    started_same late =
        let same = starts_same plan modules number one within is (loaded_in_roster r) r.placed these late in
        record {
          roster_is = so_far.roster_is;
          starts = same.starts;
          policies = same.policies;
          live = so_far.live;
          stay = so_far.stay;
          order = same.order;
        }

    module _ (start : one.start ≡ true) (unplaced : Module) (is_there : slice_get modules number ≡ Some unplaced) where
      -- a start module that joins
      pub started_more : (new : Roster) → HasJoined number one.name 0 unplaced r new
          → AreStarted plan modules (number + 1) new
      started_more new joined =
          let p : Placed = joined.one in
          let line : ModuleLine = line_by number one.name 0 p in
          let l : LoadedModule = record { number = number; placed = p; policy = 0 } in
          let there : loaded_of (r.lines ++ line ∷ []) (r.placed ++ p ∷ []) ≡ loaded_in_roster r ++ l ∷ [] =
          loaded_more origin_of r.lines r.placed line p so_far.roster_is.many in
          let joins : Joins plan.code_words r.placed r.placed unplaced p =
          subst (λ (n : ℕ). Joins n r.placed r.placed unplaced p) so_far.roster_is.code_words_are
          (subst (λ (ms : List Placed). Joins r.code_words r.placed ms unplaced p)
          (all_live_in (series_of r) so_far.live) joined.joins) in
          let name : one.name ≡ planned_name plan.modules number =
          sym (ap (λ o. option_map_or (λ (x : PlanModule). x.name) o [])
          (slice_get-get_or plan.modules number one within ∙ ap (λ (x : PlanModule). Some x) (sym is))) in
          let all : Roster = record r {
            lines = r.lines ++ line ∷ [];
            placed = r.placed ++ p ∷ [];
            flags = r.flags ++ true ∷ [];
            cells = new.cells;
          } in
          let more = starts_more plan modules number one within is (loaded_in_roster r) r.placed these start unplaced
          is_there p joins l refl refl (loaded_in_roster all) there in
          let started : AreStarted plan modules (number + 1) all = record {
            roster_is = joined_roster number one.name 0 unplaced r all (record {
              one = p;
              joins = joined.joins;
              is = refl;
            }) plan so_far.roster_is name;
            starts = more.starts;
            policies = more.policies;
            live = ap (λ (bs : List Bool). bs ++ true ∷ []) so_far.live
                ∙ sym (map-append (λ (m : Placed). true) r.placed (p ∷ []));
            stay = so_far.stay;
            order = more.order;
          } in
          subst (AreStarted plan modules (number + 1)) (sym joined.is) started

      -- one that does not
      module _ (fault : JoinFault) (why : IsRefusedBy (series_of r) unplaced fault) where
        refused : IsJoinFault r.code_words r.placed r.placed unplaced fault
        refused =
            subst (λ (ms : List Placed). IsJoinFault r.code_words r.placed ms unplaced fault)
            (all_live_in (series_of r) so_far.live) why

        first_unjoined : IsFirstUnjoined plan modules number fault
        first_unjoined =
            unjoined plan modules number one within is (loaded_in_roster r) r.placed these start unplaced is_there
            r.code_words so_far.roster_is.code_words_are fault refused

      pub started_fault : (fault : JoinFault) → IsRefusedBy (series_of r) unplaced fault
          → IsStartFault plan modules (start_fault_of number fault)
      started_fault (joins.Place fault) why = first_unjoined (joins.Place fault) why
      started_fault (joins.Verify fault) why = first_unjoined (joins.Verify fault) why
      started_fault joins.Memory why = tt

  -- all of them are the opening's
  pub started_all : (r : Roster) → AreStarted plan modules (length plan.modules) r
      → IsOpeningState plan modules (opened_state plan r)
  started_all r all =
      subst (λ (rs : List Retirement). IsOpeningState plan modules (record {
        epoch = plan.first;
        policy = 0;
        loaded = loaded_in_roster r;
        retired = rs;
      })) (sym all.stay)
      (starts_all plan modules (loaded_in_roster r) r.placed (places_are origin_of r.lines r.placed all.roster_is.many)
      (starts_are plan modules (length plan.modules) r all))
