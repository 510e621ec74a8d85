-- A guest's slip says the lines of the opens that it has logged: after a run, and after a service.
use Rattle.std.proofs.Common.{◌≡◌, ℕ, ◌+◌, ◌-◌, Bool, true, false, cond, List, [], ◌∷◌, ◌++◌, length, take, slice_set, Option, Some, None, Ok, Err, refl, sym, ap, subst, ◌∙◌, append-nil}
use Rattle.std.specs.Prelude.{filter}
use Rattle.std.proofs.lemmas.List.Elements.{filter-append}
use Rattle.cfi_loader.specs.Ledger.{Ledger}
use Rattle.cfi_loader.specs.Passes.{reply_with}
use Rattle.cfi_loader.specs.Results.{IsLoadFault, loaded_line, told_lines}
use Rattle.cfi_loader.specs.declared.fault.LoadFault.{LoadFault}
use Rattle.cfi_loader.specs.declared.fault.LoadFault.TheVariants.{EpochsSpent, Memory, ModulesFull, Place, Retired, Verify, VersionsSpent}
use Rattle.cfi_loader.specs.declared.loaded.Loaded.{Loaded}
use Rattle.cfi_model.specs.declared.act.Wait.TheVariants as waits
use Rattle.cfi_model.specs.Log.{is_pick_of, last_of, picked, picks_of}
use Rattle.cfi_model.specs.Raw.{Raw}
use Rattle.cfi_model.specs.Run.{serve_as, serve_of}
use Rattle.cfi_model.specs.Service.{argument, reply_of, service_of}
use Rattle.cfi_model.proofs.LogLemmas.{ends_with, set_last, within}
use Rattle.cfi_model.proofs.PickLemmas.{ends_in_pick}
use Rattle.cfi_place.specs.declared.fault.PlaceFault.TheVariants as places
use Rattle.cfi_plan.specs.declared.journal.JournalLine.{JournalLine}
use Rattle.cfi_plan.specs.declared.journal.JournalLine.TheVariants.{LoadOk, LoadAgain, LoadEpochs, LoadFull, LoadPlace, LoadRetired, LoadVerify, LoadVersions}
use Rattle.cfi_plan.specs.declared.journal.Who.{Who}
use Rattle.cfi_runner.specs.Picks.{picked_all}
use Rattle.cfi_runner.specs.Run.{HasRunOn}
use Rattle.cfi_runner.specs.declared.pause.Pause.{Pause}
use Rattle.cfi_slips.specs.Stubs.{with_lines}
use Rattle.cfi_slips.specs.declared.view.SlipView.{SlipView}
use Rattle.cfi_tables.specs.Key.{Key}
use Rattle.cfi_tables.specs.declared.view.PassView.{PassView}
use Rattle.cfi_unit.specs.declared.log.Log.{Log}
use Rattle.cfi_unit.specs.declared.log.Log.TheVariants.{Pick, Open, Cause}
use Rattle.cfi_valid.specs.declared.causes.TheConstants as causes
use Rattle.cfi_verify.specs.declared.fault.VerifyFault.TheVariants as verifying
use Rattle.cfi_word.specs.declared.services.TheConstants.{NO_FUNCTION, NO_MODULE, OPEN, TOO_MANY}
use Rattle.cfi_guest_run.specs.Answered.{AreAnswered, AreTold, IsSlipOf, Tells, TellsCause, TellsOpen, has_asked}
use Rattle.cfi_guest_run.specs.Serving.{cause_by}
use Rattle.cfi_guest_run.proofs.AnswerLemmas.{served_log_is}
use Rattle.cfi_guest_run.proofs.OtherLemmas.{unlogged}

-- ---- a log with an entry more

told_push : (log : List Log) (lines : List JournalLine) (entry : Log) (line : JournalLine) → AreTold log lines
    → Tells entry line → AreTold (log ++ entry ∷ []) (lines ++ line ∷ [])
told_push [] [] entry line told tells = (tells, tt)
told_push [] (other ∷ lines) entry line told tells = absurd told
told_push (one ∷ log) [] entry line told tells = absurd told
told_push (one ∷ log) (other ∷ lines) entry line told tells = (told.0, told_push log lines entry line told.1 tells)

asks_push : (log : List Log) (entry : Log) (asks : Bool) → has_asked entry ≡ asks
    → filter has_asked (log ++ entry ∷ []) ≡ filter has_asked log ++ cond asks (entry ∷ []) []
asks_push log entry asks is =
    filter-append has_asked log (entry ∷ [])
    ∙ ap (λ (b : Bool). filter has_asked log ++ cond b (entry ∷ []) []) is

answered_push : (log : List Log) (lines : List JournalLine) (entry : Log) (line : JournalLine)
    → AreAnswered log lines → has_asked entry ≡ true → Tells entry line
    → AreAnswered (log ++ entry ∷ []) (lines ++ line ∷ [])
answered_push log lines entry line are asks tells =
    subst (λ (xs : List Log). AreTold xs (lines ++ line ∷ [])) (sym (asks_push log entry true asks))
    (told_push (filter has_asked log) lines entry line are tells)

same_asks : (log : List Log) (entry : Log) → has_asked entry ≡ false
    → filter has_asked (log ++ entry ∷ []) ≡ filter has_asked log
same_asks log entry asks = asks_push log entry false asks ∙ append-nil (filter has_asked log)

-- ---- picks

not_asked : (policy : ℕ) (entry : Log) → is_pick_of policy (Some entry) ≡ true → has_asked entry ≡ false
not_asked policy (Pick p count) is = refl
not_asked policy (Open number address p) is = absurd (cc)
not_asked policy (Cause number cause) is = absurd (cc)

set_asks : (log : List Log) (policy count : ℕ) (entry : Log) → last_of log ≡ Some entry
    → is_pick_of policy (Some entry) ≡ true
    → filter has_asked (slice_set log (length log - 1) (Pick policy count)) ≡ filter has_asked log
set_asks log policy count entry is picks =
    let front : List Log = take (length log - 1) log in
    ap (filter has_asked) (set_last log (Pick policy count) (within log entry is))
    ∙ same_asks front (Pick policy count) refl
    ∙ sym (ap (filter has_asked) (ends_with log entry is) ∙ same_asks front entry (not_asked policy entry picks))

picked_by : (log : List Log) (policy : ℕ) (again : Bool) → is_pick_of policy (last_of log) ≡ again
    → filter has_asked
    (cond again (slice_set log (length log - 1) (Pick policy (picks_of policy (last_of log) + 1)))
    (log ++ Pick policy 1 ∷ []))
    ≡ filter has_asked log
picked_by log policy true is =
    let last = ends_in_pick log policy (last_of log) refl is in
    set_asks log policy (picks_of policy (last_of log) + 1) last.0 last.1
    (ap (is_pick_of policy) (sym last.1) ∙ is)
picked_by log policy false is = same_asks log (Pick policy 1) refl

picked_asks : (policies : List ℕ) (log : List Log) → filter has_asked (picked_all policies log) ≡ filter has_asked log
picked_asks [] log = refl
picked_asks (policy ∷ policies) log =
    picked_asks policies (picked policy log) ∙ picked_by log policy (is_pick_of policy (last_of log)) refl

-- a run logs picks alone
pub slip_run : (k : Key) (fuel : ℕ) (p q : PassView) (old new : Raw) (pause : Pause) (slip : SlipView)
    → HasRunOn k fuel p q old new pause → IsSlipOf p old slip → IsSlipOf q new slip
slip_run k fuel p q old new pause slip run is = record {
  guest = is.guest ∙ sym run.keeps.guest;
  answered = subst (λ (xs : List Log). AreTold xs slip.lines)
      (sym (ap (filter has_asked) run.picked.is ∙ picked_asks run.picked.policies old.base.log)) is.answered;
}

-- a pass of the same guest has the same slip
pub slip_same : (p q : PassView) (r : Raw) (slip : SlipView) → q.guest ≡ p.guest → IsSlipOf p r slip → IsSlipOf q r slip
slip_same p q r slip guest is = record { guest = is.guest ∙ sym guest; answered = is.answered }

-- ---- services

module _ (p q : PassView) (r new : Raw) (slip : SlipView) (guest : q.guest ≡ p.guest) (is : IsSlipOf p r slip) where
  -- an answer that is not logged
  pub slip_unlogged : (number policy : ℕ) → r.waits ≡ Some (waits.Service number)
      → new ≡ serve_of r (reply_of 0 TOO_MANY policy []) → IsSlipOf q new slip
  slip_unlogged number policy wait answer =
      let log : new.base.log ≡ r.base.log =
      ap (λ (x : Raw). x.base.log) answer
      ∙ ap (λ w. (serve_as w r (reply_of 0 TOO_MANY policy [])).base.log) wait
      ∙ unlogged (service_of number) policy r.base in
      record {
        guest = is.guest ∙ sym guest;
        answered = subst (λ (xs : List Log). AreAnswered xs slip.lines) (sym log) is.answered;
      }

  module _ (wait : r.waits ≡ Some (waits.Service OPEN)) where
    -- one of a module that the plan lacks
    pub slip_unplanned : (policy : ℕ) → new ≡ serve_of r (reply_of 0 NO_MODULE policy []) → IsSlipOf q new slip
    slip_unplanned policy answer =
        let log : new.base.log ≡ r.base.log ++ Cause (argument r.base) NO_MODULE ∷ [] =
        ap (λ (x : Raw). x.base.log) answer ∙ served_log_is r (reply_of 0 NO_MODULE policy []) wait in
        record {
          guest = is.guest ∙ sym guest;
          answered = subst (λ (xs : List Log). AreTold xs slip.lines)
              (sym (ap (filter has_asked) log ∙ same_asks r.base.log (Cause (argument r.base) NO_MODULE) refl))
              is.answered;
        }

    module _ (told : SlipView) where
      -- one that is logged, with its line
      by_line : (entry : Log) (line : JournalLine) → new.base.log ≡ r.base.log ++ entry ∷ []
          → told ≡ with_lines (line ∷ []) slip → has_asked entry ≡ true → Tells entry line → IsSlipOf q new told
      by_line entry line log told_is asks tells = record {
        guest = ap (λ (s : SlipView). s.guest) told_is ∙ is.guest ∙ sym guest;
        answered = subst (λ (z : List Log × List JournalLine). AreAnswered z.0 z.1)
            (λ i. (sym log i, sym (ap (λ (s : SlipView). s.lines) told_is) i))
            (answered_push r.base.log slip.lines entry line is.answered asks tells);
      }

      -- ---- a load that came through

      loaded_with : (loaded : Loaded) (policy : ℕ) → loaded.policy ≡ policy
          → TellsOpen (argument r.base) policy (loaded_line (argument r.base) loaded)
      loaded_with loaded policy same = by loaded.again
        where
          by : (again : Bool) → TellsOpen (argument r.base) policy
              (cond again (LoadAgain (argument r.base) loaded.policy)
              (LoadOk (argument r.base) loaded.epoch loaded.policy))
          by true = (refl, same)
          by false = (refl, same)

      loaded_without : (loaded : Loaded)
          → TellsCause (argument r.base) NO_FUNCTION (loaded_line (argument r.base) loaded)
      loaded_without loaded = by loaded.again
        where
          by : (again : Bool) → TellsCause (argument r.base) NO_FUNCTION
              (cond again (LoadAgain (argument r.base) loaded.policy)
              (LoadOk (argument r.base) loaded.epoch loaded.policy))
          by true = (refl, refl)
          by false = (refl, refl)

      loaded_at : (l : Ledger) (loaded : Loaded) (found : Option ℕ) → loaded.policy ≡ l.course.end.policy
          → new ≡ serve_of r (reply_with l r.base.log found)
          → told ≡ with_lines (told_lines (argument r.base) (Ok loaded)) slip → IsSlipOf q new told
      loaded_at l loaded (Some address) force answer told_is =
          by_line (Open (argument r.base) address l.course.end.policy) (loaded_line (argument r.base) loaded)
          (ap (λ (x : Raw). x.base.log) answer ∙ served_log_is r (reply_with l r.base.log (Some address)) wait) told_is
          refl (loaded_with loaded l.course.end.policy force)
      loaded_at l loaded None force answer told_is =
          by_line (Cause (argument r.base) NO_FUNCTION) (loaded_line (argument r.base) loaded)
          (ap (λ (x : Raw). x.base.log) answer ∙ served_log_is r (reply_with l r.base.log None) wait) told_is refl
          (loaded_without loaded)

      pub slip_loaded : (l : Ledger) (loaded : Loaded) → loaded.policy ≡ l.course.end.policy
          → new ≡ serve_of r (reply_with l r.base.log loaded.address)
          → told ≡ with_lines (told_lines (argument r.base) (Ok loaded)) slip → IsSlipOf q new told
      slip_loaded l loaded force answer told_is = loaded_at l loaded loaded.address force answer told_is

      -- ---- a load that was refused

      by_cause : (known cause policy : ℕ) (line : JournalLine) → Some known ≡ Some cause
          → (serve_of r (reply_of 0 known policy [])).base.log ≡ r.base.log ++ Cause (argument r.base) known ∷ []
          → has_asked (Cause (argument r.base) known) ≡ true → TellsCause (argument r.base) known line
          → new ≡ serve_of r (reply_of 0 cause policy []) → told ≡ with_lines (line ∷ []) slip → IsSlipOf q new told
      by_cause known cause policy line why log asks tells answer told_is =
          by_line (Cause (argument r.base) known) line
          (ap (λ (x : Raw). x.base.log) (answer ∙ ap (λ (n : ℕ). serve_of r (reply_of 0 n policy [])) (sym (one why)))
          ∙ log) told_is asks tells
        where
          one : Some known ≡ Some cause → known ≡ cause
          one same = cc

      place_is : Place places.Memory ≡ Memory → ⊥
      place_is same = cc

      verify_is : Verify verifying.Memory ≡ Memory → ⊥
      verify_is same = cc

      no_cause : (cause : ℕ) → None ≡ Some cause → ⊥
      no_cause cause same = cc

      module _ (k : Key) (who : Who) (first l : Ledger) (cause policy : ℕ)
          (answer : new ≡ serve_of r (reply_of 0 cause policy [])) where
        abbrev number : ℕ
        number = argument r.base

        log_is : (known : ℕ)
            → (serve_of r (reply_of 0 known policy [])).base.log
            ≡ (serve_as (Some (waits.Service OPEN)) r (reply_of 0 known policy [])).base.log
        log_is known = served_log_is r (reply_of 0 known policy []) wait

        by_place : (fault : ℕ) → Some causes.NOT_PLACED ≡ Some cause
            → told ≡ with_lines (LoadPlace number fault ∷ []) slip → IsSlipOf q new told
        by_place fault why told_is =
            by_cause causes.NOT_PLACED cause policy (LoadPlace number fault) why (log_is causes.NOT_PLACED) refl
            (refl, refl) answer told_is

        by_verify : (fault place : ℕ) → Some causes.NOT_VERIFIED ≡ Some cause
            → told ≡ with_lines (LoadVerify number fault place ∷ []) slip → IsSlipOf q new told
        by_verify fault place why told_is =
            by_cause causes.NOT_VERIFIED cause policy (LoadVerify number fault place) why (log_is causes.NOT_VERIFIED)
            refl (refl, refl) answer told_is

        pub slip_refused : (fault : LoadFault) → cause_by fault ≡ Some cause → IsLoadFault k who number fault first l
            → told ≡ with_lines (told_lines number (Err fault)) slip → IsSlipOf q new told
        slip_refused Retired why has told_is =
            by_cause causes.RETIRED cause policy (LoadRetired number) why (log_is causes.RETIRED) refl (refl, refl)
            answer told_is
        slip_refused ModulesFull why has told_is =
            by_cause causes.MODULES_FULL cause policy (LoadFull number) why (log_is causes.MODULES_FULL) refl
            (refl, refl) answer told_is
        slip_refused (Place (places.Undefined name)) why has told_is = by_place 1 why told_is
        slip_refused (Place places.CodeFull) why has told_is = by_place 2 why told_is
        slip_refused (Place places.DataFull) why has told_is = by_place 3 why told_is
        slip_refused (Place (places.Reloc at fault)) why has told_is = by_place 4 why told_is
        slip_refused (Place places.Memory) why has told_is = absurd (place_is has.0)
        slip_refused (Verify verifying.Memory) why has told_is = absurd (verify_is has.0)
        slip_refused (Verify verifying.Empty) why has told_is = by_verify _ _ why told_is
        slip_refused (Verify (verifying.Illegal place)) why has told_is = by_verify _ _ why told_is
        slip_refused (Verify (verifying.NotUnit place)) why has told_is = by_verify _ _ why told_is
        slip_refused (Verify (verifying.Slot place)) why has told_is = by_verify _ _ why told_is
        slip_refused (Verify (verifying.Functions place)) why has told_is = by_verify _ _ why told_is
        slip_refused (Verify (verifying.FallsThrough place)) why has told_is = by_verify _ _ why told_is
        slip_refused (Verify (verifying.Target place)) why has told_is = by_verify _ _ why told_is
        slip_refused (Verify (verifying.Kinds place)) why has told_is = by_verify _ _ why told_is
        slip_refused (Verify (verifying.Switch place)) why has told_is = by_verify _ _ why told_is
        slip_refused EpochsSpent why has told_is =
            by_cause causes.EPOCHS_SPENT cause policy (LoadEpochs number) why (log_is causes.EPOCHS_SPENT) refl
            (refl, refl) answer told_is
        slip_refused (VersionsSpent late quiet) why has told_is =
            by_cause causes.VERSIONS_SPENT cause policy (LoadVersions number late quiet) why
            (log_is causes.VERSIONS_SPENT) refl (refl, refl) answer told_is
        slip_refused Memory why has told_is = absurd (no_cause cause why)

-- there was no memory for the load: no line was told, and the open stays unanswered
pub slip_starved : (p q : PassView) (r : Raw) (slip told : SlipView) (number : ℕ) → q.guest ≡ p.guest
    → IsSlipOf p r slip → (fault : LoadFault) → cause_by fault ≡ None
    → told ≡ with_lines (told_lines number (Err fault)) slip → IsSlipOf q r told
slip_starved p q r slip told number guest is Memory none told_is = record {
  guest = ap (λ (s : SlipView). s.guest) told_is ∙ is.guest ∙ sym guest;
  answered = subst (λ (xs : List JournalLine). AreAnswered r.base.log xs)
      (sym (ap (λ (s : SlipView). s.lines) told_is ∙ append-nil slip.lines)) is.answered;
}
slip_starved p q r slip told number guest is Retired none told_is = absurd (cc)
slip_starved p q r slip told number guest is ModulesFull none told_is = absurd (cc)
slip_starved p q r slip told number guest is (Place fault) none told_is = absurd (cc)
slip_starved p q r slip told number guest is (Verify fault) none told_is = absurd (cc)
slip_starved p q r slip told number guest is EpochsSpent none told_is = absurd (cc)
slip_starved p q r slip told number guest is (VersionsSpent late quiet) none told_is = absurd (cc)
