-- A runner after the refusal of an open whose load was refused, by its fault.
use Rattle.std.proofs.Common.{◌≡◌, ◌≤◌, ◌<◌, ℕ, Some, None, All, List, [], ◌∷◌, ◌++◌, sym, ap, subst, ◌∙◌, arith}
use Rattle.cfi_aux.specs.declared.modules.Module.{Module}
use Rattle.cfi_loader.specs.Ledger.{Ledger, IsLedger}
use Rattle.cfi_loader.specs.Results.{HasRefused, IsLoadFault}
use Rattle.cfi_ledger.specs.Journal.{asked_by}
use Rattle.cfi_loader.specs.declared.fault.LoadFault.{LoadFault}
use Rattle.cfi_loader.specs.declared.fault.LoadFault.TheVariants.{EpochsSpent, Memory, ModulesFull, Place, Retired, Verify, VersionsSpent}
use Rattle.cfi_ledger.proofs.PolicyLemmas.{policies_below}
use Rattle.cfi_model.specs.declared.act.Wait.TheVariants as waits
use Rattle.cfi_model.specs.Log.{opens}
use Rattle.cfi_model.specs.Raw.{Raw}
use Rattle.cfi_model.specs.Run.{serve_of}
use Rattle.cfi_model.specs.Service.{argument, reply_of}
use Rattle.cfi_place.specs.declared.fault.PlaceFault.TheVariants as places
use Rattle.cfi_plan.specs.declared.journal.JournalLine.{JournalLine}
use Rattle.cfi_plan.specs.declared.journal.JournalLine.TheVariants.{LoadEpochs, LoadFull, LoadPlace, LoadRetired, LoadVerify, LoadVersions}
use Rattle.cfi_plan.specs.declared.journal.Who.TheVariants.{Guest}
use Rattle.cfi_plan.specs.declared.plan.Plan.{Plan}
use Rattle.cfi_tables.specs.Key.{Key}
use Rattle.cfi_tables.specs.Views.{noted}
use Rattle.cfi_tables.specs.declared.view.PassView.{PassView}
use Rattle.cfi_unit.specs.declared.log.Log.TheVariants.{Cause}
use Rattle.cfi_valid.specs.Growth.{FitsEntry}
use Rattle.cfi_valid.specs.Journal.{JournalState}
use Rattle.cfi_valid.specs.Loaded.{LoadedModule}
use Rattle.cfi_valid.specs.Log.{IsLogged}
use Rattle.cfi_valid.specs.declared.causes.TheConstants as causes
use Rattle.cfi_verify.specs.declared.fault.VerifyFault.TheVariants as verifying
use Rattle.cfi_word.specs.declared.limits.TheConstants.{MAX_OPENS}
use Rattle.cfi_word.specs.declared.services.TheConstants.{OPEN}
use Rattle.cfi_guest_run.specs.Runner.{HasAsked, IsRunnerBy, IsServed}
use Rattle.cfi_guest_run.specs.Serving.{IsPassTold, cause_by}
use Rattle.cfi_guest_run.proofs.CauseLemmas.{fits_epochs, fits_full, fits_place, fits_retired, fits_verify, fits_versions}
use Rattle.cfi_guest_run.proofs.AnswerLemmas.{refused, served_log_is}

module _ (k : Key) (plan : Plan) (modules : List Module) (p : PassView) (r : Raw) (first : Ledger)
    (at : IsRunnerBy k plan modules p r first) (asked : HasAsked k plan.fuel p r OPEN)
    (few : opens r.base.log < MAX_OPENS) (logged : IsLogged first.course p.guest r.base.log)
    (l : Ledger) (is : IsLedger k plan modules l) (note : IsPassTold k plan modules l p (noted k l.keeping p)) where
  abbrev number : ℕ
  number = argument r.base

  abbrev Answers : (cause : ℕ) → Type 0
  Answers cause =
      IsServed k plan modules (noted k l.keeping p) (serve_of r (reply_of 0 cause l.course.end.policy []))

  is_waiting : r.waits ≡ Some (waits.Service OPEN)
  is_waiting = ap (λ x. x.waits) asked.run.pauses.0 ∙ asked.run.pauses.1

  still_below : All (λ (m : LoadedModule). m.policy ≤ first.course.end.policy) first.course.end.loaded
  still_below = policies_below first.course.plan first.course.end at.settled.ledger.policies

  -- the state is as it was
  as_before : (line : JournalLine) (cause : ℕ) → l.course.end ≡ first.course.end
      → FitsEntry first.course (record {
        plan = first.course.plan;
        modules = first.course.modules;
        journal = first.course.journal ++ asked_by (Guest p.guest) line ∷ [];
        end = first.course.end;
      }) p.guest r.base.log (Cause number cause)
      → FitsEntry first.course (record {
        plan = first.course.plan;
        modules = first.course.modules;
        journal = first.course.journal ++ asked_by (Guest p.guest) line ∷ [];
        end = l.course.end;
      }) p.guest r.base.log (Cause number cause)
  as_before line cause same fits =
      subst (λ (end : JournalState). FitsEntry first.course (record {
        plan = first.course.plan;
        modules = first.course.modules;
        journal = first.course.journal ++ asked_by (Guest p.guest) line ∷ [];
        end = end;
      }) p.guest r.base.log (Cause number cause)) (sym same) fits

  by_place : (fault : LoadFault) (told : ℕ) → HasRefused k (Guest p.guest) number fault (LoadPlace number told) first l
      → Answers causes.NOT_PLACED
  by_place fault told has =
      let leads = has.told.course.leads in
      refused k plan modules p r first at asked few logged (LoadPlace number told) l has.told is note causes.NOT_PLACED
      (λ e. absurd (omega (arith, e))) (λ e. absurd (omega (arith, e)))
      (served_log_is r (reply_of 0 causes.NOT_PLACED l.course.end.policy []) is_waiting)
      (as_before (LoadPlace number told) causes.NOT_PLACED leads.1.1
      (fits_place first.course p.guest r.base.log logged still_below number told leads.1.0))

  by_verify : (fault : LoadFault) (told place : ℕ)
      → HasRefused k (Guest p.guest) number fault (LoadVerify number told place) first l → Answers causes.NOT_VERIFIED
  by_verify fault told place has =
      let leads = has.told.course.leads in
      refused k plan modules p r first at asked few logged (LoadVerify number told place) l has.told is note
      causes.NOT_VERIFIED
      (λ e. absurd (omega (arith, e))) (λ e. absurd (omega (arith, e)))
      (served_log_is r (reply_of 0 causes.NOT_VERIFIED l.course.end.policy []) is_waiting)
      (as_before (LoadVerify number told place) causes.NOT_VERIFIED leads.1.1
      (fits_verify first.course p.guest r.base.log logged still_below number told place leads.1.0))

  by_full : HasRefused k (Guest p.guest) number ModulesFull (LoadFull number) first l → Answers causes.MODULES_FULL
  by_full has =
      let leads = has.told.course.leads in
      refused k plan modules p r first at asked few logged (LoadFull number) l has.told is note causes.MODULES_FULL
      (λ e. absurd (omega (arith, e))) (λ e. absurd (omega (arith, e)))
      (served_log_is r (reply_of 0 causes.MODULES_FULL l.course.end.policy []) is_waiting)
      (as_before (LoadFull number) causes.MODULES_FULL leads.1.1
      (fits_full first.course p.guest r.base.log logged still_below number leads.1.0))

  by_retired : HasRefused k (Guest p.guest) number Retired (LoadRetired number) first l → Answers causes.RETIRED
  by_retired has =
      let leads = has.told.course.leads in
      refused k plan modules p r first at asked few logged (LoadRetired number) l has.told is note causes.RETIRED
      (λ e. absurd (omega (arith, e))) (λ e. absurd (omega (arith, e)))
      (served_log_is r (reply_of 0 causes.RETIRED l.course.end.policy []) is_waiting)
      (as_before (LoadRetired number) causes.RETIRED leads.1.1
      (fits_retired first.course p.guest r.base.log logged still_below number leads.1.0))

  by_epochs : HasRefused k (Guest p.guest) number EpochsSpent (LoadEpochs number) first l
      → Answers causes.EPOCHS_SPENT
  by_epochs has =
      let leads = has.told.course.leads in
      refused k plan modules p r first at asked few logged (LoadEpochs number) l has.told is note causes.EPOCHS_SPENT
      (λ e. absurd (omega (arith, e))) (λ e. absurd (omega (arith, e)))
      (served_log_is r (reply_of 0 causes.EPOCHS_SPENT l.course.end.policy []) is_waiting)
      (as_before (LoadEpochs number) causes.EPOCHS_SPENT leads.1.2
      (fits_epochs first.course p.guest r.base.log logged still_below number l.course.end leads.1))

  by_versions : (late quiet : ℕ)
      → HasRefused k (Guest p.guest) number (VersionsSpent late quiet) (LoadVersions number late quiet) first l
      → Answers causes.VERSIONS_SPENT
  by_versions late quiet has =
      let leads = has.told.course.leads in
      refused k plan modules p r first at asked few logged (LoadVersions number late quiet) l has.told is note
      causes.VERSIONS_SPENT
      (λ e. absurd (omega (arith, e))) (λ e. absurd (omega (arith, e)))
      (served_log_is r (reply_of 0 causes.VERSIONS_SPENT l.course.end.policy []) is_waiting)
      (as_before (LoadVersions number late quiet) causes.VERSIONS_SPENT leads.1.2
      (fits_versions first.course p.guest r.base.log logged still_below number late quiet))

  some_cause : (a b : ℕ) → Some a ≡ Some b → Answers a → Answers b
  some_cause a b same answers = subst Answers (injective a b same) answers
    where
      injective : (a b : ℕ) → Some a ≡ Some b → a ≡ b
      injective a b same = cc

  no_cause : (b : ℕ) → None ≡ Some b → Answers b
  no_cause b same = absurd (cc)

  -- want of memory is told as such alone
  place_is : Place places.Memory ≡ Memory → ⊥
  place_is same = cc

  verify_is : Verify verifying.Memory ≡ Memory → ⊥
  verify_is same = cc

  pub refused_by : (fault : LoadFault) (cause : ℕ) → cause_by fault ≡ Some cause
      → IsLoadFault k (Guest p.guest) number fault first l → Answers cause
  refused_by Retired cause same has = some_cause causes.RETIRED cause same (by_retired has)
  refused_by ModulesFull cause same has = some_cause causes.MODULES_FULL cause same (by_full has)
  refused_by (Place (places.Undefined name)) cause same has =
      some_cause causes.NOT_PLACED cause same (by_place (Place (places.Undefined name)) 1 has)
  refused_by (Place places.CodeFull) cause same has =
      some_cause causes.NOT_PLACED cause same (by_place (Place places.CodeFull) 2 has)
  refused_by (Place places.DataFull) cause same has =
      some_cause causes.NOT_PLACED cause same (by_place (Place places.DataFull) 3 has)
  refused_by (Place (places.Reloc at fault)) cause same has =
      some_cause causes.NOT_PLACED cause same (by_place (Place (places.Reloc at fault)) 4 has)
  refused_by (Place places.Memory) cause same has = absurd (place_is has.0)
  refused_by (Verify verifying.Memory) cause same has = absurd (verify_is has.0)
  refused_by (Verify verifying.Empty) cause same has =
      some_cause causes.NOT_VERIFIED cause same (by_verify (Verify verifying.Empty) _ _ has)
  refused_by (Verify (verifying.Illegal place)) cause same has =
      some_cause causes.NOT_VERIFIED cause same (by_verify (Verify (verifying.Illegal place)) _ _ has)
  refused_by (Verify (verifying.NotUnit place)) cause same has =
      some_cause causes.NOT_VERIFIED cause same (by_verify (Verify (verifying.NotUnit place)) _ _ has)
  refused_by (Verify (verifying.Slot place)) cause same has =
      some_cause causes.NOT_VERIFIED cause same (by_verify (Verify (verifying.Slot place)) _ _ has)
  refused_by (Verify (verifying.Functions place)) cause same has =
      some_cause causes.NOT_VERIFIED cause same (by_verify (Verify (verifying.Functions place)) _ _ has)
  refused_by (Verify (verifying.FallsThrough place)) cause same has =
      some_cause causes.NOT_VERIFIED cause same (by_verify (Verify (verifying.FallsThrough place)) _ _ has)
  refused_by (Verify (verifying.Target place)) cause same has =
      some_cause causes.NOT_VERIFIED cause same (by_verify (Verify (verifying.Target place)) _ _ has)
  refused_by (Verify (verifying.Kinds place)) cause same has =
      some_cause causes.NOT_VERIFIED cause same (by_verify (Verify (verifying.Kinds place)) _ _ has)
  refused_by (Verify (verifying.Switch place)) cause same has =
      some_cause causes.NOT_VERIFIED cause same (by_verify (Verify (verifying.Switch place)) _ _ has)
  refused_by EpochsSpent cause same has = some_cause causes.EPOCHS_SPENT cause same (by_epochs has)
  refused_by (VersionsSpent late quiet) cause same has =
      some_cause causes.VERSIONS_SPENT cause same (by_versions late quiet has)
  refused_by Memory cause same has = no_cause cause same
