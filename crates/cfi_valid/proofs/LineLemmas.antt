-- A line of a journal does one of four things to the state: it has a module more, has one retired, has another epoch,
-- or is as it was.
use Rattle.std.proofs.Common.{◌≡◌, ℕ, List, [], ◌∷◌, sym, subst}
use Rattle.cfi_aux.specs.declared.modules.Module.{Module}
use Rattle.cfi_plan.specs.declared.journal.JournalLine.{JournalLine}
use Rattle.cfi_plan.specs.declared.journal.JournalLine.TheVariants.{LoadOk, LoadAgain, LoadFull, LoadPlace, LoadVerify, LoadVersions, LoadEpochs, LoadRetired, RefreshOk, RefreshVersions, RefreshEpochs, RetireOk, RetireNotLive, RetireInUse, RetireVersions, RetireEpochs}
use Rattle.cfi_plan.specs.declared.plan.Plan.{Plan}
use Rattle.cfi_valid.specs.Journal.{JournalState, HasNextEpoch, IsLoadLine, IsRetireLine, with_loaded, with_retired, LineLeads}
use Rattle.cfi_valid.specs.Kept.{Origin}
use Rattle.cfi_valid.specs.Modules.{origins_in, gone_in}

-- what holds where a line says that these were loaded, and that those were retired, holds after each line
module _ (plan : Plan) (modules : List Module) (old : JournalState)
    (P : (more : List Origin) (gone : List ℕ) → JournalState → Type 0) (stays : P [] [] old)
    (loads : (number epoch policy : ℕ) (load : IsLoadLine plan modules old number epoch policy)
    → P (record { number = number; policy = policy } ∷ []) []
    (with_loaded number epoch policy load.clean.placed old))
    (retires : (number epoch policy : ℕ) → IsRetireLine old number epoch policy
    → P [] (number ∷ []) (with_retired number epoch policy old))
    (refreshes : (epoch : ℕ) → HasNextEpoch old epoch → P [] [] (record old { epoch = epoch })) where
  kept : (new : JournalState) → new ≡ old → P [] [] new
  kept new same = subst (P [] []) (sym same) stays

  pub line_does : (line : JournalLine) (new : JournalState) → LineLeads plan modules old line new
      → P (origins_in line) (gone_in line) new
  line_does (LoadOk number epoch policy) new leads =
      subst (P (record { number = number; policy = policy } ∷ []) []) (sym leads.1) (loads number epoch policy leads.0)
  line_does (LoadAgain number policy) new leads = kept new leads.1
  line_does (LoadFull number) new leads = kept new leads.1
  line_does (LoadPlace number fault) new leads = kept new leads.1
  line_does (LoadVerify number fault place) new leads = kept new leads.1
  line_does (LoadVersions number guest quiet) new leads = kept new leads.2
  line_does (LoadEpochs number) new leads = kept new leads.2
  line_does (LoadRetired number) new leads = kept new leads.1
  line_does (RefreshOk epoch) new leads = subst (P [] []) (sym leads.1) (refreshes epoch leads.0)
  line_does (RefreshVersions guest quiet) new leads = kept new leads.1
  line_does RefreshEpochs new leads = kept new leads.1
  line_does (RetireOk number epoch policy) new leads =
      subst (P [] (number ∷ [])) (sym leads.1) (retires number epoch policy leads.0)
  line_does (RetireNotLive number) new leads = kept new leads.1
  line_does (RetireInUse number user) new leads = kept new leads.1
  line_does (RetireVersions number guest quiet) new leads = kept new leads.2
  line_does (RetireEpochs number) new leads = kept new leads.2
