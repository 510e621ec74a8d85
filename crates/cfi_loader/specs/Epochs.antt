-- The policies that a journal puts in force, epoch by epoch, and those of a history of tables.
use Rattle.std.specs.Prelude.{◌≡◌, ℕ, ◌-◌, List, [], ◌∷◌, ◌++◌, length, map, slice_index}
use Rattle.std.specs.List.{fold}
use Rattle.cfi_model.specs.declared.history.Entry.{Entry as TableEntry}
use Rattle.cfi_plan.specs.declared.journal.Entry.{Entry}
use Rattle.cfi_plan.specs.declared.journal.JournalLine.{JournalLine}
use Rattle.cfi_plan.specs.declared.journal.JournalLine.TheVariants.{LoadOk, LoadAgain, LoadFull, LoadPlace, LoadVerify, LoadVersions, LoadEpochs, LoadRetired, RefreshOk, RefreshVersions, RefreshEpochs, RetireOk, RetireNotLive, RetireInUse, RetireVersions, RetireEpochs}

-- the policy of the epoch that a line tells of, where the one before had this policy: a load and a retirement have their
-- own, a refresh has the one before, and no other line tells of an epoch
abbrev pub policy_put : (before : ℕ) → JournalLine → List ℕ
policy_put before (LoadOk number epoch policy) = policy ∷ []
policy_put before (RefreshOk epoch) = before ∷ []
policy_put before (LoadAgain number policy) = []
policy_put before (LoadFull number) = []
policy_put before (LoadPlace number fault) = []
policy_put before (LoadVerify number fault place) = []
policy_put before (LoadVersions number guest quiet) = []
policy_put before (LoadEpochs number) = []
policy_put before (LoadRetired number) = []
policy_put before (RefreshVersions guest quiet) = []
policy_put before RefreshEpochs = []
policy_put before (RetireOk number epoch policy) = policy ∷ []
policy_put before (RetireNotLive number) = []
policy_put before (RetireInUse number user) = []
policy_put before (RetireVersions number guest quiet) = []
policy_put before (RetireEpochs number) = []

-- the last of some policies
abbrev pub last_policy_of : List ℕ → ℕ
last_policy_of policies = slice_index policies (length policies - 1)

-- those of the epochs with what a line tells more
abbrev pub epochs_with : (policies : List ℕ) → Entry → List ℕ
epochs_with policies entry = policies ++ policy_put (last_policy_of policies) entry.what

-- those of all epochs, from the first one on, which has policy 0
abbrev pub epoch_policies : (journal : List Entry) → List ℕ
epoch_policies journal = fold epochs_with (0 ∷ []) journal

-- entries of tables, one an epoch, have the policies that the journal tells of
abbrev pub HavePoliciesOf : (journal : List Entry) → List TableEntry → Type 0
HavePoliciesOf journal entries = map (λ (e : TableEntry). e.policy) entries ≡ epoch_policies journal
