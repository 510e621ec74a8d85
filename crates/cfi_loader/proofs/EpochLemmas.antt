-- The policies that a journal puts in force, with a line more.
use Rattle.std.proofs.Common.{◌≡◌, ℕ, ◌-◌, ◌<◌, ◌++◌, false, List, [], ◌∷◌, get_or, length, map, append-nil, refl, sym, ap, ◌∙◌, arith}
use Rattle.std.proofs.lemmas.List.{get_or-map, length-map, map-append}
use Rattle.std.proofs.lemmas.List.Sums.{fold-append}
use Rattle.cfi_model.specs.Words.{no_entry}
use Rattle.cfi_model.specs.declared.history.Entry.{Entry as TableEntry}
use Rattle.cfi_plan.specs.declared.journal.Entry.{Entry}
use Rattle.cfi_plan.specs.declared.journal.JournalLine.{JournalLine}
use Rattle.cfi_plan.specs.declared.journal.JournalLine.TheVariants.{LoadOk, LoadAgain, LoadFull, LoadPlace, LoadVerify, LoadVersions, LoadEpochs, LoadRetired, RefreshOk, RefreshVersions, RefreshEpochs, RetireOk, RetireNotLive, RetireInUse, RetireVersions, RetireEpochs}
use Rattle.cfi_tables.specs.Keeping.{last_of}
use Rattle.cfi_loader.specs.Epochs.{HavePoliciesOf, epoch_policies, epochs_with, last_policy_of, policy_put}
use Rattle.cfi_loader.specs.Mark.{is_made}

-- a line of no update puts none in force
none_put : (before : ℕ) (line : JournalLine) → is_made line ≡ false → policy_put before line ≡ []
none_put before (LoadOk number epoch policy) is = absurd (cc)
none_put before (RefreshOk epoch) is = absurd (cc)
none_put before (LoadAgain number policy) is = refl
none_put before (LoadFull number) is = refl
none_put before (LoadPlace number fault) is = refl
none_put before (LoadVerify number fault place) is = refl
none_put before (LoadVersions number guest quiet) is = refl
none_put before (LoadEpochs number) is = refl
none_put before (LoadRetired number) is = refl
none_put before (RefreshVersions guest quiet) is = refl
none_put before RefreshEpochs is = refl
none_put before (RetireOk number epoch policy) is = absurd (cc)
none_put before (RetireNotLive number) is = refl
none_put before (RetireInUse number user) is = refl
none_put before (RetireVersions number guest quiet) is = refl
none_put before (RetireEpochs number) is = refl

one_more : (journal : List Entry) (entry : Entry)
    → epoch_policies (journal ++ entry ∷ []) ≡ epochs_with (epoch_policies journal) entry
one_more journal entry = fold-append epochs_with (0 ∷ []) journal (entry ∷ [])

pub epochs_same : (journal more : List Entry) (entry : Entry) (entries : List TableEntry) → more ≡ journal ++ entry ∷ []
    → is_made entry.what ≡ false → HavePoliciesOf journal entries → HavePoliciesOf more entries
epochs_same journal more entry entries is made have =
    let all : List ℕ = epoch_policies journal in
    have
    ∙ sym (ap epoch_policies is
    ∙ one_more journal entry
    ∙ ap (λ (ps : List ℕ). all ++ ps) (none_put (last_policy_of all) entry.what made)
    ∙ append-nil all)

-- the last policy is that of the last entry
last_is : (journal : List Entry) (entries : List TableEntry) → HavePoliciesOf journal entries → 0 < length entries
    → last_policy_of (epoch_policies journal) ≡ (last_of entries).policy
last_is journal entries have some =
    ap last_policy_of (sym have)
    ∙ ap (λ n. get_or (map (λ (e : TableEntry). e.policy) entries) (n - 1) 0) (length-map entries (λ (e : TableEntry). e.policy))
    ∙ get_or-map (λ (e : TableEntry). e.policy) entries (length entries - 1) no_entry 0 (omega (arith, some))

pub epochs_more : (journal more : List Entry) (entry : Entry) (entries : List TableEntry) (e : TableEntry)
    → more ≡ journal ++ entry ∷ [] → policy_put (last_of entries).policy entry.what ≡ e.policy ∷ [] → 0 < length entries
    → HavePoliciesOf journal entries → HavePoliciesOf more (entries ++ e ∷ [])
epochs_more journal more entry entries e is put some have =
    let all : List ℕ = epoch_policies journal in
    map-append (λ (x : TableEntry). x.policy) entries (e ∷ [])
    ∙ ap (λ (ps : List ℕ). ps ++ e.policy ∷ []) have
    ∙ sym (ap epoch_policies is
    ∙ one_more journal entry
    ∙ ap (λ n. all ++ policy_put n entry.what) (last_is journal entries have some)
    ∙ ap (λ (ps : List ℕ). all ++ ps) put)
