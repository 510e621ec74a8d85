-- What a loader has agrees again after an update that the keeper has made or refused.
use Rattle.std.proofs.Common.{◌≡◌, ◌≢◌, ℕ, ◌+◌, ◌<◌, ◌≤◌, true, Result, Ok, Err, inl, refl, sym, ap, subst, ◌∙◌, ⊎_elim, arith}
use Rattle.std.proofs.lemmas.Bool.{cases_lt}
use Rattle.cfi_model.specs.Tables.{IsUpdate}
use Rattle.cfi_plan.specs.declared.journal.JournalLine.{JournalLine}
use Rattle.cfi_plan.specs.declared.journal.JournalLine.TheVariants.{RefreshOk, RefreshVersions, RefreshEpochs, LoadVersions, LoadEpochs, RetireVersions, RetireEpochs}
use Rattle.cfi_plan.specs.declared.journal.Who.{Who}
use Rattle.cfi_plan.specs.declared.journal.Who.TheVariants.{Script, Guest}
use Rattle.cfi_tables.specs.Faults.{epoch_after, FaultIs, IsFarBehind}
use Rattle.cfi_tables.specs.Keeping.{Keeping, entry_by, grown_by, last_of}
use Rattle.cfi_tables.specs.Key.{Key}
use Rattle.cfi_tables.specs.declared.fault.UpdateFault.{UpdateFault}
use Rattle.cfi_tables.specs.declared.fault.UpdateFault.TheVariants.{EpochsSpent, VersionsSpent}
use Rattle.cfi_valid.specs.Journal.{MayAsk, IsTooOld, IsOutOfEpochs, IsClean, IsUnused, is_load}
use Rattle.cfi_valid.specs.Script.{Call, Load, Refresh, Retire}
use Rattle.cfi_word.specs.declared.limits.TheConstants.{MAX_EPOCH}
use Rattle.cfi_word.specs.declared.lists.Image.{Image}
use Rattle.cfi_ledger.specs.declared.books.Books.{Books}
use Rattle.cfi_loader.specs.Ledger.{Ledger}
use Rattle.cfi_loader.specs.Mark.{mark_by}
use Rattle.cfi_ledger.specs.Journal.{asked_by, Minutes, HasLine}
use Rattle.cfi_loader.specs.Results.{refused_refresh}
use Rattle.cfi_loader.specs.Told.{MayAskFor}
use Rattle.cfi_ledger.specs.Books.{end_of_books, with_journal}
use Rattle.cfi_ledger.specs.Force.{with_refresh}
use Rattle.cfi_loader.specs.inner.Books.{ledger_of, BooksAgree, IsAfter}
use Rattle.cfi_loader.specs.inner.Loads.{update_line}
use Rattle.cfi_loader.specs.inner.Retirements.{refused_retirement}
use Rattle.cfi_loader.proofs.BooksLemmas.{after_same, after_refused, after_refreshed}

-- whoever asks for a load may
pub may_ask : (l : Ledger) (who : Who) (call : Call) (line : JournalLine) → MayAskFor l who call
    → is_load line ≡ true → MayAsk l.course.plan who line
may_ask l Script call line asks load = tt
may_ask l (Guest number) call line asks load = (asks, load)

-- the keeper says that no epoch is left exactly where none is
abbrev pub IsRight : Key → Keeping → UpdateFault → Type 0
IsRight k keeping fault = epoch_after k keeping ≡ MAX_EPOCH + 1 → fault ≡ EpochsSpent

module _ (k : Key) (b : Books) (keeping : Keeping) (kept : BooksAgree k b keeping) where
  pub epoch_left : (epoch_after k keeping ≢ MAX_EPOCH + 1) → b.force.epoch < MAX_EPOCH
  epoch_left some = ⊎_elim
      (λ (left : b.force.epoch < MAX_EPOCH). left)
      (λ (spent : MAX_EPOCH ≤ b.force.epoch).
      absurd (some (omega (arith, spent, kept.ledger.told.epoch, kept.ledger.told.tables.epochs_fit))))
      (cases_lt b.force.epoch MAX_EPOCH)

  none_left : epoch_after k keeping ≡ MAX_EPOCH + 1 → IsOutOfEpochs (end_of_books b)
  none_left spent = omega (arith, spent, kept.ledger.told.epoch)

  versions_left : (guest quiet : ℕ) → IsRight k keeping (VersionsSpent guest quiet) → b.force.epoch < MAX_EPOCH
  versions_left guest quiet right = epoch_left (λ spent. other (right spent))
    where
      other : VersionsSpent guest quiet ≡ EpochsSpent → ⊥
      other same = cc

  too_old : (guest quiet : ℕ) → IsFarBehind k keeping guest quiet → b.force.epoch < MAX_EPOCH
      → IsTooOld b.plan (end_of_books b) guest quiet
  too_old guest quiet behind left =
      let tables = kept.ledger.tables_are in
      let epoch = kept.ledger.told.epoch in
      record {
        left = left;
        known = kept.ledger.told.guests guest behind.out;
        least = omega (arith, behind.least, tables.first);
        most = omega (arith, behind.most, epoch);
        late = omega (arith, behind.far, tables.versions, epoch, kept.ledger.can_start.versions.0);
      }

  module _ (j : Minutes) (new : Keeping) where
    abbrev told_there : Books
    told_there = with_journal j b

    -- a refresh that the keeper has refused
    pub after_refresh_refused : (fault : UpdateFault) → IsRight k keeping fault
        → FaultIs k (mark_by Script Refresh) keeping new fault
        → HasLine (asked_by Script (refused_refresh fault)) b.force.journal j
        → MayAskFor (ledger_of b keeping) Script Refresh
        → IsAfter k (asked_by Script (refused_refresh fault)) b told_there keeping new
    after_refresh_refused EpochsSpent right is has asks =
        subst (IsAfter k (asked_by Script RefreshEpochs) b told_there keeping) (sym is.1)
        (after_same k b j keeping kept Script RefreshEpochs has asks (tt, (none_left is.0, refl)) refl refl refl)
    after_refresh_refused (VersionsSpent guest quiet) right is has asks =
        after_refused k b j keeping kept Script (RefreshVersions guest quiet) has asks guest quiet new
        (tt, (too_old guest quiet is.behind (versions_left guest quiet right), refl)) is.is is refl refl

    -- a load
    pub after_load_refused : (who : Who) (number : ℕ) (fault : UpdateFault) → IsRight k keeping fault
        → FaultIs k (mark_by who (Load number)) keeping new fault
        → HasLine (asked_by who (update_line number fault)) b.force.journal j
        → MayAskFor (ledger_of b keeping) who (Load number) → IsClean b.plan b.modules (end_of_books b) number
        → IsAfter k (asked_by who (update_line number fault)) b told_there keeping new
    after_load_refused who number EpochsSpent right is has asks clean =
        let may = may_ask (ledger_of b keeping) who (Load number) (LoadEpochs number) asks refl in
        subst (IsAfter k (asked_by who (LoadEpochs number)) b told_there keeping) (sym is.1)
        (after_same k b j keeping kept who (LoadEpochs number) has asks (may, (clean, none_left is.0, refl)) refl refl
        refl)
    after_load_refused who number (VersionsSpent guest quiet) right is has asks clean =
        let may = may_ask (ledger_of b keeping) who (Load number) (LoadVersions number guest quiet) asks refl in
        after_refused k b j keeping kept who (LoadVersions number guest quiet) has asks guest quiet new
        (may, (clean, too_old guest quiet is.behind (versions_left guest quiet right), refl)) is.is is refl refl

    -- a retirement
    pub after_retirement_refused : (number : ℕ) (fault : UpdateFault) → IsRight k keeping fault
        → FaultIs k (mark_by Script (Retire number)) keeping new fault
        → HasLine (asked_by Script (refused_retirement number fault)) b.force.journal j
        → MayAskFor (ledger_of b keeping) Script (Retire number) → IsUnused (end_of_books b) number
        → IsAfter k (asked_by Script (refused_retirement number fault)) b told_there keeping new
    after_retirement_refused number EpochsSpent right is has asks unused =
        subst (IsAfter k (asked_by Script (RetireEpochs number)) b told_there keeping) (sym is.1)
        (after_same k b j keeping kept Script (RetireEpochs number) has asks (tt, (unused, none_left is.0, refl)) refl
        refl refl)
    after_retirement_refused number (VersionsSpent guest quiet) right is has asks unused =
        after_refused k b j keeping kept Script (RetireVersions number guest quiet) has asks guest quiet new
        (tt, (unused, too_old guest quiet is.behind (versions_left guest quiet right), refl)) is.is is refl refl

-- ---- a refresh that the keeper has made

module _ (k : Key) (b : Books) (keeping : Keeping) (kept : BooksAgree k b keeping) where
  -- the image and the policy in force follow themselves
  pub refresh_follows : (mark : ℕ)
      → IsUpdate k.code_words (last_of keeping.entries) (entry_by b.force.policy b.book.image mark)
  refresh_follows mark = inl (record { policy = kept.ledger.told.policy; image = kept.image_is })

  pub refresh_made : (new : Books) (after : Keeping) → b.force.epoch < MAX_EPOCH
      → HasLine (asked_by Script (RefreshOk (b.force.epoch + 1))) b.force.journal new.force.journal
      → new ≡ record b { force = with_refresh new.force.journal b.force }
      → after ≡ grown_by (entry_by b.force.policy b.book.image (mark_by Script Refresh)) after.quiets keeping
      → MayAskFor (ledger_of b keeping) Script Refresh
      → IsAfter k (asked_by Script (RefreshOk new.force.epoch)) b new keeping after
  refresh_made new after left has same grown asks =
      let there : Books = record b { force = with_refresh new.force.journal b.force } in
      let e = last_of keeping.entries in
      let grown_is : grown_by (entry_by e.policy e.image (mark_by Script Refresh)) after.quiets keeping ≡ after =
      ap (λ (n : ℕ). grown_by (entry_by n e.image (mark_by Script Refresh)) after.quiets keeping)
      (sym kept.ledger.told.policy)
      ∙ ap (λ (i : Image). grown_by (entry_by b.force.policy i (mark_by Script Refresh)) after.quiets keeping)
      (sym kept.image_is)
      ∙ sym grown in
      subst (λ (nb : Books). IsAfter k (asked_by Script (RefreshOk nb.force.epoch)) b nb keeping after) (sym same)
      (subst (IsAfter k (asked_by Script (RefreshOk (b.force.epoch + 1))) b there keeping) grown_is
      (after_refreshed k b new.force.journal keeping kept Script after.quiets has asks tt left))

-- ---- answers of the keeper

pub not_spent : (epoch : ℕ) → ◌≡◌ {A = Result ℕ UpdateFault} (Ok epoch) (Err EpochsSpent) → ⊥
not_spent epoch same = cc

pub right_fault : (fault : UpdateFault) → ◌≡◌ {A = Result ℕ UpdateFault} (Err fault) (Err EpochsSpent)
    → fault ≡ EpochsSpent
right_fault fault same = cc
