-- What the keeper keeps is what the journal tells, with a line more.
use Rattle.std.proofs.Common.{◌≡◌, ℕ, ◌+◌, ◌-◌, ◌<◌, ◌++◌, true, false, List, [], ◌∷◌, length, Some, None, All, sym, ap, subst, ◌∙◌, arith, length-append}
use Rattle.std.specs.Prelude.{filter_map}
use Rattle.std.proofs.lemmas.List.{map-append, get_or_push}
use Rattle.std.proofs.lemmas.List.Elements.{All-nil, All-cons, All-append}
use Rattle.cfi_model.specs.Tables.{IsTables}
use Rattle.cfi_model.specs.Words.{no_entry}
use Rattle.cfi_model.specs.declared.history.Entry.{Entry as TableEntry}
use Rattle.cfi_model.specs.declared.history.Refusal.{Refusal}
use Rattle.cfi_plan.specs.declared.journal.Entry.{Entry}
use Rattle.cfi_plan.specs.declared.plan.Plan.{Plan}
use Rattle.cfi_tables.specs.Keeping.{Keeping, grown_by, is_out, last_of, refused_by}
use Rattle.cfi_tables.specs.Key.{Key}
use Rattle.cfi_tables.specs.declared.view.Quiets.{Quiets}
use Rattle.cfi_tables.specs.Views.{idle_tables}
use Rattle.cfi_valid.specs.Course.{Course}
use Rattle.cfi_valid.specs.Growth.{IsLater}
use Rattle.cfi_valid.specs.Journal.{JournalState}
use Rattle.cfi_ledger.specs.Policies.{IsEntryOf}
use Rattle.cfi_loader.specs.Ledger.{TellsOf}
use Rattle.cfi_loader.specs.Epochs.{HavePoliciesOf, policy_put}
use Rattle.cfi_loader.specs.Mark.{mark_of, is_made, made_marks, Spent, spent_of, spent_in, AreMade, AreRefused}
use Rattle.cfi_loader.specs.Told.{GoesOnBy}
use Rattle.cfi_ledger.proofs.EntryLemmas.{entries_stay}
use Rattle.cfi_loader.proofs.EpochLemmas.{epochs_more, epochs_same}
use Rattle.cfi_loader.proofs.JournalLemmas.{marks_more, marks_same, spent_more, spent_same}

-- the last of entries with one more
pub last_more : (entries : List TableEntry) (e : TableEntry) → last_of (entries ++ e ∷ []) ≡ e
last_more entries e =
    get_or_push entries e no_entry (length (entries ++ e ∷ []) - 1) (omega (arith, length-append entries (e ∷ [])))

module _ (k : Key) (old new : Course) (entry : Entry) (goes : GoesOnBy entry old new) (later : IsLater old.end new.end)
    (keeping : Keeping) (told : TellsOf k old keeping) where
  images : All (IsEntryOf new) keeping.entries
  images = entries_stay old new goes.plan_is later keeping.entries told.images

  guests : (guest : ℕ) → is_out keeping.out guest ≡ true → guest < length new.plan.guests
  guests guest out =
      subst (λ (p : Plan). guest < length p.guests) (sym goes.plan_is) (told.guests guest out)

  same_marks : is_made entry.what ≡ false → AreMade new.journal keeping.entries
  same_marks made =
      told.marks ∙ ap (λ (ms : List ℕ). 0 ∷ ms)
      (sym (ap made_marks goes.journal_is ∙ marks_same old.journal entry made))

  same_epochs : is_made entry.what ≡ false → HavePoliciesOf new.journal keeping.entries
  same_epochs made = epochs_same old.journal new.journal entry keeping.entries goes.journal_is made told.epochs

  same_refusals : spent_in entry ≡ None → AreRefused new.journal keeping.refusals
  same_refusals spent =
      told.refusals ∙ sym (ap (filter_map spent_in) goes.journal_is ∙ spent_same old.journal entry spent)

  -- nothing else has changed
  pub tells_same : new.end ≡ old.end → is_made entry.what ≡ false → spent_in entry ≡ None → TellsOf k new keeping
  tells_same end made spent = record {
    tables = told.tables;
    epoch = ap (λ (s : JournalState). s.epoch + 1) end ∙ told.epoch;
    policy = ap (λ (s : JournalState). s.policy) end ∙ told.policy;
    images = images;
    marks = same_marks made;
    epochs = same_epochs made;
    refusals = same_refusals spent;
    guests = guests;
  }

  -- an update was not admitted
  pub tells_refused : (r : Refusal) (quiets : Quiets) → new.end ≡ old.end → is_made entry.what ≡ false
      → spent_in entry ≡ Some (spent_of r) → TellsOf k new (refused_by r quiets keeping)
  tells_refused r quiets end made spent = record {
    tables = told.tables;
    epoch = ap (λ (s : JournalState). s.epoch + 1) end ∙ told.epoch;
    policy = ap (λ (s : JournalState). s.policy) end ∙ told.policy;
    images = images;
    marks = same_marks made;
    epochs = same_epochs made;
    refusals =
        map-append spent_of keeping.refusals (r ∷ [])
        ∙ ap (λ (ss : List Spent). ss ++ spent_of r ∷ []) told.refusals
        ∙ sym (ap (filter_map spent_in) goes.journal_is ∙ spent_more old.journal entry (spent_of r) spent);
    guests = guests;
  }

  -- an update was made
  pub tells_grown : (e : TableEntry) (quiets : Quiets) → IsTables (idle_tables k (grown_by e quiets keeping))
      → new.end.epoch ≡ old.end.epoch + 1 → new.end.policy ≡ e.policy → IsEntryOf new e → is_made entry.what ≡ true
      → spent_in entry ≡ None → e.mark ≡ mark_of entry
      → policy_put (last_of keeping.entries).policy entry.what ≡ e.policy ∷ [] → TellsOf k new (grown_by e quiets keeping)
  tells_grown e quiets tables epoch policy is made spent mark put = record {
    tables = tables;
    epoch = omega (arith, epoch, told.epoch, length-append keeping.entries (e ∷ []));
    policy = policy ∙ ap (λ (last : TableEntry). last.policy) (sym (last_more keeping.entries e));
    images = All-append (IsEntryOf new) keeping.entries (e ∷ []) images
        (All-cons (IsEntryOf new) e [] is (All-nil (IsEntryOf new)));
    marks =
        map-append (λ (x : TableEntry). x.mark) keeping.entries (e ∷ [])
        ∙ ap (λ (ms : List ℕ). ms ++ e.mark ∷ []) told.marks
        ∙ ap (λ (m : ℕ). 0 ∷ (made_marks old.journal ++ m ∷ [])) mark
        ∙ ap (λ (ms : List ℕ). 0 ∷ ms) (sym (ap made_marks goes.journal_is ∙ marks_more old.journal entry made));
    epochs = epochs_more old.journal new.journal entry keeping.entries e goes.journal_is put told.tables.some told.epochs;
    refusals = same_refusals spent;
    guests = guests;
  }
