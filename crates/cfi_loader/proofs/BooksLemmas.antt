-- What a loader has agrees again after each line.
use Rattle.std.proofs.Common.{◌≡◌, ℕ, ◌+◌, ◌-◌, ◌<◌, false, length, Some, None, inl, refl, sym, ap, subst, ◌∙◌, arith}
use Rattle.cfi_model.specs.declared.history.Entry.{Entry as TableEntry}
use Rattle.cfi_model.specs.declared.history.Refusal.{Refusal}
use Rattle.cfi_model.specs.Tables.{IsTables}
use Rattle.cfi_model.specs.Words.{no_entry}
use Rattle.cfi_plan.specs.declared.journal.Entry.{Entry}
use Rattle.cfi_plan.specs.declared.journal.JournalLine.{JournalLine}
use Rattle.cfi_plan.specs.declared.journal.JournalLine.TheVariants.{RefreshOk}
use Rattle.cfi_plan.specs.declared.journal.Who.{Who}
use Rattle.cfi_tables.specs.Faults.{epoch_after}
use Rattle.cfi_tables.specs.Keeping.{Keeping, entry_by, grown_by, refused_by, last_of}
use Rattle.cfi_tables.specs.Key.{Key}
use Rattle.cfi_tables.specs.declared.view.Quiets.{Quiets}
use Rattle.cfi_tables.specs.Views.{idle_tables}
use Rattle.cfi_tables.proofs.KeeperLemmas.{grown_are}
use Rattle.cfi_valid.specs.Journal.{EntryLeads, MayAsk}
use Rattle.cfi_valid.specs.Script.{call_of}
use Rattle.cfi_word.specs.declared.limits.TheConstants.{MAX_EPOCH}
use Rattle.cfi_ledger.specs.declared.books.Books.{Books}
use Rattle.cfi_ledger.specs.Policies.{IsEntryOf}
use Rattle.cfi_loader.specs.Ledger.{TellsOf}
use Rattle.cfi_loader.specs.Mark.{mark_of, is_made, spent_in}
use Rattle.cfi_ledger.specs.Journal.{asked_by, Minutes, HasLine}
use Rattle.cfi_loader.specs.Told.{GoesOnBy, MayAskFor, HasTold, KeepsAfter}
use Rattle.cfi_ledger.specs.Books.{course_in, end_of_books, with_journal}
use Rattle.cfi_ledger.specs.Force.{with_refresh}
use Rattle.cfi_loader.specs.inner.Books.{ledger_of, BooksAgree, IsAfter}
use Rattle.cfi_ledger.proofs.EntryLemmas.{entry_again, entry_stays}
use Rattle.cfi_loader.proofs.LedgerLemmas.{goes_later, ledger_more}
use Rattle.cfi_ledger.proofs.PolicyLemmas.{policies_same}
use Rattle.cfi_loader.proofs.TellLemmas.{tells_same, tells_refused, tells_grown, last_more}

module _ (k : Key) (b : Books) (j : Minutes) (keeping : Keeping) (kept : BooksAgree k b keeping) (who : Who)
    (what : JournalLine) (has : HasLine (asked_by who what) b.force.journal j)
    (asks : MayAskFor (ledger_of b keeping) who (call_of what)) where
  abbrev entry : Entry
  entry = asked_by who what

  abbrev told_there : Books
  told_there = with_journal j b

  goes : EntryLeads b.plan b.modules (end_of_books b) entry (end_of_books b)
      → GoesOnBy entry (course_in b) (course_in told_there)
  goes leads = record { plan_is = refl; modules_are = refl; journal_is = has.lines_are; leads = leads }

  -- the line tells of nothing that has changed
  pub after_same : EntryLeads b.plan b.modules (end_of_books b) entry (end_of_books b)
      → KeepsAfter k (mark_of entry) what keeping keeping → is_made what ≡ false → spent_in entry ≡ None
      → IsAfter k entry b told_there keeping keeping
  after_same leads keeps made spent =
      let told : HasTold k entry (ledger_of b keeping) (ledger_of told_there keeping) =
      record { course = goes leads; keeping = keeps; left = has.left_are; starved = refl } in
      let later = goes_later entry (course_in b) (course_in told_there) (goes leads) in
      let tells = tells_same k (course_in b) (course_in told_there) entry (goes leads) later keeping kept.ledger.told
      refl made spent in
      record {
        kept = record {
          ledger = ledger_more k b.plan b.modules who what (ledger_of b keeping) (ledger_of told_there keeping)
              kept.ledger asks told kept.ledger.policies tells;
          roster_is = kept.roster_is;
          filled = kept.filled;
          layout_is = kept.layout_is;
          book_is = kept.book_is;
          image_is = kept.image_is;
          flags_are = kept.flags_are;
          found_are = kept.found_are;
        };
        told = told;
      }

  -- the line tells of an update that was not admitted
  pub after_refused : (guest quiet : ℕ) (new : Keeping)
      → EntryLeads b.plan b.modules (end_of_books b) entry (end_of_books b)
      → new ≡ refused_by (record {
        guest = guest;
        quiet = quiet;
        epoch = epoch_after k keeping;
        mark = mark_of entry;
      }) new.quiets keeping
      → KeepsAfter k (mark_of entry) what keeping new → is_made what ≡ false
      → spent_in entry ≡ Some (record { guest = guest; quiet = quiet; mark = mark_of entry })
      → IsAfter k entry b told_there keeping new
  after_refused guest quiet new leads new_is keeps made spent =
      let r : Refusal =
      record { guest = guest; quiet = quiet; epoch = epoch_after k keeping; mark = mark_of entry } in
      let told : HasTold k entry (ledger_of b keeping) (ledger_of told_there new) =
      record { course = goes leads; keeping = keeps; left = has.left_are; starved = refl } in
      let later = goes_later entry (course_in b) (course_in told_there) (goes leads) in
      let tells_all : TellsOf k (course_in told_there) (refused_by r new.quiets keeping) =
      tells_refused k (course_in b) (course_in told_there) entry (goes leads) later keeping kept.ledger.told r new.quiets
      refl made spent in
      let tells : TellsOf k (course_in told_there) new =
      subst (TellsOf k (course_in told_there)) (sym new_is) tells_all in
      record {
        kept = record {
          ledger = ledger_more k b.plan b.modules who what (ledger_of b keeping) (ledger_of told_there new)
              kept.ledger asks told kept.ledger.policies tells;
          roster_is = kept.roster_is;
          filled = kept.filled;
          layout_is = kept.layout_is;
          book_is = kept.book_is;
          image_is = kept.image_is ∙ ap (λ (all : Keeping). (last_of all.entries).image) (sym new_is);
          flags_are = kept.flags_are;
          found_are = kept.found_are;
        };
        told = told;
      }

-- an entry of the tables' history, and the last one is one
module _ (k : Key) (b : Books) (keeping : Keeping) (kept : BooksAgree k b keeping) where
  pub last_entry : IsEntryOf (course_in b) (last_of keeping.entries)
  last_entry =
      let told = kept.ledger.told in
      told.images (length keeping.entries - 1) no_entry (omega (arith, told.tables.some))

  -- an epoch is left
  pub one_left : b.force.epoch < MAX_EPOCH → k.first + length keeping.entries < MAX_EPOCH + 1
  one_left left = omega (arith, left, kept.ledger.told.epoch)

-- ---- a refresh that was made

module _ (k : Key) (b : Books) (j : Minutes) (keeping : Keeping) (kept : BooksAgree k b keeping) (who : Who)
    (quiets : Quiets) where
  abbrev last : TableEntry
  last = last_of keeping.entries

  abbrev again : TableEntry
  again = entry_by last.policy last.image (mark_of (asked_by who (RefreshOk (b.force.epoch + 1))))

  abbrev refreshed : Books
  refreshed = record b { force = with_refresh j b.force }

  pub after_refreshed : HasLine (asked_by who (RefreshOk (b.force.epoch + 1))) b.force.journal j
      → MayAskFor (ledger_of b keeping) who (call_of (RefreshOk (b.force.epoch + 1)))
      → MayAsk b.plan who (RefreshOk (b.force.epoch + 1)) → b.force.epoch < MAX_EPOCH
      → IsAfter k (asked_by who (RefreshOk (b.force.epoch + 1))) b refreshed keeping (grown_by again quiets keeping)
  after_refreshed has asks may left =
      let entry : Entry = asked_by who (RefreshOk (b.force.epoch + 1)) in
      let goes : GoesOnBy entry (course_in b) (course_in refreshed) = record {
        plan_is = refl;
        modules_are = refl;
        journal_is = has.lines_are;
        leads = (may, (record { left = left; next = refl }, refl));
      } in
      let told : HasTold k entry (ledger_of b keeping) (ledger_of refreshed (grown_by again quiets keeping)) =
      record { course = goes; keeping = refl; left = has.left_are; starved = refl } in
      let later = goes_later entry (course_in b) (course_in refreshed) goes in
      let tables : IsTables (idle_tables k (grown_by again quiets keeping)) =
      grown_are k keeping again quiets kept.ledger.told.tables (inl (record { policy = refl; image = refl }))
      (one_left k b keeping kept left) in
      let is : IsEntryOf (course_in refreshed) again =
      entry_again (course_in refreshed) last again refl refl
      (entry_stays (course_in b) (course_in refreshed) refl later last (last_entry k b keeping kept)) in
      let tells : TellsOf k (course_in refreshed) (grown_by again quiets keeping) =
      tells_grown k (course_in b) (course_in refreshed) entry goes later keeping kept.ledger.told again quiets tables refl
      kept.ledger.told.policy is refl refl refl refl in
      record {
        kept = record {
          ledger = ledger_more k b.plan b.modules who (RefreshOk (b.force.epoch + 1)) (ledger_of b keeping)
              (ledger_of refreshed (grown_by again quiets keeping)) kept.ledger asks told
              (policies_same b.plan (end_of_books b) kept.ledger.policies (b.force.epoch + 1)) tells;
          roster_is = kept.roster_is;
          filled = kept.filled;
          layout_is = kept.layout_is;
          book_is = kept.book_is;
          image_is = kept.image_is ∙ ap (λ (e : TableEntry). e.image) (sym (last_more keeping.entries again));
          flags_are = kept.flags_are;
          found_are = kept.found_are;
        };
        told = told;
      }
