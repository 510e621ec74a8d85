-- What a loader has agrees again after a load or a retirement that was made.
use Rattle.std.proofs.Common.{◌≡◌, ℕ, ◌+◌, ◌<◌, true, List, [], ◌∷◌, length, take, None, All, inr, refl, sym, ap, subst, ◌∙◌, arith}
use Rattle.cfi_aux.specs.Sound.{IsSoundModule}
use Rattle.cfi_aux.specs.declared.modules.Module.{Module}
use Rattle.cfi_aux.specs.declared.placed.Placed.{Placed}
use Rattle.cfi_graph.specs.Direct.{DirectEdge}
use Rattle.cfi_model.specs.Closed.{IsClosed}
use Rattle.cfi_model.specs.Tables.{IsTables, IsUpdate, KeepsCode}
use Rattle.cfi_model.specs.declared.history.Entry.{Entry as TableEntry}
use Rattle.cfi_plan.specs.declared.journal.Entry.{Entry}
use Rattle.cfi_plan.specs.declared.journal.JournalLine.{JournalLine}
use Rattle.cfi_plan.specs.declared.journal.Who.{Who}
use Rattle.cfi_policy.specs.Book.{KeptImage}
use Rattle.cfi_policy.specs.Code.{IsCodeOf}
use Rattle.cfi_policy.specs.Image.{IsImage}
use Rattle.cfi_modules.specs.Loaded.{AreLoaded, IsLoadedImage}
use Rattle.cfi_modules.specs.Series.{IsSeries}
use Rattle.cfi_modules.proofs.GrowthLemmas.{code_kept}
use Rattle.cfi_modules.proofs.ImageLemmas.{closed}
use Rattle.cfi_modules.proofs.LiveLemmas.{live_among}
use Rattle.cfi_tables.specs.Keeping.{Keeping, entry_by, grown_by, last_of}
use Rattle.cfi_tables.specs.Key.{Key}
use Rattle.cfi_tables.specs.declared.view.Quiets.{Quiets}
use Rattle.cfi_tables.specs.Views.{idle_tables}
use Rattle.cfi_tables.proofs.KeeperLemmas.{grown_are}
use Rattle.cfi_valid.specs.Journal.{JournalState, EntryLeads}
use Rattle.cfi_valid.specs.Loaded.{placed_modules, loaded_by, live_flags}
use Rattle.cfi_valid.specs.Script.{call_of}
use Rattle.cfi_valid.proofs.SeriesLemmas.{journal_series}
use Rattle.cfi_word.specs.declared.limits.TheConstants.{MAX_EPOCH}
use Rattle.cfi_word.specs.declared.lists.Image.{Image}
use Rattle.cfi_ledger.specs.declared.books.Books.{Books}
use Rattle.cfi_ledger.specs.Books.{committed, course_in, end_of_books, loaded_in}
use Rattle.cfi_ledger.specs.Force.{state_of, with_change}
use Rattle.cfi_ledger.specs.Journal.{asked_by, Minutes, HasLine}
use Rattle.cfi_ledger.specs.Policies.{HavePolicies, IsEntryOf}
use Rattle.cfi_ledger.specs.Roster.{Roster, IsBookOfRoster, IsFilled, IsRosterOf, live_placed, members_in_roster, origin_of}
use Rattle.cfi_ledger.proofs.EntryLemmas.{entry_of_all, loaded_all}
use Rattle.cfi_ledger.proofs.FindingLemmas.{findings_later}
use Rattle.cfi_ledger.proofs.FlagLemmas.{book_image}
use Rattle.cfi_valid.proofs.KeptLemmas.{places_are}
use Rattle.cfi_ledger.proofs.PolicyLemmas.{policies_below, policies_left}
use Rattle.cfi_loader.specs.Epochs.{policy_put}
use Rattle.cfi_loader.specs.Ledger.{TellsOf}
use Rattle.cfi_loader.specs.Mark.{mark_of, is_made, spent_in}
use Rattle.cfi_loader.specs.Told.{GoesOnBy, MayAskFor, HasTold, KeepsAfter}
use Rattle.cfi_loader.specs.inner.Books.{ledger_of, BooksAgree, IsAfter}
use Rattle.cfi_loader.proofs.BooksLemmas.{last_entry, one_left}
use Rattle.cfi_loader.proofs.LedgerLemmas.{goes_later, ledger_more}
use Rattle.cfi_loader.proofs.LiveLemmas.{places}
use Rattle.cfi_loader.proofs.TellLemmas.{tells_grown, last_more}

-- ---- the modules that are loaded

module _ (k : Key) (b : Books) (keeping : Keeping) (kept : BooksAgree k b keeping) where
  sound : All IsSoundModule b.modules
  sound = λ at d within. (kept.ledger.can_start.taken at d within).sound

  pub series : IsSeries b.plan.code_words b.force.roster.placed
  series =
      subst (IsSeries b.plan.code_words) (places k b keeping kept)
      (journal_series b.plan b.modules b.force.journal.lines (end_of_books b) kept.ledger.can_start.code_words sound
      kept.ledger.course)

  -- the image in force has the code of all
  code_in_force : IsCodeOf b.force.roster.placed b.plan.code_words (last_of keeping.entries).image.code
  code_in_force =
      let last = last_of keeping.entries in
      let all : loaded_by last.policy (loaded_in b) ≡ loaded_in b =
      ap (λ (n : ℕ). loaded_by n (loaded_in b)) (sym kept.ledger.told.policy)
      ∙ loaded_all b.force.policy (loaded_in b) (policies_below b.plan (end_of_books b) kept.ledger.policies) in
      subst (λ (ps : List Placed). IsCodeOf ps b.plan.code_words last.image.code)
      (ap placed_modules all ∙ places k b keeping kept) (last_entry k b keeping kept).is.image.1.code

-- ---- what may come next

-- the state where a roster comes with the next policy
abbrev pub state_next : Books → Roster → JournalState
state_next b r = state_of (with_change r b.force.journal b.force)

-- a roster that comes with the next policy: the modules that stood there stand there still
pub record IsNext (b : Books) (r : Roster) : Type 0 where
  pub roster_is : IsRosterOf b.plan r
  pub first : take (length b.force.roster.placed) r.placed ≡ b.force.roster.placed
  pub loaded : AreLoaded b.plan.code_words r.placed
  pub flags_are : r.flags ≡ live_flags (b.force.policy + 1) (members_in_roster r)
  pub policies : HavePolicies b.plan (state_next b r)

module _ (k : Key) (b : Books) (keeping : Keeping) (kept : BooksAgree k b keeping) (r : Roster) (next : IsNext b r)
    (book : KeptImage) (book_is : IsBookOfRoster r book) where
  abbrev words : ℕ
  words = b.plan.code_words

  of : IsLoadedImage words r.placed (live_placed r) book.image
  of = (
    live_among r.placed r.flags,
    subst (λ (n : ℕ). IsImage (DirectEdge (live_placed r)) r.placed n book.image) next.roster_is.code_words_are
        book_is.image,
  )

  closed_there : IsClosed words book.image
  closed_there = closed words r.placed next.loaded (live_placed r) book.image of

  keeps_there : KeepsCode (last_of keeping.entries).image book.image
  keeps_there = λ place there.
      let n : ℕ = length b.force.roster.placed in
      let code = (last_of keeping.entries).image.code in
      code_kept words n r.placed code book.image.code
      (subst (λ (ps : List Placed). IsCodeOf ps words code) (sym next.first) (code_in_force k b keeping kept))
      of.1.code place there

  -- its image may come next
  pub change_follows : (mark : ℕ)
      → IsUpdate k.code_words (last_of keeping.entries) (entry_by (b.force.policy + 1) book.image mark)
  change_follows mark = inr (record {
    policy = ap (λ (n : ℕ). n + 1) kept.ledger.told.policy;
    most = omega (arith, policies_left b.plan (end_of_books b) kept.ledger.policies);
    closed = subst (λ (n : ℕ). IsClosed n book.image) (sym kept.ledger.tables_are.code_words) closed_there;
    keeps = keeps_there;
  })

  module _ (j : Minutes) (who : Who) (what : JournalLine) (quiets : Quiets) where
    abbrev there : Books
    there = committed r book j b

    abbrev entry : Entry
    entry = asked_by who what

    abbrev new : TableEntry
    new = entry_by (b.force.policy + 1) book.image (mark_of entry)

    abbrev grown : Keeping
    grown = grown_by new quiets keeping

    is_entry : IsEntryOf (course_in there) new
    is_entry =
        let many = next.roster_is.many in
        entry_of_all (course_in there) new refl (policies_below b.plan (end_of_books there) next.policies)
        (subst (AreLoaded words) (sym (places_are origin_of r.lines r.placed many)) next.loaded)
        (book_image there.force many next.flags_are b.plan next.roster_is book book_is)

    -- with the line of a load or a retirement it does
    pub after_change : IsFilled r → HasLine entry b.force.journal j → MayAskFor (ledger_of b keeping) who (call_of what)
        → b.force.epoch < MAX_EPOCH → EntryLeads b.plan b.modules (end_of_books b) entry (end_of_books there)
        → KeepsAfter k (mark_of entry) what keeping grown → is_made what ≡ true → spent_in entry ≡ None
        → policy_put (last_of keeping.entries).policy what ≡ (b.force.policy + 1) ∷ []
        → IsAfter k entry b there keeping grown
    after_change filled has asks left leads keeps made spent put =
        let goes : GoesOnBy entry (course_in b) (course_in there) =
        record { plan_is = refl; modules_are = refl; journal_is = has.lines_are; leads = leads } in
        let told : HasTold k entry (ledger_of b keeping) (ledger_of there grown) =
        record { course = goes; keeping = keeps; left = has.left_are; starved = refl } in
        let later = goes_later entry (course_in b) (course_in there) goes in
        let tables : IsTables (idle_tables k grown) =
        grown_are k keeping new quiets kept.ledger.told.tables (change_follows (mark_of entry))
        (one_left k b keeping kept left) in
        let tells : TellsOf k (course_in there) grown =
        tells_grown k (course_in b) (course_in there) entry goes later keeping kept.ledger.told new quiets tables refl
        refl is_entry made spent refl put in
        record {
          kept = record {
            ledger = ledger_more k b.plan b.modules who what (ledger_of b keeping) (ledger_of there grown) kept.ledger
                asks told next.policies tells;
            roster_is = next.roster_is;
            filled = filled;
            layout_is = kept.layout_is;
            book_is = book_is;
            image_is = ap (λ (e : TableEntry). e.image) (sym (last_more keeping.entries new));
            flags_are = next.flags_are;
            found_are = findings_later b.modules b.force.policy b.force.roster b.found.items kept.found_are
                (b.force.policy + 1) (omega arith) r;
          };
          told = told;
        }
