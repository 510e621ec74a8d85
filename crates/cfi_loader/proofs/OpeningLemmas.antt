-- What a loader has at the start agrees.
use Rattle.std.proofs.Common.{◌≡◌, ℕ, ◌<◌, ◌≤◌, ◌++◌, Bool, true, false, List, [], ◌∷◌, length, map, None, refl, sym, ap, subst, ◌∙◌, ⊎_elim, arith, replicate, Result, Err}
use Rattle.std.specs.Prelude.{IfErr}
use Rattle.std.proofs.lemmas.Bool.{false≢true, cases_lt}
use Rattle.std.proofs.lemmas.List.{get_or-replicate, get_or_past, length-replicate}
use Rattle.std.proofs.lemmas.List.Elements.{All-nil, All-cons}
use Rattle.atomic_table.specs.Seated.{TableId}
use Rattle.cfi_aux.specs.declared.modules.Module.{Module}
use Rattle.cfi_aux.specs.declared.placed.Placed.{Placed}
use Rattle.cfi_graph.specs.Direct.{DirectEdge}
use Rattle.cfi_model.specs.Closed.{IsClosed}
use Rattle.cfi_model.specs.World.{first_entry}
use Rattle.cfi_model.proofs.TableLemmas.{opened_are}
use Rattle.cfi_plan.specs.declared.journal.Entry.{Entry}
use Rattle.cfi_plan.specs.declared.plan.Plan.{Plan}
use Rattle.cfi_policy.specs.Book.{KeptImage}
use Rattle.cfi_policy.specs.Image.{IsImage}
use Rattle.cfi_modules.specs.Loaded.{AreLoaded}
use Rattle.cfi_tables.specs.Key.{Key, Named, key_by}
use Rattle.cfi_tables.specs.Keeping.{is_out, opened_keeping}
use Rattle.cfi_valid.specs.Journal.{IsOpeningState, IsJournal}
use Rattle.cfi_valid.specs.Script.{script_calls, made_by_script}
use Rattle.cfi_word.specs.declared.limits.TheConstants.{GUESTS}
use Rattle.cfi_ledger.specs.declared.books.Books.{Books}
use Rattle.cfi_ledger.specs.Policies.{IsEntryOf}
use Rattle.cfi_loader.specs.Ledger.{TellsOf}
use Rattle.cfi_loader.specs.Epochs.{HavePoliciesOf}
use Rattle.cfi_loader.specs.Mark.{AreMade, AreRefused}
use Rattle.cfi_ledger.specs.Plans.{CanStart}
use Rattle.cfi_loader.specs.Start.{IsStarted, Started}
use Rattle.cfi_ledger.specs.Books.{course_in, end_of_books}
use Rattle.cfi_loader.specs.inner.Books.{ledger_of, BooksAgree}
use Rattle.cfi_ledger.specs.Entries.{AllEnter}
use Rattle.cfi_ledger.specs.Finding.{AreFindings}
use Rattle.cfi_ledger.specs.Journal.{Minutes}
use Rattle.cfi_ledger.specs.Opening.{books_at, AreOpeningBooks, IsStartFault}
use Rattle.cfi_ledger.specs.declared.fault.StartFault.{StartFault}
use Rattle.cfi_ledger.specs.declared.fault.StartFault.TheVariants.{Memory}
use Rattle.cfi_ledger.specs.Roster.{Roster, IsBookOfRoster, IsFilled}
use Rattle.cfi_ledger.specs.Starts.{AreStarted, opened_state}
use Rattle.cfi_ledger.proofs.EntryLemmas.{entry_of_all}
use Rattle.cfi_ledger.proofs.FindingLemmas.{findings_none}
use Rattle.cfi_ledger.proofs.PolicyLemmas.{policies_below}
use Rattle.cfi_ledger.proofs.StartLemmas.{started_all}
use Rattle.cfi_ledger.proofs.FlagLemmas.{book_image}
use Rattle.cfi_ledger.proofs.OpeningLemmas.{entries, journal_none, places, policies, start_book, start_closed, start_flags, start_loaded}

-- ---- the start

module _ (plan : Plan) (modules : List Module) (can : CanStart plan modules) (r : Roster)
    (all : AreStarted plan modules (length plan.modules) r) (book : KeptImage) (book_is : IsBookOfRoster r book)
    (j : Minutes)
    (no_lines : j.lines ≡ []) (left : j.left ≡ script_calls plan.script) (enter : AllEnter plan r.placed)
    (filled : IsFilled r) (b : Books)
    (none_found : b.found.items ≡ replicate (length modules) None) where
  abbrev k : Key
  k = key_by plan.code_words plan.versions plan.first book.image

  abbrev first : Books
  first = books_at plan modules r book j b

  is_first : IsEntryOf (course_in first) (first_entry book.image)
  is_first =
      entry_of_all (course_in first) (first_entry book.image) refl
      (policies_below plan (opened_state plan r) (policies plan modules can r all))
      (subst (AreLoaded plan.code_words) (sym (places plan modules can r all)) (start_loaded plan modules can r all))
      (book_image first.force all.roster_is.many (start_flags plan modules can r all) plan all.roster_is book book_is)

  none : (guest : ℕ) → is_out (opened_keeping k).out guest ≡ false
  none guest = ⊎_elim
      (λ (within : guest < GUESTS). get_or-replicate GUESTS guest false false within)
      (λ (past : GUESTS ≤ guest).
      get_or_past (replicate GUESTS false) guest false (omega (arith, past, length-replicate GUESTS false)))
      (cases_lt guest GUESTS)

  none_out : (guest : ℕ) → is_out (opened_keeping k).out guest ≡ true → guest < length plan.guests
  none_out guest out = absurd (false≢true (sym (none guest) ∙ out))

  tells : TellsOf k (course_in first) (opened_keeping k)
  tells = record {
    tables = opened_are plan.code_words plan.versions plan.first book.image can.code_words can.versions.0
        can.versions.1 can.first
        (start_closed plan modules can r all book.image (start_book plan modules can r all book book_is));
    epoch = refl;
    policy = refl;
    images = All-cons (IsEntryOf (course_in first)) (first_entry book.image) [] is_first
        (All-nil (IsEntryOf (course_in first)));
    marks = subst (λ (lines : List Entry). AreMade lines (opened_keeping k).entries) (sym no_lines) refl;
    epochs = subst (λ (lines : List Entry). HavePoliciesOf lines (opened_keeping k).entries) (sym no_lines) refl;
    refusals = subst (λ (lines : List Entry). AreRefused lines []) (sym no_lines) refl;
    guests = none_out;
  }

  pub start_kept : BooksAgree k first (opened_keeping k)
  start_kept = record {
    ledger = record {
      plan_is = refl;
      modules_are = refl;
      can_start = can;
      tables_are = record { code_words = refl; versions = refl; first = refl };
      course = subst (λ (lines : List Entry). IsJournal plan modules lines (opened_state plan r)) (sym no_lines)
          (journal_none plan modules can r all);
      policies = policies plan modules can r all;
      entries = entries plan modules can r all enter;
      told = tells;
      script =
          ap (λ (lines : List Entry). made_by_script lines ++ j.left) no_lines ∙ left;
    };
    roster_is = all.roster_is;
    filled = filled;
    layout_is = refl;
    book_is = book_is;
    image_is = refl;
    flags_are = start_flags plan modules can r all;
    found_are = subst (AreFindings modules 0 r) (sym none_found) (findings_none modules 0 r);
  }

-- ---- the books of a start

module _ (plan : Plan) (modules : List Module) (can : CanStart plan modules) (r : Roster)
    (all : AreStarted plan modules (length plan.modules) r) (b : Books) (is : AreOpeningBooks plan modules r b) where
  pub first_kept : (k : Key) → k ≡ key_by plan.code_words plan.versions plan.first b.book.image → AllEnter plan r.placed
      → IsFilled r → BooksAgree k b (opened_keeping k)
  first_kept k k_is enter filled =
      let key : Key = key_by plan.code_words plan.versions plan.first b.book.image in
      let kept : BooksAgree key (books_at plan modules r b.book b.force.journal b) (opened_keeping key) =
      start_kept plan modules can r all b.book is.book_is b.force.journal is.lines_are is.left_are enter filled b
      is.none_found in
      subst (λ (x : Key). BooksAgree x b (opened_keeping x)) (sym k_is)
      (subst (λ (nb : Books). BooksAgree key nb (opened_keeping key)) (sym is.is) kept)

  pub first_started : (named : Named) (slips : TableId)
      → IsStarted plan modules (record { named = named; slips = slips; ledger = ledger_of b (opened_keeping named.key) })
  first_started named slips = record {
    plan_is = ap (λ (x : Books). x.plan) is.is;
    modules_are = ap (λ (x : Books). x.modules) is.is;
    journal_is = is.lines_are;
    opens = subst (IsOpeningState plan modules) (sym (ap end_of_books is.is)) (started_all plan modules r all);
    keeping_is = refl;
    left_is = is.left_are;
    not_starved = ap (λ (x : Books). x.starved) is.is;
  }

  pub first_closed : IsClosed plan.code_words b.book.image
  first_closed =
      start_closed plan modules can r all b.book.image (start_book plan modules can r all b.book is.book_is)

-- want of memory is a fault of any start
pub no_memory : (plan : Plan) (modules : List Module) (made : Result Started StartFault)
    → (fault : StartFault) × (made ≡ Err fault) × (fault ≡ Memory) → IfErr made (IsStartFault plan modules)
no_memory plan modules made is =
    subst (λ (r : Result Started StartFault). IfErr r (IsStartFault plan modules)) (sym is.1)
    (subst (IsStartFault plan modules) (sym is.2) tt)
