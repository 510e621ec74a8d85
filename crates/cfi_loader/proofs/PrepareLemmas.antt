-- A load that was prepared.
use Rattle.std.proofs.Common.{◌≡◌, ℕ, ◌+◌, ◌<◌, ◌++◌, true, Bool, List, [], ◌∷◌, length, map, take, refl, sym, ap, subst, ◌∙◌, arith}
use Rattle.std.proofs.Math.Seq.{take-length}
use Rattle.std.proofs.lemmas.List.{take-append-le}
use Rattle.std.proofs.lemmas.Option.{get_or_from_slice_get, slice_get_within}
use Rattle.cfi_aux.specs.Sound.{IsSoundModule}
use Rattle.cfi_aux.specs.declared.modules.Module.{Module}
use Rattle.cfi_aux.specs.declared.placed.Placed.{Placed}
use Rattle.cfi_model.specs.Tables.{IsUpdate}
use Rattle.cfi_modules.proofs.GraphLemmas.{are_loaded}
use Rattle.cfi_modules.proofs.LiveLemmas.{live_among}
use Rattle.cfi_modules.proofs.OrderLemmas.{series_more}
use Rattle.cfi_modules.specs.Loaded.{AreLoaded}
use Rattle.cfi_modules.specs.Order.{Joins}
use Rattle.cfi_modules.specs.Series.{JoinsTo}
use Rattle.cfi_plan.specs.declared.journal.JournalLine.{JournalLine}
use Rattle.cfi_plan.specs.declared.journal.JournalLine.TheVariants.{LoadOk}
use Rattle.cfi_plan.specs.declared.journal.ModuleLine.{ModuleLine}
use Rattle.cfi_plan.specs.declared.journal.Who.{Who}
use Rattle.cfi_policy.specs.Book.{KeptImage}
use Rattle.cfi_tables.specs.Keeping.{Keeping, entry_by, grown_by, last_of}
use Rattle.cfi_tables.specs.Key.{Key}
use Rattle.cfi_tables.specs.declared.view.Quiets.{Quiets}
use Rattle.cfi_valid.proofs.KeptLemmas.{loaded_more}
use Rattle.cfi_valid.specs.Journal.{JournalState, IsClean, live_in, with_loaded}
use Rattle.cfi_valid.specs.Loaded.{LoadedModule, placed_modules, planned_name}
use Rattle.cfi_valid.specs.Script.{Load}
use Rattle.cfi_word.specs.declared.limits.TheConstants.{MAX_EPOCH}
use Rattle.cfi_ledger.specs.declared.books.Books.{Books}
use Rattle.cfi_ledger.specs.Books.{committed, end_of_books, loaded_in}
use Rattle.cfi_ledger.specs.Journal.{asked_by, Minutes, HasLine}
use Rattle.cfi_ledger.specs.Loads.{HasPrepared, IsAbsent}
use Rattle.cfi_ledger.specs.Policies.{HavePolicies}
use Rattle.cfi_ledger.specs.Roster.{Roster, IsBookOfRoster, IsFilled, line_by, live_placed, origin_of, series_of}
use Rattle.cfi_ledger.proofs.JoinedLemmas.{joined_roster}
use Rattle.cfi_ledger.proofs.FlagLemmas.{flags_joined}
use Rattle.cfi_ledger.proofs.PolicyLemmas.{policies_more}
use Rattle.cfi_loader.specs.Mark.{mark_by}
use Rattle.cfi_loader.specs.Told.{MayAskFor}
use Rattle.cfi_loader.specs.inner.Books.{ledger_of, BooksAgree, IsAfter}
use Rattle.cfi_loader.proofs.ChangeLemmas.{IsNext, after_change, change_follows, series, state_next}
use Rattle.cfi_loader.proofs.LiveLemmas.{joins_loaded}
use Rattle.cfi_loader.proofs.UpdateLemmas.{may_ask}

module _ (k : Key) (b : Books) (keeping : Keeping) (kept : BooksAgree k b keeping) (number : ℕ) (roster : Roster)
    (prepared : HasPrepared b number roster) (absent : IsAbsent b number) where
  abbrev one : Placed
  one = prepared.joined.one

  abbrev line : ModuleLine
  line = line_by number (planned_name b.plan.modules number) (b.force.policy + 1) one

  is_sound : IsSoundModule prepared.unplaced
  is_sound =
      let within = slice_get_within b.modules number prepared.unplaced prepared.is in
      subst IsSoundModule (get_or_from_slice_get b.modules number prepared.unplaced prepared.unplaced prepared.is)
      (kept.ledger.can_start.taken number prepared.unplaced within).sound

  abbrev pub clean : IsClean b.plan b.modules (end_of_books b) number
  clean = record {
    absent = record {
      unplaced = prepared.unplaced;
      is = prepared.is;
      absent = absent.absent;
      room = absent.room;
    };
    placed = one;
    joins = joins_loaded k b keeping kept prepared.unplaced one prepared.joined.joins;
  }

  -- ---- the roster comes next

  placed_are : roster.placed ≡ b.force.roster.placed ++ one ∷ []
  placed_are = ap (λ (r : Roster). r.placed) prepared.joined.is

  end_is : state_next b roster
      ≡ with_loaded number (b.force.epoch + 1) (b.force.policy + 1) one (end_of_books b)
  end_is =
      ap (state_next b) prepared.joined.is
      ∙ ap (λ (ls : List LoadedModule). record {
        epoch = b.force.epoch + 1;
        policy = b.force.policy + 1;
        loaded = ls;
        retired = b.force.roster.retired;
      })
      (loaded_more origin_of b.force.roster.lines b.force.roster.placed line one kept.roster_is.many)

  policies : HavePolicies b.plan (state_next b roster)
  policies =
      subst (HavePolicies b.plan) (sym end_is)
      (policies_more b.plan (end_of_books b) kept.ledger.policies number (b.force.epoch + 1) (b.force.policy + 1) refl
      one absent.absent absent.room)

  pub next : IsNext b roster
  next = record {
    roster_is = joined_roster number (planned_name b.plan.modules number) (b.force.policy + 1) prepared.unplaced
        b.force.roster roster prepared.joined b.plan kept.roster_is refl;
    first =
        ap (take (length b.force.roster.placed)) placed_are
        ∙ take-append-le (length b.force.roster.placed) b.force.roster.placed (one ∷ []) (omega arith)
        ∙ take-length b.force.roster.placed;
    loaded =
        let joins : Joins b.plan.code_words b.force.roster.placed (live_placed b.force.roster) prepared.unplaced one =
        subst (λ (n : ℕ). Joins n b.force.roster.placed (live_placed b.force.roster) prepared.unplaced one)
        kept.roster_is.code_words_are prepared.joined.joins in
        subst (AreLoaded b.plan.code_words) (sym placed_are)
        (are_loaded b.plan.code_words (b.force.roster.placed ++ one ∷ [])
        (series_more b.plan.code_words b.force.roster.placed prepared.unplaced one (series k b keeping kept) is_sound
        (live_placed b.force.roster, live_among b.force.roster.placed b.force.roster.flags, joins)));
    flags_are = flags_joined b.force kept.roster_is.many kept.flags_are b.plan kept.ledger.policies roster number
        (planned_name b.plan.modules number) prepared.unplaced prepared.joined absent.absent;
    policies = policies;
  }

  module _ (book : KeptImage) (book_is : IsBookOfRoster roster book) where
    pub load_update : (mark : ℕ)
        → IsUpdate k.code_words (last_of keeping.entries) (entry_by (b.force.policy + 1) book.image mark)
    load_update mark = change_follows k b keeping kept roster next book book_is mark

    pub load_made : IsFilled roster → (quiets : Quiets) (who : Who) (j : Minutes) → b.force.epoch < MAX_EPOCH
        → HasLine (asked_by who (LoadOk number (b.force.epoch + 1) (b.force.policy + 1))) b.force.journal j
        → MayAskFor (ledger_of b keeping) who (Load number)
        → IsAfter k (asked_by who (LoadOk number (b.force.epoch + 1) (b.force.policy + 1))) b (committed roster book j b)
        keeping (grown_by (entry_by (b.force.policy + 1) book.image (mark_by who (Load number))) quiets keeping)
    load_made filled quiets who j left has asks =
        let what : JournalLine = LoadOk number (b.force.epoch + 1) (b.force.policy + 1) in
        let may = may_ask (ledger_of b keeping) who (Load number) what asks refl in
        after_change k b keeping kept roster next book book_is j who what quiets filled has asks left
        (may, (record { clean = clean; goes = record { left = left; next = refl }; next = refl }, end_is))
        (book.image, refl) refl refl refl
