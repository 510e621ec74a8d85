-- Where guests begin, and what the start modules make of a plan.
use Rattle.std.proofs.Common.{◌≡◌, ℕ, Bool, true, List, [], ◌∷◌, length, map, All, refl, sym, ap, subst, ◌∙◌, arith}
use Rattle.cfi_aux.specs.Sound.{IsSoundModule}
use Rattle.cfi_aux.specs.declared.modules.Module.{Module}
use Rattle.cfi_aux.specs.declared.placed.Placed.{Placed}
use Rattle.cfi_graph.specs.Cell.{cells_of}
use Rattle.cfi_graph.specs.Direct.{DirectEdge}
use Rattle.cfi_model.specs.Closed.{IsClosed}
use Rattle.cfi_plan.specs.declared.plan.Plan.{Plan}
use Rattle.cfi_policy.specs.Book.{KeptImage}
use Rattle.cfi_policy.specs.Image.{IsImage}
use Rattle.cfi_modules.specs.Loaded.{AreLoaded}
use Rattle.cfi_modules.proofs.GraphLemmas.{are_loaded}
use Rattle.cfi_modules.proofs.ImageLemmas.{closed}
use Rattle.cfi_valid.specs.Guests.{EntersIn, GuestBegins}
use Rattle.cfi_valid.specs.Journal.{IsJournal, live_in}
use Rattle.cfi_valid.specs.Loaded.{LoadedModule, placed_modules, loaded_by, live_at, live_flags}
use Rattle.cfi_valid.specs.declared.retirement.Retirement.{Retirement}
use Rattle.cfi_valid.proofs.LiveLemmas.{live_none, opening_up_to}
use Rattle.cfi_valid.proofs.SeriesLemmas.{journal_series}
use Rattle.cfi_word.specs.declared.lists.Image.{Image}
use Rattle.cfi_ledger.specs.declared.books.Books.{Books}
use Rattle.cfi_ledger.specs.Policies.{HavePolicies}
use Rattle.cfi_ledger.specs.Entries.{HaveEntries, AllEnter, IsFirstOut}
use Rattle.cfi_ledger.specs.Opening.{AreOpened, AreOpeningBooks, IsStartRoster}
use Rattle.cfi_ledger.specs.Plans.{CanStart}
use Rattle.cfi_valid.specs.Opening.{IsFirstLost}
use Rattle.cfi_ledger.specs.Roster.{Roster, IsBookOfRoster, IsImageOfRoster, live_placed, loaded_in_roster, members_in_roster, origin_of, series_of}
use Rattle.cfi_ledger.specs.Starts.{AreStarted, opened_state}
use Rattle.cfi_modules.proofs.LiveLemmas.{all_live_in}
use Rattle.cfi_ledger.proofs.EntryLemmas.{among_self, loaded_all}
use Rattle.cfi_ledger.proofs.MemberLemmas.{stays, flags_stay}
use Rattle.cfi_valid.proofs.KeptLemmas.{places_are}
use Rattle.cfi_ledger.proofs.PolicyLemmas.{opening_policies}
use Rattle.cfi_ledger.proofs.StartLemmas.{started_all}

-- ---- where guests begin

module _ (plan : Plan) (loaded : List LoadedModule) (ms : List Placed)
    (same : placed_modules (loaded_by 0 loaded) ≡ ms) where
  pub begins_from : (entry : List ℕ) (address : ℕ) → EntersIn plan ms entry address
      → GuestBegins plan loaded entry address
  begins_from entry address enters =
      subst (λ (xs : List Placed). EntersIn plan xs entry address) (sym same) enters

  pub begins_to : (entry : List ℕ) (address : ℕ) → GuestBegins plan loaded entry address
      → EntersIn plan ms entry address
  begins_to entry address begins = subst (λ (xs : List Placed). EntersIn plan xs entry address) same begins

-- ---- the start

-- the start modules, with their cells filled
pub filled_opened : (plan : Plan) (modules : List Module) (r now : Roster) → IsStartRoster plan modules r
    → now ≡ record r { cells = cells_of (live_placed r) r.placed } → (b : Books) → AreOpeningBooks plan modules now b
    → AreOpened plan modules b
filled_opened plan modules r now start is b books =
    let its = start.started in
    let all : Roster = record r { cells = cells_of (live_placed r) r.placed } in
    record {
      roster = all;
      started = record {
        roster_is = record {
          code_words_are = its.roster_is.code_words_are;
          many = its.roster_is.many;
          lines_are = its.roster_is.lines_are;
        };
        starts = its.starts;
        policies = its.policies;
        live = its.live;
        stay = its.stay;
        order = its.order;
      };
      enter = start.enter;
      filled = refl;
      books = subst (λ (x : Roster). AreOpeningBooks plan modules x b) is books;
    }

module _ (plan : Plan) (modules : List Module) (can : CanStart plan modules) (r : Roster)
    (all : AreStarted plan modules (length plan.modules) r) where
  pub places : placed_modules (loaded_in_roster r) ≡ r.placed
  places = places_are origin_of r.lines r.placed all.roster_is.many

  pub start_places : placed_modules (loaded_by 0 (loaded_in_roster r)) ≡ r.placed
  start_places =
      ap placed_modules (loaded_all 0 (loaded_in_roster r) (λ at d within. omega (arith, all.policies at d within)))
      ∙ places

  -- all are live
  pub start_live : placed_modules (live_in (opened_state plan r)) ≡ r.placed
  start_live =
      ap (λ (rs : List Retirement).
      placed_modules (live_at 0 (record { loaded = loaded_in_roster r; retired = rs }))) all.stay
      ∙ ap placed_modules (live_none 0 (loaded_in_roster r)) ∙ start_places

  pub start_flags : r.flags ≡ live_flags 0 (members_in_roster r)
  start_flags =
      all.live ∙ ap (map (λ (m : Placed). true)) (sym places) ∙ each (loaded_in_roster r)
      ∙ ap (λ (rs : List Retirement). map (stays rs) (loaded_in_roster r)) (sym all.stay)
      ∙ sym (flags_stay (opened_state plan r)
      (opening_up_to plan modules (opened_state plan r) (started_all plan modules r all)))
    where
      each : (loaded : List LoadedModule)
          → map (λ (m : Placed). true) (placed_modules loaded) ≡ map (stays []) loaded
      each [] = refl
      each (l ∷ loaded) = ap (λ (bs : List Bool). true ∷ bs) (each loaded)

  -- so the book has the image of all
  pub start_book : (book : KeptImage) → IsBookOfRoster r book → IsImageOfRoster r book.image
  start_book book of =
      subst (λ (ms : List Placed). IsImage (DirectEdge ms) r.placed r.code_words book.image)
      (all_live_in (series_of r) all.live) of.image

  pub first_lost : (guest : ℕ) → IsFirstOut plan r.placed guest → IsFirstLost plan modules guest
  first_lost guest out = record {
    opening = opened_state plan r;
    opens = started_all plan modules r all;
    entry = out.entry;
    is = out.is;
    lost = λ found.
        out.lost (found.0, begins_to plan (loaded_in_roster r) r.placed start_places out.entry found.0 found.1);
    before = λ k other less is.
        let found = out.before k other less is in
        (found.0, begins_from plan (loaded_in_roster r) r.placed start_places other found.0 found.1);
  }

  pub entries : AllEnter plan r.placed → HaveEntries plan (loaded_in_roster r)
  entries enter = λ guest entry is.
      let found = enter guest entry is in
      (found.0, begins_from plan (loaded_in_roster r) r.placed start_places entry found.0 found.1)

  pub journal_none : IsJournal plan modules [] (opened_state plan r)
  journal_none = record {
    opening = opened_state plan r;
    opens = started_all plan modules r all;
    leads = refl;
  }

  pub start_loaded : AreLoaded plan.code_words r.placed
  start_loaded =
      let sound : All IsSoundModule modules = λ at d within. (can.taken at d within).sound in
      subst (AreLoaded plan.code_words) places
      (are_loaded plan.code_words (placed_modules (loaded_in_roster r))
      (journal_series plan modules [] (opened_state plan r) can.code_words sound journal_none))

  pub policies : HavePolicies plan (opened_state plan r)
  policies =
      opening_policies plan modules (opened_state plan r) (started_all plan modules r all) can.most_starts

  module _ (image : Image) (of : IsImageOfRoster r image) where
    pub labels : IsImage (DirectEdge r.placed) r.placed plan.code_words image
    labels = subst (λ (n : ℕ). IsImage (DirectEdge r.placed) r.placed n image) all.roster_is.code_words_are of

    pub start_closed : IsClosed plan.code_words image
    start_closed = closed plan.code_words r.placed start_loaded r.placed image (among_self r.placed, labels)
