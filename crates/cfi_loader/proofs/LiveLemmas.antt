-- What placing made of the modules of a loader's books, and of the live ones.
use Rattle.std.proofs.Common.{◌≡◌, ℕ, Bool, List, length, sym, ap, subst, ◌∙◌}
use Rattle.std.proofs.lemmas.List.{length-map}
use Rattle.cfi_aux.specs.declared.modules.Module.{Module}
use Rattle.cfi_aux.specs.declared.placed.Placed.{Placed}
use Rattle.cfi_modules.specs.Order.{Joins}
use Rattle.cfi_modules.specs.Series.{JoinsTo}
use Rattle.cfi_tables.specs.Keeping.{Keeping}
use Rattle.cfi_tables.specs.Key.{Key}
use Rattle.cfi_valid.proofs.KeptLemmas.{many_are, places_are}
use Rattle.cfi_valid.specs.Journal.{live_in}
use Rattle.cfi_valid.specs.Loaded.{placed_modules, is_live}
use Rattle.cfi_ledger.specs.Books.{end_of_books, loaded_in}
use Rattle.cfi_ledger.specs.Roster.{live_placed, origin_of, series_of}
use Rattle.cfi_ledger.specs.declared.books.Books.{Books}
use Rattle.cfi_ledger.proofs.FlagLemmas.{placed_live}
use Rattle.cfi_loader.specs.inner.Books.{BooksAgree}

module _ (k : Key) (b : Books) (keeping : Keeping) (kept : BooksAgree k b keeping) where
  pub places : placed_modules (loaded_in b) ≡ b.force.roster.placed
  places = places_are origin_of b.force.roster.lines b.force.roster.placed kept.roster_is.many

  pub live_places : placed_modules (live_in (end_of_books b)) ≡ live_placed b.force.roster
  live_places = placed_live b.force kept.roster_is.many kept.flags_are

  pub flags_many : length b.force.roster.flags ≡ length b.force.roster.placed
  flags_many =
      ap (λ (bs : List Bool). length bs) kept.flags_are
      ∙ length-map (loaded_in b) (is_live b.force.policy b.force.roster.retired)
      ∙ many_are origin_of b.force.roster.lines b.force.roster.placed kept.roster_is.many

  -- a module that joins the roster joins those that are loaded and live
  pub joins_loaded : (m : Module) (one : Placed) → JoinsTo (series_of b.force.roster) m one
      → Joins b.plan.code_words (placed_modules (loaded_in b)) (placed_modules (live_in (end_of_books b))) m one
  joins_loaded m one joins =
      let placed : List Placed = b.force.roster.placed in
      let live : List Placed = live_placed b.force.roster in
      subst (λ (ls : List Placed). Joins b.plan.code_words (placed_modules (loaded_in b)) ls m one) (sym live_places)
      (subst (λ (ps : List Placed). Joins b.plan.code_words ps live m one) (sym places)
      (subst (λ (n : ℕ). Joins n placed live m one) kept.roster_is.code_words_are joins))
