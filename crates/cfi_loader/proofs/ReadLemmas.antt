-- What a loader tells, of its books.
use Rattle.std.proofs.Common.{◌≡◌, ℕ, ◌≤◌, List, ◌++◌, take, drop, All, Option, Some, None, sym, ap, subst, ◌∙◌, arith}
use Rattle.std.specs.Prelude.{IfSome}
use Rattle.std.proofs.lemmas.List.{take-map}
use Rattle.std.proofs.lemmas.List.Elements.{All-append, All-drop}
use Rattle.cfi_aux.specs.declared.placed.Placed.{Placed}
use Rattle.cfi_graph.specs.Named.{entry_among}
use Rattle.cfi_model.specs.Data.{LiesInData}
use Rattle.cfi_modules.specs.Fills.{fills_of}
use Rattle.cfi_modules.proofs.CellLemmas.{cells_lie}
use Rattle.cfi_modules.proofs.PrefixLemmas.{data_lies}
use Rattle.cfi_tables.specs.Keeping.{Keeping}
use Rattle.cfi_tables.specs.Key.{Key}
use Rattle.cfi_valid.specs.Guests.{EntersIn, GuestBegins}
use Rattle.cfi_valid.specs.Loaded.{LoadedModule, placed_modules, loaded_by, cells_at}
use Rattle.cfi_word.specs.declared.limits.TheConstants.{MAX_POLICY}
use Rattle.cfi_ledger.specs.declared.books.Books.{Books}
use Rattle.cfi_ledger.specs.Force.{count_by_policy}
use Rattle.cfi_ledger.specs.Books.{end_of_books, loaded_in}
use Rattle.cfi_ledger.specs.Roster.{live_placed}
use Rattle.cfi_ledger.proofs.PolicyLemmas.{policies_left}
use Rattle.cfi_valid.specs.Journal.{members_of}
use Rattle.cfi_loader.specs.inner.Books.{BooksAgree}
use Rattle.cfi_ledger.proofs.DueLemmas.{cells_due, starts_are, starts_first}
use Rattle.cfi_loader.proofs.ChangeLemmas.{series}
use Rattle.cfi_loader.proofs.LiveLemmas.{places}
use Rattle.cfi_ledger.proofs.OpeningLemmas.{begins_from, begins_to}

module _ (k : Key) (b : Books) (keeping : Keeping) (kept : BooksAgree k b keeping) where
  module _ (first : ℕ) (first_is : first ≡ count_by_policy 0 b.force.roster) where
    -- the start modules are the first ones
    pub starts_placed : placed_modules (loaded_by 0 (loaded_in b)) ≡ take first b.force.roster.placed
    starts_placed =
        ap placed_modules (starts_first b.plan (end_of_books b) kept.ledger.policies)
        ∙ ap (λ (n : ℕ). placed_modules (take n (loaded_in b)))
        (starts_are b.plan b.force kept.ledger.policies kept.roster_is ∙ sym first_is)
        ∙ sym (take-map (λ (l : LoadedModule). l.placed) first (loaded_in b))
        ∙ ap (take first) (places k b keeping kept)

    -- where a guest begins
    pub entry_some : (ms : List Placed) → ms ≡ b.force.roster.placed → (name : List ℕ) (found : Option ℕ)
        → IfSome found (EntersIn b.plan (take first ms) name) → IfSome found (GuestBegins b.plan (loaded_in b) name)
    entry_some ms same name None some = tt
    entry_some ms same name (Some address) some =
        begins_from b.plan (loaded_in b) (take first ms) (starts_placed ∙ ap (take first) (sym same)) name address
        some

    pub entry_only : (ms : List Placed) → ms ≡ b.force.roster.placed → (name : List ℕ) (found : Option ℕ)
        → ((address : ℕ) → EntersIn b.plan (take first ms) name address → found ≡ Some address) → (address : ℕ)
        → GuestBegins b.plan (loaded_in b) name address → found ≡ Some address
    entry_only ms same name found only address begins =
        only address
        (begins_to b.plan (loaded_in b) (take first ms) (starts_placed ∙ ap (take first) (sym same)) name address
        begins)

  -- ---- what a guest is given

  pub policy_most : b.force.policy ≤ MAX_POLICY
  policy_most = omega (arith, policies_left b.plan (end_of_books b) kept.ledger.policies)

  pub fills_lie : (given : ℕ)
      → All LiesInData (drop given (fills_of b.force.roster.placed) ++ b.force.roster.cells)
  fills_lie given =
      let placed = b.force.roster.placed in
      let lies = data_lies b.plan.code_words placed (series k b keeping kept) in
      All-append LiesInData (drop given (fills_of placed)) b.force.roster.cells
      (All-drop LiesInData given (fills_of placed) lies)
      (subst (All LiesInData) (sym kept.filled)
      (cells_lie (entry_among (live_placed b.force.roster)) placed lies))

  -- all that is loaded is filled
  pub cells_are : b.force.roster.cells ≡ cells_at b.force.policy (members_of (end_of_books b))
  cells_are =
      sym (cells_due b.plan b.force kept.ledger.policies kept.roster_is kept.flags_are kept.filled)
