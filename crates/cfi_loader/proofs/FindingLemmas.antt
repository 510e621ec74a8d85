-- What a loader has, with other findings.
use Rattle.std.proofs.Common.{◌≡◌, ℕ, sym, subst}
use Rattle.cfi_plan.specs.declared.journal.Who.{Who}
use Rattle.cfi_tables.specs.Keeping.{Keeping}
use Rattle.cfi_tables.specs.Key.{Key}
use Rattle.cfi_ledger.specs.declared.books.Books.{Books}
use Rattle.cfi_loader.specs.declared.fault.LoadFault.{LoadFault}
use Rattle.cfi_loader.specs.Results.{IsLoadFault}
use Rattle.cfi_loader.specs.Told.{MayAskFor}
use Rattle.cfi_loader.specs.inner.Books.{ledger_of, BooksAgree}
use Rattle.cfi_ledger.specs.Finding.{AreFindings}
use Rattle.cfi_ledger.specs.Loads.{IsAbsent}
use Rattle.cfi_valid.specs.Script.{Load}
use Rattle.cfi_loader.specs.inner.Loads.{Refuses}

-- ---- other findings

module _ (k : Key) (b new : Books) (same : new ≡ record b { found = new.found }) where
  pub found_kept : (keeping : Keeping) → BooksAgree k b keeping → AreFindings b.modules b.force.policy b.force.roster new.found.items
      → BooksAgree k new keeping
  found_kept keeping kept are =
      subst (λ (nb : Books). BooksAgree k nb keeping) (sym same) (record {
        ledger = kept.ledger;
        roster_is = kept.roster_is;
        filled = kept.filled;
        layout_is = kept.layout_is;
        book_is = kept.book_is;
        image_is = kept.image_is;
        flags_are = kept.flags_are;
        found_are = are;
      })

  module _ (who : Who) (number : ℕ) (fault : LoadFault) (before after : Keeping) where
    -- noted before a refusal
    pub refuses_noted : (last : Books) → Refuses k who number fault new last before after
        → Refuses k who number fault b last before after
    refuses_noted last is = record {
      kept = is.kept;
      fault_is = subst
          (λ (m : Books). IsLoadFault k who number fault (ledger_of m before) (ledger_of last after)) same
          is.fault_is;
    }

    -- or behind it
    pub refuses_then : (first : Books) → Refuses k who number fault first b before after
        → AreFindings b.modules b.force.policy b.force.roster new.found.items → Refuses k who number fault first new before after
    refuses_then first is are = record {
      kept = found_kept after is.kept are;
      fault_is = subst
          (λ (m : Books). IsLoadFault k who number fault (ledger_of first before) (ledger_of m after)) (sym same)
          is.fault_is;
    }

  -- a refusal by the books as they are noted is one by the books
  pub refuses_as_noted : (who : Who) (number : ℕ) (fault : LoadFault) (last : Books) (keeping : Keeping)
      → BooksAgree k b keeping → MayAskFor (ledger_of b keeping) who (Load number) → IsAbsent b number
      → AreFindings b.modules b.force.policy b.force.roster new.found.items
      → (BooksAgree k new keeping → MayAskFor (ledger_of new keeping) who (Load number) → IsAbsent new number
      → Refuses k who number fault new last keeping keeping) → Refuses k who number fault b last keeping keeping
  refuses_as_noted who number fault last keeping kept asks absent are after =
      refuses_noted who number fault keeping keeping last
      (after (found_kept keeping kept are)
      (subst (λ (nb : Books). MayAskFor (ledger_of nb keeping) who (Load number)) (sym same) asks)
      (subst (λ (nb : Books). IsAbsent nb number) (sym same)
      (record { absent = absent.absent; room = absent.room })))
