-- Room for a line, and a mark that memory was missing, leave all else as it was.
use Rattle.std.proofs.Common.{◌≡◌, ℕ, Bool, List, sym, ap, subst, ◌∙◌}
use Rattle.cfi_aux.specs.declared.modules.Module.{Module}
use Rattle.cfi_plan.specs.declared.journal.Entry.{Entry}
use Rattle.cfi_plan.specs.declared.journal.Who.{Who}
use Rattle.cfi_plan.specs.declared.plan.Plan.{Plan}
use Rattle.cfi_tables.specs.Keeping.{Keeping}
use Rattle.cfi_tables.specs.Key.{Key}
use Rattle.cfi_valid.specs.Script.{Call}
use Rattle.cfi_ledger.specs.declared.books.Books.{Books}
use Rattle.cfi_loader.specs.declared.fault.LoadFault.{LoadFault}
use Rattle.cfi_loader.specs.declared.loaded.Loaded.{Loaded}
use Rattle.cfi_loader.specs.Ledger.{Ledger, IsLedger}
use Rattle.cfi_ledger.specs.Journal.{asked_by, Minutes}
use Rattle.cfi_loader.specs.Results.{loaded_line, IsLoadFault}
use Rattle.cfi_loader.specs.Told.{HasTold}
use Rattle.cfi_ledger.specs.Books.{course_in, end_of_books, with_journal}
use Rattle.cfi_loader.specs.inner.Books.{ledger_of, BooksAgree, IsAfter}
use Rattle.cfi_loader.specs.inner.Loads.{LoadsTo, Refuses}

-- a ledger that says otherwise whether memory was missing
starved_ledger : (k : Key) (plan : Plan) (modules : List Module) (l : Ledger) (starved : Bool)
    → IsLedger k plan modules l → IsLedger k plan modules (record l { starved = starved })
starved_ledger k plan modules l starved is = record {
  plan_is = is.plan_is;
  modules_are = is.modules_are;
  can_start = is.can_start;
  tables_are = is.tables_are;
  course = is.course;
  policies = is.policies;
  entries = is.entries;
  told = is.told;
  script = is.script;
}

module _ (k : Key) (b : Books) (keeping : Keeping) (j : Minutes) (starved : Bool) where
  abbrev there : Books
  there = record (with_journal j b) { starved = starved }

  -- with the same lines and the same calls the ledger is the same but for that
  pub reserved_ledger : j.lines ≡ b.force.journal.lines → j.left ≡ b.force.journal.left
      → ledger_of there keeping ≡ record (ledger_of b keeping) { starved = starved }
  reserved_ledger lines left =
      ap (λ (ls : List Entry). record {
        course = record { plan = b.plan; modules = b.modules; journal = ls; end = end_of_books b };
        keeping = keeping;
        left = j.left;
        starved = starved;
      }) lines
      ∙ ap (λ (calls : List Call). record {
        course = course_in b;
        keeping = keeping;
        left = calls;
        starved = starved;
      }) left

  pub reserved_kept : BooksAgree k b keeping → j.lines ≡ b.force.journal.lines → j.left ≡ b.force.journal.left
      → BooksAgree k there keeping
  reserved_kept kept lines left = record {
    ledger = subst (IsLedger k b.plan b.modules) (sym (reserved_ledger lines left))
        (starved_ledger k b.plan b.modules (ledger_of b keeping) starved kept.ledger);
    roster_is = kept.roster_is;
    filled = kept.filled;
    layout_is = kept.layout_is;
    book_is = kept.book_is;
    image_is = kept.image_is;
    flags_are = kept.flags_are;
    found_are = kept.found_are;
  }

-- ---- room for the line of a load

module _ (k : Key) (b mid : Books) (keeping : Keeping) (kept : BooksAgree k b keeping)
    (lines : mid.force.journal.lines ≡ b.force.journal.lines)
    (left : mid.force.journal.left ≡ b.force.journal.left) where
  -- there is some
  module _ (same : mid ≡ record (with_journal mid.force.journal b) { starved = b.starved }) where
    pub reserved : BooksAgree k mid keeping
    reserved =
        subst (λ (m : Books). BooksAgree k m keeping) (sym same)
        (reserved_kept k b keeping mid.force.journal b.starved kept lines left)

    pub ledger_same : ledger_of mid keeping ≡ ledger_of b keeping
    ledger_same =
        ap (λ (m : Books). ledger_of m keeping) same
        ∙ reserved_ledger k b keeping mid.force.journal b.starved lines left

    after_from : (entry : Entry) (new : Books) (after : Keeping) → IsAfter k entry mid new keeping after
        → IsAfter k entry b new keeping after
    after_from entry new after is = record {
      kept = is.kept;
      told = subst (λ (l : Ledger). HasTold k entry l (ledger_of new after)) ledger_same is.told;
    }

    pub loads_from : (who : Who) (number : ℕ) (answer : Loaded) (new : Books) (after : Keeping)
        → LoadsTo k who number answer mid new keeping after → LoadsTo k who number answer b new keeping after
    loads_from who number answer new after is = record {
      all = after_from (asked_by who (loaded_line number answer)) new after is.all;
      epoch_is = is.epoch_is;
      policy_is = is.policy_is;
      address_is = is.address_is;
    }

    pub refuses_from : (who : Who) (number : ℕ) (fault : LoadFault) (new : Books) (after : Keeping)
        → Refuses k who number fault mid new keeping after → Refuses k who number fault b new keeping after
    refuses_from who number fault new after is = record {
      kept = is.kept;
      fault_is = subst (λ (l : Ledger). IsLoadFault k who number fault l (ledger_of new after)) ledger_same is.fault_is;
    }
