-- What a retirement answers, and what it leaves.
use Rattle.std.proofs.Common.{◌≡◌, ℕ, ◌+◌, ◌<◌, true, List, length, take, get_or, Option, Some, None, refl, sym, ap, subst, ◌∙◌, arith}
use Rattle.std.proofs.Math.Seq.{take-length}
use Rattle.cfi_aux.specs.declared.placed.Placed.{Placed}
use Rattle.cfi_graph.specs.Live.{IsFirstUser}
use Rattle.cfi_model.specs.Tables.{IsUpdate}
use Rattle.cfi_modules.specs.Loaded.{AreLoaded}
use Rattle.cfi_modules.proofs.GraphLemmas.{are_loaded}
use Rattle.cfi_plan.specs.declared.journal.JournalLine.{JournalLine}
use Rattle.cfi_plan.specs.declared.journal.JournalLine.TheVariants.{RetireOk, RetireNotLive, RetireInUse, RetireEpochs}
use Rattle.cfi_plan.specs.declared.journal.ModuleLine.{ModuleLine}
use Rattle.cfi_plan.specs.declared.journal.Who.TheVariants.{Script}
use Rattle.cfi_policy.specs.Book.{KeptImage}
use Rattle.cfi_tables.specs.Faults.{FaultIs, epoch_after}
use Rattle.cfi_tables.specs.Keeping.{Keeping, entry_by, grown_by, last_of}
use Rattle.cfi_tables.specs.Key.{Key}
use Rattle.cfi_tables.specs.declared.fault.UpdateFault.{UpdateFault}
use Rattle.cfi_tables.specs.declared.fault.UpdateFault.TheVariants.{EpochsSpent, VersionsSpent}
use Rattle.cfi_valid.specs.Journal.{IsUnused, members_of, with_retired}
use Rattle.cfi_valid.specs.Retiring.{IsLiveAt, StandsAt}
use Rattle.cfi_valid.specs.Script.{Retire}
use Rattle.cfi_word.specs.declared.limits.TheConstants.{MAX_EPOCH}
use Rattle.cfi_ledger.specs.declared.books.Books.{Books}
use Rattle.cfi_ledger.specs.Books.{committed, end_of_books, loaded_in, with_journal, with_roster}
use Rattle.cfi_ledger.specs.Journal.{asked_by, Minutes, HasLine}
use Rattle.cfi_ledger.specs.Loads.{IsFlagged, IsListed, IsProspect}
use Rattle.cfi_ledger.specs.declared.prospect.Prospect.{Prospect}
use Rattle.cfi_ledger.specs.declared.prospect.Prospect.TheVariants.{Again, Retired, Full, Open}
use Rattle.cfi_ledger.specs.Policies.{HavePolicies}
use Rattle.cfi_ledger.specs.Roster.{HasRetired, Roster, IsBookOfRoster, IsFilled}
use Rattle.cfi_ledger.proofs.FlagLemmas.{departed_number, departed_roster, departed_state, flags_left, has_user, listed_gone, listed_live, stands_listed}
use Rattle.cfi_ledger.proofs.RosterLemmas.{unlisted_absent}
use Rattle.cfi_ledger.proofs.PolicyLemmas.{policies_less}
use Rattle.cfi_loader.specs.Mark.{mark_by}
use Rattle.cfi_loader.specs.Retirements.{RefusesRetireBy, retire_fault_line}
use Rattle.cfi_loader.specs.Told.{MayAskFor}
use Rattle.cfi_loader.specs.declared.retire.RetireFault.TheVariants as faults
use Rattle.cfi_loader.specs.inner.Books.{ledger_of, BooksAgree, IsAfter}
use Rattle.cfi_loader.specs.inner.Retirements.{RefusesRetirement, RetiresTo, refused_retirement, retire_fault_by}
use Rattle.cfi_loader.proofs.BooksLemmas.{after_same}
use Rattle.cfi_loader.proofs.ChangeLemmas.{IsNext, after_change, change_follows, series, state_next}
use Rattle.cfi_loader.proofs.NumberLemmas.{live_loaded}
use Rattle.cfi_loader.proofs.UpdateLemmas.{IsRight, after_retirement_refused}

-- a refused update says as much of a retirement
line_refused : (number : ℕ) (fault : UpdateFault)
    → retire_fault_line number (retire_fault_by fault) ≡ Some (refused_retirement number fault)
line_refused number EpochsSpent = refl
line_refused number (VersionsSpent guest quiet) = refl

module _ (k : Key) (b : Books) (keeping : Keeping) (kept : BooksAgree k b keeping) (number : ℕ)
    (asks : MayAskFor (ledger_of b keeping) Script (Retire number)) where
  -- ---- a module that is not live

  pub not_live : (p : Prospect) → IsProspect b.force.roster number p → ((at : ℕ) → p ≡ Again at → ⊥)
      → ¬ IsLiveAt b.force.policy (members_of (end_of_books b)) number
  not_live (Again at) is other = absurd (other at refl)
  not_live (Retired at) is other =
      (listed_gone b.force kept.roster_is.many kept.flags_are number at is.0 kept.ledger.policies.upto is.1).gone
  not_live Full is other = λ live.
      unlisted_absent b.force.roster kept.roster_is.many number is.0
      (live_loaded b.force.policy (members_of (end_of_books b)) number live)
  not_live Open is other = λ live.
      unlisted_absent b.force.roster kept.roster_is.many number is.0
      (live_loaded b.force.policy (members_of (end_of_books b)) number live)

  pub not_live_refuses : (new : Books) → HasLine (asked_by Script (RetireNotLive number)) b.force.journal new.force.journal
      → new ≡ with_journal new.force.journal b → ¬ IsLiveAt b.force.policy (members_of (end_of_books b)) number
      → RefusesRetirement k number faults.NotLive b new keeping keeping
  not_live_refuses new has same dead =
      let all = after_same k b new.force.journal keeping kept Script (RetireNotLive number) has asks (tt, (dead, refl))
      refl refl refl in
      subst (λ (nb : Books). RefusesRetirement k number faults.NotLive b nb keeping keeping) (sym same)
      (record { kept = all.kept; fault_is = all.told })

  -- ---- a live module

  module _ (place : ℕ) (listed : IsListed b.force.roster number place) (live : IsFlagged b.force.roster place true) where
    there : StandsAt (loaded_in b) number place
    there = stands_listed b.force.roster kept.roster_is.many number place listed

    lives : IsLiveAt b.force.policy (members_of (end_of_books b)) number
    lives = listed_live b.force kept.roster_is.many kept.flags_are number place listed live

    -- a live module jumps into it
    pub in_use_refuses : (by : ℕ) → IsFirstUser b.force.roster.placed b.force.roster.flags place by → (line : ModuleLine)
        → line ≡ get_or b.force.roster.lines by line → (new : Books)
        → HasLine (asked_by Script (RetireInUse number line.number)) b.force.journal new.force.journal
        → new ≡ with_journal new.force.journal b
        → RefusesRetirement k number (faults.InUse line.number) b new keeping keeping
    in_use_refuses by first line line_is new has same =
        let uses = has_user b.force kept.roster_is.many kept.flags_are number place listed live by first line line_is in
        let all = after_same k b new.force.journal keeping kept Script (RetireInUse number line.number) has asks
        (tt, (uses, refl)) refl refl refl in
        subst (λ (nb : Books). RefusesRetirement k number (faults.InUse line.number) b nb keeping keeping) (sym same)
        (record { kept = all.kept; fault_is = all.told })

    module _ (unused : IsUnused (end_of_books b) number) where
      -- no epoch is left
      pub spent_refuses : (new : Books) → b.force.epoch ≡ MAX_EPOCH
          → HasLine (asked_by Script (RetireEpochs number)) b.force.journal new.force.journal
          → new ≡ with_journal new.force.journal b
          → RefusesRetirement k number faults.EpochsSpent b new keeping keeping
      spent_refuses new last has same =
          let none : epoch_after k keeping ≡ MAX_EPOCH + 1 = omega (arith, last, kept.ledger.told.epoch) in
          let all = after_retirement_refused k b keeping kept new.force.journal keeping number EpochsSpent (λ _. refl)
          (none, refl) has asks unused in
          subst (λ (nb : Books). RefusesRetirement k number faults.EpochsSpent b nb keeping keeping) (sym same)
          (record { kept = all.kept; fault_is = all.told })

      -- ---- the roster without it comes next

      module _ (roster : Roster) (retired : HasRetired place (b.force.policy + 1) b.force.roster roster) where
        end_is : state_next b roster
            ≡ with_retired number (b.force.epoch + 1) (b.force.policy + 1) (end_of_books b)
        end_is =
            departed_state b.force kept.roster_is.many kept.flags_are b.plan kept.ledger.policies roster place retired
            b.force.journal
            ∙ ap (λ (n : ℕ). with_retired n (b.force.epoch + 1) (b.force.policy + 1) (end_of_books b))
            (departed_number b.force kept.roster_is.many kept.flags_are b.plan kept.ledger.policies roster place retired
            number listed)

        policies : HavePolicies b.plan (state_next b roster)
        policies =
            subst (HavePolicies b.plan) (sym end_is)
            (policies_less b.plan (end_of_books b) kept.ledger.policies number (b.force.epoch + 1) (b.force.policy + 1)
            refl place there.0 there.1 there.2 lives)

        placed_are : roster.placed ≡ b.force.roster.placed
        placed_are = ap (λ (r : Roster). r.placed) retired.is

        pub next : IsNext b roster
        next = record {
          roster_is = departed_roster b.force kept.roster_is.many kept.flags_are b.plan kept.ledger.policies roster place
              retired kept.roster_is;
          first = ap (take (length b.force.roster.placed)) placed_are ∙ take-length b.force.roster.placed;
          loaded = subst (AreLoaded b.plan.code_words) (sym placed_are)
              (are_loaded b.plan.code_words b.force.roster.placed (series k b keeping kept));
          flags_are = flags_left b.force kept.roster_is.many kept.flags_are b.plan kept.ledger.policies roster place
              retired;
          policies = policies;
        }

        -- its update follows
        pub retirement_update : (book : KeptImage) → IsBookOfRoster roster book → (mark : ℕ)
            → IsUpdate k.code_words (last_of keeping.entries) (entry_by (b.force.policy + 1) book.image mark)
        retirement_update book book_is mark = change_follows k b keeping kept roster next book book_is mark

        module _ (mid new : Books) (lent : mid ≡ with_roster mid.force.roster b) (after : Keeping) where
          -- it was made
          pub made_retires : IsFilled roster → (book : KeptImage) → IsBookOfRoster roster book → b.force.epoch < MAX_EPOCH
              → HasLine (asked_by Script (RetireOk number (mid.force.epoch + 1) (mid.force.policy + 1))) mid.force.journal
              new.force.journal
              → new ≡ committed roster book new.force.journal mid
              → after ≡ grown_by (entry_by (mid.force.policy + 1) book.image (mark_by Script (Retire number)))
              after.quiets keeping
              → RetiresTo k number (record { epoch = new.force.epoch; policy = new.force.policy }) b new keeping after
          made_retires filled book book_is left has same grown =
              let j : Minutes = new.force.journal in
              let there : Books = committed roster book j b in
              let new_is : new ≡ there = same ∙ ap (committed roster book j) lent in
              let e = entry_by (b.force.policy + 1) book.image (mark_by Script (Retire number)) in
              let grown_is : after ≡ grown_by e after.quiets keeping =
              grown
              ∙ ap (λ (m : Books). grown_by (entry_by (m.force.policy + 1) book.image (mark_by Script (Retire number)))
              after.quiets keeping) lent in
              let what : JournalLine = RetireOk number (b.force.epoch + 1) (b.force.policy + 1) in
              let has_there : HasLine (asked_by Script what) b.force.journal j =
              subst (λ (m : Books). HasLine (asked_by Script (RetireOk number (m.force.epoch + 1) (m.force.policy + 1)))
              m.force.journal j) lent has in
              let all : IsAfter k (asked_by Script what) b there keeping (grown_by e after.quiets keeping) =
              after_change k b keeping kept roster next book book_is j Script what after.quiets filled has_there asks left
              (tt, (record { unused = unused; goes = record { left = left; next = refl }; next = refl }, end_is))
              (book.image, refl) refl refl refl in
              subst (λ (nb : Books). RetiresTo k number (record { epoch = nb.force.epoch; policy = nb.force.policy }) b nb
              keeping after) (sym new_is) (record {
                all = subst (IsAfter k (asked_by Script what) b there keeping) (sym grown_is) all;
                epoch_is = refl;
                policy_is = refl;
              })

          -- or it was refused, and the books have a line more
          pub unmade_refuses : (before : Roster) → before ≡ b.force.roster → (fault : UpdateFault)
              → IsRight k keeping fault → FaultIs k (mark_by Script (Retire number)) keeping after fault
              → HasLine (asked_by Script (refused_retirement number fault)) mid.force.journal new.force.journal
              → new ≡ with_roster before (with_journal new.force.journal mid)
              → RefusesRetirement k number (retire_fault_by fault) b new keeping after
          unmade_refuses before back fault right is has same =
              let j : Minutes = new.force.journal in
              let there : Books = with_journal j b in
              let new_is : new ≡ there =
              same
              ∙ ap (λ (m : Books). with_roster before (with_journal j m)) lent
              ∙ ap (λ (r : Roster). with_roster r there) back in
              let has_there : HasLine (asked_by Script (refused_retirement number fault)) b.force.journal j =
              subst (λ (m : Books). HasLine (asked_by Script (refused_retirement number fault)) m.force.journal j) lent
              has in
              let all = after_retirement_refused k b keeping kept j after number fault right is has_there asks unused in
              subst (λ (nb : Books). RefusesRetirement k number (retire_fault_by fault) b nb keeping after) (sym new_is)
              (record {
                kept = all.kept;
                fault_is = subst (λ (o : Option JournalLine). RefusesRetireBy k (retire_fault_by fault) o
                    (ledger_of b keeping) (ledger_of there after)) (sym (line_refused number fault)) all.told;
              })
