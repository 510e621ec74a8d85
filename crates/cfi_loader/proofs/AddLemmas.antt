-- What a load answers, and what it leaves.
use Rattle.std.proofs.Common.{◌≡◌, ◌≢◌, ℕ, ◌+◌, true, List, get_or, Option, Some, None, refl, sym, ap, subst, ◌∙◌, arith}
use Rattle.std.specs.Prelude.{option_map}
use Rattle.cfi_aux.specs.declared.placed.Placed.{Placed}
use Rattle.cfi_plan.specs.declared.journal.JournalLine.{JournalLine}
use Rattle.cfi_plan.specs.declared.journal.JournalLine.TheVariants.{LoadAgain, LoadFull, LoadPlace, LoadVerify, LoadEpochs, LoadRetired}
use Rattle.cfi_plan.specs.declared.journal.Who.{Who}
use Rattle.cfi_modules.specs.Numbers.{numbers_of}
use Rattle.cfi_modules.specs.Order.{IsJoinFault}
use Rattle.cfi_modules.specs.declared.fault.JoinFault.{JoinFault}
use Rattle.cfi_modules.specs.declared.fault.JoinFault.TheVariants.{Place, Verify, Memory}
use Rattle.cfi_modules.specs.declared.numbers.FaultNumbers.{FaultNumbers}
use Rattle.cfi_modules.specs.declared.numbers.FaultNumbers.TheVariants as numbers
use Rattle.cfi_modules.proofs.NumberLemmas.{has_numbers}
use Rattle.cfi_place.specs.declared.fault.PlaceFault.{PlaceFault}
use Rattle.cfi_verify.specs.declared.fault.VerifyFault.{VerifyFault}
use Rattle.cfi_tables.specs.Faults.{epoch_after}
use Rattle.cfi_tables.specs.Keeping.{Keeping}
use Rattle.cfi_tables.specs.Key.{Key}
use Rattle.cfi_tables.specs.declared.fault.UpdateFault.TheVariants.{EpochsSpent}
use Rattle.cfi_valid.specs.Joining.{IsFull, HasFault}
use Rattle.cfi_valid.specs.Journal.{IsClean, live_in}
use Rattle.cfi_valid.specs.Retiring.{HasGone}
use Rattle.cfi_valid.specs.NumberedLine.{numbered_line}
use Rattle.cfi_valid.specs.Loaded.{placed_modules}
use Rattle.cfi_valid.specs.Script.{Load}
use Rattle.cfi_word.specs.declared.limits.TheConstants.{MAX_EPOCH}
use Rattle.cfi_ledger.specs.declared.books.Books.{Books}
use Rattle.cfi_loader.specs.declared.fault.LoadFault.TheVariants as loads
use Rattle.cfi_loader.specs.declared.loaded.Loaded.{Loaded}
use Rattle.cfi_ledger.specs.Journal.{asked_by, HasLine}
use Rattle.cfi_loader.specs.Results.{fault_line, SaysOf, RefusesBy}
use Rattle.cfi_ledger.specs.Opens.{IsAddressOf, IsFirstGlobal}
use Rattle.cfi_loader.specs.Told.{MayAskFor}
use Rattle.cfi_ledger.specs.Books.{course_in, end_of_books, loaded_in, with_journal}
use Rattle.cfi_loader.specs.inner.Books.{ledger_of, BooksAgree, IsAfter}
use Rattle.cfi_ledger.specs.Loads.{IsAbsent, IsFlagged, IsListed, IsSpent, IsUnprepared}
use Rattle.cfi_ledger.specs.Roster.{live_placed}
use Rattle.cfi_loader.specs.inner.Loads.{LoadsTo, Refuses, load_fault_of}
use Rattle.cfi_loader.proofs.BooksLemmas.{after_same}
use Rattle.cfi_loader.proofs.LineLemmas.{line_again}
use Rattle.cfi_loader.proofs.LiveLemmas.{joins_loaded, live_places, places}
use Rattle.cfi_ledger.proofs.FlagLemmas.{listed_live, live_address}
use Rattle.cfi_loader.proofs.ReserveLemmas.{reserved_kept}
use Rattle.cfi_loader.proofs.UpdateLemmas.{may_ask, after_load_refused}

-- ---- faults

place_is : (fault : PlaceFault) → Place fault ≡ Memory → ⊥
place_is fault same = cc

verify_is : (fault : VerifyFault) → Verify fault ≡ Memory → ⊥
verify_is fault same = cc

no_numbers : (told : FaultNumbers) → ◌≡◌ {A = Option FaultNumbers} None (Some told) → ⊥
no_numbers told is = cc

module _ (k : Key) (b : Books) (keeping : Keeping) (kept : BooksAgree k b keeping) (who : Who) (number : ℕ)
    (asks : MayAskFor (ledger_of b keeping) who (Load number)) where
  -- ---- a module that is loaded

  pub again_answers : (new : Books) (at : ℕ)
      → HasLine (asked_by who (LoadAgain number b.force.policy)) b.force.journal new.force.journal
      → new ≡ with_journal new.force.journal b → IsListed b.force.roster number at
      → IsFlagged b.force.roster at true → (answer : Loaded)
      → answer.again ≡ true → answer.epoch ≡ b.force.epoch → answer.policy ≡ b.force.policy → (p : Placed)
      → IsFirstGlobal (get_or b.force.roster.placed at p) answer.address
      → LoadsTo k who number answer b new keeping keeping
  again_answers new at has same listed live answer again epoch policy p first =
      let may = may_ask (ledger_of b keeping) who (Load number) (LoadAgain number b.force.policy) asks refl in
      let is_live = listed_live b.force kept.roster_is.many kept.flags_are number at listed live in
      let all : IsAfter k (asked_by who (LoadAgain number b.force.policy)) b (with_journal new.force.journal b) keeping
      keeping =
      after_same k b new.force.journal keeping kept who (LoadAgain number b.force.policy) has asks
      (may, (record { live = is_live; force = refl }, refl)) refl refl refl in
      let to_new : IsAfter k (asked_by who (LoadAgain number b.force.policy)) b new keeping keeping =
      subst (λ (nb : Books). IsAfter k (asked_by who (LoadAgain number b.force.policy)) b nb keeping keeping) (sym same)
      all in
      record {
        all = subst (λ (line : JournalLine). IsAfter k (asked_by who line) b new keeping keeping)
            (sym (line_again number answer b.force.policy again policy)) to_new;
        epoch_is = epoch ∙ ap (λ (nb : Books). nb.force.epoch) (sym same);
        policy_is = policy ∙ ap (λ (nb : Books). nb.force.policy) (sym same);
        address_is = subst (λ (nb : Books). IsAddressOf (live_in (end_of_books nb)) number answer.address) (sym same)
            (live_address b.force kept.roster_is.many kept.flags_are number at listed live p answer.address first);
      }

  -- ---- a full loader

  pub full_refuses : (new : Books) → HasLine (asked_by who (LoadFull number)) b.force.journal new.force.journal
      → new ≡ with_journal new.force.journal b → IsFull b.modules (loaded_in b) number
      → Refuses k who number loads.ModulesFull b new keeping keeping
  full_refuses new has same full =
      let may = may_ask (ledger_of b keeping) who (Load number) (LoadFull number) asks refl in
      let all = after_same k b new.force.journal keeping kept who (LoadFull number) has asks (may, (full, refl))
      refl refl
      refl in
      subst (λ (nb : Books). Refuses k who number loads.ModulesFull b nb keeping keeping) (sym same)
      (record { kept = all.kept; fault_is = record { told = all.told; says = tt } })

  -- ---- a module that was retired

  pub retired_refuses : (new : Books) → HasLine (asked_by who (LoadRetired number)) b.force.journal new.force.journal
      → new ≡ with_journal new.force.journal b → HasGone (loaded_in b) (live_in (end_of_books b)) number
      → Refuses k who number loads.Retired b new keeping keeping
  retired_refuses new has same gone =
      let may = may_ask (ledger_of b keeping) who (Load number) (LoadRetired number) asks refl in
      let all = after_same k b new.force.journal keeping kept who (LoadRetired number) has asks (may, (gone, refl))
      refl refl refl in
      subst (λ (nb : Books). Refuses k who number loads.Retired b nb keeping keeping) (sym same)
      (record { kept = all.kept; fault_is = record { told = all.told; says = tt } })

  -- ---- a module that does not join

  module _ (absent : IsAbsent b number) (new : Books) where
    there : (fault : JoinFault) (unprepared : IsUnprepared b number fault)
        → IsJoinFault b.plan.code_words (placed_modules (loaded_in b)) (placed_modules (live_in (end_of_books b)))
        unprepared.unplaced fault
    there fault unprepared =
        let placed : List Placed = b.force.roster.placed in
        let live : List Placed = live_placed b.force.roster in
        let m = unprepared.unplaced in
        subst (λ (ls : List Placed). IsJoinFault b.plan.code_words (placed_modules (loaded_in b)) ls m fault)
        (sym (live_places k b keeping kept))
        (subst (λ (ps : List Placed). IsJoinFault b.plan.code_words ps live m fault) (sym (places k b keeping kept))
        (subst (λ (n : ℕ). IsJoinFault n placed live m fault) kept.roster_is.code_words_are unprepared.why))

    refused_by_line : (fault : JoinFault) (told : FaultNumbers) → IsUnprepared b number fault
        → numbers_of fault ≡ Some told
        → HasFault b.plan.code_words b.modules (loaded_in b) (live_in (end_of_books b)) number told
    refused_by_line fault told unprepared is = record {
      absent = record {
        unplaced = unprepared.unplaced;
        is = unprepared.is;
        absent = absent.absent;
        room = absent.room;
      };
      fault = fault;
      stands = there fault unprepared;
      told = is;
    }

    after_numbers : (fault : JoinFault) (told : FaultNumbers) → IsUnprepared b number fault
        → numbers_of fault ≡ Some told
        → HasLine (asked_by who (numbered_line number told)) b.force.journal new.force.journal
        → IsAfter k (asked_by who (numbered_line number told)) b (with_journal new.force.journal b) keeping keeping
    after_numbers fault (numbers.Place kind) unprepared is has =
        let may = may_ask (ledger_of b keeping) who (Load number) (LoadPlace number kind) asks refl in
        after_same k b new.force.journal keeping kept who (LoadPlace number kind) has asks
        (may, (refused_by_line fault (numbers.Place kind) unprepared is, refl)) refl refl refl
    after_numbers fault (numbers.Verify kind place) unprepared is has =
        let may = may_ask (ledger_of b keeping) who (Load number) (LoadVerify number kind place) asks refl in
        after_same k b new.force.journal keeping kept who (LoadVerify number kind place) has asks
        (may, (refused_by_line fault (numbers.Verify kind place) unprepared is, refl)) refl refl refl

    numbered : (fault : JoinFault) → IsUnprepared b number fault → numbers_of fault ≡ None → fault ≢ Memory → ⊥
    numbered fault unprepared none some =
        let has = has_numbers b.force.roster.code_words b.force.roster.placed (live_placed b.force.roster)
        unprepared.unplaced fault unprepared.why some in
        no_numbers has.0 (sym none ∙ has.1)

    says_of : (fault : JoinFault) → IsUnprepared b number fault
        → SaysOf (course_in b) number (load_fault_of fault)
    says_of (Place fault) unprepared = record {
      unplaced = unprepared.unplaced;
      is = unprepared.is;
      why = there (Place fault) unprepared;
    }
    says_of (Verify fault) unprepared = record {
      unplaced = unprepared.unplaced;
      is = unprepared.is;
      why = there (Verify fault) unprepared;
    }
    says_of Memory unprepared = tt

    line_is : (fault : JoinFault)
        → fault_line number (load_fault_of fault) ≡ option_map (numbered_line number) (numbers_of fault)
    line_is (Place fault) = refl
    line_is (Verify fault) = refl
    line_is Memory = refl

    -- the line tells its numbers
    pub told_refuses : (fault : JoinFault) (told : FaultNumbers) → IsUnprepared b number fault
        → numbers_of fault ≡ Some told
        → HasLine (asked_by who (numbered_line number told)) b.force.journal new.force.journal
        → new ≡ with_journal new.force.journal b → Refuses k who number (load_fault_of fault) b new keeping keeping
    told_refuses fault told unprepared is has same =
        let all = after_numbers fault told unprepared is has in
        let line : fault_line number (load_fault_of fault) ≡ Some (numbered_line number told) =
        line_is fault ∙ ap (option_map (numbered_line number)) is in
        let books : Books = with_journal new.force.journal b in
        subst (λ (nb : Books). Refuses k who number (load_fault_of fault) b nb keeping keeping) (sym same) (record {
          kept = all.kept;
          fault_is = subst (λ (o : Option JournalLine). RefusesBy k who number (load_fault_of fault) o
              (ledger_of b keeping) (ledger_of books keeping)) (sym line)
              (record { told = all.told; says = says_of fault unprepared });
        })

    -- what has no numbers is want of memory
    memory_is : (fault : JoinFault) → IsUnprepared b number fault → numbers_of fault ≡ None
        → load_fault_of fault ≡ loads.Memory
    memory_is Memory unprepared none = refl
    memory_is (Place fault) unprepared none =
        absurd (numbered (Place fault) unprepared none (λ same. place_is fault same))
    memory_is (Verify fault) unprepared none =
        absurd (numbered (Verify fault) unprepared none (λ same. verify_is fault same))

    -- or memory was missing
    pub starved_refuses : (fault : JoinFault) → IsUnprepared b number fault → numbers_of fault ≡ None
        → new ≡ record b { starved = true } → Refuses k who number (load_fault_of fault) b new keeping keeping
    starved_refuses fault unprepared none same =
        let line : fault_line number (load_fault_of fault) ≡ None =
        line_is fault ∙ ap (option_map (numbered_line number)) none in
        let books : Books = record b { starved = true } in
        subst (λ (nb : Books). Refuses k who number (load_fault_of fault) b nb keeping keeping) (sym same) (record {
          kept = reserved_kept k b keeping b.force.journal true kept refl refl;
          fault_is = subst (λ (o : Option JournalLine). RefusesBy k who number (load_fault_of fault) o
              (ledger_of b keeping) (ledger_of books keeping)) (sym line) (memory_is fault unprepared none, refl);
        })

  -- ---- a module that joins, where no epoch is left

  pub spent_refuses : (absent : IsAbsent b number) (new : Books) → IsSpent b number
      → HasLine (asked_by who (LoadEpochs number)) b.force.journal new.force.journal
      → new ≡ with_journal new.force.journal b
      → Refuses k who number loads.EpochsSpent b new keeping keeping
  spent_refuses absent new spent has same =
      let joins = spent.joins in
      let is_clean : IsClean b.plan b.modules (end_of_books b) number = record {
        absent = record { unplaced = joins.unplaced; is = joins.is; absent = absent.absent; room = absent.room };
        placed = joins.placed;
        joins = joins_loaded k b keeping kept joins.unplaced joins.placed joins.joins;
      } in
      let none : epoch_after k keeping ≡ MAX_EPOCH + 1 = omega (arith, spent.last, kept.ledger.told.epoch) in
      let all = after_load_refused k b keeping kept new.force.journal keeping who number EpochsSpent (λ _. refl)
      (none, refl) has asks is_clean in
      subst (λ (nb : Books). Refuses k who number loads.EpochsSpent b nb keeping keeping) (sym same)
      (record { kept = all.kept; fault_is = record { told = all.told; says = tt } })
