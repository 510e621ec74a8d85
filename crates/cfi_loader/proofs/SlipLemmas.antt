-- What the stubs of the guests' slips say, when the journal has lines more and when passes go out and come back.
use Rattle.std.proofs.Common.{◌≡◌, ◌≢◌, ℕ, ◌-◌, Bool, true, false, List, [], ◌∷◌, ◌++◌, drop, take, length, map, Option, Some, None, Result, Ok, Err, refl, sym, ap, ◌∙◌, arith, length-append}
use Rattle.std.specs.Prelude.{IfOk, IfErr, slice_set}
use Rattle.std.specs.List.{cons_option}
use Rattle.std.proofs.Math.Seq.{drop-append_seam, take-length}
use Rattle.std.proofs.lemmas.List.{append-nil}
use Rattle.cfi_ledger.specs.Journal.{asked_by}
use Rattle.cfi_ledger.specs.declared.books.Books.{Books}
use Rattle.cfi_plan.specs.declared.journal.Entry.{Entry}
use Rattle.cfi_plan.specs.declared.journal.JournalLine.{JournalLine}
use Rattle.cfi_plan.specs.declared.journal.JournalLine.TheVariants.{LoadOk, LoadAgain, LoadFull, LoadPlace, LoadVerify, LoadVersions, LoadEpochs, LoadRetired, RefreshOk, RefreshVersions, RefreshEpochs, RetireOk, RetireNotLive, RetireInUse, RetireVersions, RetireEpochs}
use Rattle.cfi_plan.specs.declared.journal.Who.{Who}
use Rattle.cfi_plan.specs.declared.journal.Who.TheVariants.{Script, Guest}
use Rattle.cfi_slips.specs.Lines.{AreOf, line_for, lines_of}
use Rattle.cfi_slips.specs.Stubs.{Sheet, issued, taken, with_told}
use Rattle.cfi_slips.proofs.LineLemmas.{line_else, line_here, lines_append}
use Rattle.cfi_tables.specs.Keeping.{Keeping, let_in, let_out}
use Rattle.cfi_tables.specs.Key.{Key}
use Rattle.cfi_loader.specs.Ledger.{Ledger}
use Rattle.cfi_loader.specs.Mark.{mark_of}
use Rattle.cfi_loader.specs.Results.{RefusesBy, fault_line, loaded_line, told_lines}
use Rattle.cfi_loader.specs.Told.{HasTold, KeepsAfter}
use Rattle.cfi_loader.specs.declared.fault.LoadFault.{LoadFault}
use Rattle.cfi_loader.specs.declared.loaded.Loaded.{Loaded}
use Rattle.cfi_loader.specs.inner.Books.{BooksAgree, StubsAgree, ledger_of}
use Rattle.cfi_loader.specs.inner.Loads.{LoadsTo, Refuses}

-- ---- lines for which one asked

abbrev pub entries_by : Who → List JournalLine → List Entry
entries_by who lines = map (asked_by who) lines

pub of_guest : (guest : ℕ) (lines : List JournalLine) → lines_of guest (entries_by (Guest guest) lines) ≡ lines
of_guest guest [] = refl
of_guest guest (line ∷ lines) =
    lines_append guest (line_for guest line ∷ []) (entries_by (Guest guest) lines)
    ∙ ap (λ (xs : List JournalLine). xs ++ lines_of guest (entries_by (Guest guest) lines)) (line_here guest line)
    ∙ ap (λ (xs : List JournalLine). line ∷ xs) (of_guest guest lines)

of_other : (guest other : ℕ) (lines : List JournalLine) → other ≢ guest
    → lines_of other (entries_by (Guest guest) lines) ≡ []
of_other guest other [] apart = refl
of_other guest other (line ∷ lines) apart =
    lines_append other (line_for guest line ∷ []) (entries_by (Guest guest) lines)
    ∙ ap (λ (xs : List JournalLine). xs ++ lines_of other (entries_by (Guest guest) lines))
    (line_else guest other line apart)
    ∙ of_other guest other lines apart

pub of_one : (guest : ℕ) (lines : List JournalLine) → AreOf guest (entries_by (Guest guest) lines)
of_one guest lines = λ other apart. of_other guest other lines apart

of_script : (guest : ℕ) (lines : List JournalLine) → lines_of guest (entries_by Script lines) ≡ []
of_script guest [] = refl
of_script guest (line ∷ lines) = of_script guest lines

-- ---- a journal with lines more

-- the journal has these entries more, and the same passes are out
pub record HasMore (more : List Entry) (old new : Ledger) : Type 0 where
  pub journal_is : new.course.journal ≡ old.course.journal ++ more
  pub out_is : new.keeping.out ≡ old.keeping.out

-- they are what lies behind the lines that it had
pub more_new : (more : List Entry) (old new : Ledger) → HasMore more old new → (before lines : List Entry)
    → before ≡ old.course.journal → lines ≡ new.course.journal
    → take (length lines - length before) (drop (length before) lines) ≡ more
more_new more old new has before lines before_is lines_are =
    let is : lines ≡ before ++ more =
    lines_are ∙ has.journal_is ∙ ap (λ (xs : List Entry). xs ++ more) (sym before_is) in
    let many : length lines - length before ≡ length more =
    omega (arith, ap length is, length-append before more) in
    ap (take (length lines - length before)) (ap (drop (length before)) is ∙ drop-append_seam before more)
    ∙ ap (λ (n : ℕ). take n more) many
    ∙ take-length more

-- an update lets no pass out
out_same : (k : Key) (mark : ℕ) (line : JournalLine) (old new : Keeping) → KeepsAfter k mark line old new
    → new.out ≡ old.out
out_same k mark (LoadOk number epoch policy) old new is = ap (λ (x : Keeping). x.out) is.1
out_same k mark (LoadAgain number policy) old new is = ap (λ (x : Keeping). x.out) is
out_same k mark (LoadFull number) old new is = ap (λ (x : Keeping). x.out) is
out_same k mark (LoadPlace number fault) old new is = ap (λ (x : Keeping). x.out) is
out_same k mark (LoadVerify number fault place) old new is = ap (λ (x : Keeping). x.out) is
out_same k mark (LoadVersions number guest quiet) old new is = ap (λ (x : Keeping). x.out) is.is
out_same k mark (LoadEpochs number) old new is = ap (λ (x : Keeping). x.out) is
out_same k mark (LoadRetired number) old new is = ap (λ (x : Keeping). x.out) is
out_same k mark (RefreshOk epoch) old new is = ap (λ (x : Keeping). x.out) is
out_same k mark (RefreshVersions guest quiet) old new is = ap (λ (x : Keeping). x.out) is.is
out_same k mark RefreshEpochs old new is = ap (λ (x : Keeping). x.out) is
out_same k mark (RetireOk number epoch policy) old new is = ap (λ (x : Keeping). x.out) is.1
out_same k mark (RetireNotLive number) old new is = ap (λ (x : Keeping). x.out) is
out_same k mark (RetireInUse number user) old new is = ap (λ (x : Keeping). x.out) is
out_same k mark (RetireVersions number guest quiet) old new is = ap (λ (x : Keeping). x.out) is.is
out_same k mark (RetireEpochs number) old new is = ap (λ (x : Keeping). x.out) is

pub told_more : (k : Key) (who : Who) (line : JournalLine) (old new : Ledger) → HasTold k (asked_by who line) old new
    → HasMore (entries_by who (line ∷ [])) old new
told_more k who line old new told = record {
  journal_is = told.course.journal_is;
  out_is = out_same k (mark_of (asked_by who line)) line old.keeping new.keeping told.keeping;
}

refused_more : (k : Key) (who : Who) (number : ℕ) (fault : LoadFault) (line : Option JournalLine) (old new : Ledger)
    → RefusesBy k who number fault line old new → HasMore (entries_by who (cons_option line [])) old new
refused_more k who number fault (Some line) old new is = told_more k who line old new is.told
refused_more k who number fault None old new is = record {
  journal_is = ap (λ (l : Ledger). l.course.journal) is.1 ∙ sym (append-nil old.course.journal);
  out_is = ap (λ (l : Ledger). l.keeping.out) is.1;
}

module _ (k : Key) (who : Who) (number : ℕ) (old new : Books) (before after : Keeping) where
  -- a load tells its lines
  pub load_more : (answer : Result Loaded LoadFault)
      → IfOk answer (λ loaded. LoadsTo k who number loaded old new before after)
      → IfErr answer (λ fault. Refuses k who number fault old new before after)
      → HasMore (entries_by who (told_lines number answer)) (ledger_of old before) (ledger_of new after)
  load_more (Ok loaded) ok fault =
      told_more k who (loaded_line number loaded) (ledger_of old before) (ledger_of new after) ok.all.told
  load_more (Err why) ok fault =
      refused_more k who number why (fault_line number why) (ledger_of old before) (ledger_of new after) fault.fault_is

  pub load_kept : (answer : Result Loaded LoadFault)
      → IfOk answer (λ loaded. LoadsTo k who number loaded old new before after)
      → IfErr answer (λ fault. Refuses k who number fault old new before after) → BooksAgree k new after
  load_kept (Ok loaded) ok fault = ok.all.kept
  load_kept (Err why) ok fault = fault.kept

-- ---- the stubs

-- no line was told by a slip
pub agree_script : (lines : List JournalLine) (old new : Ledger) (sheet : Sheet)
    → HasMore (entries_by Script lines) old new → StubsAgree old sheet → StubsAgree new sheet
agree_script lines old new sheet has is = record {
  told = λ guest.
      is.told guest
      ∙ sym (ap (lines_of guest) has.journal_is
      ∙ lines_append guest old.course.journal (entries_by Script lines)
      ∙ ap (λ (xs : List JournalLine). lines_of guest old.course.journal ++ xs) (of_script guest lines)
      ∙ append-nil (lines_of guest old.course.journal));
  out = is.out ∙ sym has.out_is;
}

-- all were
pub agree_told : (more : List Entry) (old new : Ledger) (sheet : Sheet) → HasMore more old new → StubsAgree old sheet
    → StubsAgree new (with_told more sheet)
agree_told more old new sheet has is = record {
  told = λ guest.
      lines_append guest sheet.told more
      ∙ ap (λ (xs : List JournalLine). xs ++ lines_of guest more) (is.told guest)
      ∙ sym (ap (lines_of guest) has.journal_is ∙ lines_append guest old.course.journal more);
  out = is.out ∙ sym has.out_is;
}

-- a pass goes out with its slip, and comes back with it
module _ (b : Books) (old new : Keeping) (guest : ℕ) (sheet after : Sheet) (is : StubsAgree (ledger_of b old) sheet)
  where
    pub agree_issued : (k : Key) → new ≡ let_out k guest old → after ≡ issued guest sheet
        → StubsAgree (ledger_of b new) after
    agree_issued k out slip = record {
      told = λ other. ap (λ (s : Sheet). lines_of other s.told) slip ∙ is.told other;
      out = ap (λ (s : Sheet). s.out) slip
          ∙ ap (λ (xs : List Bool). slice_set xs guest true) is.out
          ∙ sym (ap (λ (x : Keeping). x.out) out);
    }

    pub agree_taken : (slip_guest : ℕ) → slip_guest ≡ guest → new ≡ let_in guest old → after ≡ taken slip_guest sheet
        → StubsAgree (ledger_of b new) after
    agree_taken slip_guest same out slip = record {
      told = λ other. ap (λ (s : Sheet). lines_of other s.told) slip ∙ is.told other;
      out = ap (λ (s : Sheet). s.out) slip
          ∙ ap (λ (n : ℕ). slice_set sheet.out n false) same
          ∙ ap (λ (xs : List Bool). slice_set xs guest false) is.out
          ∙ sym (ap (λ (x : Keeping). x.out) out);
    }
