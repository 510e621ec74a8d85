-- What status 1 to 5 say.
use Rattle.std.proofs.Common.{◌≡◌, ◌≤◌, ℕ, ◌⊎◌, List, Option, inl, inr, arith, sym, ◌∙◌}
use Rattle.cfi_guest_run.specs.Concluded.{Conclusion}
use Rattle.cfi_io.specs.Count.{Rose}
use Rattle.cfi_top.specs.declared.answer.Answer.{Answer}
use Rattle.cfi_top.specs.declared.answer.Answer.TheVariants as answers
use Rattle.cfi_request.specs.declared.output.TheConstants.{USAGE, READ_FAULT, NO_FILE, WRITE_FAULT, REFUSED, MEMORY}
use Rattle.cfi_top.specs.Answer.{output_of}
use Rattle.cfi_request.specs.Command.{IsCommandLine}
use Rattle.cfi_request.specs.Outside.{IsBroken}
use Rattle.cfi_io.specs.Seen.{ShelfView, SinkView}
use Rattle.cfi_top.specs.Outcome.{IsAnswer}
use Rattle.cfi_top.specs.Top.{Ends, IsRefused, IsStopped, IsSavedBy, IsUnsaved}
use Rattle.cfi_top.proofs.OutcomeLemmas.{saved_is_output}
use Rattle.cfi_request.proofs.ReadingLemmas.{failed_rose, missed_rose, unread_least, unread_most}
use Rattle.cfi_top.proofs.UnreadLemmas.{why_of}

-- an answer that is delivered as a file is that of a command that saves it
pub saves_of : (words : List (List ℕ)) (shelf shelf' : ShelfView) (name file : List ℕ)
    → IsAnswer words shelf shelf' (answers.Save name file) → IsSavedBy words name
saves_of words shelf shelf' name file is = (is.0, is.1, saved_is_output is.0 is.2.0 is.2.1 name file is.2.3)

module _ (words : List (List ℕ)) (shelf shelf' : ShelfView) (sink sink' : SinkView) (status : ℕ)
    (run : Option Conclusion) where
  pub usage_of : Ends words shelf shelf' sink sink' status run → status ≡ USAGE → ¬ IsCommandLine words
  usage_of (inl memory) e = absurd (omega (arith, e, memory.0.0))
  usage_of (inr (answers.Usage, is, inl d, kept)) e = is
  usage_of (inr (answers.Ran it text, is, inl d, kept)) e = absurd (omega (arith, e, d.0))
  usage_of (inr (answers.Print text, is, inl d, kept)) e = absurd (omega (arith, e, d.0))
  usage_of (inr (answers.Save name file, is, inl d, kept)) e = absurd (omega (arith, e, d.0))
  usage_of (inr (answers.Unread unread, is, inl d, kept)) e = absurd (omega (arith, e, d.0, unread_least unread.cause))
  usage_of (inr (answers.Refused name refusal, is, inl d, kept)) e = absurd (omega (arith, e, d.0))
  usage_of (inr (answer, is, inr d, kept)) e = absurd (omega (arith, e, d.0))

  pub unfit_of : Ends words shelf shelf' sink sink' status run → ¬ IsCommandLine words
      → (status ≡ USAGE) ⊎ (status ≡ WRITE_FAULT) ⊎ (status ≡ MEMORY)
  unfit_of (inl memory) unfit = inr (inr memory.0.0)
  unfit_of (inr (answers.Usage, is, inl d, kept)) unfit = inl d.0
  unfit_of (inr (answers.Ran it text, is, inl d, kept)) unfit = absurd (unfit (is.0, is.1))
  unfit_of (inr (answers.Print text, is, inl d, kept)) unfit = absurd (unfit (is.0, is.1))
  unfit_of (inr (answers.Save name file, is, inl d, kept)) unfit = absurd (unfit (is.0, is.1))
  unfit_of (inr (answers.Unread unread, is, inl d, kept)) unfit = absurd (unfit (is.0, is.1))
  unfit_of (inr (answers.Refused name refusal, is, inl d, kept)) unfit = absurd (unfit (is.0, is.1))
  unfit_of (inr (answer, is, inr d, kept)) unfit = inr (inl d.0)

  pub read_fault_of : Ends words shelf shelf' sink sink' status run → status ≡ READ_FAULT → Rose shelf.faults shelf'.faults
  read_fault_of (inl memory) e = absurd (omega (arith, e, memory.0.0))
  read_fault_of (inr (answers.Unread unread, is, inl d, kept)) e =
      failed_rose shelf shelf' unread.name unread.cause (why_of is.0 shelf shelf' unread is.2) (sym d.0 ∙ e)
  read_fault_of (inr (answers.Usage, is, inl d, kept)) e = absurd (omega (arith, e, d.0))
  read_fault_of (inr (answers.Ran it text, is, inl d, kept)) e = absurd (omega (arith, e, d.0))
  read_fault_of (inr (answers.Print text, is, inl d, kept)) e = absurd (omega (arith, e, d.0))
  read_fault_of (inr (answers.Save name file, is, inl d, kept)) e = absurd (omega (arith, e, d.0))
  read_fault_of (inr (answers.Refused name refusal, is, inl d, kept)) e = absurd (omega (arith, e, d.0))
  read_fault_of (inr (answer, is, inr d, kept)) e = absurd (omega (arith, e, d.0))

  pub missed_of : Ends words shelf shelf' sink sink' status run → status ≡ NO_FILE → Rose shelf.misses shelf'.misses
  missed_of (inl memory) e = absurd (omega (arith, e, memory.0.0))
  missed_of (inr (answers.Unread unread, is, inl d, kept)) e =
      missed_rose shelf shelf' unread.name unread.cause (why_of is.0 shelf shelf' unread is.2) (sym d.0 ∙ e)
  missed_of (inr (answers.Usage, is, inl d, kept)) e = absurd (omega (arith, e, d.0))
  missed_of (inr (answers.Ran it text, is, inl d, kept)) e = absurd (omega (arith, e, d.0))
  missed_of (inr (answers.Print text, is, inl d, kept)) e = absurd (omega (arith, e, d.0))
  missed_of (inr (answers.Save name file, is, inl d, kept)) e = absurd (omega (arith, e, d.0))
  missed_of (inr (answers.Refused name refusal, is, inl d, kept)) e = absurd (omega (arith, e, d.0))
  missed_of (inr (answer, is, inr d, kept)) e = absurd (omega (arith, e, d.0))

  -- the statuses of files that are not read lie between
  stopped_from : READ_FAULT ≤ status → status ≤ NO_FILE → Ends words shelf shelf' sink sink' status run
      → IsStopped words shelf shelf' sink sink' status
  stopped_from low high (inl memory) = absurd (omega (arith, low, high, memory.0.0))
  stopped_from low high (inr (answers.Unread unread, is, inl d, kept)) =
      record { command = is.0; fits = is.1; unread = unread; stops = is.2; cause = d.0; text = d.1.1 }
  stopped_from low high (inr (answers.Usage, is, inl d, kept)) = absurd (omega (arith, low, high, d.0))
  stopped_from low high (inr (answers.Ran it text, is, inl d, kept)) = absurd (omega (arith, low, high, d.0))
  stopped_from low high (inr (answers.Print text, is, inl d, kept)) = absurd (omega (arith, low, high, d.0))
  stopped_from low high (inr (answers.Save name file, is, inl d, kept)) = absurd (omega (arith, low, high, d.0))
  stopped_from low high (inr (answers.Refused name refusal, is, inl d, kept)) = absurd (omega (arith, low, high, d.0))
  stopped_from low high (inr (answer, is, inr d, kept)) = absurd (omega (arith, low, high, d.0))

  pub stopped_of : Ends words shelf shelf' sink sink' status run → (status ≡ READ_FAULT) ⊎ (status ≡ NO_FILE)
      → IsStopped words shelf shelf' sink sink' status
  stopped_of ends (inl e) = stopped_from (omega (arith, e)) (omega (arith, e)) ends
  stopped_of ends (inr e) = stopped_from (omega (arith, e)) (omega (arith, e)) ends

  pub refused_of : Ends words shelf shelf' sink sink' status run → status ≡ REFUSED → IsRefused words shelf sink sink'
  refused_of (inl memory) e = absurd (omega (arith, e, memory.0.0))
  refused_of (inr (answers.Refused name refusal, is, inl d, kept)) e = record {
    command = is.0;
    fits = is.1;
    files = is.2.0;
    more = is.2.1;
    read = is.2.2;
    name = name;
    refusal = refusal;
    first = is.2.3;
    text = d.1.1;
  }
  refused_of (inr (answers.Usage, is, inl d, kept)) e = absurd (omega (arith, e, d.0))
  refused_of (inr (answers.Ran it text, is, inl d, kept)) e = absurd (omega (arith, e, d.0))
  refused_of (inr (answers.Print text, is, inl d, kept)) e = absurd (omega (arith, e, d.0))
  refused_of (inr (answers.Save name file, is, inl d, kept)) e = absurd (omega (arith, e, d.0))
  refused_of (inr (answers.Unread unread, is, inl d, kept)) e = absurd (omega (arith, e, d.0, unread_most unread.cause))
  refused_of (inr (answer, is, inr d, kept)) e = absurd (omega (arith, e, d.0))

  -- why something was delivered in part
  broken_of : (answer : Answer) → IsAnswer words shelf shelf' answer
      → IsBroken (output_of answer) shelf shelf' sink sink'
      → Rose sink.faults sink'.faults ⊎ IsUnsaved words shelf shelf'
  broken_of (answers.Save name file) is broken = inr (name, saves_of words shelf shelf' name file is, broken.1)
  broken_of answers.Usage is broken = inl broken.1
  broken_of (answers.Ran it text) is broken = inl broken.1
  broken_of (answers.Print text) is broken = inl broken.1
  broken_of (answers.Unread unread) is broken = inl broken.1
  broken_of (answers.Refused name refusal) is broken = inl broken.1

  pub write_fault_of : Ends words shelf shelf' sink sink' status run → status ≡ WRITE_FAULT
      → Rose sink.faults sink'.faults ⊎ IsUnsaved words shelf shelf'
  write_fault_of (inl memory) e = absurd (omega (arith, e, memory.0.0))
  write_fault_of (inr (answers.Usage, is, inl d, kept)) e = absurd (omega (arith, e, d.0))
  write_fault_of (inr (answers.Ran it text, is, inl d, kept)) e = absurd (omega (arith, e, d.0))
  write_fault_of (inr (answers.Print text, is, inl d, kept)) e = absurd (omega (arith, e, d.0))
  write_fault_of (inr (answers.Save name file, is, inl d, kept)) e = absurd (omega (arith, e, d.0))
  write_fault_of (inr (answers.Unread unread, is, inl d, kept)) e =
      absurd (omega (arith, e, d.0, unread_most unread.cause))
  write_fault_of (inr (answers.Refused name refusal, is, inl d, kept)) e = absurd (omega (arith, e, d.0))
  write_fault_of (inr (answer, is, inr d, kept)) e = broken_of answer is d.1
