-- What status 0 says: a command was done.
use Rattle.std.proofs.Common.{◌≡◌, ℕ, Bool, true, false, List, [], ◌∷◌, Option, Some, None, IfSome, inl, inr, arith, refl, sym, ap, subst, ◌∙◌}
use Rattle.std.specs.Prelude.{◌==◌, if◌then◌else◌}
use Rattle.cfi_guest_run.specs.Concluded.{Conclusion}
use Rattle.cfi_request.specs.declared.command.Command.{Command}
use Rattle.cfi_request.specs.declared.command.Command.TheVariants as commands
use Rattle.cfi_top.specs.declared.answer.Answer.{Answer}
use Rattle.cfi_top.specs.declared.answer.Answer.TheVariants as answers
use Rattle.cfi_request.specs.declared.output.TheConstants.{DONE}
use Rattle.cfi_top.specs.Answer.{output_of, run_in, kept_at}
use Rattle.cfi_request.specs.Command.{IsCommand, IsCommandLine}
use Rattle.cfi_request.specs.Outside.{IsWrittenWhole}
use Rattle.cfi_io.specs.Seen.{ShelfView, SinkView}
use Rattle.cfi_top.specs.Outcome.{IsMade, IsAllRead, IsWorked, IsAnswer}
use Rattle.cfi_top.specs.Running.{RunsGuests}
use Rattle.cfi_top.specs.Top.{Ends, Runs}
use Rattle.cfi_request.proofs.CommandLemmas.{one_command}
use Rattle.cfi_request.proofs.ReadingLemmas.{unread_least}

-- a command was done: its inputs had these bytes, and what it makes of them was delivered whole
pub record HasDone (command : Command) (shelf shelf' : ShelfView) (sink sink' : SinkView) (run : Option Conclusion)
    : Type 0 where
  pub answer : Answer
  pub files : List (List ℕ)
  pub more : List (List ℕ)
  pub read : IsAllRead command shelf files more
  pub made : IsMade command files more answer
  pub delivered : IsWrittenWhole (output_of answer) shelf shelf' sink sink'
  pub handed : run ≡ run_in answer

-- what a command that the words are comes to, said of another that they are
worked_as : (words : List (List ℕ)) (a b : Command) (shelf : ShelfView) (files more : List (List ℕ)) (answer : Answer)
    → IsCommand words a → IsCommand words b → IsAllRead a shelf files more → IsWorked a files more answer
    → IsAllRead b shelf files more × IsWorked b files more answer
worked_as words a b shelf files more answer is_a is_b read worked =
    subst (λ (c : Command). IsAllRead c shelf files more × IsWorked c files more answer)
    (one_command words a b is_a is_b) (read, worked)

module _ (words : List (List ℕ)) (shelf shelf' : ShelfView) (sink sink' : SinkView) (status : ℕ)
    (run : Option Conclusion) (e : status ≡ DONE) where
  -- what is kept where the report was written
  handed : (it : Option Conclusion) → run ≡ kept_at status it → run ≡ it
  handed it kept = kept ∙ ap (λ (n : ℕ). kept_at n it) e

  pub done_of : Ends words shelf shelf' sink sink' status run → IsCommandLine words
  done_of (inl memory) = absurd (omega (arith, e, memory.0.0))
  done_of (inr (answers.Usage, is, inl d, kept)) = absurd (omega (arith, e, d.0))
  done_of (inr (answers.Ran it text, is, inl d, kept)) = (is.0, is.1)
  done_of (inr (answers.Print text, is, inl d, kept)) = (is.0, is.1)
  done_of (inr (answers.Save name bytes, is, inl d, kept)) = (is.0, is.1)
  done_of (inr (answers.Unread unread, is, inl d, kept)) = (is.0, is.1)
  done_of (inr (answers.Refused name refusal, is, inl d, kept)) = (is.0, is.1)
  done_of (inr (answer, is, inr d, kept)) = absurd (omega (arith, e, d.0))

  -- the command that the words are was done
  pub command_done : (command : Command) → IsCommand words command → Ends words shelf shelf' sink sink' status run
      → HasDone command shelf shelf' sink sink' run
  command_done command fits (inl memory) = absurd (omega (arith, e, memory.0.0))
  command_done command fits (inr (answers.Usage, is, inl d, kept)) = absurd (omega (arith, e, d.0))
  command_done command fits (inr (answers.Ran it text, is, inl d, kept)) =
      let same = worked_as words is.0 command shelf is.2.0 is.2.1 (answers.Ran it text) is.1 fits is.2.2 is.2.3 in
      record {
        answer = answers.Ran it text;
        files = is.2.0;
        more = is.2.1;
        read = same.0;
        made = same.1;
        delivered = d.1;
        handed = handed (Some it) kept;
      }
  command_done command fits (inr (answers.Print text, is, inl d, kept)) =
      let same = worked_as words is.0 command shelf is.2.0 is.2.1 (answers.Print text) is.1 fits is.2.2 is.2.3 in
      record {
        answer = answers.Print text;
        files = is.2.0;
        more = is.2.1;
        read = same.0;
        made = same.1;
        delivered = d.1;
        handed = handed None kept;
      }
  command_done command fits (inr (answers.Save name file, is, inl d, kept)) =
      let same = worked_as words is.0 command shelf is.2.0 is.2.1 (answers.Save name file) is.1 fits is.2.2 is.2.3 in
      record {
        answer = answers.Save name file;
        files = is.2.0;
        more = is.2.1;
        read = same.0;
        made = same.1;
        delivered = d.1;
        handed = handed None kept;
      }
  command_done command fits (inr (answers.Unread unread, is, inl d, kept)) =
      absurd (omega (arith, e, d.0, unread_least unread.cause))
  command_done command fits (inr (answers.Refused name refusal, is, inl d, kept)) = absurd (omega (arith, e, d.0))
  command_done command fits (inr (answer, is, inr d, kept)) = absurd (omega (arith, e, d.0))

-- ---- what a run has come to is handed out where it was run

-- only running makes such an answer
is_run : (command : Command) (files more : List (List ℕ)) (it : Conclusion) (text : List ℕ)
    → IsMade command files more (answers.Ran it text) → RunsGuests command
is_run (commands.Run input) (bytes ∷ []) more it text made = tt
is_run (commands.Gen seed count) files more it text made = tt
is_run (commands.Asm input output) (bytes ∷ []) more it text made = absurd made
is_run (commands.List input) (bytes ∷ []) more it text made = absurd made
is_run (commands.Instrument input output) (bytes ∷ []) more it text made = absurd made
is_run (commands.Link output inputs) files more it text made = absurd made
is_run (commands.Verify plan) (bytes ∷ []) more it text made = absurd made
is_run (commands.Graph plan) (bytes ∷ []) more it text made = absurd made
is_run (commands.Sim plan schedule) (bytes ∷ []) more it text made = absurd made
is_run (commands.Stub input output) (bytes ∷ []) more it text made = absurd made
is_run (commands.Judge input report) (bytes ∷ []) more it text made = absurd made
is_run command files more it text made = absurd made

-- nothing is kept of nothing
none_if : (test : Bool) (run : Option Conclusion) → run ≡ None → (if test then run else None) ≡ None
none_if true run is = is
none_if false run is = refl

none_kept : (status : ℕ) → kept_at status None ≡ None
none_kept status = none_if (status == DONE) None refl

module _ (words : List (List ℕ)) (shelf shelf' : ShelfView) (sink sink' : SinkView) (status : ℕ)
    (run : Option Conclusion) where
  -- the words run guests, and the status is 0
  abbrev Handed : Option Conclusion → Type 0
  Handed it = IfSome it (λ _. (status ≡ DONE) × Runs words)

  handed_none : (it : Option Conclusion) → it ≡ None → Handed it
  handed_none it same = subst Handed (sym same) tt

  handed_run : (it : Conclusion) (text : List ℕ) → IsAnswer words shelf shelf' (answers.Ran it text) → status ≡ DONE
      → Handed (Some it)
  handed_run it text is e =
      (e, (is.0, is.1, is_run is.0 is.2.0 is.2.1 it text is.2.3))

  pub run_only : Ends words shelf shelf' sink sink' status run → Handed run
  run_only (inl memory) = handed_none run memory.1
  run_only (inr (answers.Ran it text, is, inl d, kept)) =
      subst Handed (sym (handed words shelf shelf' sink sink' status run d.0 (Some it) kept)) (handed_run it text is d.0)
  run_only (inr (answers.Ran it text, is, inr d, kept)) =
      handed_none run (kept ∙ ap (λ (n : ℕ). kept_at n (Some it)) d.0)
  run_only (inr (answers.Usage, is, d, kept)) = handed_none run (kept ∙ none_kept status)
  run_only (inr (answers.Print text, is, d, kept)) = handed_none run (kept ∙ none_kept status)
  run_only (inr (answers.Save name file, is, d, kept)) = handed_none run (kept ∙ none_kept status)
  run_only (inr (answers.Unread unread, is, d, kept)) = handed_none run (kept ∙ none_kept status)
  run_only (inr (answers.Refused name refusal, is, d, kept)) = handed_none run (kept ∙ none_kept status)

-- what holds of each value holds of one that is there
pub if_some : {X : Type 0} {P : X → Type 0} (o : Option X) → ((x : X) → P x) → IfSome o P
if_some None each = tt
if_some (Some x) each = each x
