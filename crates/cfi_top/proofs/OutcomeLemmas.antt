-- What the outcome of a command says.
use Rattle.std.proofs.Common.{◌≡◌, ◌≤◌, ℕ, ◌⊎◌, List, [], ◌∷◌, Option, Some, None, inl, inr, sym, ap, subst, ◌∙◌}
use Rattle.cfi_request.specs.declared.command.Command.{Command}
use Rattle.cfi_request.specs.declared.command.Command.TheVariants as commands
use Rattle.cfi_top.specs.declared.answer.Answer.{Answer}
use Rattle.cfi_top.specs.declared.answer.Answer.TheVariants as answers
use Rattle.cfi_request.specs.declared.reading.Unread.{Unread}
use Rattle.cfi_request.specs.Command.{inputs_of, more_of, saved_name}
use Rattle.cfi_request.specs.declared.output.Output.{Output}
use Rattle.cfi_guest_run.specs.Concluded.{Conclusion}
use Rattle.cfi_request.specs.declared.output.TheConstants.{MEMORY}
use Rattle.cfi_top.specs.Answer.{output_of, run_in, kept_at}
use Rattle.cfi_request.specs.Outside.{IsLater, IsStarved, IsDelivered, KeepsLast}
use Rattle.cfi_io.specs.Seen.{ShelfView, SinkView}
use Rattle.cfi_top.specs.Outcome.{IsMade, IsAllRead, IsWorked, GoesOn, IsOutcome, IsAnswer}
use Rattle.cfi_request.specs.Reading.{AreRead}
use Rattle.cfi_top.specs.Top.{Ends}
use Rattle.cfi_request.proofs.OutsideLemmas.{delivered_since}
use Rattle.cfi_top.proofs.UnreadLemmas.{first_later, read_since, stops_since}

-- what stood while the shelf was read stands later too
pub answer_later : (words : List (List ℕ)) (shelf mid shelf' : ShelfView) (answer : Answer) → shelf.faults ≤ mid.faults
    → mid.faults ≤ shelf'.faults → shelf.misses ≤ mid.misses → mid.misses ≤ shelf'.misses
    → KeepsLast (output_of answer) mid shelf' → IsAnswer words shelf mid answer → IsAnswer words shelf shelf' answer
answer_later words shelf mid shelf' answers.Usage a b c d same is = is
answer_later words shelf mid shelf' (answers.Ran it text) a b c d same is = is
answer_later words shelf mid shelf' (answers.Print text) a b c d same is = is
answer_later words shelf mid shelf' (answers.Save name bytes) a b c d same is = is
answer_later words shelf mid shelf' (answers.Unread unread) a b c d same is =
    (is.0, is.1, first_later is.0 shelf mid shelf' unread a b c d same is.2)
answer_later words shelf mid shelf' (answers.Refused name refusal) a b c d same is = is

-- a file that a command saves is its output
pub saved_is_output : (command : Command) (files more : List (List ℕ)) (name file : List ℕ)
    → IsMade command files more (answers.Save name file) → saved_name command ≡ Some name
saved_is_output (commands.Asm input output) (bytes ∷ []) more name file made =
    ap (λ (n : List ℕ). Some n) (sym made.0)
saved_is_output (commands.List input) (bytes ∷ []) more name file made = absurd made
saved_is_output (commands.Instrument input output) (bytes ∷ []) more name file made =
    ap (λ (n : List ℕ). Some n) (sym made.0)
saved_is_output (commands.Link output inputs) files more name file made = ap (λ (n : List ℕ). Some n) (sym made.0)
saved_is_output (commands.Verify plan) (bytes ∷ []) more name file made = absurd made
saved_is_output (commands.Graph plan) (bytes ∷ []) more name file made = absurd made
saved_is_output (commands.Sim plan schedule) (bytes ∷ []) more name file made = absurd made
saved_is_output (commands.Run input) (bytes ∷ []) more name file made = absurd made
saved_is_output (commands.Stub input output) (bytes ∷ []) more name file made =
    ap (λ (n : List ℕ). Some n) (sym made.0)
saved_is_output (commands.Judge input report) (bytes ∷ []) more name file made = absurd made
saved_is_output (commands.Gen seed count) files more name file made = absurd made
saved_is_output command files more name file made = absurd made

-- what is made of files that are read is no file that is not
pub never_unread : (command : Command) (files more : List (List ℕ)) (unread : Unread)
    → IsMade command files more (answers.Unread unread) → ⊥
never_unread (commands.Asm input output) (bytes ∷ []) more unread made = made
never_unread (commands.List input) (bytes ∷ []) more unread made = made
never_unread (commands.Instrument input output) (bytes ∷ []) more unread made = made
never_unread (commands.Link output inputs) files more unread made = made
never_unread (commands.Verify plan) (bytes ∷ []) more unread made = made
never_unread (commands.Graph plan) (bytes ∷ []) more unread made = made
never_unread (commands.Sim plan schedule) (bytes ∷ []) more unread made = made
never_unread (commands.Run input) (bytes ∷ []) more unread made = made
never_unread (commands.Stub input output) (bytes ∷ []) more unread made = made
never_unread (commands.Judge input report) (bytes ∷ []) more unread made = made
never_unread (commands.Gen seed count) files more unread made = made
never_unread command files more unread made = made

-- a command whose files are read comes to what is made of them
pub worked_is : (command : Command) (files more : List (List ℕ)) (shelf shelf' : ShelfView) (answer : Answer)
    → AreRead shelf (more_of command files) more → IsWorked command files more answer
    → GoesOn command files shelf shelf' answer
worked_is command files more shelf shelf' answers.Usage read worked = (more, read, worked)
worked_is command files more shelf shelf' (answers.Ran it text) read worked = (more, read, worked)
worked_is command files more shelf shelf' (answers.Print text) read worked = (more, read, worked)
worked_is command files more shelf shelf' (answers.Save name file) read worked = (more, read, worked)
worked_is command files more shelf shelf' (answers.Refused name refusal) read worked = (more, read, worked)
worked_is command files more shelf shelf' (answers.Unread unread) read worked =
    absurd (never_unread command files more unread worked)

-- what it comes to once its inputs are read is what it comes to
module _ (command : Command) (files : List (List ℕ)) (shelf mid shelf' : ShelfView) (later : IsLater shelf mid)
    (read : AreRead shelf (inputs_of command) files) where
  all_read : (more : List (List ℕ)) → AreRead mid (more_of command files) more → IsAllRead command shelf files more
  all_read more others = record { inputs = read; others = read_since shelf mid _ more later others }

  pub outcome_is : (answer : Answer) → GoesOn command files mid shelf' answer → IsOutcome command shelf shelf' answer
  outcome_is answers.Usage goes = (files, goes.0, all_read goes.0 goes.1, goes.2)
  outcome_is (answers.Ran it text) goes = (files, goes.0, all_read goes.0 goes.1, goes.2)
  outcome_is (answers.Print text) goes = (files, goes.0, all_read goes.0 goes.1, goes.2)
  outcome_is (answers.Save name file) goes = (files, goes.0, all_read goes.0 goes.1, goes.2)
  outcome_is (answers.Refused name refusal) goes = (files, goes.0, all_read goes.0 goes.1, goes.2)
  outcome_is (answers.Unread unread) goes = inr (files, read, stops_since shelf mid shelf' _ unread later goes)

-- nothing is handed out where no memory was left
starved_kept : (status : ℕ) (told : Option Conclusion) → status ≡ MEMORY → kept_at status told ≡ None
starved_kept status told e = ap (λ (n : ℕ). kept_at n told) e

-- an answer that was delivered ends the program
pub ends_of : (words : List (List ℕ)) (shelf mid shelf' : ShelfView) (sink sink' : SinkView) (status : ℕ)
    (answer : Answer) (output : Output) (run told : Option Conclusion) → output ≡ output_of answer
    → told ≡ run_in answer → run ≡ kept_at status told → IsLater shelf mid → mid.faults ≤ shelf'.faults
    → mid.misses ≤ shelf'.misses → KeepsLast output mid shelf' → IsAnswer words shelf mid answer
    → IsStarved mid shelf' sink sink' status ⊎ IsDelivered output mid shelf' sink sink' status
    → Ends words shelf shelf' sink sink' status run
ends_of words shelf mid shelf' sink sink' status answer output run told same runs kept later faults misses last is
    (inl memory) =
    inl ((memory.0, memory.1 ∙ later.files, memory.2), kept ∙ starved_kept status told memory.0)
ends_of words shelf mid shelf' sink sink' status answer output run told same runs kept later faults misses last is
    (inr delivered) =
    let said = subst (λ (o : Output). IsDelivered o mid shelf' sink sink' status) same delivered in
    inr (
      answer,
      answer_later words shelf mid shelf' answer later.faults faults later.misses misses
          (subst (λ (o : Output). KeepsLast o mid shelf') same last) is,
      delivered_since (output_of answer) shelf mid shelf' sink sink' status later said,
      kept ∙ ap (kept_at status) runs,
    )
