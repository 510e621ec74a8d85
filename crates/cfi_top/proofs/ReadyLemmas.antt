-- What a command comes to where nobody is waited for, and what the run comes to that is made then.
use Rattle.std.proofs.Common.{ℕ, List, [], ◌∷◌, sym, subst}
use Rattle.cfi_io.specs.Seen.{ShelfView}
use Rattle.cfi_request.specs.declared.command.Command.{Command}
use Rattle.cfi_request.specs.declared.command.Command.TheVariants as commands
use Rattle.cfi_request.specs.Command.{IsCommand, inputs_of, more_of}
use Rattle.cfi_request.specs.Outside.{IsLater}
use Rattle.cfi_request.specs.Reading.{AreRead}
use Rattle.cfi_top.specs.declared.answer.Answer.{Answer}
use Rattle.cfi_top.specs.declared.answer.Answer.TheVariants as answers
use Rattle.cfi_top.specs.declared.work.Outcome.{Outcome}
use Rattle.cfi_top.specs.declared.work.Outcome.TheVariants as outcomes
use Rattle.cfi_top.specs.declared.work.Ready.{Ready}
use Rattle.cfi_top.specs.Outcome.{IsAllRead, IsMade, IsWorked, GoesOn, IsOutcome, IsAnswer}
use Rattle.cfi_top.specs.Ready.{IsReady}
use Rattle.cfi_top.specs.inner.Working.{ComesTo, IsToRun, IsReadToRun, IsReadyFor}
use Rattle.cfi_top.specs.Running.{RunsGuests}
use Rattle.cfi_top.proofs.OutcomeLemmas.{never_unread, worked_is, outcome_is}
use Rattle.cfi_top.proofs.UnreadLemmas.{read_since}

-- the files that a command's inputs name are read
pub goes_on : (command : Command) (files more : List (List ℕ)) (shelf shelf' : ShelfView) (outcome : Outcome)
    → AreRead shelf (more_of command files) more
    → ComesTo (IsWorked command files more) (IsToRun command files more) outcome
    → ComesTo (GoesOn command files shelf shelf') (IsReadToRun command files shelf) outcome
goes_on command files more shelf shelf' (outcomes.Answer answer) read worked =
    worked_is command files more shelf shelf' answer read worked
goes_on command files more shelf shelf' (outcomes.Run ready) read to_run = record {
  is = to_run.is;
  runs = to_run.runs;
  inputs = to_run.inputs;
  others = subst (AreRead shelf (more_of command files)) (sym to_run.others) read;
}

-- and its inputs were
pub comes_out : (command : Command) (files : List (List ℕ)) (shelf mid shelf' : ShelfView) (outcome : Outcome)
    → IsLater shelf mid → AreRead shelf (inputs_of command) files
    → ComesTo (GoesOn command files mid shelf') (IsReadToRun command files mid) outcome
    → ComesTo (IsOutcome command shelf shelf') (IsReadyFor command shelf) outcome
comes_out command files shelf mid shelf' (outcomes.Answer answer) later read goes =
    outcome_is command files shelf mid shelf' later read answer goes
comes_out command files shelf mid shelf' (outcomes.Run ready) later read to_run = record {
  is = to_run.is;
  runs = to_run.runs;
  read = record {
    inputs = subst (AreRead shelf (inputs_of command)) (sym to_run.inputs) read;
    others = subst (λ own. AreRead shelf (more_of command own) ready.more) (sym to_run.inputs)
        (read_since shelf mid _ ready.more later to_run.others);
  };
}

-- what is ready for a command is ready of itself
ready_itself : (words : List (List ℕ)) (command : Command) (shelf : ShelfView) (ready : Ready)
    → IsCommand words command → IsReadyFor command shelf ready → IsReady words shelf ready
ready_itself words command shelf ready fits is = record {
  fits = subst (IsCommand words) (sym is.is) fits;
  runs = subst RunsGuests (sym is.is) is.runs;
  read = subst (λ (c : Command). IsAllRead c shelf ready.files ready.more) (sym is.is) is.read;
}

-- what is made of files that are read is no usage
never_usage : (command : Command) (files more : List (List ℕ)) → IsMade command files more answers.Usage → ⊥
never_usage (commands.Asm input output) (bytes ∷ []) more made = made
never_usage (commands.List input) (bytes ∷ []) more made = made
never_usage (commands.Instrument input output) (bytes ∷ []) more made = made
never_usage (commands.Link output inputs) files more made = made
never_usage (commands.Verify plan) (bytes ∷ []) more made = made
never_usage (commands.Graph plan) (bytes ∷ []) more made = made
never_usage (commands.Sim plan schedule) (bytes ∷ []) more made = made
never_usage (commands.Run input) (bytes ∷ []) more made = made
never_usage (commands.Stub input output) (bytes ∷ []) more made = made
never_usage (commands.Judge input report) (bytes ∷ []) more made = made
never_usage (commands.Gen seed count) files more made = made
never_usage command files more made = made

-- what a command comes to is what the words come to that are it
answer_is : (words : List (List ℕ)) (command : Command) (shelf shelf' : ShelfView) (answer : Answer)
    → IsCommand words command → IsOutcome command shelf shelf' answer → IsAnswer words shelf shelf' answer
answer_is words command shelf shelf' answers.Usage fits is = absurd (never_usage command is.0 is.1 is.3)
answer_is words command shelf shelf' (answers.Ran it text) fits is = (command, fits, is)
answer_is words command shelf shelf' (answers.Print text) fits is = (command, fits, is)
answer_is words command shelf shelf' (answers.Save name file) fits is = (command, fits, is)
answer_is words command shelf shelf' (answers.Unread unread) fits is = (command, fits, is)
answer_is words command shelf shelf' (answers.Refused name refusal) fits is = (command, fits, is)

pub words_come : (words : List (List ℕ)) (command : Command) (shelf shelf' : ShelfView) (outcome : Outcome)
    → IsCommand words command → ComesTo (IsOutcome command shelf shelf') (IsReadyFor command shelf) outcome
    → ComesTo (IsAnswer words shelf shelf') (IsReady words shelf) outcome
words_come words command shelf shelf' (outcomes.Answer answer) fits is =
    answer_is words command shelf shelf' answer fits is
words_come words command shelf shelf' (outcomes.Run ready) fits is = ready_itself words command shelf ready fits is

-- what running comes to is what the words come to that run
pub run_answered : (words : List (List ℕ)) (shelf shelf' : ShelfView) (ready : Ready) (answer : Answer)
    → IsReady words shelf ready → IsWorked ready.command ready.files ready.more answer
    → IsAnswer words shelf shelf' answer
run_answered words shelf shelf' ready answers.Usage is worked =
    absurd (never_usage ready.command ready.files ready.more worked)
run_answered words shelf shelf' ready (answers.Ran it text) is worked =
    (ready.command, is.fits, (ready.files, ready.more, is.read, worked))
run_answered words shelf shelf' ready (answers.Print text) is worked =
    (ready.command, is.fits, (ready.files, ready.more, is.read, worked))
run_answered words shelf shelf' ready (answers.Save name file) is worked =
    (ready.command, is.fits, (ready.files, ready.more, is.read, worked))
run_answered words shelf shelf' ready (answers.Unread unread) is worked =
    absurd (never_unread ready.command ready.files ready.more unread worked)
run_answered words shelf shelf' ready (answers.Refused name refusal) is worked =
    (ready.command, is.fits, (ready.files, ready.more, is.read, worked))
