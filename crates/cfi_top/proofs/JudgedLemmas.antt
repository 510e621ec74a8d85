-- What judging has done where the status is 0.
use Rattle.std.proofs.Common.{◌≡◌, ℕ, List, [], ◌∷◌, Option, subst}
use Rattle.cfi_guest_run.specs.Concluded.{Conclusion}
use Rattle.cfi_io.specs.Seen.{ShelfView, SinkView}
use Rattle.cfi_request.specs.declared.command.Command.TheVariants as commands
use Rattle.cfi_request.specs.declared.output.TheConstants.{DONE}
use Rattle.cfi_request.specs.Command.{IsCommand, more_of}
use Rattle.cfi_request.specs.Outside.{Holds, IsWrittenWhole}
use Rattle.cfi_request.specs.Plans.{judged_files}
use Rattle.cfi_request.specs.Reading.{AreRead}
use Rattle.cfi_request.proofs.ReadingLemmas.{one_file}
use Rattle.cfi_top.specs.declared.answer.Answer.{Answer}
use Rattle.cfi_top.specs.declared.answer.Answer.TheVariants as answers
use Rattle.cfi_top.specs.Answer.{output_of}
use Rattle.cfi_top.specs.Outcome.{IsMade}
use Rattle.cfi_top.specs.Top.{Ends, HasJudged}
use Rattle.cfi_top.proofs.DoneLemmas.{command_done}

module _ (input report bytes : List ℕ) (shelf shelf' : ShelfView) (sink sink' : SinkView)
    (held : Holds shelf input bytes) (files : List (List ℕ))
    (read : AreRead shelf (judged_files bytes report) files) where
  judge_done : (answer : Answer) → IsMade (commands.Judge input report) (bytes ∷ []) files answer
      → IsWrittenWhole (output_of answer) shelf shelf' sink sink' → HasJudged input report shelf sink sink'
  judge_done (answers.Print text) made whole =
      record { bytes = bytes; held = held; files = files; read = read; text = text; said = made; printed = whole.1 }
  judge_done (answers.Ran it said) made whole = absurd made
  judge_done (answers.Save name file) made whole = absurd made
  judge_done answers.Usage made whole = absurd made
  judge_done (answers.Unread unread) made whole = absurd made
  judge_done (answers.Refused name refusal) made whole = absurd made

pub judged_of : (words : List (List ℕ)) (shelf shelf' : ShelfView) (sink sink' : SinkView) (status : ℕ)
    (run : Option Conclusion) → Ends words shelf shelf' sink sink' status run → (input report : List ℕ)
    → IsCommand words (commands.Judge input report) → status ≡ DONE → HasJudged input report shelf sink sink'
judged_of words shelf shelf' sink sink' status run ends input report fits e =
    let command = commands.Judge input report in
    let done = command_done words shelf shelf' sink sink' status run e command fits ends in
    let one = one_file shelf input done.files done.read.inputs in
    let made = subst (λ (fs : List (List ℕ)). IsMade command fs done.more done.answer) one.1 done.made in
    let read = subst (λ (fs : List (List ℕ)). AreRead shelf (more_of command fs) done.more) one.1 done.read.others in
    judge_done input report one.0 shelf shelf' sink sink' one.2 done.more read done.answer made done.delivered
