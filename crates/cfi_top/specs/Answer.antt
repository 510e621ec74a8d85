-- What is to be delivered of each answer: a status and a text, or a file. Each line ends with a line feed.
use Rattle.std.specs.Prelude.{ℕ, ◌==◌, List, ◌++◌, codes, if◌then◌else◌, Option, Some, None}
use Rattle.cfi_top.specs.declared.answer.Answer.{Answer}
use Rattle.cfi_top.specs.declared.answer.Answer.TheVariants as answers
use Rattle.cfi_request.specs.declared.output.Output.{Output}
use Rattle.cfi_request.specs.declared.output.Output.TheVariants as outputs
use Rattle.cfi_request.specs.declared.output.TheConstants.{DONE, USAGE, REFUSED}
use Rattle.cfi_request.specs.Output.{usage_line, unread_output}
use Rattle.cfi_commands.specs.declared.refusal.Refusal.{Refusal}
use Rattle.cfi_commands.specs.Refusal.{refusal_text}
use Rattle.cfi_guest_run.specs.Concluded.{Conclusion}

-- the file, the layer that refuses it, and the fault
abbrev pub refused_line : (name : List ℕ) → Refusal → List ℕ
refused_line name refusal = codes "refused " ++ name ++ codes " " ++ refusal_text refusal ++ codes "\n"

-- what is to be delivered of an answer
abbrev pub output_of : Answer → Output
output_of (answers.Ran run text) = outputs.Print DONE text
output_of (answers.Print text) = outputs.Print DONE text
output_of (answers.Save name bytes) = outputs.Save name bytes
output_of answers.Usage = outputs.Print USAGE usage_line
output_of (answers.Unread unread) = unread_output unread
output_of (answers.Refused name refusal) = outputs.Print REFUSED (refused_line name refusal)

-- what a run has come to, where the answer is that of one
abbrev pub run_in : Answer → Option Conclusion
run_in (answers.Ran run text) = Some run
run_in (answers.Print text) = None
run_in (answers.Save name bytes) = None
run_in answers.Usage = None
run_in (answers.Unread unread) = None
run_in (answers.Refused name refusal) = None

-- it is handed out where its report was written
abbrev pub kept_at : (status : ℕ) → Option Conclusion → Option Conclusion
kept_at status run = if status == DONE then run else None
