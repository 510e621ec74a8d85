-- The answers to drawn modules.
use Rattle.std.specs.Prelude.{◌≡◌, ℕ, ⊤}
use Rattle.cfi_commands.specs.declared.fault.CommandFault.{CommandFault}
use Rattle.cfi_commands.specs.declared.fault.CommandFault.TheVariants.{File, Together, Memory}
use Rattle.cfi_gen.specs.Source.{file_name}
use Rattle.cfi_gen.specs.declared.summary_text.Measure.{Measure}
use Rattle.cfi_gen.specs.Summary.{summary_text}
use Rattle.cfi_top.specs.declared.answer.Answer.{Answer}
use Rattle.cfi_top.specs.declared.answer.Answer.TheVariants as answers

-- a fault is of one source
abbrev pub IsOfSource : CommandFault → Type 0
IsOfSource (File number refusal) = ⊤
IsOfSource (Together fault) = ⊥
IsOfSource Memory = ⊤

-- the answer to it
abbrev pub IsSourceRefused : CommandFault → Answer → Type 0
IsSourceRefused (File number refusal) answer = answer ≡ answers.Refused (file_name number) refusal
IsSourceRefused (Together fault) answer = ⊥
IsSourceRefused Memory answer = ⊥

-- the answer with the summary of a run in place of its report
abbrev pub summed : (seed count : ℕ) → Measure → Answer → Answer
summed seed count measure (answers.Ran run text) = answers.Ran run (summary_text seed count measure run.report)
summed seed count measure answer = answer
