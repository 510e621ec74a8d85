use Rattle.std.proofs.Common.{◌≤◌, ◌-◌, ◌^◌, length, subst, arith}
use Rattle.std.proofs.lemmas.List.{length-map}
use Rattle.cfi_text.specs.Lines.{lines_of}
use Rattle.rv_line.specs.Line.{line_in}
use Rattle.rv_asm.specs.Assembled.{IsDue}
use Rattle.rv_asm.specs.Placed.{lines_in}
use Rattle.rv_asm.proofs.SurveyLemmas.{length-lines_of}
use Rattle.rv_asm.proofs.PassLemmas.{passed_in-text}
use Rattle.rv_asm.proofs.assembler.assemble.Goals as goal

-- what the passes give is what the lines make
pub returns : goal.returns
returns c =
    let text = c.args.text.now in
    let lines = length-lines_of text in
    let read = length-map (lines_of text) line_in in
    let few : length (lines_in text) ≤ 2 ^ 32 - 1 = omega (arith, lines, read) in
    subst (λ due. IsDue c.passed.result due) (passed_in-text text few) c.passed.ensures
