use Rattle.std.proofs.Common.{All, take}
use Rattle.cfi_request.proofs.OperandLemmas.{IsNone}
use Rattle.cfi_request.proofs.operand.are_operands.Given as goal

-- no word so far is an option
abbrev pub invariant-loop-word : goal.invariant-loop-word
invariant-loop-word l = All IsNone (take l.word-index l.words)
