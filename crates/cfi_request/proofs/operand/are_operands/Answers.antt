use Rattle.std.proofs.Common.{All, string_bytes, subst, sym, refl, false}
use Rattle.std.proofs.lemmas.Bool.{both_ways}
use Rattle.std.proofs.lemmas.List.{take_all}
use Rattle.std.proofs.lemmas.List.Elements.{All-map, All-more}
use Rattle.cfi_request.specs.Words.{IsOperand}
use Rattle.cfi_request.proofs.OperandLemmas.{IsNone, operand_at}
use Rattle.cfi_request.proofs.operand.are_operands.Goals as goal

-- one word more
pub loop-word-preserved : goal.loop-word-preserved
loop-word-preserved c =
    let here = subst IsOperand c.as_str.ensures.value (c.if-not-is_operand.ensures.0 refl) in
    All-more IsNone c.args.words.now c.loop-word.word-index c.word-item.result c.loop-word-test.true
    c.loop-word.invariant (subst IsNone c.word-item.is here)

-- all words were looked at
pub returns : goal.returns
returns c =
    let words = c.args.words.now in
    let whole = take_all c.loop-word.word-index words c.loop-word-test.false in
    (λ t. All-map IsOperand string_bytes words (subst (All IsNone) whole c.loop-word.invariant), λ all. refl)

-- one is an option
pub returns-then-not-is_operand : goal.returns-then-not-is_operand
returns-then-not-is_operand c = (
  λ t. absurd (both_ways false refl t),
  λ all. c.if-not-is_operand.ensures.1 (subst IsOperand (sym c.as_str.ensures.value)
      (operand_at c.args.words.now c.loop-word.word-index c.word-item.result c.loop-word-test.true c.word-item.is all)),
)
