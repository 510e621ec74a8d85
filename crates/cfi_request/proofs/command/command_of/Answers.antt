use Rattle.std.proofs.Common.{All, map, subst, sym}
use Rattle.cfi_request.specs.Split.{IsSplit}
use Rattle.cfi_request.specs.Words.{IsOperand, texts}
use Rattle.cfi_request.proofs.CommandLemmas.{operands_stand}
use Rattle.cfi_request.proofs.command.command_of.Goals as goal

-- the operands are no options
pub named-requires : goal.named-requires
named-requires c =
    let words = texts c.args.words.now in
    let split = subst (IsSplit words) c.in-Some.is c.in_ok-split.ensures in
    record {
      operands = subst (λ ws. All IsOperand (map (λ word. word.now) ws)) (sym c.deref.ensures.value)
          (operands_stand words c.in-Some.split split);
    }
