use Rattle.std.proofs.Common.{All, ◌∷◌, map, subst, sym}
use Rattle.cfi_request.specs.Split.{IsSplit, command_in}
use Rattle.cfi_request.specs.Words.{IsOperand, texts}
use Rattle.cfi_top.proofs.tracing.names_in.Goals as goal

-- each word is an operand
pub pair_of-requires : goal.pair_of-requires
pair_of-requires c =
    let words = texts c.args.words.now in
    let split = subst (IsSplit words) c.in-Some.is c.in_ok-split.ensures in
    subst (λ ws. All IsOperand (command_in c.in-Some.split ∷ map (λ word. word.now) ws)) (sym c.deref.ensures.value)
    (subst (All IsOperand) split.1 split.0)
