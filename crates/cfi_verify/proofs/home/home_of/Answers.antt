use Rattle.std.proofs.Common.{Some, ap, ◌∙◌, arith}
use Rattle.cfi_aux.specs.declared.placed.PlacedFunction.{PlacedFunction}
use Rattle.cfi_aux.specs.Extent.{end_of}
use Rattle.cfi_verify.proofs.FunctionLemmas.{no_home_here, one_home}
use Rattle.cfi_verify.proofs.home.home_of.Goals as goal

-- the first function that ends after the word begins after it too
pub returns-then-at-home-clause-only : goal.returns-then-at-home-clause-only
returns-then-at-home-clause-only c = λ f has lies.
    let item = c.index-functions-number.result in
    absurd (no_home_here c.args.functions.now c.args.at c.number_ending-number.result c.number_ending-number.ensures
    c.requires.order item (omega arith)
    (omega (arith, c.if-at-home.true, ap (λ (g : PlacedFunction). g.first) c.index-functions-number.is)) f has lies)

-- the word lies in it, and in no other
pub returns-clause-only : goal.returns-clause-only
returns-clause-only c = λ f has lies.
    let item = c.index-functions-number.result in
    ap (λ (g : PlacedFunction). Some (g.first, end_of g))
    (c.index-functions-number.is
    ∙ one_home c.args.functions.now c.args.at c.number_ending-number.result c.number_ending-number.ensures
    c.requires.order item (omega arith) f has lies)
