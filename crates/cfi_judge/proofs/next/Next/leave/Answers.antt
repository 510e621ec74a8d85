use Rattle.std.proofs.Common.{◌∙◌, false, refl, arith}
use Rattle.std.proofs.lemmas.Option.{get_or_from_slice_get}
use Rattle.cfi_judge.proofs.ItemLemmas.{item_there}
use Rattle.cfi_judge.proofs.NextLemmas.{leaves_same, leaves_so}
use Rattle.cfi_judge.proofs.next.Next.leave.Goals as goal

-- one that the plan has not
pub returns-then-number-len : goal.returns-then-number-len
returns-then-number-len c = λ code_words count before gone is.
    leaves_same code_words count before gone c.args.self is c.args.number
    (λ within. absurd (omega (arith, within, c.if-number-len.true, c.len.ensures, is.flags.many)))

-- one that is gone already
pub returns-then-index : goal.returns-then-index
returns-then-index c = λ code_words count before gone is.
    leaves_same code_words count before gone c.args.self is c.args.number
    (λ within.
    let flags = c.args.self.gone.items in
    let flag = c.index.result.now in
    get_or_from_slice_get flags c.args.number flag false (item_there flags c.args.number flag
    (omega (arith, c.if-number-len.false, c.len.ensures))
    c.index.ensures)
    ∙ c.if-index.true)

pub returns : goal.returns
returns c = λ code_words count before gone is.
    leaves_so code_words count before gone c.args.self is c.args.number
    (omega (arith, c.if-number-len.false, c.len.ensures, is.flags.many)) _ c.renamed.result c.renamed.ensures.same
    c.renamed.ensures.names refl
