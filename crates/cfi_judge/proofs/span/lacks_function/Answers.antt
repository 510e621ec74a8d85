use Rattle.cfi_judge.specs.Reached.{state_of}
use Rattle.cfi_judge.proofs.SpanLemmas.{lacks_in}
use Rattle.cfi_judge.proofs.span.lacks_function.Goals as goal

pub returns : goal.returns
returns c = λ course log at same span.
    lacks_in (state_of c.args.end.now) log at c.args.number c.args.span.least c.args.span.most span.least span.most
    course same c.lacks_by.result c.lacks_by.ensures
