use Rattle.cfi_policy.proofs.BookLemmas.{longer_by}
use Rattle.cfi_policy.proofs.book.behind.Goals as goal

pub returns : goal.returns
returns c = longer_by c.args.before.now c.args.edges.now c.requires
