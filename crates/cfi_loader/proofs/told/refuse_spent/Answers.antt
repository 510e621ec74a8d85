use Rattle.cfi_loader.proofs.AddLemmas.{spent_refuses}
use Rattle.cfi_loader.proofs.told.refuse_spent.Goals as goal

pub returns-clause-after : goal.returns-clause-after
returns-clause-after c = λ k keeping kept asks absent.
    spent_refuses k c.args.books.now keeping kept c.args.who c.args.number asks absent c.tell.new.self c.requires.spent
    c.tell.ensures.line c.tell.ensures.same
