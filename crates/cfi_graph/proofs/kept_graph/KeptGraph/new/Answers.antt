use Rattle.std.proofs.Common.{subst}
use Rattle.cfi_types.specs.Classes.{AreClasses}
use Rattle.cfi_graph.proofs.KeptGraphLemmas.{no_modules}
use Rattle.cfi_graph.proofs.kept_graph.KeptGraph.new.Goals as goal

pub returns-clause-is : goal.returns-clause-is
returns-clause-is c =
    no_modules c.in_ok-classes.field-0 c.new.result.items c.new-2.result
    (subst (λ ts. AreClasses ts c.in_ok-classes.field-0) c.new-book.ensures c.in_ok-classes.ensures) c.new.ensures.items
    c.new-2.ensures
