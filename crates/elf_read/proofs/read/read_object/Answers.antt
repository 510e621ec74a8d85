-- The answer is the one object, unless memory ran out.
use Rattle.elf_read.proofs.FaultLemmas.{only_answer}
use Rattle.elf_read.proofs.read.read_object.Goals as goal

pub returns-clause-only : goal.returns-clause-only
returns-clause-only c =
    λ object is. only_answer c.args.bytes.now c.pass_over.result c.pass_over.ensures.ok c.pass_over.ensures.fault
    object is
