-- The entries are in the file.
use Rattle.std.proofs.Common.{◌≡◌, subst}
use Rattle.elf_read.specs.Section.{contents}
use Rattle.elf_read.specs.Fault.{HasSections}
use Rattle.elf_read.proofs.RelaLemmas.{relas_within}
use Rattle.elf_read.proofs.rela.entries_of.Goals as goal

pub returns-clause-whole : goal.returns-clause-whole
returns-clause-whole c =
    let bytes = c.args.table.now in
    let sections : HasSections bytes = subst HasSections c.table.view_is c.table.invariant.0 in
    let whole = relas_within bytes c.args.s sections c.requires.within in
    let same : c.contents.result.now ≡ contents bytes c.args.s = c.contents.ensures in
    rw same whole
