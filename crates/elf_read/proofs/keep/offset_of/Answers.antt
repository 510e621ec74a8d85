-- The field of a good relocation is within the joined text or data.
use Rattle.std.proofs.Common.{arith}
use Rattle.elf_read.specs.Object.{kept_reloc}
use Rattle.elf_read.proofs.KeepLemmas.{offset_read}
use Rattle.elf_read.proofs.keep.offset_of.Goals as goal

pub overflow_add-result : goal.overflow_add-result
overflow_add-result c =
    let read =
    offset_read c.args.table.now c.args.layout.now _ c.args.s c.args.i _ _ c.requires.sound c.requires.layout
    c.requires.within c.requires.entry c.target_of.ensures.same c.rela_at.ensures c.index-start.ensures in
    omega (arith, read)

pub overflow_cast-result-2 : goal.overflow_cast-result-2
overflow_cast-result-2 c =
    let read =
    offset_read c.args.table.now c.args.layout.now _ c.args.s c.args.i _ _ c.requires.sound c.requires.layout
    c.requires.within c.requires.entry c.target_of.ensures.same c.rela_at.ensures c.index-start.ensures in
    omega (arith, read)

pub returns : goal.returns
unfolding kept_reloc
returns c =
    let read =
    offset_read c.args.table.now c.args.layout.now _ c.args.s c.args.i _ _ c.requires.sound c.requires.layout
    c.requires.within c.requires.entry c.target_of.ensures.same c.rela_at.ensures c.index-start.ensures in
    read.0
