-- The numbers of relocations are below 2 ^ 32.
use Rattle.std.proofs.Common.{◌<◌, arith}
use Rattle.elf_read.specs.Header.{section_count}
use Rattle.elf_read.proofs.RelaLemmas.{relas-small}
use Rattle.elf_read.proofs.rela.check_relas.Goals as goal

pub overflow_add-result : goal.overflow_add-result
overflow_add-result c =
    let within : c.loop-s.s < section_count c.args.table.now = omega arith in
    let small = relas-small c.args.table.now c.loop-s.s c.requires.symbols.sections within c.requires.small in
    let here = c.in-Some.ensures.some.within in
    omega (arith, small, here)

pub overflow_cast-result : goal.overflow_cast-result
overflow_cast-result c =
    let within : c.loop-s.s < section_count c.args.table.now = omega arith in
    let small = relas-small c.args.table.now c.loop-s.s c.requires.symbols.sections within c.requires.small in
    let here = c.in-Some.ensures.some.within in
    omega (arith, small, here)

pub overflow_add-before : goal.overflow_add-before
overflow_add-before c =
    let within : c.loop-s.s < section_count c.args.table.now = omega arith in
    let small = relas-small c.args.table.now c.loop-s.s c.requires.symbols.sections within c.requires.small in
    omega (arith, small)
