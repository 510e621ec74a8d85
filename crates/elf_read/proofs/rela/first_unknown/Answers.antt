use Rattle.elf_read.specs.Relocation.{rela_count}
use Rattle.elf_read.proofs.TargetLemmas.{unknown_same, some_same, none_same}
use Rattle.elf_read.proofs.rela.first_unknown.Goals as goal

pub returns-clause-some : goal.returns-clause-some
returns-clause-some c =
    some_same _ _ (rela_count c.args.table.now c.args.s)
    (λ i h. unknown_same c.args.table.now c.entries_of.result.now c.args.s i c.entries_of.ensures.same)
    c.first_unknown_of.result (rw (← c.rela_count.ensures.same) c.first_unknown_of.ensures.some)

pub returns-clause-none : goal.returns-clause-none
returns-clause-none c =
    none_same _ _ (rela_count c.args.table.now c.args.s)
    (λ i h. unknown_same c.args.table.now c.entries_of.result.now c.args.s i c.entries_of.ensures.same)
    c.first_unknown_of.result (rw (← c.rela_count.ensures.same) c.first_unknown_of.ensures.none)
