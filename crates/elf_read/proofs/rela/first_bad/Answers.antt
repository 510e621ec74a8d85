use Rattle.elf_read.specs.Relocation.{rela_count}
use Rattle.elf_read.proofs.TargetLemmas.{bad_same, some_same, none_same}
use Rattle.elf_read.proofs.rela.first_bad.Goals as goal

pub returns-clause-some : goal.returns-clause-some
returns-clause-some c =
    let target = c.target_at-target.ensures in
    some_same _ _ (rela_count c.args.table.now c.args.s)
    (λ i h. bad_same c.args.table.now c.entries_of.result.now c.args.left_out.now c.target_at-target.result c.args.s
    c.target_of.result i c.requires.marks c.entries_of.ensures.same c.target_of.ensures.same target.size target.text
    target.data) c.first_bad_of.result (rw (← c.rela_count-count.ensures.same) c.first_bad_of.ensures.some)

pub returns-clause-none : goal.returns-clause-none
returns-clause-none c =
    let target = c.target_at-target.ensures in
    none_same _ _ (rela_count c.args.table.now c.args.s)
    (λ i h. bad_same c.args.table.now c.entries_of.result.now c.args.left_out.now c.target_at-target.result c.args.s
    c.target_of.result i c.requires.marks c.entries_of.ensures.same c.target_of.ensures.same target.size target.text
    target.data) c.first_bad_of.result (rw (← c.rela_count-count.ensures.same) c.first_bad_of.ensures.none)
