-- This turn adds its entry at the end.
use Rattle.std.proofs.Common.{◌≡◌, ◌++◌, ap, ◌∙◌, refl, add-one, append_assoc}
use Rattle.elf_read.specs.Places.{joined}
use Rattle.elf_read.specs.Object.{reloc_of}
use Rattle.elf_read.proofs.keep.push_relocs.Goals as goal

pub loop-i-preserved : goal.loop-i-preserved
loop-i-preserved c =
    let added : c.push_reloc.new.out.items ≡ c.loop-i.out.items ++ reloc_of c.args.table.now c.args.s c.loop-i.i =
    c.in_ok-push_reloc.ensures in
    let all = c.loop-i.invariant in
    let old = c.args.out.now.items in
    let so_far = joined (reloc_of c.args.table.now c.args.s) c.loop-i.i in
    added ∙ ap (λ xs. xs ++ reloc_of c.args.table.now c.args.s c.loop-i.i) all
    ∙ append_assoc old so_far (reloc_of c.args.table.now c.args.s c.loop-i.i) ∙ rw add-one refl
