use Rattle.std.proofs.Common.{◌∙◌, ◌++◌, ◌∷◌, [], List, ap, sym, get_or}
use Rattle.elf_read.specs.declared.object.Reloc.{Reloc}
use Rattle.cfi_link.specs.declared.joined.OwnReloc.{OwnReloc}
use Rattle.cfi_link.specs.Joined.{own_reloc_at}
use Rattle.cfi_link.proofs.SettledLemmas.{relocs-more}
use Rattle.cfi_link.proofs.shift.push_relocs.Goals as goal
use Rattle.elf_read.proofs.NoReloc.{no_reloc}

pub loop-number-preserved : goal.loop-number-preserved
loop-number-preserved c =
    let relocs = c.args.relocs.now in
    let k = c.loop-number.number in
    let out = c.args.out.now.items in
    let f = own_reloc_at c.args.start c.args.owner in
    c.in_ok-push.ensures.items
    ∙ ap (λ (r : Reloc). c.loop-number.out.items ++ record { owner = c.args.owner; number = k; reloc = r } ∷ [])
    c.reloc_at.ensures
    ∙ ap (λ (xs : List OwnReloc). xs ++ f (k, get_or relocs k no_reloc) ∷ []) c.loop-number.invariant
    ∙ sym (relocs-more c.args.start c.args.owner relocs k no_reloc c.loop-number-test.true out)
