use Rattle.std.proofs.Common.{◌≡◌, ◌∙◌, ◌+◌, ◌≤◌, ℕ, length, take, get_or, sym, ap, subst}
use Rattle.std.proofs.lemmas.List.{take_all}
use Rattle.elf_read.proofs.NoReloc.{no_reloc}
use Rattle.cfi_import.specs.Start.{end_after, text_end}
use Rattle.cfi_import.proofs.StartLemmas.{text_end-more, text_end-within}
use Rattle.cfi_import.proofs.start.text_end.Goals as goal

pub loop-k-preserved : goal.loop-k-preserved
loop-k-preserved c =
    c.end_after-end.ensures
    ∙ ap (λ (end : ℕ). end_after end (c.loop-k.k + 1) (get_or c.args.relocs.now c.loop-k.k no_reloc).area) c.loop-k.invariant
    ∙ sym (text_end-more c.args.relocs.now c.loop-k.k no_reloc c.loop-k-test.true)

pub returns-clause-within : goal.returns-clause-within
returns-clause-within c =
    let relocs = c.args.relocs.now in
    let is : c.loop-k.end ≡ text_end relocs =
    c.loop-k.invariant ∙ ap text_end (take_all c.loop-k.k relocs c.loop-k-test.false) in
    subst (λ (n : ℕ). n ≤ length relocs) (sym is) (text_end-within relocs)
