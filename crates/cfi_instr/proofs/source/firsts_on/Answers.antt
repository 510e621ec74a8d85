-- The table has the first relocation of each word, one relocation after the other.
use Rattle.std.proofs.Common.{◌≡◌, ◌∙◌, ◌<◌, ap, None, get_or, take, List, arith}
use Rattle.std.proofs.lemmas.List.{take_all}
use Rattle.std.proofs.lemmas.List.FromFn.{fill_by_all}
use Rattle.elf_read.specs.declared.object.Reloc.{Reloc}
use Rattle.cfi_instr.specs.Words.{sits_on, first_on}
use Rattle.cfi_instr.specs.inner.Words.{noted}
use Rattle.cfi_instr.proofs.TableLemmas.{first_on-more}
use Rattle.cfi_instr.proofs.source.firsts_on.Goals as goal
use Rattle.elf_read.proofs.NoReloc.{no_reloc}

pub loop-reloc-preserved : goal.loop-reloc-preserved
loop-reloc-preserved c =
    let relocs = c.args.relocs.now in
    let i = c.loop-reloc.reloc-index in
    let reloc = get_or relocs i no_reloc in
    let calling = c.args.calling in
    record {
      size = c.note.ensures.len ∙ c.loop-reloc.invariant.size;
      each = λ w lt.
          let within : w < c.args.count = lt in
          c.note.ensures.noted w (omega (arith, within, c.loop-reloc.invariant.size))
          ∙ ap (noted (sits_on calling w reloc) reloc) (c.loop-reloc.invariant.each w lt)
          ∙ first_on-more calling relocs i no_reloc w c.loop-reloc-test.true;
    }

pub returns : goal.returns
returns c =
    let relocs = c.args.relocs.now in
    let all : take c.loop-reloc.reloc-index relocs ≡ relocs =
    take_all c.loop-reloc.reloc-index relocs (omega (arith, c.loop-reloc-test.false)) in
    fill_by_all (first_on c.args.calling relocs) c.loop-reloc.table.items c.args.count None c.loop-reloc.invariant.size
    (λ w lt. c.loop-reloc.invariant.each w lt ∙ ap (λ (xs : List Reloc). first_on c.args.calling xs w) all)
