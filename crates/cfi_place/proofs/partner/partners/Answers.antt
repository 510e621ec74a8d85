use Rattle.std.proofs.Common.{◌∙◌, ap, sym, ℕ, List, nat_cmp}
use Rattle.std.specs.BTreeMap.{get}
use Rattle.std.proofs.lemmas.Bool.{eq-eqb, ne_eqb}
use Rattle.cfi_place.specs.Relocated.{partner_in}
use Rattle.cfi_place.proofs.RelocatedLemmas.{high_parts-other, partners-more}
use Rattle.cfi_place.proofs.partner.partners.Goals as goal
use Rattle.cfi_place.proofs.partner.partners.Goals.{then-reloc-eq-PCREL_HI20+in_ok-add_partner, else-reloc-eq-PCREL_HI20}
use Rattle.elf_read.proofs.NoReloc.{no_reloc}

pub loop-reloc-preserved : goal.loop-reloc-preserved
loop-reloc-preserved c =
    let relocs = c.args.relocs.now in
    let i = c.loop-reloc.reloc-index in
    let room = c.args.room.now in
    let values = c.args.values.now in
    elim c.if-reloc-eq-PCREL_HI20.branch [
      | then-reloc-eq-PCREL_HI20+in_ok-add_partner w ↦ λ a.
          rw w.partners-is
          (partners-more room values relocs i no_reloc w.upper_part-part.result (get nat_cmp c.loop-reloc.partners)
          (get nat_cmp w.add_partner.new.partners) c.loop-reloc-test.true (eq-eqb _ _ w.if-reloc-eq-PCREL_HI20.true)
          w.upper_part-part.ensures c.loop-reloc.invariant w.in_ok-add_partner.ensures a)
      | else-reloc-eq-PCREL_HI20 w ↦ λ a.
          rw w.partners-is
          (c.loop-reloc.invariant a
          ∙ ap (λ (parts : List (ℕ × ℕ)). partner_in parts a)
          (sym (high_parts-other room values relocs i no_reloc c.loop-reloc-test.true
          (ne_eqb _ _ w.if-reloc-eq-PCREL_HI20.false))))
    ]
