use Rattle.std.proofs.Common.{◌∙◌, ℕ, Option, None, pos, ap, sym, get_or}
use Rattle.elf_read.specs.declared.object.Area.TheVariants.{Text}
use Rattle.cfi_link.specs.declared.joined.OwnReloc.{OwnReloc}
use Rattle.cfi_link.specs.Applied.{applied_to}
use Rattle.cfi_link.proofs.AppliedLemmas.{applied-stop, applied-next, applied-all}
use Rattle.cfi_link.proofs.applied.apply_all.Goals as goal

abbrev none : OwnReloc
none = record {
  owner = 0;
  number = 0;
  reloc = record { area = Text; offset = 0; kind = 0; symbol = None; addend = pos 0 };
}

pub returns-in-Err-clause-fault : goal.returns-in-Err-clause-fault
returns-in-Err-clause-fault c =
    let relocs = c.args.relocs.now in
    let k = c.loop-own.own-index in
    c.loop-own.invariant
    ∙ applied-stop c.args.reaches.now relocs k c.loop-own.text none _ c.loop-own-test.true
    (ap (λ (target : Option ℕ). applied_to target (get_or relocs k none).reloc c.loop-own.text)
    (sym c.target_of-target.ensures)
    ∙ c.in-Err.ensures.fault)

pub loop-own-preserved : goal.loop-own-preserved
loop-own-preserved c =
    let relocs = c.args.relocs.now in
    let k = c.loop-own.own-index in
    c.loop-own.invariant
    ∙ applied-next c.args.reaches.now relocs k c.loop-own.text c.apply_to.new.text none c.loop-own-test.true
    (ap (λ (target : Option ℕ). applied_to target (get_or relocs k none).reloc c.loop-own.text)
    (sym c.target_of-target.ensures)
    ∙ c.in_default.ensures.ok)

pub returns-clause-ok : goal.returns-clause-ok
returns-clause-ok c =
    c.loop-own.invariant
    ∙ applied-all c.args.reaches.now c.args.relocs.now c.loop-own.own-index c.loop-own.text c.loop-own-test.false
