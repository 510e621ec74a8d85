use Rattle.std.proofs.Common.{List, [], length, sym, ap, subst, arith}
use Rattle.std.proofs.lemmas.List.{take_all}
use Rattle.cfi_aux.specs.declared.placed.Placed.{Placed}
use Rattle.cfi_ledger.specs.Roster.{loaded_in_roster, origin_of}
use Rattle.cfi_plan.specs.declared.journal.ModuleLine.{ModuleLine}
use Rattle.cfi_valid.specs.Loaded.{LoadedModule}
use Rattle.cfi_valid.proofs.KeptLemmas.{many_are}
use Rattle.cfi_judge.specs.inner.Next.{IsNext, IsPast}
use Rattle.cfi_judge.proofs.NextLemmas.{roster_fits, roster_more}
use Rattle.cfi_judge.proofs.next.Next.behind.Goals as goal

pub pass-requires : goal.pass-requires
pass-requires c =
    roster_fits c.args.starts.now c.args.code_words c.args.count c.requires.words c.requires.lined
    c.modules-placed.ensures.series c.lines-lines.result.now c.lines-lines.ensures.value c.modules-placed.result.now
    c.modules-placed.ensures.value c.loop-at.at c.loop-at-test.true c.index-lines-at.result c.index-lines-at.is
    c.index-placed-at.result c.index-placed-at.is c.loop-at.next c.loop-at.invariant

pub loop-at-preserved : goal.loop-at-preserved
loop-at-preserved c =
    roster_more c.args.starts.now c.args.code_words c.args.count c.requires.words c.requires.lined
    c.modules-placed.ensures.series c.lines-lines.result.now c.lines-lines.ensures.value c.modules-placed.result.now
    c.modules-placed.ensures.value c.loop-at.at c.loop-at-test.true c.index-lines-at.result c.index-lines-at.is
    c.index-placed-at.result c.index-placed-at.is c.loop-at.next c.loop-at.invariant c.requires.known
    c.in_ok-next-2.next
    (subst (λ (l : ModuleLine). IsPast c.loop-at.next l.number c.index-placed-at.result c.in_ok-next-2.next)
    (sym c.index-lines-at.is) c.in_ok-next-2.ensures)

pub returns : goal.returns
returns c =
    let r = c.args.starts.now in
    subst (λ (ls : List LoadedModule). IsNext c.args.code_words c.args.count ls [] c.loop-at.next)
    (take_all c.loop-at.at (loaded_in_roster r)
    (omega (
      arith,
      many_are origin_of r.lines r.placed c.requires.lined,
      c.loop-at-test.false,
      ap (λ (ps : List Placed). length ps) c.modules-placed.ensures.value,
    ))) c.loop-at.invariant
