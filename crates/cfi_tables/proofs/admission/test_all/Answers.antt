use Rattle.std.proofs.Common.{rules, sym, ap, ◌∙◌, arith}
use Rattle.cfi_model.specs.declared.history.Entry.{Entry}
use Rattle.cfi_tables.specs.Keeping.{Keeping}
use Rattle.cfi_tables.specs.inner.Stores.{keeping_at}
use Rattle.cfi_tables.proofs.AdmissionLemmas.{ready_before, test_fails, test_goes_on}
use Rattle.cfi_tables.proofs.WordTestLemmas.{testing_allowed}
use Rattle.cfi_tables.proofs.admission.test_all.Goals as goal

pub load-found-requires : goal.load-found-requires
load-found-requires g c =
    let t = c.args.tables.now in
    let k = g.N.TableName.key in
    let r = c.requires in
    let i = c.loop-guest.invariant in
    let few = c.loop-guest-test.true in
    let number = c.quiet-number.ensures in
    let keeping = keeping_at c.args.seat.now.me in
    let quiets = (keeping_at c.loop-guest.seat.me).quiets in
    let before : Keeping = record keeping { quiets = quiets } in (
      i.seat.table_is ∙ sym t.name,
      omega (arith, t.many, number, few),
      testing_allowed k before g.A.Asks.entry
          (ready_before k keeping g.A.Asks.entry quiets r.ready i.passed.later) c.loop-guest.guest few _ _ _ _ _ t.key i.seat.id_is i.seat.me_is number,
    )

pub loop-guest-preserved : goal.loop-guest-preserved
loop-guest-preserved g c =
    let l = c.load-found.ensures in
    test_goes_on g.N.TableName.table g.N.TableName.key (keeping_at c.args.seat.now.me) g.A.Asks.entry c.requires.ready
    _ _ _ c.loop-guest.guest c.loop-guest-test.true c.loop-guest.invariant _ _ _ c.load-found.result l.0 l.1 l.2.is
    l.2.later (search rules)

pub returns-then-not-admits-clause-first : goal.returns-then-not-admits-clause-first
returns-then-not-admits-clause-first g c =
    let l = c.load-found.ensures in
    (test_fails g.N.TableName.table g.N.TableName.key (keeping_at c.args.seat.now.me) g.A.Asks.entry c.requires.ready
    _ _ _ c.loop-guest.guest c.loop-guest-test.true c.loop-guest.invariant _ _ _ c.load-found.result l.0 l.1 l.2.is
    l.2.later c.args.asked.now.mark (sym (ap (λ (e : Entry). e.mark) c.requires.asked)) (search rules)).1
