use Rattle.std.proofs.Common.{length, ap, sym, subst, arith}
use Rattle.cfi_valid.specs.Script.{Load}
use Rattle.cfi_ledger.specs.declared.books.Books.{Books}
use Rattle.cfi_loader.specs.declared.fault.LoadFault.TheVariants.{ModulesFull, Retired}
use Rattle.cfi_loader.specs.Ledger.{Ledger}
use Rattle.cfi_loader.specs.Told.{MayAskFor}
use Rattle.cfi_ledger.specs.Roster.{origin_of}
use Rattle.cfi_loader.proofs.AddLemmas.{full_refuses, retired_refuses}
use Rattle.cfi_loader.proofs.ReserveLemmas.{reserved, ledger_same, loads_from, refuses_from}
use Rattle.cfi_ledger.proofs.FlagLemmas.{listed_gone}
use Rattle.cfi_ledger.proofs.RosterLemmas.{unlisted_absent}
use Rattle.cfi_valid.proofs.KeptLemmas.{many_are}
use Rattle.cfi_loader.proofs.load.load.Goals as goal

-- it is loaded already
pub returns-in-Again-clause-ok : goal.returns-in-Again-clause-ok
returns-in-Again-clause-ok g c =
    let k = g.N.TableName.key in
    let b = c.args.books.now in
    let mid = c.reserve.new.self in
    let keeping = c.args.keeper.now in
    let kept = c.requires.kept in
    let r = c.if-not-reserve.ensures in
    let mid_kept = reserved k b mid keeping kept r.lines r.left r.same in
    let asks = subst (λ (l : Ledger). MayAskFor l c.args.who (Load c.args.number))
    (sym (ledger_same k b mid keeping kept r.lines r.left r.same)) c.requires.asks in
    loads_from k b mid keeping kept r.lines r.left r.same c.args.who c.args.number c.again.result c.again.new.books
    keeping (c.again.ensures.after k keeping mid_kept asks)

-- it was retired
pub returns-in-Retired-clause-fault : goal.returns-in-Retired-clause-fault
returns-in-Retired-clause-fault g c =
    let k = g.N.TableName.key in
    let b = c.args.books.now in
    let mid = c.reserve.new.self in
    let keeping = c.args.keeper.now in
    let kept = c.requires.kept in
    let r = c.if-not-reserve.ensures in
    let mid_kept = reserved k b mid keeping kept r.lines r.left r.same in
    let asks = subst (λ (l : Ledger). MayAskFor l c.args.who (Load c.args.number))
    (sym (ledger_same k b mid keeping kept r.lines r.left r.same)) c.requires.asks in
    let its = c.in-Retired.ensures in
    refuses_from k b mid keeping kept r.lines r.left r.same c.args.who c.args.number Retired c.tell.new.self keeping
    (retired_refuses k mid keeping mid_kept c.args.who c.args.number asks c.tell.new.self c.tell.ensures.line
    c.tell.ensures.same
    (listed_gone mid.force mid_kept.roster_is.many mid_kept.flags_are c.args.number c.in-Retired.field-0 its.0
    mid_kept.ledger.policies.upto its.1))

-- there is no room
pub returns-in-Full-clause-fault : goal.returns-in-Full-clause-fault
returns-in-Full-clause-fault g c =
    let k = g.N.TableName.key in
    let b = c.args.books.now in
    let mid = c.reserve.new.self in
    let keeping = c.args.keeper.now in
    let kept = c.requires.kept in
    let r = c.if-not-reserve.ensures in
    let mid_kept = reserved k b mid keeping kept r.lines r.left r.same in
    let asks = subst (λ (l : Ledger). MayAskFor l c.args.who (Load c.args.number))
    (sym (ledger_same k b mid keeping kept r.lines r.left r.same)) c.requires.asks in
    let many = mid_kept.roster_is.many in
    let loaded = many_are origin_of mid.force.roster.lines mid.force.roster.placed many in
    refuses_from k b mid keeping kept r.lines r.left r.same c.args.who c.args.number ModulesFull c.tell-in-Full.new.self keeping
    (full_refuses k mid keeping mid_kept c.args.who c.args.number asks c.tell-in-Full.new.self c.tell-in-Full.ensures.line
    c.tell-in-Full.ensures.same (record {
      known = omega (
        arith,
        c.requires.known,
        mid_kept.ledger.can_start.count,
        ap (λ (m : Books). length m.plan.modules) r.same,
      );
      absent = unlisted_absent mid.force.roster many c.args.number c.in-Full.ensures.0;
      full = omega (arith, c.in-Full.ensures.1, many, loaded);
    }))

-- it is not loaded, and there is room
pub add-requires-clause-absent : goal.add-requires-clause-absent
add-requires-clause-absent g c =
    let k = g.N.TableName.key in
    let b = c.args.books.now in
    let mid = c.reserve.new.self in
    let r = c.if-not-reserve.ensures in
    let mid_kept = reserved k b mid c.args.keeper.now c.requires.kept r.lines r.left r.same in
    let many = mid_kept.roster_is.many in
    let loaded = many_are origin_of mid.force.roster.lines mid.force.roster.placed many in
    record {
      absent = unlisted_absent mid.force.roster many c.args.number c.in-Open.ensures.0;
      room = omega (arith, c.in-Open.ensures.1, many, loaded);
    }
