use Rattle.std.proofs.Common.{rules, ◌≡◌, ◌<◌, ◌+◌, ◌∙◌, ◌∷◌, [], length, ap, sym, subst, arith, length-append}
use Rattle.cfi_loader.specs.Ledger.{Ledger}
use Rattle.cfi_engine.specs.Guests.{AreFirstOpened, AreWaiting, IsWaiting}
use Rattle.cfi_engine.proofs.WaitingLemmas.{waiting_push}
use Rattle.cfi_engine.proofs.guests.open_guests.Goals as goal

pub loop-number-preserved : goal.loop-number-preserved
loop-number-preserved g c =
    let items = c.in_ok-push.ensures.items in
    let ran = c.in_ok-open_guest.field-0 in
    let new = c.open_guest.new.loader in
    record {
      opened = c.in_ok-open_guest.ensures.opened;
      admitted = c.in_ok-open_guest.ensures.admitted
          ∙ ap (λ (l : Ledger). record l {
            keeping = record l.keeping { out = new.keeping.out; quiets = new.keeping.quiets };
          }) c.loop-number.invariant.admitted;
      count = omega (arith, ap length items, length-append c.loop-number.runners.items (ran ∷ []));
      waiting = subst AreWaiting (sym items)
          (waiting_push c.loop-number.runners.items ran c.loop-number.invariant.waiting
          (subst (λ number. IsWaiting number ran) (sym c.loop-number.invariant.count) c.in_ok-open_guest.ensures.ok));
    }

pub returns-in_err-push-clause-part : goal.returns-in_err-push-clause-part
returns-in_err-push-clause-part g c =
    let less : c.loop-number.number < length g.N.LoaderName.plan.guests = search rules in
    let first : AreFirstOpened g.N.LoaderName.plan g.N.LoaderName.modules c.open_guest.new.loader = record {
      number = c.loop-number.number + 1;
      most = omega (arith, less);
      opened = c.in_ok-open_guest.ensures.opened;
    } in
    search rules

pub returns-clause-idle : goal.returns-clause-idle
returns-clause-idle g c = λ k d less. (c.loop-number.invariant.waiting k d less).idle
