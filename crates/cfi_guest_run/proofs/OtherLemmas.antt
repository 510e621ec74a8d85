-- A runner after a service that needs no loader.
use Rattle.std.proofs.Common.{◌≡◌, ◌≤◌, ◌<◌, ℕ, List, [], ◌∷◌, ◌++◌, length, Some, None, refl, sym, ap, subst, ◌∙◌, arith}
use Rattle.std.proofs.lemmas.List.Elements.{All-nil}
use Rattle.std.proofs.lemmas.List.Sums.{fold-append}
use Rattle.cfi_aux.specs.declared.modules.Module.{Module}
use Rattle.cfi_loader.specs.Ledger.{Ledger}
use Rattle.cfi_model.specs.declared.act.Wait.TheVariants as waits
use Rattle.cfi_model.specs.Data.{LiesInData}
use Rattle.cfi_model.specs.Log.{opens}
use Rattle.cfi_model.specs.Raw.{Raw}
use Rattle.cfi_model.specs.Run.{serve_as, serve_of}
use Rattle.cfi_model.specs.Service.{Ends, Opens, Puts, Quiets, Reply, Service, Unknown, argument, reply_of, served_log, service_of, too_many}
use Rattle.cfi_model.specs.State.{State}
use Rattle.cfi_plan.specs.declared.plan.Plan.{Plan}
use Rattle.cfi_tables.specs.Key.{Key}
use Rattle.cfi_tables.specs.Views.{parked}
use Rattle.cfi_tables.specs.declared.view.PassView.{PassView}
use Rattle.cfi_unit.specs.declared.log.Log.{Log}
use Rattle.cfi_unit.specs.declared.log.Log.TheVariants.{Pick, Open, Cause}
use Rattle.cfi_valid.specs.Growth.{IsLater}
use Rattle.cfi_valid.proofs.GrowthLemmas.{along_later}
use Rattle.cfi_word.specs.declared.limits.TheConstants.{MAX_OPENS}
use Rattle.cfi_word.specs.declared.services.TheConstants.{EXIT, NO_MODULE, OPEN, TOO_MANY}
use Rattle.cfi_guest_run.specs.Runner.{HasAsked, IsRunner, IsServed}
use Rattle.cfi_guest_run.specs.Settled.{ComeBetween, FitsSettled, IsUnplanned, log_with}
use Rattle.cfi_guest_run.specs.Serving.{HasServed}
use Rattle.cfi_guest_run.proofs.OpenLemmas.{asked_runner, asked_waits}
use Rattle.cfi_guest_run.proofs.SeesLemmas.{asked_on, on_parked, on_same, runner_on}
use Rattle.cfi_guest_run.proofs.ServeLemmas.{runner_served}

pub unlogged : (service : Service) (policy : ℕ) (s : State) → served_log service (reply_of 0 TOO_MANY policy []) s ≡ s.log
unlogged Ends policy s = refl
unlogged Puts policy s = refl
unlogged Quiets policy s = refl
unlogged Opens policy s = refl
unlogged Unknown policy s = refl

come_cause : (plan : Plan) (least most : ℕ) (more : List Log) (number cause : ℕ) → IsUnplanned plan number cause
    → ComeBetween plan least most more → ComeBetween plan least most (more ++ Cause number cause ∷ [])
come_cause plan least most [] number cause is come = (is, come)
come_cause plan least most (Pick policy count ∷ more) number cause is come =
    (come.0, come_cause plan policy most more number cause is come.1)
come_cause plan least most (Open asked address policy ∷ more) number cause is come = absurd come
come_cause plan least most (Cause asked why ∷ more) number cause is come =
    (come.0, come_cause plan least most more number cause is come.1)

module _ (k : Key) (plan : Plan) (modules : List Module) (p : PassView) (r : Raw) (number : ℕ)
    (was : IsRunner k plan modules p r) (asked : HasAsked k plan.fuel p r number) where
  abbrev l : Ledger
  l = was.ledger

  wait : r.waits ≡ Some (waits.Service number)
  wait = ap (λ x. x.waits) asked.run.pauses.0 ∙ asked.run.pauses.1

  stays : IsLater l.course.end l.course.end
  stays = along_later l.course.plan l.course.modules l.course.end l.course.end [] refl

  -- one that finds too many opens, or looks at no answer
  pub served_unlogged : (policy : ℕ) → (number ≡ OPEN → MAX_OPENS ≤ opens r.base.log)
      → IsServed k plan modules p (serve_of r (reply_of 0 TOO_MANY policy []))
  served_unlogged policy many =
      let reply : Reply = reply_of 0 TOO_MANY policy [] in
      let same = ap (λ w. (serve_as w r reply).base.log) wait ∙ unlogged (service_of number) policy r.base in (
        l,
        runner_served k plan modules p p r number asked (on_same k p asked.sees.sees.is) l l was.is was.is.settled stays
            reply (record {
              fits = λ asks. record {
                answer = record {
                  inside = All-nil LiesInData;
                  few = λ other. absurd (other refl);
                  rises = λ free. absurd (omega (arith, free));
                  most = λ free. absurd (omega (arith, free));
                };
                exact = λ few. absurd (omega (arith, few, many asks));
              };
              known = λ free. absurd (omega (arith, free));
            }) (λ free. absurd (omega (arith, free)))
            (subst (FitsSettled k p.sight p.guest l) (sym same) was.is.log),
      )

  -- an open of a module that the plan lacks
  pub served_unplanned : (policy : ℕ) → number ≡ OPEN → opens r.base.log < MAX_OPENS
      → length plan.modules ≤ argument r.base
      → IsServed k plan modules p (serve_of r (reply_of 0 NO_MODULE policy []))
  served_unplanned policy open_is few past =
      let reply : Reply = reply_of 0 NO_MODULE policy [] in
      let one : Log = Cause (argument r.base) NO_MODULE in
      let log_is : (serve_of r reply).base.log ≡ r.base.log ++ one ∷ [] =
      ap (λ w. (serve_as w r reply).base.log) (wait ∙ ap (λ n. Some (waits.Service n)) open_is) in
      let fits = was.is.log in
      let unplanned : IsUnplanned l.course.plan (argument r.base) NO_MODULE = record {
        is = refl;
        past = omega (arith, past, ap (λ (a : Plan). length a.modules) was.is.settled.ledger.plan_is);
      } in (
        l,
        runner_served k plan modules p p r number asked (on_same k p asked.sees.sees.is) l l was.is was.is.settled stays
            reply (record {
              fits = λ asks. record {
                answer = record {
                  inside = All-nil LiesInData;
                  few = λ other. few;
                  rises = λ free. absurd (omega (arith, free));
                  most = λ free. absurd (omega (arith, free));
                };
                exact = λ less same. absurd (omega (arith, same));
              };
              known = λ free. absurd (omega (arith, free));
            }) (λ free. absurd (omega (arith, free)))
            (record {
              told = fits.told;
              logged = fits.logged;
              more = fits.more ++ one ∷ [];
              between = come_cause l.course.plan _ _ fits.more (argument r.base) NO_MODULE unplanned fits.between;
              is = log_is
                  ∙ (ap (λ (xs : List Log). xs ++ one ∷ []) fits.is
                  ∙ sym (fold-append log_with fits.told fits.more (one ∷ [])));
            }),
      )

-- ---- a guest parks, and leaves

pub asked_parked : (k : Key) (fuel : ℕ) (p : PassView) (r : Raw) (number : ℕ) → HasAsked k fuel p r number
    → HasAsked k fuel (parked p) r number
asked_parked k fuel p r number asked =
    asked_on k fuel p (parked p) r number (on_parked k p asked.sees.sees.is) asked

pub runner_parked : (k : Key) (plan : Plan) (modules : List Module) (p : PassView) (r : Raw) (number : ℕ)
    → IsRunner k plan modules p r → HasAsked k plan.fuel p r number → IsRunner k plan modules (parked p) r
runner_parked k plan modules p r number was asked =
    let seen = asked.sees.sees.is in
    asked_runner k plan modules (parked p) r number was.ledger (asked_parked k plan.fuel p r number asked)
    (runner_on k plan modules p (parked p) r (on_parked k p seen) seen was.ledger was.is)

-- it waits for nothing when its service has ended
pub served_idle : (k : Key) (fuel : ℕ) (p : PassView) (r new : Raw) (number : ℕ) → HasAsked k fuel p r number
    → HasServed r new → new.waits ≡ None
served_idle k fuel p r new number asked served =
    ap (λ (x : Raw). x.waits) served.is
    ∙ ap (λ w. (serve_as w r served.reply).waits) (asked_waits k fuel p r number asked)

-- one that looks at no answer has ended
pub served_other : (k : Key) (plan : Plan) (modules : List Module) (p : PassView) (r new : Raw) (number : ℕ)
    → IsRunner k plan modules p r → HasAsked k plan.fuel p r number → (number ≡ OPEN → ⊥)
    → new ≡ serve_of r too_many → IsServed k plan modules (parked p) new
served_other k plan modules p r new number was asked other is =
    subst (λ (x : Raw). IsServed k plan modules (parked p) x) (sym is)
    (served_unlogged k plan modules (parked p) r number (runner_parked k plan modules p r number was asked)
    (asked_parked k plan.fuel p r number asked) 0 (λ same. absurd (other same)))

-- and one that exits has stopped
pub served_exit : (k : Key) (plan : Plan) (modules : List Module) (p : PassView) (r new : Raw) (number : ℕ)
    → IsRunner k plan modules p r → HasAsked k plan.fuel p r number → (number ≡ OPEN → ⊥) → number ≡ EXIT
    → new ≡ serve_of r too_many → IsRunner k plan modules (parked p) new
served_exit k plan modules p r new number was asked other exits is =
    let ended = served_other k plan modules p r new number was asked other is in
    let stop : new.base.stop ≡ (serve_as (Some (waits.Service EXIT)) r too_many).base.stop =
    ap (λ (x : Raw). x.base.stop) is
    ∙ ap (λ w. (serve_as w r too_many).base.stop)
    (asked_waits k plan.fuel p r number asked ∙ ap (λ n. Some (waits.Service n)) exits) in
    record {
      ledger = ended.0;
      is = ended.1.is;
      outside = λ going idle. absurd (some_none (sym stop ∙ going));
    }
  where
    some_none : {A : Type 0} {x : A} → Some x ≡ None → ⊥
    some_none e = absurd (cc)
