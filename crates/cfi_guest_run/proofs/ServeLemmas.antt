-- A runner after a service of its guest.
use Rattle.std.proofs.Common.{◌≡◌, ◌≤◌, ℕ, Some, None, List, [], ◌∷◌, ◌++◌, refl, sym, ap, subst, ◌∙◌, arith, inl, append-nil}
use Rattle.cfi_aux.specs.declared.modules.Module.{Module}
use Rattle.cfi_model.specs.declared.act.Wait.TheVariants as waits
use Rattle.cfi_model.specs.Came.{Came, Ended, loads_in, takes_in}
use Rattle.cfi_model.specs.Fits.{Along, Fits, FitsReply}
use Rattle.cfi_model.specs.History.{History}
use Rattle.cfi_model.specs.Log.{last_policy, picked}
use Rattle.cfi_model.specs.Raw.{Raw}
use Rattle.cfi_model.specs.Run.{Served, run_of, serve_as, serve_of}
use Rattle.cfi_model.specs.Service.{Ends, Opens, Puts, Quiets, Reply, Service, Unknown, service_of, served_stop}
use Rattle.cfi_model.specs.State.{State}
use Rattle.cfi_model.proofs.LogLemmas.{policy_push}
use Rattle.cfi_model.proofs.PickLemmas.{picked_is}
use Rattle.cfi_model.proofs.SnocLemmas.{along_snoc, run_snoc}
use Rattle.cfi_plan.specs.declared.plan.Plan.{Plan}
use Rattle.cfi_runner.specs.Laws.{MayServe}
use Rattle.cfi_runner.specs.Seen.{SeesMore, history_seen, code_seen, policy_seen}
use Rattle.cfi_runner.proofs.HandLemmas.{hands_on}
use Rattle.cfi_runner.proofs.SeenLemmas.{sees_trans}
use Rattle.cfi_loader.specs.Ledger.{Ledger}
use Rattle.cfi_tables.specs.Key.{Key}
use Rattle.cfi_tables.specs.declared.view.PassView.{PassView}
use Rattle.cfi_tables.specs.declared.view.Sight.{Sight}
use Rattle.cfi_unit.specs.declared.log.Log.{Log}
use Rattle.cfi_unit.specs.declared.log.Log.TheVariants.{Pick, Open, Cause}
use Rattle.cfi_unit.specs.declared.log.Stop.TheVariants as stops
use Rattle.cfi_valid.specs.Growth.{IsLater}
use Rattle.cfi_valid.specs.Journal.{members_of, JournalState}
use Rattle.cfi_valid.specs.Loaded.{Filled}
use Rattle.cfi_valid.proofs.GuestLemmas.{guest_begins_later}
use Rattle.cfi_valid.proofs.GrowthLemmas.{loaded_stays, start_fills_stay}
use Rattle.cfi_model.specs.Raw.{raw_opened}
use Rattle.cfi_guest_part.specs.Ran.{IsOpenedAs}
use Rattle.cfi_guest_run.specs.Path.{AreDue, IsDueWith, IsPath}
use Rattle.cfi_guest_run.specs.Runner.{HasAsked, HasEnded, IsRunnerBy, SeesOn}
use Rattle.cfi_guest_run.specs.Settled.{ComeBetween, FitsSettled, IsSettled, log_with_all}
use Rattle.cfi_guest_run.proofs.CameLemmas.{asked_append, loads_append, takes_append}
use Rattle.cfi_guest_run.proofs.PathLemmas.{due_append, due_later}
use Rattle.cfi_guest_run.proofs.SeesLemmas.{path_on}
use Rattle.cfi_guest_run.proofs.RunLemmas.{end_going}

-- ---- where a guest begins

pub opened_later : (plan : Plan) (old new : JournalState) → IsLater old new → (number : ℕ) (start : Raw)
    → IsOpenedAs plan (members_of old) number start → IsOpenedAs plan (members_of new) number start
opened_later plan old new later number start opened =
    let same = loaded_stays old new later 0 (omega arith) in
    record {
      entry = opened.entry;
      entry_is = opened.entry_is;
      address = opened.address;
      begins = guest_begins_later plan old.loaded new.loaded same opened.entry opened.address opened.begins;
      is = opened.is
          ∙ ap (raw_opened number opened.address) (sym (start_fills_stay old new later Filled));
    }

-- ---- the policies of a log

come_low : (plan : Plan) (least most : ℕ) (more log : List Log) → ComeBetween plan least most more
    → last_policy log ≤ least → last_policy (log_with_all more log) ≤ most
come_low plan least most [] log come low = omega (arith, come, low)
come_low plan least most (Pick policy count ∷ more) log come low =
    let last = (picked_is log policy).last in
    come_low plan policy most more (picked policy log) come.1 (omega (arith, last))
come_low plan least most (Open number address policy ∷ more) log come low = absurd come
come_low plan least most (Cause number cause ∷ more) log come low =
    let last = policy_push log (Cause number cause) in
    come_low plan least most more (log ++ Cause number cause ∷ []) come.1 (omega (arith, last, low))

fits_low : (k : Key) (s : Sight) (guest : ℕ) (l : Ledger) (log : List Log) → FitsSettled k s guest l log
    → last_policy log ≤ policy_seen k s
fits_low k s guest l log fits =
    subst (λ (xs : List Log). last_policy xs ≤ policy_seen k s) (sym fits.is)
    (come_low l.course.plan l.course.end.policy (policy_seen k s) fits.more fits.told fits.between fits.logged.most)

-- ---- one service

-- it does not spend the fuel
served_unspent : (service : Service) (s : State) → s.stop ≡ None → served_stop service s ≡ Some stops.Fuel → ⊥
served_unspent Ends s going same = absurd (cc)
served_unspent Puts s going same = absurd (cc)
served_unspent Quiets s going same = absurd (cc)
served_unspent Opens s going same = absurd (cc)
served_unspent Unknown s going same = absurd (cc)

fits_served : (h : History) (code : List ℕ) (number : ℕ) (reply : Reply) (r : Raw)
    → r.waits ≡ Some (waits.Service number) → FitsReply (Some (waits.Service number)) r reply
    → Fits h code r (Served reply)
fits_served h code number reply r wait fits = subst (λ w. FitsReply w r reply) (sym wait) fits

module _ (k : Key) (plan : Plan) (modules : List Module) (q n : PassView) (r : Raw) (number : ℕ)
    (asked : HasAsked k plan.fuel q r number) (on : SeesOn k q n) (l m : Ledger)
    (at : IsRunnerBy k plan modules q r l) (settled : IsSettled k plan modules n.sight m)
    (later : IsLater l.course.end m.course.end) (reply : Reply) (may : MayServe k n.sight number reply r)
    (due : IsDueWith m.course.end r (Served reply))
    (log : FitsSettled k n.sight n.guest m (serve_of r reply).base.log) where
  abbrev path : IsPath k l.course n at.last
  path = path_on k l.course q n at.last at.path on asked.sees.sees.is

  wait : r.waits ≡ Some (waits.Service number)
  wait = ap (λ x. x.waits) asked.run.pauses.0 ∙ asked.run.pauses.1

  going : r.base.stop ≡ None
  going = ap (λ x. x.base.stop) asked.run.pauses.0 ∙ asked.run.pauses.2

  here : r ≡ run_of path.start (takes_in path.came)
  here = end_going at.last r at.ends going ∙ path.is

  sees : SeesMore k asked.then.sight n.sight
  sees = sees_trans k asked.then.sight q.sight n.sight asked.sees.sees on.sees

  steps : (serve_of r reply).base.steps ≡ r.base.steps
  steps = ap (λ w. (serve_as w r reply).base.steps) wait

  unspent : (serve_of r reply).base.stop ≡ Some stops.Fuel → ⊥
  unspent same =
      served_unspent (service_of number) r.base going (sym (ap (λ w. (serve_as w r reply).base.stop) wait) ∙ same)

  abbrev more : List Came
  more = path.came ++ Ended reply ∷ []

  takes_are : takes_in path.came ++ Served reply ∷ [] ≡ takes_in more
  takes_are = sym (takes_append path.came (Ended reply ∷ []))

  path_served : IsPath k m.course n (serve_of r reply)
  path_served = record {
    start = path.start;
    opened =
        subst (λ (a : Plan). IsOpenedAs a (members_of m.course.end) n.guest path.start)
        (at.settled.ledger.plan_is ∙ sym settled.ledger.plan_is)
        (opened_later l.course.plan l.course.end m.course.end later n.guest path.start path.opened);
    starts = path.starts;
    came = more;
    loads = loads_append path.came (Ended reply ∷ []) ∙ (append-nil (loads_in path.came) ∙ path.loads);
    asked = asked_append k.code_words None path.came (Ended reply ∷ []) path.start path.asked (tt, tt);
    due = subst (AreDue m.course.end path.start) takes_are
        (due_append m.course.end (takes_in path.came) (Served reply ∷ []) path.start
        (due_later l.course.end m.course.end later (takes_in path.came) path.start path.due)
        (subst (λ x. IsDueWith m.course.end x (Served reply)) here due, tt));
    is = ap (λ x. serve_of x reply) here
        ∙ (sym (run_snoc (takes_in path.came) (Served reply) path.start) ∙ ap (run_of path.start) takes_are);
    along = λ after sees.
        subst (Along (history_seen k after) (code_seen k after) path.start) takes_are
        (along_snoc (history_seen k after) (code_seen k after) (takes_in path.came) (Served reply) path.start
        (path.along after sees)
        (subst (λ x. Fits (history_seen k after) (code_seen k after) x (Served reply)) here
        (fits_served (history_seen k after) (code_seen k after) number reply r wait may.fits)));
  }

  served_by : IsRunnerBy k plan modules n (serve_of r reply) m
  served_by = record {
    sight = sees.is;
    settled = settled;
    last = serve_of r reply;
    path = path_served;
    ends = inl refl;
    log = log;
    logged = fits_low k n.sight n.guest m (serve_of r reply).base.log log;
    within = record {
      most = omega (arith, steps, at.within.most);
      spent = λ same. absurd (unspent same);
    };
    ready = λ going idle.
        hands_on k plan.fuel asked.before asked.then n asked.old r number asked.can asked.run sees reply may going;
  }

  pub runner_served : HasEnded k plan modules n (serve_of r reply) m
  unfolding served_by path_served
  runner_served = record { is = served_by; front = path.came; reply = reply; last = refl }
