-- A runner after a run of its guest.
use Rattle.std.proofs.Common.{◌≡◌, ℕ, Some, None, List, ◌++◌, sym, ap, subst, ◌∙◌, arith, inl, inr}
use mathlib.Core.List.{IsPrefix}
use Rattle.cfi_aux.specs.declared.modules.Module.{Module}
use Rattle.cfi_loader.specs.Ledger.{Ledger}
use Rattle.cfi_model.specs.declared.history.Access.{Access}
use Rattle.cfi_model.specs.declared.act.Wait.TheVariants as waits
use Rattle.cfi_model.specs.Came.{AreAskedBehind, Came, loads_in, takes_in}
use Rattle.cfi_model.specs.Fits.{Along}
use Rattle.cfi_model.specs.Raw.{Raw}
use Rattle.cfi_model.specs.Run.{Take, run_of}
use Rattle.cfi_model.proofs.SnocLemmas.{along_append, run_append}
use Rattle.cfi_plan.specs.declared.plan.Plan.{Plan}
use Rattle.cfi_runner.specs.Run.{CanRunOn, HasRunOn, PausesAt, words_found}
use Rattle.cfi_runner.specs.Seen.{history_seen, code_seen}
use Rattle.cfi_runner.specs.declared.pause.Pause.{Pause}
use Rattle.cfi_runner.specs.declared.pause.Pause.TheVariants as pauses
use Rattle.cfi_runner.proofs.SeenLemmas.{sees_trans, start_later}
use Rattle.cfi_valid.specs.Journal.{members_of}
use Rattle.cfi_tables.specs.Key.{Key}
use Rattle.cfi_tables.specs.declared.view.PassView.{PassView}
use Rattle.cfi_tables.proofs.Prefixes.{prefix_trans}
use Rattle.cfi_unit.specs.declared.log.Stop.{Stop}
use Rattle.cfi_unit.specs.declared.log.Stop.TheVariants as stops
use Rattle.cfi_guest_part.specs.Ran.{IsOpenedAs}
use Rattle.cfi_guest_run.specs.Path.{AreDue, IsPath}
use Rattle.cfi_guest_part.specs.Part.{IsEndOf}
use Rattle.cfi_guest_run.specs.Runner.{IsRunner, IsRunnerBy}
use Rattle.cfi_guest_run.specs.Settled.{FitsSettled}
use Rattle.cfi_guest_run.proofs.CameLemmas.{all_loaded, asked_append, asked_loaded, last_came, loads_append, loads_loaded, takes_append, takes_loaded}
use Rattle.cfi_guest_run.proofs.PathLemmas.{due_append, due_words}
use Rattle.cfi_guest_run.proofs.SettledLemmas.{fits_picked}

-- a guest that has not stopped is where the raw machine is
pub end_going : (last r : Raw) → IsEndOf last r → r.base.stop ≡ None → r ≡ last
end_going last r (inl same) going = same
end_going last r (inr spent) going =
    absurd (some_none stops.Fuel (sym (ap (λ x. x.base.stop) spent.is) ∙ going))
  where
    some_none : (stop : Stop) → Some stop ≡ None → ⊥
    some_none stop e = absurd (cc)

-- where a run pauses
pub end_at : (fuel : ℕ) (last new : Raw) (pause : Pause) → PausesAt pause fuel last new → IsEndOf last new
end_at fuel last new (pauses.Service number) at = inl at.0
end_at fuel last new (pauses.Halt target) at = inl at.0
end_at fuel last new (pauses.Align address) at = inl at.0
end_at fuel last new pauses.Fuel at = inr at.0

-- by its last state it waits, has stopped by itself, or has run its fuel
spent_at : (fuel : ℕ) (last new : Raw) (pause : Pause) → PausesAt pause fuel last new
    → new.base.stop ≡ Some stops.Fuel → new.base.steps ≡ fuel
spent_at fuel last new (pauses.Service number) at is =
    absurd (apart (sym (ap (λ r. r.base.stop) at.0 ∙ at.2) ∙ is))
  where
    apart : None ≡ Some stops.Fuel → ⊥
    apart e = absurd (cc)
spent_at fuel last new (pauses.Halt target) at is =
    absurd (apart (sym (ap (λ r. r.base.stop) at.0 ∙ at.2) ∙ is))
  where
    apart : Some (stops.Halt target) ≡ Some stops.Fuel → ⊥
    apart e = absurd (cc)
spent_at fuel last new (pauses.Align address) at is =
    absurd (apart (sym (ap (λ r. r.base.stop) at.0 ∙ at.2) ∙ is))
  where
    apart : Some (stops.Align address) ≡ Some stops.Fuel → ⊥
    apart e = absurd (cc)
spent_at fuel last new pauses.Fuel at is = ap (λ r. r.base.steps) at.0.is ∙ at.1

never_idle : (fuel : ℕ) (last new : Raw) (pause : Pause) → PausesAt pause fuel last new → new.base.stop ≡ None
    → new.waits ≡ None → ⊥
never_idle fuel last new (pauses.Service number) at going idle =
    absurd (apart (sym (ap (λ r. r.waits) at.0 ∙ at.1) ∙ idle))
  where
    apart : Some (waits.Service number) ≡ None → ⊥
    apart e = absurd (cc)
never_idle fuel last new (pauses.Halt target) at going idle =
    absurd (apart (sym (ap (λ r. r.base.stop) at.0 ∙ at.2) ∙ going))
  where
    apart : Some (stops.Halt target) ≡ None → ⊥
    apart e = absurd (cc)
never_idle fuel last new (pauses.Align address) at going idle =
    absurd (apart (sym (ap (λ r. r.base.stop) at.0 ∙ at.2) ∙ going))
  where
    apart : Some (stops.Align address) ≡ None → ⊥
    apart e = absurd (cc)
never_idle fuel last new pauses.Fuel at going idle =
    absurd (apart (sym (ap (λ r. r.base.stop) at.0.is) ∙ going))
  where
    apart : Some stops.Fuel ≡ None → ⊥
    apart e = absurd (cc)

module _ (k : Key) (plan : Plan) (modules : List Module) (p q : PassView) (old new : Raw) (pause : Pause)
    (can : CanRunOn k plan.fuel p old) (run : HasRunOn k plan.fuel p q old new pause) (l : Ledger)
    (was : IsRunnerBy k plan modules p old l) where
  abbrev accesses : List Access
  accesses = run.taken.accesses

  abbrev path : IsPath k l.course p was.last
  path = was.path

  -- where the guest was
  here : old ≡ run_of path.start (takes_in path.came)
  here = end_going was.last old was.ends can.going ∙ path.is

  abbrev more : List Came
  more = path.came ++ all_loaded accesses

  takes_are : takes_in path.came ++ words_found accesses ≡ takes_in more
  takes_are =
      sym (takes_append path.came (all_loaded accesses)
      ∙ ap (λ (l : List Take). takes_in path.came ++ l) (takes_loaded k.code_words accesses old run.taken.asked))

  path_run : IsPath k l.course q run.last
  path_run = record {
    start = path.start;
    opened = subst (λ g. IsOpenedAs l.course.plan (members_of l.course.end) g path.start) (sym run.keeps.guest) path.opened;
    starts = start_later k p.sight q.sight can.sight run.keeps.sees path.start.base.pc path.starts;
    came = more;
    loads = loads_append path.came (all_loaded accesses)
        ∙ ap (λ (l : List Access). loads_in path.came ++ l) (loads_loaded accesses)
        ∙ ap (λ (l : List Access). l ++ accesses) path.loads
        ∙ sym run.taken.appended;
    asked = asked_append k.code_words None path.came (all_loaded accesses) path.start path.asked
        (subst (λ r. AreAskedBehind k.code_words (last_came None path.came) r (all_loaded accesses)) here
        (asked_loaded k.code_words (last_came None path.came) accesses old run.taken.asked));
    due = subst (AreDue l.course.end path.start) takes_are
        (due_append l.course.end (takes_in path.came) (words_found accesses) path.start path.due
        (due_words l.course.end accesses (run_of path.start (takes_in path.came))));
    is = run.taken.is
        ∙ (ap (λ r. run_of r (words_found accesses)) here
        ∙ (sym (run_append (takes_in path.came) (words_found accesses) path.start) ∙ ap (run_of path.start) takes_are));
    along = λ later sees.
        subst (Along (history_seen k later) (code_seen k later) path.start) takes_are
        (along_append (history_seen k later) (code_seen k later) (takes_in path.came) (words_found accesses) path.start
        (path.along later (sees_trans k p.sight q.sight later run.keeps.sees sees))
        (subst (λ r. Along (history_seen k later) (code_seen k later) r (words_found accesses)) here
        (run.taken.along later sees)));
  }

  pub runner_run : IsRunnerBy k plan modules q new l
  runner_run = record {
    sight = run.keeps.sees.is;
    settled = record {
      ledger = was.settled.ledger;
      entries = prefix_trans l.keeping.entries p.sight.entries q.sight.entries was.settled.entries
          run.keeps.sees.entries;
      force = omega (arith, was.settled.force, run.keeps.sees.latest);
      refusals = subst (IsPrefix l.keeping.refusals) (sym run.keeps.refusals) was.settled.refusals;
    };
    last = run.last;
    path = path_run;
    ends = end_at plan.fuel run.last new pause run.pauses;
    log = subst (λ g. FitsSettled k q.sight g l new.base.log) (sym run.keeps.guest)
        (fits_picked k p.sight q.sight p.guest l old.base.log new.base.log was.log run.picked);
    logged = run.logged;
    within = record {
      most = run.within;
      spent = spent_at plan.fuel run.last new pause run.pauses;
    };
    ready = λ going idle. absurd (never_idle plan.fuel run.last new pause run.pauses going idle);
  }

  -- one that runs on is in no service, and this one has paused
  pub runner_paused : IsRunner k plan modules q new
  runner_paused = record {
    ledger = l;
    is = runner_run;
    outside = λ going idle. absurd (never_idle plan.fuel run.last new pause run.pauses going idle);
  }
