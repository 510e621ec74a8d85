-- A runner whose guest is told of the run.
use Rattle.std.proofs.Common.{◌≡◌, ◌≤◌, ◌<◌, ◌-◌, ◌+◌, ℕ, List, [], length, slice_index_or, refl, sym, ap, subst, ◌∙◌, arith}
use Rattle.std.proofs.lemmas.Option.{slice_get_within}
use mathlib.Core.List.{IsPrefix}
use Rattle.cfi_aux.specs.declared.modules.Module.{Module}
use Rattle.cfi_loader.specs.Ledger.{Ledger, IsLedger}
use Rattle.cfi_loader.specs.Passes.{heard_from}
use Rattle.cfi_model.specs.Came.{takes_in}
use Rattle.cfi_model.specs.Raw.{Raw}
use Rattle.cfi_model.specs.Words.{no_entry}
use Rattle.cfi_plan.specs.declared.plan.Plan.{Plan}
use Rattle.cfi_runner.specs.Seen.{IsSight, policy_seen}
use Rattle.cfi_runner.proofs.SeenLemmas.{policy_later}
use Rattle.cfi_valid.specs.Journal.{members_of}
use Rattle.cfi_tables.specs.Key.{Key}
use Rattle.cfi_tables.specs.Views.{noted}
use Rattle.cfi_tables.specs.declared.view.PassView.{PassView}
use Rattle.cfi_tables.proofs.Prefixes.{prefix_same, prefix_trans}
use Rattle.cfi_unit.specs.declared.log.Log.{Log}
use Rattle.cfi_valid.specs.Growth.{IsLater}
use Rattle.cfi_valid.specs.Log.{IsLogged}
use Rattle.cfi_word.specs.declared.limits.TheConstants.{GUESTS}
use Rattle.cfi_guest_part.specs.Ran.{IsOpenedAs}
use Rattle.cfi_guest_run.specs.Runner.{IsRunnerBy, SeesOn}
use Rattle.cfi_guest_run.specs.Serving.{IsPassTold}
use Rattle.cfi_guest_run.specs.Settled.{FitsSettled, IsSettled}
use Rattle.cfi_guest_run.proofs.PathLemmas.{due_later}
use Rattle.cfi_guest_run.proofs.SeesLemmas.{on_noted, runner_on}
use Rattle.cfi_guest_run.proofs.ServeLemmas.{opened_later}
use Rattle.cfi_guest_run.proofs.ToldLemmas.{ends_later, logged_later}

-- a ledger after a note is one
pub heard_ledger : (k : Key) (plan : Plan) (modules : List Module) (p : PassView) (l : Ledger)
    → IsLedger k plan modules l → IsLedger k plan modules (heard_from p l)
heard_ledger k plan modules p l is = record {
  plan_is = is.plan_is;
  modules_are = is.modules_are;
  can_start = is.can_start;
  tables_are = is.tables_are;
  course = is.course;
  policies = is.policies;
  entries = is.entries;
  told = record {
    tables = is.told.tables;
    epoch = is.told.epoch;
    policy = is.told.policy;
    images = is.told.images;
    marks = is.told.marks;
    epochs = is.told.epochs;
    refusals = is.told.refusals;
    guests = is.told.guests;
  };
  script = is.script;
}

same_number : (first len : ℕ) → first + (len - 1) - first ≡ len - 1
same_number first len = omega arith

-- a pass that was told of a ledger
module _ (k : Key) (plan : Plan) (modules : List Module) (l : Ledger) (p : PassView)
    (is : IsLedger k plan modules l) where
  pub told_policy : policy_seen k (noted k l.keeping p).sight ≡ l.course.end.policy
  told_policy =
      ap (λ n. (slice_index_or l.keeping.entries n no_entry).policy) (same_number k.first (length l.keeping.entries))
      ∙ sym is.told.policy

  pub told_settled : IsSettled k plan modules (noted k l.keeping p).sight l
  told_settled = record {
    ledger = is;
    entries = prefix_same l.keeping.entries;
    force = omega (arith, is.told.epoch);
    refusals = prefix_same l.keeping.refusals;
  }

  -- a log that fits the ledger fits what it has settled
  pub told_fits : (guest : ℕ) (log : List Log) → IsLogged l.course guest log
      → FitsSettled k (noted k l.keeping p).sight guest l log
  told_fits guest log logged = record {
    told = log;
    logged = logged;
    more = [];
    between = omega (arith, told_policy);
    is = refl;
  }

module _ (k : Key) (plan : Plan) (modules : List Module) (p : PassView) (r : Raw) (l m : Ledger)
    (was : IsRunnerBy k plan modules p r l) (seen : IsSight k p.sight) (is : IsLedger k plan modules m)
    (told : IsPassTold k plan modules m p (noted k m.keeping p)) where
  abbrev n : PassView
  n = noted k m.keeping p

  on : SeesOn k p n
  on = on_noted k m.keeping p is.told.tables told.agrees seen

  begins : IsPrefix l.keeping.entries m.keeping.entries
  begins =
      prefix_trans l.keeping.entries p.sight.entries m.keeping.entries was.settled.entries told.agrees.begins

  refused : IsPrefix l.keeping.refusals m.keeping.refusals
  refused =
      prefix_trans l.keeping.refusals p.sight.refusals m.keeping.refusals was.settled.refusals told.agrees.refused

  later : IsLater l.course.end m.course.end
  later = ends_later k plan modules l m was.settled.ledger is begins refused

  -- the guest is one of the plan
  pub planned : p.guest < length plan.guests
  planned =
      let within = slice_get_within l.course.plan.guests p.guest was.path.opened.entry was.path.opened.entry_is in
      omega (arith, within, ap (λ (a : Plan). length a.guests) was.settled.ledger.plan_is)

  seat : p.guest < GUESTS
  seat =
      let most = is.can_start.most_guests in
      let same = ap (λ (a : Plan). length a.guests) is.plan_is in
      omega (arith, planned, most, same)

  low : policy_seen k p.sight ≤ m.course.end.policy
  low =
      let up = policy_later k p.sight n.sight seen on.sees in
      omega (arith, up, told_policy k plan modules m p is)

  -- all that it has logged fits the run
  pub logged_now : IsLogged m.course p.guest r.base.log
  logged_now =
      logged_later k plan modules l m was.settled.ledger is begins refused p.guest seat p.sight r.base.log was.log low

  pub runner_told : IsRunnerBy k plan modules n r m
  runner_told =
      let kept = runner_on k plan modules p n r on seen l was in
      let path = kept.path in
      record {
        sight = kept.sight;
        settled = told_settled k plan modules m p is;
        last = kept.last;
        path = record {
          start = path.start;
          opened = subst (λ (a : Plan). IsOpenedAs a (members_of m.course.end) n.guest path.start)
              (was.settled.ledger.plan_is ∙ sym is.plan_is)
              (opened_later l.course.plan l.course.end m.course.end later n.guest path.start path.opened);
          starts = path.starts;
          came = path.came;
          loads = path.loads;
          asked = path.asked;
          due = due_later l.course.end m.course.end later (takes_in path.came) path.start path.due;
          is = path.is;
          along = path.along;
        };
        ends = kept.ends;
        log = told_fits k plan modules m p is p.guest r.base.log logged_now;
        logged = kept.logged;
        within = kept.within;
        ready = kept.ready;
      }
