-- A runner whose pass sees more.
use Rattle.std.proofs.Common.{◌≡◌, ◌≤◌, ℕ, List, refl, sym, subst, ◌∙◌, arith}
use mathlib.Core.List.{IsPrefix}
use Rattle.cfi_aux.specs.declared.modules.Module.{Module}
use Rattle.cfi_model.specs.Raw.{Raw}
use Rattle.cfi_model.specs.Tables.{IsTables}
use Rattle.cfi_plan.specs.declared.plan.Plan.{Plan}
use Rattle.cfi_runner.specs.Run.{CanRunOn}
use Rattle.cfi_runner.specs.Seen.{IsSight, SeesMore, policy_seen}
use Rattle.cfi_runner.proofs.OpenedLemmas.{noted_sees}
use Rattle.cfi_runner.proofs.SeenLemmas.{policy_later, sees_same, sees_trans, start_later}
use Rattle.cfi_loader.specs.Ledger.{Ledger}
use Rattle.cfi_valid.specs.Journal.{members_of}
use Rattle.cfi_tables.specs.Keeping.{Keeping}
use Rattle.cfi_tables.specs.Key.{Key}
use Rattle.cfi_tables.specs.Rule.{AgreesWith}
use Rattle.cfi_tables.specs.Views.{noted, parked, tables_with}
use Rattle.cfi_tables.specs.declared.view.PassView.{PassView}
use Rattle.cfi_tables.proofs.Prefixes.{prefix_same, prefix_trans}
use Rattle.cfi_guest_part.specs.Ran.{IsOpenedAs}
use Rattle.cfi_valid.specs.Course.{Course}
use Rattle.cfi_guest_run.specs.Path.{IsPath}
use Rattle.cfi_guest_run.specs.Runner.{IsRunnerBy, SeesOn, HasAsked}
use Rattle.cfi_guest_run.specs.Settled.{FitsSettled, IsSettled}
use Rattle.cfi_guest_run.proofs.SettledLemmas.{fits_wide}

-- ---- a pass sees on

pub on_same : (k : Key) (p : PassView) → IsSight k p.sight → SeesOn k p p
on_same k p is = record {
  guest = refl;
  sees = sees_same k p.sight is;
  refusals = prefix_same p.sight.refusals;
  accesses = refl;
}

pub on_trans : (k : Key) (a b c : PassView) → SeesOn k a b → SeesOn k b c → SeesOn k a c
on_trans k a b c one other = record {
  guest = other.guest ∙ one.guest;
  sees = sees_trans k a.sight b.sight c.sight one.sees other.sees;
  refusals = prefix_trans a.sight.refusals b.sight.refusals c.sight.refusals one.refusals other.refusals;
  accesses = other.accesses ∙ one.accesses;
}

-- where its guest parks
pub on_parked : (k : Key) (p : PassView) → IsSight k p.sight → SeesOn k p (parked p)
on_parked k p is = record {
  guest = refl;
  sees = sees_same k p.sight is;
  refusals = prefix_same p.sight.refusals;
  accesses = refl;
}

-- with a note
pub on_noted : (k : Key) (keeping : Keeping) (p : PassView) → IsTables (tables_with k keeping.entries)
    → AgreesWith k keeping.entries keeping.refusals p.sight → IsSight k p.sight → SeesOn k p (noted k keeping p)
on_noted k keeping p tables agrees is = record {
  guest = refl;
  sees = noted_sees k keeping p tables agrees is;
  refusals = agrees.refused;
  accesses = refl;
}

-- ---- what came to a guest then

pub path_on : (k : Key) (c : Course) (p q : PassView) (last : Raw) → IsPath k c p last → SeesOn k p q
    → IsSight k p.sight → IsPath k c q last
path_on k c p q last path on is = record {
  start = path.start;
  opened = subst (λ g. IsOpenedAs c.plan (members_of c.end) g path.start) (sym on.guest) path.opened;
  starts = start_later k p.sight q.sight is on.sees path.start.base.pc path.starts;
  came = path.came;
  loads = path.loads ∙ sym on.accesses;
  asked = path.asked;
  due = path.due;
  is = path.is;
  along = λ later sees. path.along later (sees_trans k p.sight q.sight later on.sees sees);
}

-- ---- what a runner keeps then

module _ (k : Key) (plan : Plan) (modules : List Module) (p q : PassView) (r : Raw) (guest : q.guest ≡ p.guest)
    (sees : SeesMore k p.sight q.sight) (refusals : IsPrefix p.sight.refusals q.sight.refusals)
    (is : IsSight k p.sight) where
  settled_on : (l : Ledger) → IsSettled k plan modules p.sight l → IsSettled k plan modules q.sight l
  settled_on l was = record {
    ledger = was.ledger;
    entries = prefix_trans l.keeping.entries p.sight.entries q.sight.entries was.entries sees.entries;
    force = omega (arith, was.force, sees.latest);
    refusals = prefix_trans l.keeping.refusals p.sight.refusals q.sight.refusals was.refusals refusals;
  }

  up : policy_seen k p.sight ≤ policy_seen k q.sight
  up = policy_later k p.sight q.sight is sees

  can_on : (fuel : ℕ) → CanRunOn k fuel p r → CanRunOn k fuel q r
  can_on fuel can = record {
    sight = sees.is;
    going = can.going;
    idle = can.idle;
    fresh = can.fresh;
    ready = record {
      zero_is = can.ready.zero_is;
      start = λ going. start_later k p.sight q.sight is sees r.base.pc (can.ready.start going);
    };
    logged = omega (arith, can.logged, up);
    within = can.within;
  }

  -- with the path of what came by then
  pub runner_with : (l : Ledger) (was : IsRunnerBy k plan modules p r l) → IsPath k l.course q was.last
      → IsRunnerBy k plan modules q r l
  runner_with l was path = record {
    sight = sees.is;
    settled = settled_on l was.settled;
    last = was.last;
    path = path;
    ends = was.ends;
    log = subst (λ g. FitsSettled k q.sight g l r.base.log) (sym guest)
        (fits_wide k p.sight q.sight p.guest l r.base.log was.log up);
    logged = omega (arith, was.logged, up);
    within = was.within;
    ready = λ going idle. can_on plan.fuel (was.ready going idle);
  }

pub runner_on : (k : Key) (plan : Plan) (modules : List Module) (p q : PassView) (r : Raw) → SeesOn k p q
    → IsSight k p.sight → (l : Ledger) → IsRunnerBy k plan modules p r l → IsRunnerBy k plan modules q r l
runner_on k plan modules p q r on is l was =
    runner_with k plan modules p q r on.guest on.sees on.refusals is l was
    (path_on k l.course p q was.last was.path on is)

-- what was asked for still is
pub asked_on : (k : Key) (fuel : ℕ) (p q : PassView) (r : Raw) (number : ℕ) → SeesOn k p q → HasAsked k fuel p r number
    → HasAsked k fuel q r number
asked_on k fuel p q r number on asked = record {
  before = asked.before;
  old = asked.old;
  can = asked.can;
  then = asked.then;
  run = asked.run;
  sees = on_trans k asked.then p q asked.sees on;
}
