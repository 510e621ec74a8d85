-- A runner after the quiescent point that ends a service of its guest.
use Rattle.std.proofs.Common.{◌≡◌, ℕ, None, List, [], ◌∷◌, ◌++◌, inl, inr, refl, sym, ap, subst, ◌∙◌, append-nil}
use mathlib.Core.List.{IsPrefix}
use Rattle.cfi_aux.specs.declared.modules.Module.{Module}
use Rattle.cfi_model.specs.declared.history.Access.{Access}
use Rattle.cfi_model.specs.Came.{Came, Ended, IsPoint, Loaded, takes_in}
use Rattle.cfi_model.specs.Fits.{Along}
use Rattle.cfi_model.specs.Raw.{Raw}
use Rattle.cfi_model.specs.Run.{Take, run_of}
use Rattle.cfi_plan.specs.declared.plan.Plan.{Plan}
use Rattle.cfi_runner.specs.Seen.{SeesMore, code_seen, history_seen}
use Rattle.cfi_runner.proofs.OpenedLemmas.{quiet_sees}
use Rattle.cfi_runner.proofs.SeenLemmas.{sees_trans, start_later}
use Rattle.cfi_loader.specs.Ledger.{Ledger}
use Rattle.cfi_valid.specs.Journal.{members_of}
use Rattle.cfi_tables.specs.Key.{Key}
use Rattle.cfi_tables.specs.Loads.{IsQuiet, access_of}
use Rattle.cfi_tables.specs.Views.{last_moment}
use Rattle.cfi_tables.specs.declared.view.PassView.{PassView}
use Rattle.cfi_tables.proofs.Prefixes.{prefix_same}
use Rattle.cfi_word.specs.Table as places
use Rattle.cfi_guest_part.specs.Part.{IsEndOf}
use Rattle.cfi_guest_part.specs.Ran.{IsOpenedAs}
use Rattle.cfi_guest_run.specs.Path.{AreDue, IsPath}
use Rattle.cfi_guest_run.specs.Runner.{HasEnded, IsRunner, IsRunnerBy}
use Rattle.cfi_guest_run.proofs.CameLemmas.{asked_append, brings_none, last_came, last_snoc, loads_append, takes_append}
use Rattle.cfi_guest_run.proofs.SeesLemmas.{runner_with}

-- the raw machine waits for nothing where its guest does not
idle_at : (last r : Raw) → IsEndOf last r → r.waits ≡ None → last.waits ≡ None
idle_at last r (inl same) idle = ap (λ (x : Raw). x.waits) (sym same) ∙ idle
idle_at last r (inr spent) idle = spent.idle

module _ (k : Key) (plan : Plan) (modules : List Module) (p q : PassView) (r : Raw) (l : Ledger)
    (ended : HasEnded k plan modules p r l) (idle : r.waits ≡ None) (epoch : ℕ) (quiet : IsQuiet k epoch p q) where
  abbrev was : IsRunnerBy k plan modules p r l
  was = ended.is

  abbrev path : IsPath k l.course p was.last
  path = was.path

  abbrev access : Access
  access = access_of k.code_words places.Epoch quiet.found (last_moment k q.sight)

  sees : SeesMore k p.sight q.sight
  sees = quiet_sees k epoch p q quiet was.sight

  abbrev more : List Came
  more = path.came ++ Loaded access ∷ []

  takes_are : takes_in path.came ≡ takes_in more
  takes_are =
      sym (takes_append path.came (Loaded access ∷ [])
      ∙ ap (λ (l : List Take). takes_in path.came ++ (l ++ [])) (brings_none access refl)
      ∙ append-nil (takes_in path.came))

  point : IsPoint (last_came None path.came) (run_of path.start (takes_in path.came)) access
  point = record {
    is = refl;
    reply = ended.reply;
    behind = ap (last_came None) ended.last ∙ last_snoc None ended.front (Ended ended.reply);
    idle = ap (λ (x : Raw). x.waits) (sym path.is) ∙ idle_at was.last r was.ends idle;
  }

  path_point : IsPath k l.course q was.last
  path_point = record {
    start = path.start;
    opened = subst (λ g. IsOpenedAs l.course.plan (members_of l.course.end) g path.start) (sym quiet.load.guest) path.opened;
    starts = start_later k p.sight q.sight was.sight sees path.start.base.pc path.starts;
    came = more;
    loads = loads_append path.came (Loaded access ∷ [])
        ∙ ap (λ (l : List Access). l ++ access ∷ []) path.loads
        ∙ sym quiet.load.now.accesses;
    asked = asked_append k.code_words None path.came (Loaded access ∷ []) path.start path.asked (inr point, tt);
    due = subst (AreDue l.course.end path.start) takes_are path.due;
    is = path.is ∙ ap (run_of path.start) takes_are;
    along = λ later on.
        subst (Along (history_seen k later) (code_seen k later) path.start) takes_are
        (path.along later (sees_trans k p.sight q.sight later sees on));
  }

  pub runner_point : IsRunner k plan modules q r
  runner_point = record {
    ledger = l;
    is = runner_with k plan modules p q r quiet.load.guest sees
        (subst (IsPrefix p.sight.refusals) (sym quiet.load.refusals) (prefix_same p.sight.refusals)) was.sight l was
        path_point;
    outside = λ going still. quiet.parked;
  }
