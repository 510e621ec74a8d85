-- A runner at its start.
use Rattle.std.proofs.Common.{◌≡◌, ◌-◌, ◌+◌, ℕ, List, [], length, slice_index_or, refl, sym, ap, subst, ◌∙◌, arith, inl}
use Rattle.std.specs.List.{slice_get}
use Rattle.std.specs.Prelude.{Some, None}
use Rattle.cfi_aux.specs.declared.modules.Module.{Module}
use Rattle.cfi_loader.specs.Ledger.{Ledger, IsLedger}
use Rattle.cfi_model.specs.Closed.{IsStartIn}
use Rattle.cfi_model.specs.History.{IsStart}
use Rattle.cfi_model.specs.Raw.{Raw}
use Rattle.cfi_model.specs.Words.{no_entry}
use Rattle.cfi_plan.specs.declared.journal.JournalLine.{JournalLine}
use Rattle.cfi_plan.specs.declared.plan.Plan.{Plan}
use Rattle.cfi_runner.specs.Run.{CanRunOn}
use Rattle.cfi_runner.specs.Seen.{IsSight, history_seen, policy_seen}
use Rattle.cfi_runner.proofs.OpenedLemmas.{all_sight, all_start, opened_can}
use Rattle.cfi_slips.specs.Stubs.{slip_by}
use Rattle.cfi_slips.specs.declared.view.SlipView.{SlipView}
use Rattle.cfi_valid.specs.Journal.{members_of}
use Rattle.cfi_tables.specs.Key.{Key}
use Rattle.cfi_tables.specs.Keeping.{last_of}
use Rattle.cfi_tables.specs.Views.{admitted}
use Rattle.cfi_tables.specs.declared.view.PassView.{PassView}
use Rattle.cfi_tables.proofs.Prefixes.{prefix_same}
use Rattle.cfi_unit.specs.declared.log.Log.{Log}
use Rattle.cfi_unit.specs.declared.log.Log.TheVariants.{Open, Cause}
use Rattle.cfi_unit.specs.declared.log.Stop.TheVariants as stops
use Rattle.cfi_valid.specs.Course.{Course}
use Rattle.cfi_valid.specs.Loaded.{Filled, start_fills}
use Rattle.cfi_valid.specs.Log.{IsLogged}
use Rattle.cfi_guest_part.specs.Ran.{IsOpenedAs}
use Rattle.cfi_guest_run.specs.Answered.{AreAnswered, IsSlipOf}
use Rattle.cfi_guest_run.specs.Runner.{IsOpening, IsRunner, IsRunnerBy}

none_logged : (c : Course) (guest : ℕ) → IsLogged c guest []
none_logged c guest = record {
  rises = tt;
  most = omega arith;
  opens = λ at number address policy is. absurd (nothing at (Open number address policy) is);
  causes = λ at number cause is. absurd (nothing at (Cause number cause) is);
}
  where
    nothing : (at : ℕ) (entry : Log) → slice_get [] at ≡ Some entry → ⊥
    nothing at entry is = absurd (cc)

-- the policy in force is that of the last entry
policy_last : (k : Key) (first len : ℕ) → first + (len - 1) - first ≡ len - 1
policy_last k first len = omega arith

module _ (k : Key) (plan : Plan) (modules : List Module) (guest : ℕ) (start : Raw) (l : Ledger)
    (is : IsLedger k plan modules l) (opened : IsOpenedAs plan (members_of l.course.end) guest start)
    (here : IsStartIn (last_of l.keeping.entries).image start.base.pc) where
  abbrev p : PassView
  p = admitted k l.keeping guest

  sight : IsSight k p.sight
  sight = all_sight k l.keeping [] is.told.tables

  starts : IsStart (history_seen k p.sight) start.base.pc
  starts = all_start k l.keeping [] is.told.tables start.base.pc here

  policy_is : l.course.end.policy ≡ policy_seen k p.sight
  policy_is =
      is.told.policy
      ∙ ap (λ n. (slice_index_or l.keeping.entries n no_entry).policy)
      (sym (policy_last k k.first (length l.keeping.entries)))

  can : CanRunOn k plan.fuel p start
  can =
      subst (CanRunOn k plan.fuel p) (sym opened.is)
      (opened_can k p plan.fuel guest opened.address (start_fills Filled (members_of l.course.end)) sight
      (subst (λ (r : Raw). IsStart (history_seen k p.sight) r.base.pc) opened.is starts))

  log_is : start.base.log ≡ []
  log_is = ap (λ (r : Raw). r.base.log) opened.is

  runner_opened : IsRunnerBy k plan modules p start l
  runner_opened = record {
    sight = sight;
    settled = record {
      ledger = is;
      entries = prefix_same l.keeping.entries;
      force = omega (arith, is.told.epoch);
      refusals = prefix_same l.keeping.refusals;
    };
    last = start;
    path = record {
      start = start;
      opened = subst (λ (a : Plan). IsOpenedAs a (members_of l.course.end) guest start) (sym is.plan_is) opened;
      starts = starts;
      came = [];
      loads = refl;
      asked = tt;
      due = tt;
      is = refl;
      along = λ later more. tt;
    };
    ends = inl refl;
    log = record {
      told = [];
      logged = none_logged l.course guest;
      more = [];
      between = omega (arith, policy_is);
      is = log_is;
    };
    logged = can.logged;
    within = record {
      most = can.within;
      spent = λ stopped. absurd (never stopped);
    };
    ready = λ going idle. can;
  }
    where
      apart : {A : Type 0} (x : A) → None ≡ Some x → ⊥
      apart x e = absurd (cc)

      never : start.base.stop ≡ Some stops.Fuel → ⊥
      never stopped = apart stops.Fuel (sym can.going ∙ stopped)

pub opening_runs : (k : Key) (plan : Plan) (modules : List Module) (p : PassView) (r : Raw)
    → IsOpening k plan modules p r → IsRunner k plan modules p r
opening_runs k plan modules p r opening =
    let l = opening.ledger in
    subst (λ (v : PassView). IsRunner k plan modules v r) (sym opening.pass)
    (record {
      ledger = l;
      is = runner_opened k plan modules p.guest r l opening.is opening.guest opening.starts;
      outside = λ going idle. refl;
    })

-- nothing is logged then, and nothing told
pub opening_slip : (k : Key) (plan : Plan) (modules : List Module) (p : PassView) (r : Raw)
    → IsOpening k plan modules p r → (slip : SlipView) → slip ≡ slip_by p.guest [] → IsSlipOf p r slip
opening_slip k plan modules p r opening slip is =
    let log : r.base.log ≡ [] = ap (λ (x : Raw). x.base.log) opening.guest.is in
    let lines : slip.lines ≡ [] = ap (λ (s : SlipView). s.lines) is in
    record {
      guest = ap (λ (s : SlipView). s.guest) is;
      answered = subst (λ (z : List Log × List JournalLine). AreAnswered z.0 z.1) (λ i. (sym log i, sym lines i)) tt;
    }
