-- Each guest has run before the first line: it stands at its entry, and has logged nothing.
use Rattle.std.proofs.Common.{◌≡◌, ℕ, ◌+◌, ◌-◌, List, slice_get, Some, None, refl, sym, ◌∙◌, ap, subst, arith, inl}
use Rattle.std.specs.List.{All}
use Rattle.cfi_aux.specs.declared.modules.Module.{Module}
use Rattle.cfi_aux.specs.Sound.{IsSoundModule}
use Rattle.cfi_model.specs.Closed.{IsStartIn}
use Rattle.cfi_model.specs.History.{IsStart as IsStartAt}
use Rattle.cfi_model.specs.InForce.{history_of, code_in_force}
use Rattle.cfi_model.specs.Raw.{Raw}
use Rattle.cfi_model.specs.Running.{IsRunning}
use Rattle.cfi_model.specs.State.{opened}
use Rattle.cfi_model.specs.Words.{Tables, entry_at}
use Rattle.cfi_model.specs.World.{World}
use Rattle.cfi_model.proofs.RunningLemmas.{opened_runs}
use Rattle.cfi_plan.specs.declared.plan.Plan.{Plan}
use Rattle.cfi_plan.specs.Plan.{IsPlan}
use Rattle.cfi_sim.specs.Stage.{Stage}
use Rattle.cfi_sim.specs.Valid.{IsStart}
use Rattle.cfi_sim.proofs.guests.TurnLemmas.{AllRun}
use Rattle.cfi_valid.proofs.GrowthLemmas.{same_later}
use Rattle.cfi_sim.proofs.guests.RunsLemmas.{HasRun}
use Rattle.cfi_sim.proofs.journal.StartLemmas.{world, guest_start, none_later}
use Rattle.cfi_valid.specs.Journal.{members_of}
use Rattle.cfi_valid.specs.Loaded.{start_fills, Left}

module _ (plan : Plan) (modules : List Module) (is : IsPlan plan) (sound : All IsSoundModule modules) (s : Stage)
    (starts : IsStart plan modules s) where
  abbrev w : World
  w = world plan modules is sound s starts

  abbrev t : Tables
  t = w.tables

  back_is : (first : ℕ) → 0 ≡ first + 0 - first
  back_is first = omega arith

  none_some : (word : ℕ) → None ≡ Some word → ⊥
  none_some word e = absurd (cc)

  opened_run : (number : ℕ) (r : Raw) → slice_get starts.guests number ≡ Some r → HasRun plan modules s.state t number r
  opened_run number r there =
      let at = starts.each number r there in
      let start = guest_start plan modules is sound s starts number r there in
      let begins : IsStartAt (history_of t) at.address = record {
        epoch = plan.first + 0;
        known = record { least = omega arith; most = omega (arith, none_later plan modules is sound s starts) };
        starts = subst (λ (n : ℕ). IsStartIn (entry_at t n).image at.address) (back_is plan.first) start;
      } in
      let runs =
      opened_runs (history_of t) (code_in_force t) number at.address (start_fills Left (members_of s.state)) begins in
      record {
        entry = at.entry;
        named = at.named;
        address = at.address;
        begins = at.begins;
        retries = 0;
        shown = opened number at.address (start_fills Left (members_of s.state));
        runs = inl (subst
            (IsRunning (history_of t) (code_in_force t) 0 (opened number at.address (start_fills Left (members_of s.state))))
            (sym at.is) runs);
        replayed = refl;
        picked = λ none. refl;
        single = λ one. refl;
        settled = s.state;
        later = same_later s.state;
        logged = record {
          rises = tt;
          most = omega arith;
          opens = λ place n address policy is_open. absurd (cc);
          causes = λ place n cause is_cause. absurd (cc);
        };
        kept = λ stop word kept. absurd (none_some word (sym (ap (λ (x : Raw). x.tary) at.is) ∙ kept));
      }

  pub start_runs : AllRun plan modules sound s.state s.state s.world
  start_runs =
      subst (AllRun plan modules sound s.state s.state) (sym starts.world)
      (λ number r there. opened_run number r there)
