-- The live modules of a state.
use Rattle.std.proofs.Common.{◌≡◌, ℕ, ◌&&◌, Bool, true, List, [], ◌∷◌, map, All, refl, sym, ap, ◌∙◌, arith}
use Rattle.std.proofs.lemmas.Bool.{le-leb}
use Rattle.std.proofs.lemmas.List.Elements.{All-head, All-tail}
use Rattle.cfi_aux.specs.declared.placed.Placed.{Placed}
use Rattle.cfi_graph.proofs.BoundLemmas.{contains_at, at_contains}
use Rattle.cfi_ledger.proofs.FlagLemmas.{listed_gone, listed_live, placed_live}
use Rattle.cfi_ledger.specs.Policies.{HavePolicies}
use Rattle.cfi_ledger.specs.Roster.{Roster, loaded_in_roster, members_in_roster, origin_of}
use Rattle.cfi_ledger.specs.Starts.{AreStarted}
use Rattle.cfi_ledger.specs.declared.force.Force.{Force}
use Rattle.cfi_aux.specs.declared.modules.Module.{Module}
use Rattle.cfi_plan.specs.declared.plan.Plan.{Plan}
use Rattle.cfi_valid.proofs.KeptLemmas.{places_are}
use Rattle.cfi_valid.specs.Journal.{live_in}
use Rattle.cfi_valid.specs.Loaded.{LoadedModule, is_live, live_flags, placed_modules}
use Rattle.cfi_valid.specs.declared.retirement.Retirement.{Retirement}
use Rattle.cfi_judge.specs.Reached.{state_of}
use Rattle.cfi_judge.specs.declared.reached.Reached.{Reached}
use Rattle.cfi_judge.specs.inner.Meets.{HasLive}
use Rattle.cfi_judge.specs.inner.Reached.{IsKeptIn}
use Rattle.cfi_judge.proofs.LogLemmas.{passed}

-- what is in force, with no journal
abbrev pub force_by : Reached → Force
force_by r = record {
  roster = r.roster;
  journal = record { lines = []; left = []; spare = 0 };
  epoch = r.epoch;
  policy = r.policy;
}

module _ (plan : Plan) (r : Reached) (kept : IsKeptIn plan r) (policies : HavePolicies plan (state_of r)) where
  abbrev loaded : List LoadedModule
  loaded = loaded_in_roster r.roster

  pub has_live : HasLive r.roster (live_in (state_of r))
  has_live = record {
    lined = kept.stands.many;
    places = placed_live (force_by r) kept.stands.many kept.flags;
    stays = λ number at listed flagged.
        listed_live (force_by r) kept.stands.many kept.flags number at listed flagged;
    gone = λ number at listed flagged.
        listed_gone (force_by r) kept.stands.many kept.flags number at listed policies.upto flagged;
    among = λ number live.
        let there = passed (is_live r.policy r.roster.retired) loaded live.0 live.1.0
        (at_contains (live_in (state_of r)) live.0 live.1) in
        (live.0, contains_at loaded there.0 live.0 there.1, live.2);
  }

-- ---- the start modules

-- all are live
open_flags : (loaded : List LoadedModule) → All (λ (l : LoadedModule). l.policy ≡ 0) loaded
    → map (λ (m : Placed). true) (placed_modules loaded) ≡ map (is_live 0 []) loaded
open_flags [] first = refl
open_flags (l ∷ loaded) first =
    let zero_is : l.policy ≡ 0 = All-head (λ (one : LoadedModule). one.policy ≡ 0) l loaded first in
    ap (λ (b : Bool). (b && true) ∷ map (λ (m : Placed). true) (placed_modules loaded))
    (sym (le-leb l.policy 0 (omega (arith, zero_is))))
    ∙ ap (λ (bs : List Bool). is_live 0 [] l ∷ bs)
    (open_flags loaded (All-tail (λ (one : LoadedModule). one.policy ≡ 0) l loaded first))

pub started_flags : (plan : Plan) (modules : List Module) (number : ℕ) (r : Roster)
    → AreStarted plan modules number r → r.flags ≡ live_flags 0 (members_in_roster r)
started_flags plan modules number r started =
    started.live
    ∙ ap (map (λ (m : Placed). true)) (sym (places_are origin_of r.lines r.placed started.roster_is.many))
    ∙ open_flags (loaded_in_roster r) started.policies
    ∙ ap (λ (rs : List Retirement). map (is_live 0 rs) (loaded_in_roster r)) (sym started.stay)
