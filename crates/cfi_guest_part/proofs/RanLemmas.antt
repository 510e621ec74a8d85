-- A guest that has run shows the policy machine, and has replayed what it has logged.
use Rattle.std.proofs.Common.{◌≡◌, ℕ, ◌+◌, ◌++◌, Bool, true, false, cond, Option, Some, None, List, [], ◌∷◌, nat_lt, length, sym, ◌∙◌, ap, subst, arith}
use Rattle.cfi_model.specs.Fits.{Along}
use Rattle.cfi_model.specs.History.{History, IsHistory}
use Rattle.cfi_model.specs.Raw.{Raw}
use Rattle.cfi_model.specs.Run.{Take, take_one}
use Rattle.cfi_model.specs.Service.{Reply}
use Rattle.cfi_model.specs.Shows.{End, IsReady, IsShown, Runs, end_of, ends_along, ends_before, reply_in}
use Rattle.cfi_model.specs.State.{State}
use Rattle.cfi_model.proofs.AdvanceLemmas.{Running}
use Rattle.cfi_model.proofs.EndLemmas.{effect_units}
use Rattle.cfi_model.proofs.ShownLemmas.{reached, shown_log, shows_running}
use Rattle.cfi_unit.specs.declared.log.Log.{Log}
use Rattle.cfi_valid.specs.FromLaw.{BringsDue, HasPolicies}
use Rattle.cfi_valid.specs.Loaded.{Members, Filled, fills_between}
use Rattle.cfi_valid.specs.Replay.{given_by}
use Rattle.cfi_valid.specs.Running.{HasReplayed}
use Rattle.cfi_valid.proofs.LawLemmas.{step_unit}
use Rattle.cfi_valid.proofs.RunningLemmas.{replay_goes_on}
use Rattle.cfi_guest_part.specs.Ran.{AreBrought}

-- an answer looks at the log alone
brings_same : (members : Members) (reply : Option Reply) (a b : State) → a.log ≡ b.log
    → BringsDue Filled members a reply → BringsDue Filled members b reply
brings_same members None a b same due = tt
brings_same members (Some reply) a b same due = λ free.
    due free ∙ ap (λ (log : List Log). fills_between Filled (given_by log) reply.policy members) same

-- what the policy machine runs, one list of ends after the other
runs_join : (h : History) (code : List ℕ) (xs ys : List End) (old mid new : State) → Runs h code (xs ++ []) old mid
    → Runs h code ys mid new → Runs h code (xs ++ ys) old new
runs_join h code [] ys old mid new same then = subst (λ (s : State). Runs h code ys s new) same then
runs_join h code (x ∷ xs) ys old mid new runs then =
    (runs.0, runs.1, runs_join h code xs ys runs.0 mid new runs.2 then)

module _ (h : History) (code : List ℕ) (members : Members) (known : IsHistory h code)
    (policies : HasPolicies (length code) members h) (start : State) where
  abbrev Replayed : State → Type 0
  Replayed s = HasReplayed Filled code members s.units start s

  -- what an access makes of the replay
  unit_more : (ended : Bool) (end : End) (old new : State) → Runs h code (cond ended (end ∷ []) [] ++ []) old new
      → IsReady h old → BringsDue Filled members old end.reply → Replayed old → Replayed new
  unit_more true end old new runs ready due before =
      let mid : State = runs.0 in
      let step = runs.1 in
      let unit = step_unit Filled h code members end old mid known policies ready step due in
      let more : HasReplayed Filled code members (old.units + 1) start mid =
      replay_goes_on Filled code members old.units start old mid before unit in
      let count : mid.units ≡ old.units + 1 =
      ap (λ (s : State). s.units) step.is ∙ effect_units step.unit _ _ step.reply old in
      subst Replayed (sym runs.2) (subst (λ (n : ℕ). HasReplayed Filled code members n start mid) (sym count) more)
  unit_more false end old new runs ready due before = subst Replayed (sym runs) before

  -- after some accesses
  pub record HasCome (retries : ℕ) (old : State) (r : Raw) (takes : List Take) : Type 0 where
    pub settled : ℕ
    pub new : State
    pub shown : IsShown h code retries old r takes settled new
    pub replayed : Replayed new

  -- an access, and then others
  shown_join : (retries mid last : ℕ) (old between new : State) (r : Raw) (t : Take) (takes : List Take)
      → IsShown h code retries old r (t ∷ []) mid between → IsShown h code mid between (take_one r t) takes last new
      → IsShown h code retries old r (t ∷ takes) last new
  shown_join retries mid last old between new r t takes one rest = record {
    runs = runs_join h code (ends_before r t) (ends_along (take_one r t) takes) old between new one.runs rest.runs;
    ready = rest.ready;
    least = omega (arith, one.least, rest.least);
    picks = omega (arith, one.picks, rest.picks);
    picked = λ none. rest.picked none ∙ one.picked (omega (arith, none, rest.picks));
    single = λ epoch. rest.single epoch ∙ one.single epoch;
    shows = rest.shows;
  }

  pub comes : (takes : List Take) (retries : ℕ) (old : State) (r : Raw) → Running h code old retries r → IsReady h old
      → Along h code r takes → AreBrought members r takes → Replayed old → HasCome retries old r takes
  comes [] retries old r running ready along brings before =
      let at = reached h code known [] old retries r running tt in
      record {
        settled = at.settled;
        new = at.new;
        shown = at.shown;
        replayed = subst Replayed (sym at.shown.runs) before;
      }
  comes (t ∷ takes) retries old r running ready along brings before =
      let one = reached h code known (t ∷ []) old retries r running (along.0, tt) in
      let shows = shows_running h code old retries r running in
      let due = brings_same members (reply_in t) r.base old (shown_log h code retries old r shows) brings.0 in
      let mid = unit_more (nat_lt r.base.units (take_one r t).base.units) (end_of r t) old one.new one.shown.runs ready
      due before in
      let rest = comes takes one.settled one.new (take_one r t) one.running one.shown.ready along.1 brings.1 mid in
      record {
        settled = rest.settled;
        new = rest.new;
        shown = shown_join retries one.settled rest.settled old one.new rest.new r t takes one.shown rest.shown;
        replayed = rest.replayed;
      }
