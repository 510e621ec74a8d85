-- To what the units of a part come, and what it says of the end.
use Rattle.std.proofs.Common.{◌≡◌, ◌≢◌, ℕ, List, None, refl, sym, ap, subst}
use Rattle.cfi_aux.specs.declared.placed.Placed.{Placed}
use Rattle.cfi_model.specs.Plain.{PlainState, plain_opened}
use Rattle.cfi_model.specs.State.{State, opened}
use Rattle.cfi_plan.specs.declared.plan.Plan.{Plan}
use Rattle.cfi_policy.specs.Code.{IsCodeOf}
use Rattle.cfi_report.specs.declared.report.GuestPart.{GuestPart}
use Rattle.cfi_unit.specs.declared.log.Log.{Log}
use Rattle.cfi_valid.proofs.CodeLemmas.{code_once}
use Rattle.cfi_valid.proofs.EntryLemmas.{begins_once}
use Rattle.cfi_valid.proofs.ValidLemmas.{comes_once}
use Rattle.cfi_valid.specs.Course.{Course}
use Rattle.cfi_valid.specs.Guests.{EntersIn, GuestBegins}
use Rattle.cfi_valid.specs.Loaded.{LoadedModule, Members, loaded_by, placed_modules, start_fills, Filled}
use Rattle.cfi_valid.specs.Parts.{ComesTo, HasEndedReplay}
use Rattle.cfi_valid.specs.Replay.{Replays}
use Rattle.cfi_replay.specs.Setting.{ComesIn, ComesNowhere, IsCourseIn, IsSetting, loaded_in, members_in}
use Rattle.cfi_replay.specs.declared.setting.Setting.{Setting}
use Rattle.cfi_replay.specs.inner.Ended.{HasEnd}
use Rattle.cfi_replay.specs.inner.Follows.{HasReplayed}

module _ (c : Course) (part : GuestPart) (last : State) (comes : ComesTo Filled c part last) where
  pub end_to : part.stop ≢ None → HasEnd last part → HasEndedReplay c part
  end_to stopped has = record {
    stopped = stopped;
    replay = record { last = last; comes = comes; output = has.output; log = has.log; stop = has.stop };
  }

  pub end_from : HasEndedReplay c part → HasEnd last part
  end_from ended =
      let r = ended.replay in
      let same : r.last ≡ last = comes_once Filled c part part r.last last r.comes comes refl refl refl refl in
      let there : HasEnd r.last part = record { output = r.output; log = r.log; stop = r.stop } in
      subst (λ (s : State). HasEnd s part) same there

module _ (s : Setting) (is : IsSetting s) (part : GuestPart) where
  -- where the machine came, the units of the part come in each course
  pub comes_in : (address : ℕ) → GuestBegins s.plan.now (loaded_in s) part.entry address → (last : State)
      → HasReplayed s part.log part.units (opened part.number address (start_fills Filled (members_in s))) last
      → ComesIn s part last
  comes_in address begins last replay = λ c in_it.
      let plan = sym in_it.plan_is in
      let members = sym in_it.members_are in
      let loaded = ap (λ (ms : Members). ms.loaded) members in
      record {
        comes = record {
          address = address;
          begins = subst (λ (p : Plan). GuestBegins p c.end.loaded part.entry address) plan
              (subst (λ (ls : List LoadedModule). GuestBegins s.plan.now ls part.entry address) loaded begins);
          code = s.code.now;
          is_code = subst (λ (p : Plan). IsCodeOf (placed_modules c.end.loaded) p.code_words s.code.now) plan
              (subst (λ (ls : List LoadedModule). IsCodeOf (placed_modules ls) s.plan.now.code_words s.code.now) loaded
              is.code);
          replay = subst (λ (ms : Members). Replays Filled s.code.now ms part.log part.units
              (opened part.number address (start_fills Filled ms)) last) members replay;
        };
        code_is = refl;
      }

  -- and where it did not, they come nowhere
  module _ (c : Course) (in_it : IsCourseIn s c) (last : State) (comes : ComesTo Filled c part last) where
    loaded_is : c.end.loaded ≡ loaded_in s
    loaded_is = ap (λ (ms : Members). ms.loaded) in_it.members_are

    pub begins_there : GuestBegins s.plan.now (loaded_in s) part.entry comes.address
    begins_there =
        subst (λ (ls : List LoadedModule). GuestBegins s.plan.now ls part.entry comes.address) loaded_is
        (subst (λ (p : Plan). GuestBegins p c.end.loaded part.entry comes.address) in_it.plan_is comes.begins)

    pub replay_there : (address : ℕ) → GuestBegins s.plan.now (loaded_in s) part.entry address
        → HasReplayed s part.log part.units (opened part.number address (start_fills Filled (members_in s))) last
    replay_there address begins =
        let same : comes.address ≡ address =
        begins_once s.plan.now (loaded_in s) part.entry comes.address address begins_there begins in
        let code_there : IsCodeOf (placed_modules (loaded_in s)) s.plan.now.code_words comes.code =
        subst (λ (ls : List LoadedModule). IsCodeOf (placed_modules ls) s.plan.now.code_words comes.code) loaded_is
        (subst (λ (p : Plan). IsCodeOf (placed_modules c.end.loaded) p.code_words comes.code) in_it.plan_is
        comes.is_code) in
        let code : comes.code ≡ s.code.now =
        code_once (placed_modules (loaded_in s)) s.plan.now.code_words comes.code s.code.now code_there is.code in
        subst (λ (a : ℕ). HasReplayed s part.log part.units
        (opened part.number a (start_fills Filled (members_in s))) last) same
        (subst (λ (words : List ℕ). Replays Filled words (members_in s) part.log part.units
        (opened part.number comes.address (start_fills Filled (members_in s))) last) code
        (subst (λ (ms : Members). Replays Filled comes.code ms part.log part.units
        (opened part.number comes.address (start_fills Filled ms)) last) in_it.members_are comes.replay))

  -- a guest begins where the plan enters the start modules
  pub begins_at : (ms : List Placed) (name : List ℕ) (address : ℕ) → ms ≡ placed_modules (loaded_by 0 (loaded_in s))
      → name ≡ part.entry → EntersIn s.plan.now ms name address
      → GuestBegins s.plan.now (loaded_in s) part.entry address
  begins_at ms name address starts named enters =
      subst (λ (ps : List Placed). EntersIn s.plan.now ps part.entry address) starts
      (subst (λ (n : List ℕ). EntersIn s.plan.now ms n address) named enters)

  -- and from there the machine that was opened follows the log
  module _ (address : ℕ) (begins : GuestBegins s.plan.now (loaded_in s) part.entry address) (log : List Log)
      (log_is : log ≡ part.log) (m : PlainState)
      (opened_is : m ≡ plain_opened part.number address (start_fills Filled (members_in s))) where
    pub followed : (last : State) → HasReplayed s log part.units m.state last → ComesIn s part last
    followed last replay =
        comes_in address begins last
        (subst (λ (st : PlainState). HasReplayed s part.log part.units st.state last) opened_is
        (subst (λ (l : List Log). HasReplayed s l part.units m.state last) log_is replay))

    pub unfollowed : ((last : State) → ¬ HasReplayed s log part.units m.state last) → ComesNowhere s part
    unfollowed none = λ course in_it last comes.
        none last
        (subst (λ (l : List Log). HasReplayed s l part.units m.state last) (sym log_is)
        (subst (λ (st : PlainState). HasReplayed s part.log part.units st.state last) (sym opened_is)
        (replay_there course in_it last comes address begins)))
