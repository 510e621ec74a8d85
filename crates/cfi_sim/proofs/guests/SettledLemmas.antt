-- What a guest has logged with a unit more fits.
use Rattle.std.proofs.Math.Seq.{take-length}
use Rattle.std.proofs.lemmas.List.{take-append-le, length-drop}
use Rattle.std.proofs.Common.{◌≡◌, ℕ, ℤ, ◌+◌, ◌-◌, ◌≤◌, ◌<◌, ◌==◌, ◌++◌, cond, Bool, true, false, List, [], ◌∷◌, length, take, drop, length-append, Option, Some, None, refl, sym, ◌∙◌, ap, subst, arith}
use Rattle.cfi_sim.proofs.guests.CausesLemmas.{log_grows}
use Rattle.cfi_sim.specs.declared.found.Found.{Found}
use Rattle.cfi_sim.specs.declared.found.Found.TheVariants.{Unknown as NoModuleFound, Functionless, Opened, Unloaded}
use Rattle.cfi_sim.specs.Events.{IsFound, reply_by}
use Rattle.cfi_sim.specs.Agrees.{TablesAgree}
use Rattle.cfi_model.specs.Raw.{Raw}
use Rattle.cfi_valid.proofs.GrowthLemmas.{same_later}
use Rattle.cfi_sim.proofs.guests.RunsLemmas.{course_at, HasRun}
use Rattle.cfi_word.specs.declared.services.TheConstants as services
use Rattle.cfi_model.specs.Effect.{effect, is_in_code}
use Rattle.cfi_sim.specs.declared.limits.TheConstants.{NOT_LOADED}
use Rattle.cfi_valid.specs.Log.{IsInSpan, HasFunctionAt, HasNoFunction, next_policy, why_of}
use Rattle.cfi_valid.specs.Journal.{JournalState, members_of, live_in}
use Rattle.cfi_valid.specs.Growth.{IsLater}
use Rattle.cfi_valid.specs.Loaded.{LoadedModule, live_at}
use Rattle.cfi_unit.specs.declared.log.Log.{Log}
use Rattle.cfi_model.proofs.InForceLemmas.{history_is, force_within, later_rises, epoch_within}
use Rattle.cfi_model.specs.InForce.{in_force, history_of, code_in_force}
use Rattle.cfi_model.specs.State.{State, register, displaced}
use Rattle.cfi_model.specs.World.{World}
use Rattle.cfi_model.specs.History.{History, IsEpoch, IsHistory, IsTaryWord, word_of, target_class, allows_at}
use Rattle.cfi_model.specs.Service.{Reply, Service, Ends, Puts, Quiets, Opens, Unknown, service_of, served_log, opened_log, argument, asked}
use Rattle.cfi_unit.specs.declared.unit.Unit.{Unit as CodeUnit}
use Rattle.cfi_world.specs.Laws.{IsBrought, IsStepped}
use Rattle.cfi_aux.specs.declared.modules.Module.{Module}
use Rattle.cfi_plan.specs.declared.plan.Plan.{Plan}
use Rattle.cfi_sim.specs.declared.aim.Aim.{Aim}
use Rattle.cfi_unit.specs.declared.log.Log.TheVariants.{Open, Cause}
use Rattle.cfi_model.specs.Log.{picked, last_policy}
use Rattle.cfi_model.proofs.IdLemmas.{seen_of, tary_policy}
use Rattle.cfi_sim.proofs.journal.ComingLemmas.{all_live}
use Rattle.cfi_unit.specs.declared.unit.Unit.TheVariants as units
use Rattle.cfi_sim.specs.Valid.{IsSimCause, IsSimLogged}
use Rattle.cfi_sim.proofs.guests.PicksLemmas.{picks_grow}
use Rattle.cfi_model.specs.Tables.{IsTables}
use Rattle.cfi_model.specs.Words.{Tables}
use Rattle.cfi_model.specs.Shows.{IsServed, IsAnswered, AsksUnder}

-- ---- answers

-- the answer to an open, where the guest is in this state
pub record IsGivenAt (plan : Plan) (state : JournalState) (mid : World) (s : State) (reply : Reply) : Type 0 where
  pub number : ℕ
  pub asks : number ≡ argument s
  pub found : Found
  pub is_found : IsFound plan mid state.loaded number found
  pub is : reply ≡ reply_by state s found

-- an answer that is given, or none
abbrev pub FitsGiven : Plan → JournalState → World → State → Option Reply → Type 0
FitsGiven plan state mid s None = Unit {0}
FitsGiven plan state mid s (Some reply) = IsGivenAt plan state mid s reply

module _ (plan : Plan) (modules : List Module) (state : JournalState) (aim : Option Aim) (t : Tables)
    (is : IsTables t) (agrees : TablesAgree plan modules state aim t) where
  abbrev h : History
  h = history_of t

  abbrev code : List ℕ
  code = code_in_force t

  known : IsHistory h code
  known = history_is t is

  low_policy : (epoch : ℕ) → IsEpoch h epoch → h.policy epoch ≤ state.policy
  low_policy epoch seen =
      let rises = later_rises t is (epoch - t.first) (in_force t) (epoch_within t is epoch seen) (force_within t is) in
      omega (arith, rises, agrees.policy)

  all_now : live_in state ≡ state.loaded
  all_now = all_live state agrees.stay agrees.low

  -- ---- one unit more

  module _ (mid : World) (number : ℕ) (r now : Raw) (run : HasRun plan modules state t number r)
      (going : r.base.stop ≡ None) (given : Option Reply) (fits : FitsGiven plan state mid run.shown given) (more : ℕ)
      (after : State) (p : IsStepped h code given run.retries run.shown r now more after) where
    abbrev s : State
    s = run.shown

    abbrev unit : CodeUnit
    unit = p.step.unit

    -- ---- what it has logged

    -- the log fits from a settled state on
    pub record IsSettled : Type 0 where
      pub settled : JournalState
      pub later : IsLater settled state
      pub logged : IsSimLogged (course_at plan modules settled) after.log

    stays_settled : after.log ≡ s.log → IsSettled
    stays_settled same = record {
      settled = run.settled;
      later = run.later;
      logged = subst (IsSimLogged (course_at plan modules run.settled)) (sym same) run.logged;
    }

    settles : IsSimLogged (course_at plan modules state) after.log → IsSettled
    settles logged = record { settled = state; later = same_later state; logged = logged }

    -- a check in the code picks the policy of the word that it keeps
    pick_settles : (link : Bool) (rs1 : ℕ) (imm : ℤ) (slot : ℕ) → unit ≡ units.Check link rs1 imm slot
        → (inside : Bool) → is_in_code (displaced (register s rs1) imm) ≡ inside
        → after.log ≡ cond inside (picked (h.policy p.step.epoch) s.log) s.log → IsSettled
    pick_settles link rs1 imm slot same false inside log = stays_settled log
    pick_settles link rs1 imm slot same true inside log =
        let target = displaced (register s rs1) imm in
        let epoch = p.step.epoch in
        let word = word_of h epoch (target_class h epoch target) in
        let under = subst (λ (u : CodeUnit). AsksUnder h epoch p.end u s) same p.step.under in
        let tried = under inside in
        let found : IsTaryWord h target word =
        record { epoch = epoch; known = seen_of h epoch p.step.known; is = refl } in
        let policy = tary_policy h code target known found in
        let least = run.kept going word (sym p.tary ∙ tried.tary) in
        settles (subst (IsSimLogged (course_at plan modules state)) (sym log)
        (picks_grow plan modules [] [] run.settled state run.later s.log run.logged (h.policy epoch)
        (omega (arith, least, policy)) (low_policy epoch p.step.known)))

    -- ---- an open

    here : (entry : Log) → take (length s.log) (s.log ++ entry ∷ []) ≡ s.log
    here entry = take-append-le (length s.log) s.log (entry ∷ []) (omega arith) ∙ take-length s.log

    none_behind : (entry : Log) → drop (length s.log + 1) (s.log ++ entry ∷ []) ≡ []
    none_behind entry =
        empty (drop (length s.log + 1) (s.log ++ entry ∷ []))
        (length-drop (length s.log + 1) (s.log ++ entry ∷ [])
        ∙ omega (arith, length-append s.log (entry ∷ [])))
      where
        empty : (xs : List Log) → length xs ≡ 0 → xs ≡ []
        empty [] none = refl
        empty (x ∷ xs) none = absurd (omega (arith, none))

    last_low : last_policy s.log ≤ state.policy
    last_low = omega (arith, run.logged.most, run.later.policy)

    span_here : (entry : Log) → IsInSpan state.policy (s.log ++ entry ∷ []) (length s.log) state.policy
    span_here entry = record {
      least = subst (λ (xs : List Log). last_policy xs ≤ state.policy) (sym (here entry)) last_low;
      most = subst (λ (xs : List Log). state.policy ≤ next_policy state.policy xs) (sym (none_behind entry))
          (omega arith);
    }

    cause_settles : (number' cause : ℕ)
        → IsSimCause (course_at plan modules state) (s.log ++ Cause number' cause ∷ []) (length s.log) number' cause
        (why_of cause) → after.log ≡ s.log ++ Cause number' cause ∷ [] → IsSettled
    cause_settles number' cause caused log =
        settles (subst (IsSimLogged (course_at plan modules state)) (sym log)
        (log_grows plan modules [] [] run.settled state run.later s.log run.logged (Cause number' cause) (omega arith)
        last_low run.later.policy (λ n a q other. absurd (cc))
        (λ n c other.
        let same : number' ≡ n = cc in
        let why : cause ≡ c = cc in
        subst
        (λ (m : ℕ). IsSimCause (course_at plan modules state) (s.log ++ Cause number' cause ∷ []) (length s.log) m c
        (why_of c)) same
        (subst
        (λ (k : ℕ). IsSimCause (course_at plan modules state) (s.log ++ Cause number' cause ∷ []) (length s.log) number'
        k (why_of k)) why caused))))

    open_settles : (address : ℕ) → HasFunctionAt state.loaded (argument s) address
        → after.log ≡ s.log ++ Open (argument s) address state.policy ∷ [] → IsSettled
    open_settles address has log =
        let entry : Log = Open (argument s) address state.policy in
        settles (subst (IsSimLogged (course_at plan modules state)) (sym log)
        (log_grows plan modules [] [] run.settled state run.later s.log run.logged entry last_low (omega arith)
        run.later.policy
        (λ n a q same.
        let asked_is : argument s ≡ n = cc in
        let at : address ≡ a = cc in
        let policy : state.policy ≡ q = cc in
        subst (λ (k : ℕ). HasFunctionAt (live_at k (members_of state)) n a) policy
        (subst (λ (ls : List LoadedModule). HasFunctionAt ls n a) (sym all_now)
        (subst (λ (m : ℕ). HasFunctionAt state.loaded m a) asked_is
        (subst (HasFunctionAt state.loaded (argument s)) at has))))
        (λ n c other. absurd (cc))))

    -- the answer that was found
    found_settles : (number' : ℕ) → number' ≡ argument s → (found : Found) → IsFound plan mid state.loaded number' found
        → after.log ≡ opened_log (reply_by state s found) s → IsSettled
    found_settles number' asks NoModuleFound found log =
        cause_settles (argument s) services.NO_MODULE (subst (λ (m : ℕ). length plan.modules ≤ m) asks found) log
    found_settles number' asks Functionless found log =
        cause_settles (argument s) services.NO_FUNCTION (
          state.policy,
          span_here (Cause (argument s) services.NO_FUNCTION),
          subst (λ (ls : List LoadedModule). HasNoFunction ls (argument s)) (sym all_now)
              (subst (HasNoFunction state.loaded) asks found.1),
        ) log
    found_settles number' asks (Opened address) found log =
        open_settles address (subst (λ (m : ℕ). HasFunctionAt state.loaded m address) asks found.1.opened) log
    found_settles number' asks Unloaded found log =
        cause_settles (argument s) NOT_LOADED
        (subst (λ (m : ℕ). m < length plan.modules) asks found.0, refl) log

    many_log : (reply : Reply) → reply.cause ≡ services.TOO_MANY → opened_log reply s ≡ s.log
    many_log reply many =
        ap (λ (c : ℕ). cond (c == 0) (s.log ++ Open (argument s) reply.address reply.policy ∷ [])
        (cond (c == services.TOO_MANY) s.log (s.log ++ Cause (argument s) c ∷ []))) many

    service_settles : unit ≡ units.Service → (service : Service) → service_of (asked s) ≡ service
        → after.log ≡ served_log service p.step.reply s → IsSettled
    service_settles same Ends at log = stays_settled log
    service_settles same Puts at log = stays_settled log
    service_settles same Quiets at log = stays_settled log
    service_settles same Unknown at log = stays_settled log
    service_settles same Opens at log =
        let served : IsServed p.end p.step.reply s =
        subst (λ (u : CodeUnit). IsAnswered u p.end p.step.reply s) same p.step.answered in
        by_given given fits (p.brings p.step.reply served.came)
      where
        by_given : (g : Option Reply) → FitsGiven plan state mid s g → IsBrought g p.step.reply → IsSettled
        by_given None none brought = stays_settled (log ∙ many_log p.step.reply brought)
        by_given (Some answer) given_is brought =
            found_settles given_is.number given_is.asks given_is.found given_is.is_found
            (log ∙ ap (λ (x : Reply). opened_log x s) (brought ∙ given_is.is))

    settled_by : (u : CodeUnit) → unit ≡ u
        → after.log ≡ (effect u (h.policy p.step.epoch) (allows_at h p.step.epoch) p.step.reply s).log → IsSettled
    settled_by (units.Plain insn) same log = stays_settled log
    settled_by (units.Load kind rd rs1 imm) same log = stays_settled log
    settled_by (units.Store kind rs1 rs2 imm) same log = stays_settled log
    settled_by (units.Branch c rs1 rs2 off) same log = stays_settled log
    settled_by (units.Jump link off) same log = stays_settled log
    settled_by (units.Check link rs1 imm slot) same log =
        pick_settles link rs1 imm slot same (is_in_code (displaced (register s rs1) imm)) refl log
    settled_by units.Service same log = service_settles same (service_of (asked s)) refl log

    pub is_settled : IsSettled
    is_settled = settled_by unit refl (ap (λ (x : State). x.log) p.step.is)
