-- A machine that follows a log goes on by an open that is answered.
use Rattle.std.proofs.Common.{◌≡◌, ℕ, ◌+◌, ◌==◌, ◌≤◌, Bool, true, false, cond, List, [], ◌∷◌, ◌++◌, length, drop, Option, Some, None, refl, sym, ap, subst, ◌∙◌, arith}
use Rattle.std.specs.Prelude.{nat_lt}
use Rattle.std.specs.List.{slice_get}
use Rattle.std.proofs.lemmas.Bool.{and_parts, eqb-true, false≢true, ne_eqb}
use Rattle.std.proofs.lemmas.List.{length_push}
use Rattle.cfi_model.specs.Effect.{effect, asks, going_to}
use Rattle.cfi_model.specs.Log.{last_policy, opens, policy_after}
use Rattle.cfi_model.specs.Plain.{PlainState, answered, asks_of}
use Rattle.cfi_model.specs.Service.{Reply, Service, Opens, argument, asked, reply_of, served, service_of}
use Rattle.cfi_model.specs.State.{State, after}
use Rattle.cfi_model.specs.Shows.{Stands}
use Rattle.cfi_model.proofs.LogLemmas.{policy_push}
use Rattle.cfi_unit.specs.declared.fill.Fill.{Fill}
use Rattle.cfi_unit.specs.declared.log.Log.{Log}
use Rattle.cfi_unit.specs.declared.log.Log.TheVariants.{Pick, Open, Cause}
use Rattle.cfi_unit.specs.declared.unit.Unit.{Unit as CodeUnit}
use Rattle.cfi_unit.specs.declared.unit.Unit.TheVariants as units
use Rattle.cfi_unit.proofs.CodeLemmas.{BeginsAt-one}
use Rattle.cfi_valid.proofs.AnswerLemmas.{opens_as, opens_of, refused_same}
use Rattle.cfi_valid.proofs.SinglesLemmas.{singles_more}
use Rattle.cfi_valid.specs.Loaded.{Members, fills_between, Filled}
use Rattle.cfi_valid.specs.Log.{why_of}
use Rattle.cfi_valid.specs.Replay.{IsReplyOf, IsReplayed, TakesAnswer, TakesFrom, given_after, given_by, next_in, singles, singles_of}
use Rattle.cfi_word.specs.declared.limits.TheConstants.{MAX_OPENS}
use Rattle.cfi_word.specs.declared.services.TheConstants as services
use Rattle.cfi_replay.specs.Setting.{CanReplay, members_in}
use Rattle.cfi_replay.specs.declared.cursor.Cursor.{Cursor}
use Rattle.cfi_replay.specs.declared.setting.Setting.{Setting}
use Rattle.cfi_replay.specs.inner.Cursor.{HasAnswered, HasMark, IsSettled, marked}
use Rattle.cfi_replay.specs.inner.Follows.{Asks, Follows, HasAnsweredBy, HasGone, HasTurned, IsNoAnswer, IsOpenEntry, reach_by, reply_by}
use Rattle.cfi_replay.proofs.GoLemmas.{left_of, next_of, turn_asks, turn_waits}
use Rattle.cfi_replay.proofs.PickLemmas.{given_push}
use Rattle.cfi_replay.proofs.PlaceLemmas.{IsLeft, answered_left, passed_rises, single_by}
use Rattle.cfi_replay.proofs.RestLemmas.{drop_entry}
use Rattle.cfi_replay.proofs.UnitLemmas.{reply_taken}

-- ---- which unit asks

-- a service unit that asks
record AsksBy (unit : CodeUnit) (s : State) : Type 0 where
  is : unit ≡ units.Service
  asks_it : asks s ≡ true

asks_by : (unit : CodeUnit) (s : State) → asks_of unit s ≡ true → AsksBy unit s
asks_by (units.Plain insn) s is = absurd (false≢true is)
asks_by (units.Load kind rd rs1 imm) s is = absurd (false≢true is)
asks_by (units.Store kind rs1 rs2 imm) s is = absurd (false≢true is)
asks_by (units.Branch cond rs1 rs2 off) s is = absurd (false≢true is)
asks_by (units.Jump link off) s is = absurd (false≢true is)
asks_by (units.Check link rs1 imm slot) s is = absurd (false≢true is)
asks_by units.Service s is = record { is = refl; asks_it = is }

opens_by : (s : State) → asks s ≡ true → service_of (asked s) ≡ Opens
opens_by s is =
    let both = and_parts (asked s == services.OPEN) (nat_lt (opens s.log) MAX_OPENS) is in
    opens_of (asked s) (eqb-true (asked s) services.OPEN both.0)

-- ---- no answer

no_reply : (members : Members) (s : State) (reply : Reply) (entry : Option Log) → IsNoAnswer entry
    → IsReplyOf Filled members s (single_by entry) reply → ⊥
no_reply members s reply (Some (Pick policy count)) none is = is
no_reply members s reply (Some (Open number address policy)) none is = none
no_reply members s reply (Some (Cause number cause)) none is = none
no_reply members s reply None none is = is

module _ (s : Setting) (log : List Log) (cursor : Cursor) where
  no_open : (old : State) → (unit : CodeUnit) → Stands s.code.now old.pc unit → asks_of unit old ≡ true
      → IsNoAnswer (slice_get log cursor.at) → next_in log old ≡ single_by (slice_get log cursor.at)
      → (last : State) → IsReplayed Filled s.code.now (members_in s) log old last → ⊥
  no_open old unit stands asking none next last r =
      let same : r.unit ≡ unit = BeginsAt-one s.code.now _ r.unit unit r.stands.begins stands.begins in
      let there : asks_of r.unit old ≡ true = ap (λ (u : CodeUnit). asks_of u old) same ∙ asking in
      let reply = reply_taken (members_in s) (next_in log old) old r.unit there r.pick r.allowed r.reply r.takes in
      no_reply (members_in s) old r.reply (slice_get log cursor.at) none
      (subst (λ (e : Option Log). IsReplyOf Filled (members_in s) old e r.reply) next reply)

-- ---- an answer

module _ (s : Setting) (log : List Log) (cursor : Cursor) (can : CanReplay s log) (old : PlainState)
    (follows : Follows s log cursor old) (going : old.state.stop ≡ None) (unit : CodeUnit)
    (stands : Stands s.code.now old.state.pc unit) (asking : AsksBy unit old.state) (after_it : Cursor)
    (new : PlainState)
  where
    -- the machine has this reply, and logs an entry that stands for as much as the next one
    module _ (entry logged : Log) (next : slice_get log cursor.at ≡ Some entry) (reply : Reply)
        (told : IsReplyOf Filled (members_in s) old.state (Some entry) reply)
        (single_is : single_by (Some entry) ≡ Some entry) (idle : new.waits ≡ false)
        (state_is : new.state ≡ going_to (after 4 old.state.pc) 1 (served Opens reply old.state))
        (log_is : new.state.log ≡ old.state.log ++ logged ∷ []) (one : singles_of logged ≡ logged ∷ [])
        (single : singles_of entry ≡ entry ∷ []) (used : cursor.used ≡ 0)
        (has : HasAnswered log new.state.log (reach_by cursor entry) cursor after_it)
        (policy_rises : policy_after cursor.policy entry ≡ (reach_by cursor entry).policy)
        (policy_logs : policy_after (last_policy old.state.log) logged ≡ (reach_by cursor entry).policy)
        (given_logs : given_after (given_by old.state.log) logged ≡ (reach_by cursor entry).given)
        (given_most : (reach_by cursor entry).given ≤ (reach_by cursor entry).policy) where
      unit_gone : IsReplayed Filled s.code.now (members_in s) log old.state new.state
      unit_gone =
          let next_is : next_in log old.state ≡ Some entry =
          next_of s log cursor old.state follows.at ∙ ap single_by next ∙ single_is in
          let asked_told : TakesAnswer Filled true (members_in s) old.state (next_in log old.state) reply =
          subst (λ (e : Option Log). IsReplyOf Filled (members_in s) old.state e reply) (sym next_is) told in
          let takes : TakesFrom Filled (members_in s) (next_in log old.state) units.Service old.state 0 true reply =
          subst (λ (b : Bool). TakesAnswer Filled b (members_in s) old.state (next_in log old.state) reply)
          (sym asking.asks_it) asked_told in
          let effect_is : new.state ≡ effect units.Service 0 (λ slot target. true) reply old.state =
          state_is ∙ ap (λ (x : Service). going_to (after 4 old.state.pc) 1 (served x reply old.state))
          (sym (opens_by old.state asking.asks_it)) in
          record {
            going = going;
            unit = units.Service;
            stands = subst (λ (u : CodeUnit). Stands s.code.now old.state.pc u) asking.is stands;
            pick = 0;
            allowed = true;
            reply = reply;
            takes = takes;
            is = effect_is;
          }

      gone : HasGone s log old after_it new
      gone =
          let mid_left = answered_left log (length (singles old.state.log)) cursor entry next
          (left_of s log cursor old.state follows.at) used single has.mid has.passed in
          let noted : Cursor =
          marked new.state.log
          (record has.mid { policy = (reach_by cursor entry).policy; given = (reach_by cursor entry).given }) in
          let noted_left : IsLeft log (length (singles old.state.log) + 1) noted =
          record { within = mid_left.within; rest = mid_left.rest; settled = mid_left.settled } in
          let left = subst (IsLeft log (length (singles old.state.log) + 1)) (sym has.is) noted_left in
          let noted_mark : HasMark new.state.log noted = record { entries = refl; picks = refl } in
          let policy_is : after_it.policy ≡ (reach_by cursor entry).policy = ap (λ (x : Cursor). x.policy) has.is in
          let given_is : after_it.given ≡ (reach_by cursor entry).given = ap (λ (x : Cursor). x.given) has.is in
          let many : length (singles new.state.log) ≡ length (singles old.state.log) + 1 =
          ap (λ (l : List Log). length (singles l)) log_is
          ∙ ap length (singles_more old.state.log logged)
          ∙ ap (λ (xs : List Log). length (singles old.state.log ++ xs)) one
          ∙ length_push (singles old.state.log) logged in
          record {
            unit = unit_gone;
            follows = record {
              idle = idle;
              at = record {
                within = left.within;
                rest = ap (λ (k : ℕ). drop k (singles log)) many ∙ left.rest;
                settled = left.settled;
                policy_is = policy_is ∙ sym (ap last_policy log_is ∙ policy_push old.state.log logged ∙ policy_logs);
                given_is = given_is ∙ sym (ap given_by log_is ∙ given_push old.state.log logged ∙ given_logs);
                mark = subst (HasMark new.state.log) (sym has.is) noted_mark;
              };
              rises = passed_rises s.force log cursor entry next follows.rises has.mid has.passed after_it
                  (ap (λ (x : Cursor). x.at) has.is) (policy_is ∙ sym policy_rises)
                  (omega (arith, policy_is, given_is, given_most));
            };
          }

    open_gone : (number address policy : ℕ) → slice_get log cursor.at ≡ Some (Open number address policy)
        → new ≡ answered (reply_by s cursor (Open number address policy)) (record old { waits = true })
        → HasAnswered log new.state.log (reach_by cursor (Open number address policy)) cursor after_it → HasGone s log
        old after_it new
    open_gone number address policy next is has =
        let entry : Log = Open number address policy in
        let fills : fills_between Filled cursor.given policy (members_in s)
        ≡ fills_between Filled (given_by old.state.log) policy (members_in s) =
        ap (λ (g : ℕ). fills_between Filled g policy (members_in s)) follows.at.given_is in
        let reply : Reply =
        reply_of address 0 policy (fills_between Filled (given_by old.state.log) policy (members_in s)) in
        let state_is : new.state ≡ going_to (after 4 old.state.pc) 1 (served Opens reply old.state) =
        ap (λ (m : PlainState). m.state) is
        ∙ ap (λ (fs : List Fill). going_to (after 4 old.state.pc) 1 (served Opens (reply_of address 0 policy fs)
        old.state))
        fills in
        let least : policy ≤ policy = omega arith in
        gone entry (Open (argument old.state) address policy) next reply refl refl
        (ap (λ (m : PlainState). m.waits) is) state_is (ap (λ (t : State). t.log) state_is) refl refl
        (subst (IsSettled cursor.used) (drop_entry log cursor.at entry next) follows.at.settled) has refl refl refl
        least

    cause_gone : (number cause : ℕ) → slice_get log cursor.at ≡ Some (Cause number cause)
        → new ≡ answered (reply_by s cursor (Cause number cause)) (record old { waits = true })
        → HasAnswered log new.state.log (reach_by cursor (Cause number cause)) cursor after_it
        → HasGone s log old after_it new
    cause_gone number cause next is has =
        let entry : Log = Cause number cause in
        let told = can.causes cursor.at number cause next in
        let some : cause == 0 ≡ false = ne_eqb cause 0 (λ same. told (ap why_of same)) in
        let few : cause == services.TOO_MANY ≡ false = ne_eqb cause services.TOO_MANY (λ same. told (ap why_of same)) in
        let reply : Reply = reply_of 0 cause 0 [] in
        let state_is : new.state ≡ going_to (after 4 old.state.pc) 1 (served Opens reply old.state) =
        ap (λ (m : PlainState). m.state) is
        ∙ ap (going_to (after 4 old.state.pc) 1) (refused_same (reply_of 0 cause cursor.policy []) old.state some) in
        let logged : Log = Cause (argument old.state) cause in
        let log_is : new.state.log ≡ old.state.log ++ logged ∷ [] =
        ap (λ (t : State). t.log) state_is
        ∙ ap (λ (b : Bool). (opens_as b reply old.state).log) some
        ∙ ap (λ (b : Bool). cond b old.state.log (old.state.log ++ logged ∷ [])) few in
        gone entry logged next reply refl refl (ap (λ (m : PlainState). m.waits) is) state_is log_is refl refl
        (subst (IsSettled cursor.used) (drop_entry log cursor.at entry next) follows.at.settled) has refl
        (sym follows.at.policy_is) (sym follows.at.given_is) follows.rises.given

    entry_gone : (entry : Log) → slice_get log cursor.at ≡ Some entry → IsOpenEntry entry
        → new ≡ answered (reply_by s cursor entry) (record old { waits = true })
        → HasAnswered log new.state.log (reach_by cursor entry) cursor after_it
        → HasGone s log old after_it new
    entry_gone (Pick policy count) next answers is has = absurd answers
    entry_gone (Open number address policy) next answers is has = open_gone number address policy next is has
    entry_gone (Cause number cause) next answers is has = cause_gone number cause next is has

-- ---- the machine that asks

module _ {s : Setting} {log : List Log} {cursor : Cursor} {old mid : PlainState} (t : HasTurned s log cursor old mid)
    (waits : mid.waits ≡ true) where
  pub asks_now : Asks s log cursor mid
  asks_now =
      subst (Asks s log cursor) (sym (turn_waits t waits))
      (record { waiting = refl; at = t.follows.at; rises = t.follows.rises })

  -- it has the answer of the next entry
  pub answer_gone : CanReplay s log → (after_it : Cursor) (new : PlainState)
      → HasAnsweredBy s log (record { cursor = cursor; machine = mid }) (record { cursor = after_it; machine = new })
      → HasGone s log old after_it new
  answer_gone can after_it new by =
      entry_gone s log cursor can old t.follows t.going t.turn.unit t.turn.stands
      (asks_by t.turn.unit old.state (turn_asks t waits)) after_it new by.entry by.next by.answers
      (by.is ∙ ap (answered (reply_by s cursor by.entry)) (turn_waits t waits)) by.cursor

  -- which answers none
  pub answer_stuck : IsNoAnswer (slice_get log cursor.at) → (last : State)
      → IsReplayed Filled s.code.now (members_in s) log old.state last → ⊥
  answer_stuck none last r =
      no_open s log cursor old.state t.turn.unit t.turn.stands (turn_asks t waits) none
      (next_of s log cursor old.state t.follows.at) last r
