-- The replay of a guest goes on, one unit at a time.
use Rattle.std.proofs.Common.{◌≡◌, ◌≢◌, ℕ, suc, ◌+◌, ◌==◌, ◌<◌, ℤ, Bool, true, false, cond, List, [], ◌∷◌, ◌++◌, length, Option, Some, refl, sym, ap, subst, ◌∙◌, add-one, arith}
use Rattle.std.specs.Prelude.{nat_lt}
use Rattle.std.specs.List.{slice_get}
use Rattle.std.proofs.lemmas.Bool.{false≢true, eq-eqb, eqb-true, ne_eqb, and_parts}
use Rattle.std.proofs.Math.Seq.{get_or-append_seam}
use Rattle.std.proofs.lemmas.List.{append-nil, length-append}
use Rattle.std.proofs.lemmas.Option.{slice_get-get_or}
use Rattle.cfi_unit.specs.declared.log.Log.{Log}
use Rattle.cfi_unit.specs.declared.log.Log.TheVariants.{Pick, Open, Cause}
use Rattle.cfi_unit.specs.declared.unit.Unit.{Unit as CodeUnit}
use Rattle.cfi_unit.specs.declared.unit.Unit.TheVariants as units
use Rattle.cfi_model.specs.Effect.{effect, going_to, is_in_code, asks}
use Rattle.cfi_model.specs.Log.{opens, picked}
use Rattle.cfi_model.specs.Service.{Reply, Service, Opens, service_of, served, served_log, reply_of, too_many, asked, argument}
use Rattle.cfi_model.specs.State.{State, register, displaced, after}
use Rattle.cfi_valid.specs.Loaded.{Members, Cells, fills_between}
use Rattle.cfi_valid.specs.Replay.{singles, next_in, given_by, IsReplyOf, TakesPick, TakesAnswer, TakesFrom, IsReplayed, Replays}
use Rattle.cfi_valid.specs.Running.{HasReplayed, FitsService, IsGiven, RunsUnit}
use Rattle.cfi_valid.proofs.AnswerLemmas.{opens_as, refused_same, other_same, other_log, opens_is, opens_of}
use Rattle.cfi_valid.proofs.LongerLemmas.{Longer, replay_stays}
use Rattle.cfi_valid.proofs.SinglesLemmas.{singles_more, singles_picked}
use Rattle.cfi_word.specs.declared.limits.TheConstants.{MAX_OPENS}
use Rattle.cfi_word.specs.declared.services.TheConstants as services

-- ---- the unit that is run

next_at : (old new : State) (entry : Log) → Longer old.log new.log (entry ∷ []) → next_in new.log old ≡ Some entry
next_at old new entry is =
    let xs : List Log = singles old.log in
    let within : length xs < length (xs ++ entry ∷ []) = omega (arith, length-append xs (entry ∷ [])) in
    ap (λ (all : List Log). slice_get all (length xs)) is
    ∙ slice_get-get_or (xs ++ entry ∷ []) (length xs) entry within
    ∙ ap (λ (e : Log). Some e) (get_or-append_seam xs entry [] entry)

-- it is replayed, over the log that it leaves, which has more
pub record IsLast (cells : Cells) (code : List ℕ) (members : Members) (old new : State) : Type 0 where
  pub more : List Log
  pub longer : Longer old.log new.log more
  pub unit : IsReplayed cells code members new.log old new

same_log : (old new : State) → new.log ≡ old.log → Longer old.log new.log []
same_log old new same = ap singles same ∙ sym (append-nil (singles old.log))

module _ (cells : Cells) (code : List ℕ) (members : Members) (old new : State)
    (p : RunsUnit cells code members old new) where
  -- by what it takes from the log
  last_as : (reply : Reply) → TakesFrom cells members (next_in new.log old) p.unit old p.pick p.allowed reply
      → new ≡ effect p.unit p.pick (λ slot target. p.allowed) reply old
      → (more : List Log) → Longer old.log new.log more
      → IsLast cells code members old new
  last_as reply takes is more longer = record {
    more = more;
    longer = longer;
    unit = record {
      going = p.going;
      unit = p.unit;
      stands = p.stands;
      pick = p.pick;
      allowed = p.allowed;
      reply = reply;
      takes = takes;
      is = is;
    };
  }

  -- ---- a check

  check_last : (link : Bool) (rs1 : ℕ) (imm : ℤ) (slot : ℕ) → p.unit ≡ units.Check link rs1 imm slot
      → (inside : Bool) → is_in_code (displaced (register old rs1) imm) ≡ inside → IsLast cells code members old new
  check_last link rs1 imm slot unit true inside =
      let target = displaced (register old rs1) imm in
      let is = p.is ∙ ap (λ (u : CodeUnit). effect u p.pick (λ slot target. p.allowed) p.reply old) unit in
      let log : new.log ≡ picked p.pick old.log =
      ap (λ (s : State). s.log) is ∙ ap (λ (b : Bool). cond b (picked p.pick old.log) old.log) inside in
      let longer : Longer old.log new.log (Pick p.pick 1 ∷ []) = ap singles log ∙ singles_picked p.pick old.log in
      let given = subst (λ (u : CodeUnit). IsGiven cells members u old p.pick p.allowed p.reply) unit p.given in
      let picks : TakesPick true members (next_in new.log old) slot target p.pick p.allowed = record {
        is = next_at old new (Pick p.pick 1) longer;
        exact = given inside;
      } in
      let takes = subst (λ (b : Bool). TakesPick b members (next_in new.log old) slot target p.pick p.allowed)
      (sym inside) picks in
      last_as p.reply
      (subst (λ (u : CodeUnit). TakesFrom cells members (next_in new.log old) u old p.pick p.allowed p.reply) (sym unit)
      takes)
      p.is
      (Pick p.pick 1 ∷ []) longer
  check_last link rs1 imm slot unit false inside =
      let target = displaced (register old rs1) imm in
      let is = p.is ∙ ap (λ (u : CodeUnit). effect u p.pick (λ slot target. p.allowed) p.reply old) unit in
      let log : new.log ≡ old.log =
      ap (λ (s : State). s.log) is ∙ ap (λ (b : Bool). cond b (picked p.pick old.log) old.log) inside in
      let picks : TakesPick false members (next_in new.log old) slot target p.pick p.allowed = tt in
      let takes = subst (λ (b : Bool). TakesPick b members (next_in new.log old) slot target p.pick p.allowed)
      (sym inside) picks in
      last_as p.reply
      (subst (λ (u : CodeUnit). TakesFrom cells members (next_in new.log old) u old p.pick p.allowed p.reply) (sym unit)
      takes)
      p.is
      [] (same_log old new log)

  -- ---- a service

  module _ (unit : p.unit ≡ units.Service) where
    abbrev as_service : Reply → State
    as_service reply = going_to (after 4 old.pc) 1 (served (service_of (asked old)) reply old)

    is_service : new ≡ as_service p.reply
    is_service = p.is ∙ ap (λ (u : CodeUnit). effect u p.pick (λ slot target. p.allowed) p.reply old) unit

    given : FitsService cells (asks old) members old p.reply
    given = subst (λ (u : CodeUnit). IsGiven cells members u old p.pick p.allowed p.reply) unit p.given

    -- what it takes, by whether it asks
    service_as : (asking : Bool) → asks old ≡ asking → (reply : Reply)
        → TakesAnswer cells asking members old (next_in new.log old) reply → new ≡ as_service reply → (more : List Log)
        → Longer old.log new.log more → IsLast cells code members old new
    service_as asking is reply answers same more longer =
        let takes =
        subst (λ (b : Bool). TakesAnswer cells b members old (next_in new.log old) reply) (sym is) answers in
        let whole = same ∙ ap (λ (u : CodeUnit). effect u p.pick (λ slot target. p.allowed) reply old) (sym unit) in
        last_as reply
        (subst (λ (u : CodeUnit). TakesFrom cells members (next_in new.log old) u old p.pick p.allowed reply) (sym unit)
        takes) whole
        more longer

    -- an open that can be logged
    asked_open : asks old ≡ true → asked old ≡ services.OPEN
    asked_open is =
        let both = and_parts (asked old == services.OPEN) (nat_lt (opens old.log) MAX_OPENS) is in
        eqb-true (asked old) services.OPEN both.0

    opened_last : asks old ≡ true → (works : Bool) → p.reply.cause == 0 ≡ works → IsLast cells code members old new
    opened_last is true works =
        let loggable = subst (λ (b : Bool). FitsService cells b members old p.reply) is given in
        let cause : p.reply.cause ≡ 0 = eqb-true p.reply.cause 0 works in
        let fills : p.reply.fills ≡ fills_between cells (given_by old.log) p.reply.policy members =
        loggable.brings cause in
        let reply : Reply =
        reply_of p.reply.address 0 p.reply.policy (fills_between cells (given_by old.log) p.reply.policy members) in
        let reply_is : p.reply ≡ record {
          address = p.reply.address;
          cause = p.reply.cause;
          policy = p.reply.policy;
          fills = p.reply.fills;
        } = refl in
        let same : p.reply ≡ reply = cc in
        let entry : Log = Open (argument old) p.reply.address p.reply.policy in
        let log : new.log ≡ old.log ++ entry ∷ [] =
        ap (λ (s : State). s.log) is_service
        ∙ ap (λ (service : Service). served_log service p.reply old) (opens_of (asked old) (asked_open is))
        ∙ ap (λ (b : Bool). (opens_as b p.reply old).log) works in
        let longer : Longer old.log new.log (entry ∷ []) = ap singles log ∙ singles_more old.log entry in
        let told : IsReplyOf cells members old (Some entry) reply = refl in
        service_as true is reply
        (subst (λ (n : Option Log). IsReplyOf cells members old n reply) (sym (next_at old new entry longer)) told)
        (is_service ∙ ap as_service same) (entry ∷ []) longer
    opened_last is false works =
        let loggable = subst (λ (b : Bool). FitsService cells b members old p.reply) is given in
        let reply : Reply = reply_of 0 p.reply.cause 0 [] in
        let opening_is = opens_of (asked old) (asked_open is) in
        let entry : Log = Cause (argument old) p.reply.cause in
        let few : p.reply.cause == services.TOO_MANY ≡ false = ne_eqb p.reply.cause services.TOO_MANY loggable.some in
        let log : new.log ≡ old.log ++ entry ∷ [] =
        ap (λ (s : State). s.log) is_service
        ∙ ap (λ (service : Service). served_log service p.reply old) opening_is
        ∙ ap (λ (b : Bool). (opens_as b p.reply old).log) works
        ∙ ap (λ (b : Bool). cond b old.log (old.log ++ entry ∷ [])) few in
        let longer : Longer old.log new.log (entry ∷ []) = ap singles log ∙ singles_more old.log entry in
        let told : IsReplyOf cells members old (Some entry) reply = refl in
        let same : as_service p.reply ≡ as_service reply =
        ap (λ (service : Service). going_to (after 4 old.pc) 1 (served service p.reply old)) opening_is
        ∙ ap (going_to (after 4 old.pc) 1) (refused_same p.reply old works)
        ∙ sym (ap (λ (service : Service). going_to (after 4 old.pc) 1 (served service reply old)) opening_is) in
        service_as true is reply
        (subst (λ (n : Option Log). IsReplyOf cells members old n reply) (sym (next_at old new entry longer)) told)
        (is_service ∙ same) (entry ∷ []) longer

    -- each other service
    other_last : asks old ≡ false → (opening : Bool) → asked old == services.OPEN ≡ opening
        → IsLast cells code members old new
    other_last is true opening =
        let number = eqb-true (asked old) services.OPEN opening in
        let opening_is = opens_of (asked old) number in
        let cause : p.reply.cause ≡ services.TOO_MANY =
        subst (λ (b : Bool). FitsService cells b members old p.reply) is given number in
        let fails : p.reply.cause == 0 ≡ false =
        ne_eqb p.reply.cause 0 (λ none. absurd (omega (arith, none, cause))) in
        let same : as_service p.reply ≡ as_service too_many =
        ap (λ (service : Service). going_to (after 4 old.pc) 1 (served service p.reply old)) opening_is
        ∙ ap (going_to (after 4 old.pc) 1) (refused_same p.reply old fails)
        ∙ ap (λ (n : ℕ). going_to (after 4 old.pc) 1 (served Opens (reply_of 0 n 0 []) old)) cause
        ∙ sym (ap (λ (service : Service). going_to (after 4 old.pc) 1 (served service too_many old)) opening_is) in
        let log : new.log ≡ old.log =
        ap (λ (s : State). s.log) (is_service ∙ same)
        ∙ ap (λ (service : Service). served_log service too_many old) opening_is in
        service_as false is too_many refl (is_service ∙ same) [] (same_log old new log)
    other_last is false opening =
        let none : service_of (asked old) ≢ Opens = λ same.
        false≢true (sym opening ∙ eq-eqb (asked old) services.OPEN (opens_is (asked old) same)) in
        let same : as_service p.reply ≡ as_service too_many =
        ap (going_to (after 4 old.pc) 1) (other_same (service_of (asked old)) p.reply too_many old none) in
        let log : new.log ≡ old.log =
        ap (λ (s : State). s.log) is_service ∙ other_log (service_of (asked old)) p.reply old none in
        service_as false is too_many refl (is_service ∙ same) [] (same_log old new log)

    service_last : (asking : Bool) → asks old ≡ asking → IsLast cells code members old new
    service_last true is = opened_last is (p.reply.cause == 0) refl
    service_last false is = other_last is (asked old == services.OPEN) refl

  -- ---- every unit

  -- one that takes nothing from the log, and adds nothing to it
  quiet_last : (unit : CodeUnit) → p.unit ≡ unit
      → TakesFrom cells members (next_in new.log old) unit old p.pick p.allowed p.reply
      → (effect unit p.pick (λ slot target. p.allowed) p.reply old).log ≡ old.log → IsLast cells code members old new
  quiet_last unit same takes log =
      let is = p.is ∙ ap (λ (u : CodeUnit). effect u p.pick (λ slot target. p.allowed) p.reply old) same in
      last_as p.reply
      (subst (λ (u : CodeUnit). TakesFrom cells members (next_in new.log old) u old p.pick p.allowed p.reply) (sym same)
      takes)
      p.is []
      (same_log old new (ap (λ (s : State). s.log) is ∙ log))

  unit_last : (unit : CodeUnit) → p.unit ≡ unit → IsLast cells code members old new
  unit_last (units.Plain insn) same = quiet_last (units.Plain insn) same tt refl
  unit_last (units.Load kind rd rs1 imm) same = quiet_last (units.Load kind rd rs1 imm) same tt refl
  unit_last (units.Store kind rs1 rs2 imm) same = quiet_last (units.Store kind rs1 rs2 imm) same tt refl
  unit_last (units.Branch cond rs1 rs2 off) same = quiet_last (units.Branch cond rs1 rs2 off) same tt refl
  unit_last (units.Jump link off) same = quiet_last (units.Jump link off) same tt refl
  unit_last (units.Check link rs1 imm slot) same =
      check_last link rs1 imm slot same (is_in_code (displaced (register old rs1) imm)) refl
  unit_last units.Service same = service_last same (asks old) refl

pub replay_goes_on : (cells : Cells) (code : List ℕ) (members : Members) (count : ℕ) (start old new : State)
    → HasReplayed cells code members count start old → RunsUnit cells code members old new
    → HasReplayed cells code members (count + 1) start new
replay_goes_on cells code members count start old new p q =
    let last = unit_last cells code members old new q q.unit refl in
    let before = replay_stays cells code members old.log new.log last.more last.longer count start old p in
    let all : Replays cells code members new.log (suc count) start new = (old, before, last.unit) in
    subst (λ (n : ℕ). Replays cells code members new.log n start new) (sym (add-one count)) all
