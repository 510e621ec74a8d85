-- A replay over the code of known units that evaluation makes: each unit takes what the log has next, and each check is
-- let through. What is left to prove is that each check was allowed.
use Rattle.std.proofs.Common.{◌≡◌, ℕ, zero, suc, ◌+◌, ◌-◌, ◌/◌, ◌%◌, ◌&&◌, Bool, true, false, cond, List, [], ◌∷◌, ◌++◌, length, Option, Some, None, refl, sym, ap, subst, ◌∙◌, ⊎_elim, append_assoc, arith}
use Rattle.std.specs.Prelude.{◌==◌}
use Rattle.std.specs.List.{AllByRecursion, flat_map}
use Rattle.std.proofs.lemmas.Bool.{cases_Bool, and_parts, eqb-true}
use Rattle.cfi_bare.proofs.LoadedLemmas.{copies}
use Rattle.cfi_model.specs.Effect.{effect, is_in_code, asks}
use Rattle.cfi_model.specs.Service.{Reply, reply_of, too_many}
use Rattle.cfi_model.specs.Shows.{Stands}
use Rattle.cfi_model.specs.State.{State, register, displaced}
use Rattle.cfi_unit.specs.declared.log.Log.{Log}
use Rattle.cfi_unit.specs.declared.log.Log.TheVariants.{Pick, Open, Cause}
use Rattle.cfi_unit.specs.declared.log.Stop.{Stop}
use Rattle.cfi_unit.specs.declared.unit.Unit.{Unit as CodeUnit}
use Rattle.cfi_unit.specs.declared.unit.Unit.TheVariants.{Check, Service}
use Rattle.cfi_unit.specs.Code.{BeginsAt}
use Rattle.cfi_unit.specs.Unit.{IsUnit, words_of, size_of}
use Rattle.cfi_valid.specs.Loaded.{Members, AllowedAt, Filled, fills_between}
use Rattle.cfi_valid.specs.Replay.{given_by, next_in, TakesPick, TakesAnswer, TakesFrom, IsReplayed, Replays}
use Rattle.cfi_valid.proofs.example.ExampleCode.{code_at, length-copies}
use Rattle.cfi_valid.proofs.example.FitLemmas.{are_units, all_units, first_begins, moved_on, front_on}
use Rattle.cfi_word.specs.declared.map.TheConstants.{FIRST_BASE}

-- ---- the unit that begins at a word

-- where the first of the units begins at this one
abbrev unit_from : (at : ℕ) → List CodeUnit → (place : ℕ) → Option CodeUnit
unit_from at [] place = None
unit_from at (u ∷ us) place = cond (at == place) (Some u) (unit_from (at + size_of u) us place)

-- behind words, and before others, the unit begins there
begins_from : (low rest : List ℕ) (us : List CodeUnit) (place : ℕ) (u : CodeUnit) → AllByRecursion IsUnit us
    → unit_from (length low) us place ≡ Some u → BeginsAt (low ++ (flat_map words_of us ++ rest)) place u
begins_from low rest [] place u fit is = absurd (cc)
begins_from low rest (v ∷ us) place u fit is =
    let later = unit_from (length low + size_of v) us place in
    let words = flat_map words_of (v ∷ us) ++ rest in
    ⊎_elim
    (λ (here : (length low == place) ≡ true).
    let told : Some v ≡ Some u = sym (ap (λ (b : Bool). cond b (Some v) later) here) ∙ is in
    let same : v ≡ u = cc in
    subst (λ (k : ℕ). BeginsAt (low ++ words) k u) (eqb-true (length low) place here)
    (subst (BeginsAt (low ++ words) (length low)) same (first_begins low rest v us fit.0)))
    (λ (apart : (length low == place) ≡ false).
    let told : later ≡ Some u = sym (ap (λ (b : Bool). cond b (Some v) later) apart) ∙ is in
    subst (λ (ws : List ℕ). BeginsAt ws place u) (moved_on low rest v us)
    (begins_from (low ++ words_of v) rest us place u fit.1
    (subst (λ (n : ℕ). unit_from n us place ≡ Some u) (sym (front_on low v)) told)))
    (cases_Bool (length low == place))

-- ---- what a unit takes from the log

abbrev is_going : Option Stop → Bool
is_going None = true
is_going (Some stop) = false

going : (stop : Option Stop) → is_going stop ≡ true → stop ≡ None
going None is = refl
going (Some stop) is = absurd (cc)

-- the policy of the next entry
abbrev pick_in : Option Log → ℕ
pick_in (Some (Pick policy count)) = policy
pick_in next = 0

-- a check whose target is one of the code has a pick
abbrev has_pick : (inside : Bool) → Option Log → Bool
has_pick true (Some (Pick policy count)) = count == 1
has_pick true next = false
has_pick false next = true

-- an open that can be logged has an answer
abbrev has_answer : (asked : Bool) → Option Log → Bool
has_answer true (Some (Open number address policy)) = true
has_answer true (Some (Cause number cause)) = true
has_answer true next = false
has_answer false next = true

abbrev takes_well : CodeUnit → Option Log → State → Bool
takes_well (Check link rs1 imm slot) next s = has_pick (is_in_code (displaced (register s rs1) imm)) next
takes_well Service next s = has_answer (asks s) next
takes_well u next s = true

-- what is asked of a policy
pub record Question : Type 0 where
  pub policy : ℕ
  pub slot : ℕ
  pub target : ℕ

abbrev question_in : (inside : Bool) → Option Log → (slot target : ℕ) → List Question
question_in true next slot target = record { policy = pick_in next; slot = slot; target = target } ∷ []
question_in false next slot target = []

abbrev questions_of : CodeUnit → Option Log → State → List Question
questions_of (Check link rs1 imm slot) next s =
    let target = displaced (register s rs1) imm in question_in (is_in_code target) next slot target
questions_of u next s = []

-- ---- the run

module _ (units : List CodeUnit) (members : Members) (log : List Log) where
  abbrev answer_in : (asked : Bool) → Option Log → State → Reply
  answer_in true (Some (Open number address policy)) s =
      reply_of address 0 policy (fills_between Filled (given_by s.log) policy members)
  answer_in true (Some (Cause number cause)) s = reply_of 0 cause 0 []
  answer_in true next s = too_many
  answer_in false next s = too_many

  abbrev fits_by : Option CodeUnit → State → Bool
  fits_by None s = false
  fits_by (Some u) s = is_going s.stop && ((s.pc % 4 == 0) && takes_well u (next_in log s) s)

  abbrev questions_by : Option CodeUnit → State → List Question
  questions_by None s = []
  questions_by (Some u) s = questions_of u (next_in log s) s

  abbrev next_by : Option CodeUnit → State → State
  next_by None s = s
  next_by (Some u) s =
      effect u (pick_in (next_in log s)) (λ slot target. true) (answer_in (asks s) (next_in log s) s) s

  abbrev unit_here : State → Option CodeUnit
  unit_here s = unit_from FIRST_BASE units (s.pc / 4)

  -- so many units later
  abbrev pub state_after : (count : ℕ) → State → State
  state_after zero s = s
  state_after (suc count) s = state_after count (next_by (unit_here s) s)

  -- each of them fits
  abbrev pub all_fit : (count : ℕ) → State → Bool
  all_fit zero s = true
  all_fit (suc count) s = fits_by (unit_here s) s && all_fit count (next_by (unit_here s) s)

  -- and they ask this
  abbrev pub all_questions : (count : ℕ) → State → List Question
  all_questions zero s = []
  all_questions (suc count) s =
      questions_by (unit_here s) s ++ all_questions count (next_by (unit_here s) s)

  abbrev IsAllowed : Question → Type 0
  IsAllowed q = AllowedAt members q.policy q.slot q.target

  abbrev pub AreAllowed : List Question → Type 0
  AreAllowed questions = AllByRecursion IsAllowed questions

  -- ---- is a replay

  allowed_parts : (xs ys : List Question) → AreAllowed (xs ++ ys) → AreAllowed xs × AreAllowed ys
  allowed_parts [] ys all = (tt, all)
  allowed_parts (x ∷ xs) ys all =
      let parts = allowed_parts xs ys all.1 in
      ((all.0, parts.0), parts.1)

  takes_pick : (inside : Bool) (next : Option Log) (slot target : ℕ) → has_pick inside next ≡ true
      → AreAllowed (question_in inside next slot target) → TakesPick inside members next slot target (pick_in next) true
  takes_pick true (Some (Pick policy count)) slot target has allowed = record {
    is = ap (λ (n : ℕ). Some (Pick policy n)) (eqb-true count 1 has);
    exact = (λ is. allowed.0, λ chain. refl);
  }
  takes_pick true next slot target has allowed = absurd (cc)
  takes_pick false next slot target has allowed = tt

  takes_answer : (asked : Bool) (next : Option Log) (s : State) → has_answer asked next ≡ true
      → TakesAnswer Filled asked members s next (answer_in asked next s)
  takes_answer true (Some (Open number address policy)) s has = refl
  takes_answer true (Some (Cause number cause)) s has = refl
  takes_answer true next s has = absurd (cc)
  takes_answer false next s has = refl

  takes : (u : CodeUnit) (next : Option Log) (s : State) → takes_well u next s ≡ true
      → AreAllowed (questions_of u next s)
      → TakesFrom Filled members next u s (pick_in next) true (answer_in (asks s) next s)
  takes (Check link rs1 imm slot) next s has allowed =
      let target = displaced (register s rs1) imm in takes_pick (is_in_code target) next slot target has allowed
  takes Service next s has allowed = takes_answer (asks s) next s has
  takes u next s has allowed = tt

  module _ (code_words : ℕ) (fit : are_units units ≡ true) where
    abbrev words : List ℕ
    words = flat_map words_of units

    abbrev code : List ℕ
    code = code_at code_words words

    stands_here : (s : State) (u : CodeUnit) → (s.pc % 4 == 0) ≡ true → unit_here s ≡ Some u → Stands code s.pc u
    stands_here s u aligned is =
        let low = copies FIRST_BASE 0 in
        let rest = copies (code_words - FIRST_BASE - length words) 0 in
        let from : unit_from (length low) units (s.pc / 4) ≡ Some u =
        subst (λ (n : ℕ). unit_from n units (s.pc / 4) ≡ Some u) (sym (length-copies FIRST_BASE 0)) is in
        record {
          aligned = eqb-true (s.pc % 4) 0 aligned;
          begins = subst (λ (ws : List ℕ). BeginsAt ws (s.pc / 4) u) (sym (append_assoc low words rest))
              (begins_from low rest units (s.pc / 4) u (all_units units fit) from);
        }

    one : (s : State) (o : Option CodeUnit) → unit_here s ≡ o → fits_by o s ≡ true → AreAllowed (questions_by o s)
        → IsReplayed Filled code members log s (next_by o s)
    one s None is has allowed = absurd (cc)
    one s (Some u) is has allowed =
        let first = and_parts _ _ has in
        let second = and_parts _ _ first.1 in
        record {
          going = going s.stop first.0;
          unit = u;
          stands = stands_here s u second.0 is;
          pick = pick_in (next_in log s);
          allowed = true;
          reply = answer_in (asks s) (next_in log s) s;
          takes = takes u (next_in log s) s second.1 allowed;
          is = refl;
        }

    goes_on : (count done : ℕ) (start s : State) → all_fit count s ≡ true → AreAllowed (all_questions count s)
        → Replays Filled code members log done start s
        → Replays Filled code members log (done + count) start (state_after count s)
    goes_on zero done start s fits allowed so =
        let same : done ≡ done + 0 = omega arith in
        subst (λ (n : ℕ). Replays Filled code members log n start s) same so
    goes_on (suc count) done start s fits allowed so =
        let u = unit_here s in
        let parts = and_parts (fits_by u s) (all_fit count (next_by u s)) fits in
        let asked = allowed_parts (questions_by u s) (all_questions count (next_by u s)) allowed in
        let same : suc done + count ≡ done + suc count = omega arith in
        subst (λ (n : ℕ). Replays Filled code members log n start (state_after count (next_by u s))) same
        (goes_on count (suc done) start (next_by u s) parts.1 asked.1 (s, so, one s u refl parts.0 asked.0))

    -- so many units of the code lead from one state to another
    pub replays : (count : ℕ) (s : State) → all_fit count s ≡ true → AreAllowed (all_questions count s)
        → Replays Filled code members log count s (state_after count s)
    replays count s fits allowed =
        let same : 0 + count ≡ count = omega arith in
        subst (λ (n : ℕ). Replays Filled code members log n s (state_after count s)) same
        (goes_on count 0 s s fits allowed refl)
