-- A step of the law is a unit of a replay.
use Rattle.std.proofs.Common.{◌≡◌, ℕ, ℤ, ◌/◌, ◌%◌, ◌<◌, ◌==◌, Bool, true, false, List, length, refl, sym, subst, ◌∙◌, ⊎_elim, arith}
use Rattle.std.specs.Prelude.{◌↔◌, nat_lt}
use Rattle.std.proofs.lemmas.Bool.{false≢true, eqb-true, eq-eqb, and_parts, and_from, cases_eq, ltb-true, lt-ltb}
use Rattle.cfi_model.specs.Closed.{StaysInside}
use Rattle.cfi_model.specs.Effect.{effect, is_in_code, asks}
use Rattle.cfi_model.specs.History.{History, IsHistory, slot_class, target_class, allows_at}
use Rattle.cfi_model.specs.Log.{opens}
use Rattle.cfi_model.specs.Service.{asked}
use Rattle.cfi_model.specs.Shows.{End, IsAnswered, IsReady, IsStep}
use Rattle.cfi_model.specs.State.{State, register, displaced}
use Rattle.cfi_model.proofs.StartLemmas.{Started, started, body_at}
use Rattle.cfi_unit.specs.declared.unit.Unit.{Unit as CodeUnit}
use Rattle.cfi_unit.specs.declared.unit.Unit.TheVariants as units
use Rattle.cfi_unit.proofs.CodeLemmas.{BeginsAt-one}
use Rattle.cfi_valid.specs.FromLaw.{HasPolicies, BringsDue, StepsAreUnits}
use Rattle.cfi_valid.specs.Loaded.{Members, placed_modules, loaded_by, live_at, AllowedAt, Cells}
use Rattle.cfi_valid.specs.Running.{FitsService, IsGiven, RunsUnit}
use Rattle.cfi_valid.proofs.PolicyLemmas.{image_allows}
use Rattle.cfi_word.specs.Table.{slots_of}
use Rattle.cfi_word.specs.declared.limits.TheConstants.{MAX_OPENS}
use Rattle.cfi_word.specs.declared.services.TheConstants.{OPEN, TOO_MANY}

module _ (h : History) (code : List ℕ) (members : Members) (end : End) (old new : State)
    (known : IsHistory h code) (policies : HasPolicies (length code) members h) (ready : IsReady h old)
    (p : IsStep h code end old new) where
  -- ---- a check

  -- its slot is one of the table
  stays : (unit : CodeUnit) → p.unit ≡ unit → (s : Started h code known old.pc)
      → StaysInside (body_at h code s.epoch known s.is) (length (h.image s.epoch).bary) old.pc unit
  stays unit same s =
      let one : s.unit ≡ p.unit = BeginsAt-one code (old.pc / 4) s.unit p.unit s.stands.begins p.stands.begins in
      subst (StaysInside (body_at h code s.epoch known s.is) (length (h.image s.epoch).bary) old.pc) (one ∙ same)
      ((known.closed s.epoch s.is).1.inside old.pc s.unit s.stands_in)

  slot_within : (link : Bool) (rs1 : ℕ) (imm : ℤ) (slot : ℕ) → p.unit ≡ units.Check link rs1 imm slot
      → slot < slots_of (length code)
  slot_within link rs1 imm slot same =
      let s = started h code old.pc known (ready.start p.going) in
      let inside = stays (units.Check link rs1 imm slot) same s in
      omega (arith, inside.1, (known.closed s.epoch s.is).1.classes.bary_length)

  -- it is let through where the policy of its epoch allows it
  pub check_given : (link : Bool) (rs1 : ℕ) (imm : ℤ) (slot : ℕ) → p.unit ≡ units.Check link rs1 imm slot
      → let target = displaced (register old rs1) imm in
      is_in_code target ≡ true
      → (allows_at h p.epoch slot target ≡ true) ↔ AllowedAt members (h.policy p.epoch) slot target
  check_given link rs1 imm slot same inside =
      let target = displaced (register old rs1) imm in
      let policy = h.policy p.epoch in
      let aligned : target % 4 ≡ 0 = eqb-true (target % 4) 0 (and_parts _ (target % 4 == 0) inside).1 in
      let exact = image_allows (length code) (placed_modules (loaded_by policy members.loaded))
      (placed_modules (live_at policy members)) (h.image p.epoch) (policies.modules p.epoch p.known)
      (policies.images p.epoch p.known) slot target (slot_within link rs1 imm slot same) aligned in
      let bary = slot_class h p.epoch slot in
      let tary = target_class h p.epoch target in (
        λ equal. exact.0 (eqb-true bary tary equal),
        λ allowed. eq-eqb bary tary (exact.1 allowed),
      )

  module _ (cells : Cells) (due : BringsDue cells members old end.reply) where
    -- ---- a service

    answered : p.unit ≡ units.Service → IsAnswered units.Service end p.reply old
    answered same = subst (λ (u : CodeUnit). IsAnswered u end p.reply old) same p.answered

    service_given : p.unit ≡ units.Service → (asking : Bool) → asks old ≡ asking
        → FitsService cells asking members old p.reply
    service_given same true is =
        let both = and_parts (asked old == OPEN) (nat_lt (opens old.log) MAX_OPENS) is in
        let a = answered same in
        let fits = a.fits (eqb-true (asked old) OPEN both.0) in
        record {
          some = fits.exact (ltb-true (opens old.log) MAX_OPENS both.1);
          brings = subst (BringsDue cells members old) a.came due;
        }
    service_given same false is = λ opening.
        let fits = (answered same).fits opening in
        ⊎_elim
        (λ (many : p.reply.cause ≡ TOO_MANY). many)
        (λ other.
        let few = fits.answer.few other in
        let both = and_from (asked old == OPEN) (nat_lt (opens old.log) MAX_OPENS) (eq-eqb (asked old) OPEN opening)
        (lt-ltb (opens old.log) MAX_OPENS few) in
        absurd (false≢true (sym is ∙ both)))
        (cases_eq p.reply.cause TOO_MANY)

    -- ---- every unit

    -- whether a check is let through
    abbrev allowed_by : CodeUnit → Bool
    allowed_by (units.Check link rs1 imm slot) = allows_at h p.epoch slot (displaced (register old rs1) imm)
    allowed_by unit = true

    given : (unit : CodeUnit) → p.unit ≡ unit
        → IsGiven cells members unit old (h.policy p.epoch) (allowed_by unit) p.reply
    given (units.Plain insn) same = tt
    given (units.Load kind rd rs1 imm) same = tt
    given (units.Store kind rs1 rs2 imm) same = tt
    given (units.Branch cond rs1 rs2 off) same = tt
    given (units.Jump link off) same = tt
    given (units.Check link rs1 imm slot) same = check_given link rs1 imm slot same
    given units.Service same = service_given same (asks old) refl

    effect_same : (unit : CodeUnit) → effect unit (h.policy p.epoch) (allows_at h p.epoch) p.reply old
        ≡ effect unit (h.policy p.epoch) (λ slot target. allowed_by unit) p.reply old
    effect_same (units.Plain insn) = refl
    effect_same (units.Load kind rd rs1 imm) = refl
    effect_same (units.Store kind rs1 rs2 imm) = refl
    effect_same (units.Branch cond rs1 rs2 off) = refl
    effect_same (units.Jump link off) = refl
    effect_same (units.Check link rs1 imm slot) = refl
    effect_same units.Service = refl

    runs_unit : RunsUnit cells code members old new
    runs_unit = record {
      going = p.going;
      unit = p.unit;
      stands = p.stands;
      pick = h.policy p.epoch;
      allowed = allowed_by p.unit;
      reply = p.reply;
      given = given p.unit refl;
      is = p.is ∙ effect_same p.unit;
    }

pub step_unit : StepsAreUnits
step_unit cells h code members end old new known policies ready p due =
    runs_unit h code members end old new known policies ready p cells due
