-- The policy machine between two units of a run is ready for the next one.
use Rattle.std.proofs.Common.{◌≡◌, ℕ, ℤ, ◌/◌, ◌<◌, Bool, List, [], ◌∷◌, length, refl, sym, subst, arith}
use Rattle.cfi_unit.specs.declared.unit.Unit.{Unit as CodeUnit}
use Rattle.cfi_unit.specs.declared.unit.Unit.TheVariants as units
use Rattle.cfi_unit.proofs.CodeLemmas.{BeginsAt-one}
use Rattle.cfi_model.specs.Closed.{StaysInside}
use Rattle.cfi_model.specs.History.{History, IsHistory, allows_at}
use Rattle.cfi_model.specs.Shows.{End, IsReady, IsStep, Runs}
use Rattle.cfi_model.specs.State.{State, register, displaced}
use Rattle.cfi_model.proofs.AdvanceLemmas.{at_start}
use Rattle.cfi_model.proofs.LawLemmas.{At, target_starts}
use Rattle.cfi_model.proofs.ReadyLemmas.{Targets, ready_kept}
use Rattle.cfi_model.proofs.StartLemmas.{body_at}

module _ (h : History) (code : List ℕ) (known : IsHistory h code) where
  module _ (end : End) (old new : State) (ready : IsReady h old) (p : IsStep h code end old new) where
    place : (unit : CodeUnit) × At h code old unit
    place = at_start h code old 0 known ready p.going

    same : place.0 ≡ p.unit
    same = BeginsAt-one code (old.pc / 4) place.0 p.unit place.1.here.stands.begins p.stands.begins

    -- what holds of a unit that stands there
    abbrev Inside : CodeUnit → Type 0
    Inside unit =
        StaysInside (body_at h code place.1.epoch place.1.here.known place.1.is) (length (h.image place.1.epoch).bary)
        old.pc unit

    inside : Inside p.unit
    inside = subst Inside same place.1.inside

    -- the slot of a check is one of each epoch's table
    slot_within : (link : Bool) (rs1 : ℕ) (imm : ℤ) (slot : ℕ) → p.unit ≡ units.Check link rs1 imm slot
        → slot < length (h.image p.epoch).bary
    slot_within link rs1 imm slot e =
        let here : Inside (units.Check link rs1 imm slot) = subst Inside e inside in
        omega (
          arith,
          here.1,
          (known.closed place.1.epoch place.1.is).1.classes.bary_length,
          (known.closed p.epoch p.known).1.classes.bary_length,
        )

    targets : (unit : CodeUnit) → p.unit ≡ unit → Targets h (allows_at h p.epoch) unit old
    targets (units.Plain insn) e = tt
    targets (units.Load kind rd rs1 imm) e = tt
    targets (units.Store kind rs1 rs2 imm) e = tt
    targets (units.Branch cond rs1 rs2 off) e = tt
    targets (units.Jump link off) e = tt
    targets (units.Check link rs1 imm slot) e = λ granted.
        target_starts h code known p.epoch slot (displaced (register old rs1) imm) p.known
        (slot_within link rs1 imm slot e) granted
    targets units.Service e = tt

    pub step_ready : IsReady h new
    step_ready =
        subst (IsReady h) (sym p.is)
        (ready_kept h code place.1.here.known place.1.epoch place.1.is p.unit (h.policy p.epoch) (allows_at h p.epoch) p.reply old
        ready place.1.here.small inside (targets p.unit refl))

  pub runs_ready : (ends : List End) (old new : State) → IsReady h old → Runs h code ends old new → IsReady h new
  runs_ready [] old new ready runs = subst (IsReady h) (sym runs) ready
  runs_ready (end ∷ ends) old new ready runs =
      runs_ready ends runs.0 new (step_ready end old runs.0 ready runs.1) runs.2
