-- What a check makes of an edge.
use Rattle.std.proofs.Common.{◌≡◌, ℕ, ◌/◌, ◌&&◌, Bool, true, false, cond, Option, Some, None, List, length, refl, sym, ap, subst, ◌∙◌}
use Rattle.std.proofs.lemmas.Bool.{and_parts}
use Rattle.cfi_unit.specs.declared.log.Stop.{Stop}
use Rattle.cfi_unit.specs.declared.log.Stop.TheVariants.{Halt}
use Rattle.cfi_unit.specs.declared.unit.Unit.{Unit as CodeUnit}
use Rattle.cfi_unit.specs.declared.unit.Unit.TheVariants as units
use Rattle.cfi_unit.proofs.CodeLemmas.{BeginsAt-one}
use Rattle.cfi_model.specs.Effect.{effect, is_in_code}
use Rattle.cfi_model.specs.History.{History, IsHistory, allows_at}
use Rattle.cfi_model.specs.Log.{picked}
use Rattle.cfi_model.specs.Running.{IsForbidden}
use Rattle.cfi_model.specs.Shows.{End, AsksUnder, IsReady, IsStep}
use Rattle.cfi_model.specs.State.{State, register, displaced}
use Rattle.cfi_model.proofs.HaltLemmas.{only_checks_halt}
use Rattle.cfi_valid.specs.FromLaw.{HasPolicies}
use Rattle.cfi_valid.specs.Loaded.{Members}
use Rattle.cfi_valid.proofs.LawLemmas.{check_given}
use Rattle.cfi_top.specs.Edges.{IsChecked, IsAllowedEdge, IsForbiddenEdge}
use Rattle.cfi_top.specs.Headline.{IsHalted, KeepsPolicy}

-- where a check goes on it was let through
through : (b : Bool) (o : Option Stop) (stop : Stop) → cond b o (Some stop) ≡ None → b ≡ true
through true o stop e = refl
through false o stop e = absurd (cc)

-- a guest that has halted does not go on
never : (o : Option Stop) (stop : Stop) → o ≡ Some stop → o ≡ None → ⊥
never o stop halts goes = absurd (cc)

module _ (h : History) (code : List ℕ) (members : Members) (end : End) (old new : State)
    (known : IsHistory h code) (policies : HasPolicies (length code) members h) (ready : IsReady h old)
    (p : IsStep h code end old new) where
  -- the check that stands there is the unit that was run
  module _ (slot target : ℕ) (c : IsChecked code old slot target) where
    abbrev check : CodeUnit
    check = units.Check c.link c.rs1 c.imm slot

    abbrev to : ℕ
    to = displaced (register old c.rs1) c.imm

    unit_is : p.unit ≡ check
    unit_is = BeginsAt-one code (old.pc / 4) p.unit check p.stands.begins c.stands.begins

    effect_is : new ≡ effect check (h.policy p.epoch) (allows_at h p.epoch) p.reply old
    effect_is = p.is ∙ ap (λ u. effect u (h.policy p.epoch) (allows_at h p.epoch) p.reply old) unit_is

    allowed_edge : new.stop ≡ None → IsAllowedEdge h members end slot to old new
    allowed_edge goes =
        let passed : (is_in_code to && allows_at h p.epoch slot to) ≡ true =
        through (is_in_code to && allows_at h p.epoch slot to) old.stop (Halt to)
        (sym (ap (λ s. s.stop) effect_is) ∙ goes) in
        let both = and_parts (is_in_code to) (allows_at h p.epoch slot to) passed in
        record {
          asked = record {
            epoch = p.epoch;
            known = p.known;
            tried = subst (λ u. AsksUnder h p.epoch end u old) unit_is p.under both.0;
          };
          inside = both.0;
          allowed = (check_given h code members end old new known policies ready p c.link c.rs1 c.imm slot unit_is both.0).0
              both.1;
          goes = ap (λ s. s.pc) effect_is ∙ ap (λ b. cond b to old.pc) passed;
          logged = ap (λ s. s.log) effect_is
              ∙ ap (λ b. cond b (picked (h.policy p.epoch) old.log) old.log) both.0;
        }

    forbidden_edge : new.stop ≡ Some (Halt to) → is_in_code to ≡ true → old.stop ≡ None
        → IsForbiddenEdge h members end slot to
    forbidden_edge halts inside going = record {
      asked = record {
        epoch = p.epoch;
        known = p.known;
        tried = subst (λ u. AsksUnder h p.epoch end u old) unit_is p.under inside;
      };
      forbidden = λ allowed.
          let given = check_given h code members end old new known policies ready p c.link c.rs1 c.imm slot unit_is inside in
          let open_to : allows_at h p.epoch slot to ≡ true = given.1 allowed in
          let stays : new.stop ≡ old.stop =
          ap (λ s. s.stop) effect_is
          ∙ ap (λ b. cond (b && allows_at h p.epoch slot to) old.stop (Some (Halt to))) inside
          ∙ ap (λ b. cond b old.stop (Some (Halt to))) open_to in
          absurd (never new.stop (Halt to) halts (stays ∙ going));
    }

  halted : (target : ℕ) → new.stop ≡ Some (Halt target) → IsHalted h code members end old target
  halted target halts =
      let f : IsForbidden h code end old target = only_checks_halt h code end old new p target halts in
      let c : IsChecked code old f.slot target =
      record { link = f.link; rs1 = f.rs1; imm = f.imm; stands = f.stands; is = f.is } in
      record {
        slot = f.slot;
        checked = c;
        forbids = λ inside.
            subst (IsForbiddenEdge h members end f.slot) (sym f.is)
            (forbidden_edge f.slot target c (subst (λ t. new.stop ≡ Some (Halt t)) f.is halts)
            (subst (λ t. is_in_code t ≡ true) f.is inside) p.going);
      }

  pub keeps_policy : KeepsPolicy h code members end old new
  keeps_policy = record {
    step = p;
    goes = λ slot target c goes.
        subst (λ t. IsAllowedEdge h members end slot t old new) (sym c.is) (allowed_edge slot target c goes);
    halts = halted;
  }
