-- Which units stop a guest with Halt.
use Rattle.std.proofs.Common.{◌≡◌, ℕ, ◌&&◌, Bool, true, false, cond, List, Option, Some, None, refl, sym, ◌∙◌, ap, subst}
use Rattle.std.proofs.lemmas.Bool.{eqb-false}
use Rattle.std.proofs.lemmas.Option.{none-some, same_Some}
use Rattle.cfi_unit.specs.declared.log.Stop.{Stop}
use Rattle.cfi_unit.specs.declared.log.Stop.TheVariants as stops
use Rattle.cfi_unit.specs.declared.unit.Unit.{Unit as CodeUnit}
use Rattle.cfi_unit.specs.declared.unit.Unit.TheVariants as units
use Rattle.cfi_model.specs.Effect.{effect, is_in_code}
use Rattle.cfi_model.specs.History.{History, IsEpoch, slot_class, target_class, allows_at}
use Rattle.cfi_model.specs.Running.{HasApartClasses, IsForbidden}
use Rattle.cfi_model.specs.Service.{Reply, Service, Ends, Puts, Quiets, Opens, Unknown, argument, service_of, asked, served_stop}
use Rattle.cfi_model.specs.Shows.{Stands, End, AsksUnder, IsStep}
use Rattle.cfi_model.specs.State.{State, register, displaced}

-- an access stops with Align
access_halts : (fits : Bool) (stop : Option Stop) (address target : ℕ) → stop ≡ None
    → cond fits stop (Some (stops.Align address)) ≡ Some (stops.Halt target) → ⊥
access_halts true stop address target none some = absurd (cc)
access_halts false stop address target none some = absurd (cc)

-- a service stops with Exit alone
pub served_exits : (service : Service) (s : State) (stop : Stop) → s.stop ≡ None
    → served_stop service s ≡ Some stop → stop ≡ stops.Exit (argument s)
served_exits Ends s stop none some = sym (same_Some (stops.Exit (argument s)) stop some)
served_exits Puts s stop none some = absurd (none-some stop (sym none ∙ some))
served_exits Quiets s stop none some = absurd (none-some stop (sym none ∙ some))
served_exits Opens s stop none some = absurd (none-some stop (sym none ∙ some))
served_exits Unknown s stop none some = absurd (none-some stop (sym none ∙ some))

served_halts : (service : Service) (s : State) (target : ℕ) → s.stop ≡ None
    → served_stop service s ≡ Some (stops.Halt target) → ⊥
served_halts service s target none some =
    let exits = served_exits service s (stops.Halt target) none some in absurd (cc)

-- a check that goes on does not stop
check_halts : (goes : Bool) (stop : Option Stop) (to target : ℕ) → stop ≡ None
    → cond goes stop (Some (stops.Halt to)) ≡ Some (stops.Halt target) → (goes ≡ false) × (target ≡ to)
check_halts true stop to target none some = absurd (none-some (stops.Halt target) (sym none ∙ some))
check_halts false stop to target none some = (refl, cc)

not_both : (a b : Bool) → a && b ≡ false → a ≡ true → b ≡ false
not_both true b e is = e
not_both false b e is = absurd (cc)

module _ (h : History) (code : List ℕ) (end : End) (s : State) (going : s.stop ≡ None) (target : ℕ) where
  halts_by : (unit : CodeUnit) → Stands code s.pc unit → (epoch : ℕ) → IsEpoch h epoch → AsksUnder h epoch end unit s
      → (reply : Reply) → (effect unit (h.policy epoch) (allows_at h epoch) reply s).stop ≡ Some (stops.Halt target)
      → IsForbidden h code end s target
  halts_by (units.Plain insn) stands epoch known under reply halts =
      absurd (none-some (stops.Halt target) (sym going ∙ halts))
  halts_by (units.Load kind rd rs1 imm) stands epoch known under reply halts =
      absurd (access_halts _ s.stop _ target going halts)
  halts_by (units.Store kind rs1 rs2 imm) stands epoch known under reply halts =
      absurd (access_halts _ s.stop _ target going halts)
  halts_by (units.Branch c rs1 rs2 off) stands epoch known under reply halts =
      absurd (none-some (stops.Halt target) (sym going ∙ halts))
  halts_by (units.Jump link off) stands epoch known under reply halts =
      absurd (none-some (stops.Halt target) (sym going ∙ halts))
  halts_by (units.Check link rs1 imm slot) stands epoch known under reply halts =
      let to : ℕ = displaced (register s rs1) imm in
      let both = check_halts (is_in_code to && allows_at h epoch slot to) s.stop to target going halts in
      record {
        link = link;
        rs1 = rs1;
        imm = imm;
        slot = slot;
        stands = stands;
        is = both.1;
        forbids = λ inside.
            let here : is_in_code to ≡ true = sym (ap is_in_code both.1) ∙ inside in
            let apart = eqb-false (slot_class h epoch slot) (target_class h epoch to)
            (not_both (is_in_code to) (allows_at h epoch slot to) both.0 here) in
            subst (HasApartClasses h end slot) (sym both.1)
            (record { epoch = epoch; known = known; tried = under here; apart = apart });
      }
  halts_by units.Service stands epoch known under reply halts =
      absurd (served_halts (service_of (asked s)) s target going halts)

pub only_checks_halt : (h : History) (code : List ℕ) (end : End) (old new : State) → IsStep h code end old new
    → (target : ℕ) → new.stop ≡ Some (stops.Halt target) → IsForbidden h code end old target
only_checks_halt h code end old new step target halts =
    halts_by h code end old step.going target step.unit step.stands step.epoch step.known step.under step.reply
    (sym (ap (λ s. s.stop) step.is) ∙ halts)
