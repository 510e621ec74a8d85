-- One access after the other: the raw machine stays within a unit, or ends it as the policy machine does.
use Rattle.std.proofs.Common.{◌≡◌, ◌≢◌, ℕ, ◌+◌, ◌*◌, ◌/◌, ◌%◌, ◌<◌, ◌≤◌, ◌&&◌, true, List, None, length, refl, ◌∙◌, subst, arith}
use Rattle.std.proofs.lemmas.Bool.Decides.{nat_tests}
use Rattle.cfi_unit.specs.declared.unit.Unit.{Unit as CodeUnit}
use Rattle.cfi_unit.specs.declared.unit.Unit.TheVariants as units
use Rattle.cfi_model.specs.Closed.{StaysInside, IsStartOf}
use Rattle.cfi_model.specs.Log.{pick_entries}
use Rattle.cfi_model.specs.State.{State, register, displaced}
use Rattle.cfi_model.specs.Raw.{Raw}
use Rattle.cfi_model.specs.Service.{Reply}
use Rattle.cfi_model.specs.Effect.{effect, is_in_code}
use Rattle.cfi_model.specs.History.{History, IsEpoch, IsHistory, IsStart, allows_at, slot_class, target_class}
use Rattle.cfi_model.specs.Running.{IsHeld}
use Rattle.cfi_model.specs.Shows.{End, IsStep, IsReady, IsAnswered, AsksUnder, IsBetween, IsRetried}
use Rattle.cfi_model.proofs.StartLemmas.{body_at}
use Rattle.cfi_model.proofs.ReadyLemmas.{Targets, ready_kept}
use Rattle.cfi_model.proofs.FetchLemmas.{Here}
use Rattle.cfi_model.proofs.MaskedLemmas.{MaskedAt}
use Rattle.cfi_model.proofs.CheckPlaces.{CheckAt}
use Rattle.cfi_model.proofs.PickLemmas.{IsRising, effect_rises}
use Rattle.cfi_model.proofs.SingleLemmas.{service_raw}

-- a unit has ended, and the policy machine has run it
pub record Ended (h : History) (code : List ℕ) (retries : ℕ) (end : End) (old : State) (r : Raw) : Type 0 where
  pub new : State
  pub step : IsStep h code end old new
  pub ready : IsReady h new
  pub more : ℕ
  pub two : more ≢ 0 → IsRetried h step.unit old
  pub logged : more ≢ 0 → 0 < pick_entries new.log
  pub picks : pick_entries old.log ≤ pick_entries new.log
  pub between : IsBetween (retries + more) new r
  pub held : new.stop ≢ None → IsHeld h code new r

-- a raw state within a service, which waits for its end
pub record ServiceAt (p : State) (retries : ℕ) (r : Raw) : Type 0 where
  pub x28 : ℕ
  pub x29 : ℕ
  pub x30 : ℕ
  pub x31 : ℕ
  pub is : r ≡ service_raw p retries x28 x29 x30 x31

-- a raw state within a unit
abbrev pub Begun : History → State → CodeUnit → (retries : ℕ) → Raw → Type 0
Begun h p (units.Load kind rd rs1 imm) retries r = MaskedAt p retries (displaced (register p rs1) imm) r
Begun h p (units.Store kind rs1 rs2 imm) retries r = MaskedAt p retries (displaced (register p rs1) imm) r
Begun h p (units.Check link rs1 imm slot) retries r = CheckAt h p retries slot (displaced (register p rs1) imm) r
Begun h p units.Service retries r = ServiceAt p retries r
Begun h p unit retries r = ⊥

-- the policy machine at a unit of a closed image
pub record At (h : History) (code : List ℕ) (p : State) (unit : CodeUnit) : Type 0 where
  pub here : Here h code p unit
  pub epoch : ℕ
  pub is : IsEpoch h epoch
  pub inside : StaysInside (body_at h code epoch here.known is) (length (h.image epoch).bary) p.pc unit

-- a check's target that an epoch's policy allows is a start
pub target_starts : (h : History) (code : List ℕ) (known : IsHistory h code) (epoch slot target : ℕ) → IsEpoch h epoch
    → slot < length (h.image epoch).bary → (is_in_code target && allows_at h epoch slot target) ≡ true
    → IsStart h target
target_starts h code known epoch slot target is within granted =
    let closed = (known.closed epoch is).1 in
    let whole : target % 4 ≡ 0 = grind (arith, nat_tests) in
    let same : slot_class h epoch slot ≡ target_class h epoch target = grind (arith, nat_tests) in
    let size = closed.classes.bary_length in
    let some : target_class h epoch target ≢ 0 =
    λ none. closed.classes.bary_least slot (omega arith) (same ∙ none) in
    let place : 4 * (target / 4) ≡ target = omega arith in
    let starts = closed.targets (target / 4) some in
    record {
      epoch = epoch;
      known = is;
      starts = record {
        body = body_at h code epoch known is;
        idles = closed.idles;
        zeros = closed.zeros;
        code = closed.code;
        starts = subst (IsStartOf (body_at h code epoch known is)) place starts;
      };
    }

-- the unit has ended under the policy of an epoch
pub ends_as : (h : History) (code : List ℕ) (retries more : ℕ) (p : State) (unit : CodeUnit) → At h code p unit
    → (epoch : ℕ) → IsEpoch h epoch → (end : End) → AsksUnder h epoch end unit p → (reply : Reply)
    → IsAnswered unit end reply p → IsRising unit (h.policy epoch) p
    → Targets h (allows_at h epoch) unit p → (more ≢ 0 → IsRetried h unit p)
    → (more ≢ 0 → 0 < pick_entries (effect unit (h.policy epoch) (allows_at h epoch) reply p).log)
    → (r : Raw) → IsBetween (retries + more) (effect unit (h.policy epoch) (allows_at h epoch) reply p) r
    → ((effect unit (h.policy epoch) (allows_at h epoch) reply p).stop ≢ None
    → IsHeld h code (effect unit (h.policy epoch) (allows_at h epoch) reply p) r)
    → Ended h code retries end p r
ends_as h code retries more p unit at epoch is end under reply answered rising targets two logged r between held =
    let rises = effect_rises unit (h.policy epoch) (allows_at h epoch) end reply p answered rising in
    let here = at.here in
    record {
      new = effect unit (h.policy epoch) (allows_at h epoch) reply p;
      step = record {
        going = here.going;
        unit = unit;
        stands = here.stands;
        epoch = epoch;
        known = is;
        under = under;
        reply = reply;
        answered = answered;
        is = refl;
        rises = rises.policies;
      };
      ready = ready_kept h code here.known at.epoch at.is unit (h.policy epoch) (allows_at h epoch) reply p here.ready
          here.small at.inside targets;
      more = more;
      two = two;
      logged = logged;
      picks = rises.picks;
      between = between;
      held = held;
    }

-- a unit that is no check has ended, with no try
pub plainly : (h : History) (code : List ℕ) (retries : ℕ) (p : State) (unit : CodeUnit) → (at : At h code p unit)
    → (end : End) → AsksUnder h at.epoch end unit p → (reply : Reply) → IsAnswered unit end reply p
    → IsRising unit (h.policy at.epoch) p
    → Targets h (allows_at h at.epoch) unit p
    → (r : Raw) → IsBetween retries (effect unit (h.policy at.epoch) (allows_at h at.epoch) reply p) r
    → ((effect unit (h.policy at.epoch) (allows_at h at.epoch) reply p).stop ≢ None
    → IsHeld h code (effect unit (h.policy at.epoch) (allows_at h at.epoch) reply p) r)
    → Ended h code retries end p r
plainly h code retries p unit at end under reply answered rising targets r between held =
    let same : retries ≡ retries + 0 = omega arith in
    ends_as h code retries 0 p unit at at.epoch at.is end under reply answered rising targets
    (λ some. absurd (some refl))
    (λ some. absurd (some refl)) r
    (subst (λ n. IsBetween n (effect unit (h.policy at.epoch) (allows_at h at.epoch) reply p) r) same between) held
