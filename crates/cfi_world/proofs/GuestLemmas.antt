-- What a guest shows, and where its unit stood before.
use Rattle.std.proofs.Common.{◌≡◌, ℕ, ℤ, ◌/◌, Bool, List, length, Option, Some, None, ◌⊎◌, inl, inr, refl, sym, ap, ◌∙◌, subst}
use Rattle.std.proofs.lemmas.Option.{none-some}
use Rattle.cfi_unit.proofs.CodeLemmas.{BeginsAt-one}
use Rattle.cfi_unit.specs.declared.unit.Unit.{Unit as CodeUnit}
use Rattle.cfi_unit.specs.declared.unit.Unit.TheVariants as units
use Rattle.cfi_model.specs.declared.act.Wait.{Wait}
use Rattle.cfi_model.specs.declared.act.Wait.TheVariants as waits
use Rattle.cfi_model.specs.History.{History, IsHistory}
use Rattle.cfi_model.specs.InForce.{GoesOn, history_of, code_in_force}
use Rattle.cfi_model.specs.Raw.{Raw}
use Rattle.cfi_model.specs.Running.{IsGuest}
use Rattle.cfi_model.specs.Shows.{IsReady, MayWait, Shows, Stands}
use Rattle.cfi_model.specs.State.{State}
use Rattle.cfi_model.specs.Tables.{IsTables}
use Rattle.cfi_model.specs.Words.{Tables}
use Rattle.cfi_model.proofs.AdvanceLemmas.{at_start}
use Rattle.cfi_model.proofs.InForceLemmas.{history_is, keeps}
use Rattle.cfi_model.proofs.RunningLemmas.{running_shows}
use Rattle.cfi_model.proofs.ShownLemmas.{shows_units}
use Rattle.cfi_model.proofs.StartLemmas.{begins_on}
use Rattle.cfi_world.proofs.ParkLemmas.{IsServing}

-- it counts its units, and is ready
pub guest_units : (h : History) (code : List ℕ) → IsHistory h code → (retries : ℕ) (s : State) (r : Raw)
    → IsGuest h code retries s r → r.base.units ≡ s.units
guest_units h code known retries s r (inl runs) =
    shows_units h code retries s r (running_shows h code known retries s r runs)
guest_units h code known retries s r (inr over) =
    ap (λ x. x.base.units) over.2.is
    ∙ shows_units h code retries s over.0 (running_shows h code known retries s over.0 over.1)

pub guest_ready : (h : History) (code : List ℕ) (retries : ℕ) (s : State) (r : Raw) → IsGuest h code retries s r
    → IsReady h s
guest_ready h code retries s r (inl runs) = runs.rests.ready
guest_ready h code retries s r (inr over) = over.1.rests.ready

-- a unit that stands at a start later stood there before
pub stands_before : (t u : Tables) (is : IsTables t) (later : IsTables u) → GoesOn t u → (s : State)
    → IsReady (history_of t) s → s.stop ≡ None → (unit : CodeUnit) → Stands (code_in_force u) s.pc unit
    → Stands (code_in_force t) s.pc unit
stands_before t u is later on s ready going unit stands =
    let h : History = history_of t in
    let code : List ℕ = code_in_force t in
    let at = at_start h code s 0 (history_is t is) ready going in
    let kept = keeps t u is later on in
    let begins = begins_on code (code_in_force u) (s.pc / 4) at.0 at.1.here.stands.begins kept.same kept.kept in
    subst (Stands code s.pc) (BeginsAt-one (code_in_force u) (s.pc / 4) at.0 unit begins stands.begins) at.1.here.stands

-- a guest in a service is in no check
serves_by : (code_words : ℕ) (unit : CodeUnit) (s : State) (number : ℕ) (link : Bool) (rs1 : ℕ) (imm : ℤ) (slot : ℕ)
    → MayWait code_words unit s (Some (waits.Service number)) → unit ≡ units.Check link rs1 imm slot → ⊥
serves_by code_words unit s number link rs1 imm slot may same =
    subst (λ (u : CodeUnit). MayWait code_words u s (Some (waits.Service number))) same may

pub serving_by : (wait : Option Wait) → IsServing wait → (number : ℕ) × (wait ≡ Some (waits.Service number))
serving_by None serving = absurd serving
serving_by (Some (waits.Tary at rd)) serving = absurd serving
serving_by (Some (waits.Bary slot rd)) serving = absurd serving
serving_by (Some (waits.Service number)) serving = (number, refl)

pub no_check : (h : History) (code : List ℕ) (retries : ℕ) (s : State) (r : Raw) → Shows h code retries s r
    → (number : ℕ) → r.waits ≡ Some (waits.Service number) → (link : Bool) (rs1 : ℕ) (imm : ℤ) (slot : ℕ)
    → Stands code s.pc (units.Check link rs1 imm slot) → ⊥
no_check h code retries s r (inl between) number wait link rs1 imm slot stands =
    none-some (waits.Service number) (sym between.idle ∙ wait)
no_check h code retries s r (inr inside) number wait link rs1 imm slot stands =
    serves_by (length code) inside.unit s number link rs1 imm slot
    (subst (MayWait (length code) inside.unit s) wait inside.waits)
    (BeginsAt-one code (s.pc / 4) inside.unit (units.Check link rs1 imm slot) inside.stands.begins stands.begins)

pub is_serving : (wait : Option Wait) → IsServing wait ⊎ (IsServing wait → ⊥)
is_serving None = inr (λ serving. serving)
is_serving (Some (waits.Tary at rd)) = inr (λ serving. serving)
is_serving (Some (waits.Bary slot rd)) = inr (λ serving. serving)
is_serving (Some (waits.Service number)) = inl tt
