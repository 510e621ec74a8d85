-- A guest begins at one address.
use Rattle.std.proofs.Common.{◌≡◌, ℕ, ◌<◌, Bool, true, false, List, Some, sym, ap, subst, ◌∙◌, ⊎_elim}
use Rattle.std.specs.List.{slice_get}
use Rattle.std.proofs.lemmas.Bool.{cases_order}
use Rattle.cfi_aux.specs.declared.placed.Placed.{Placed}
use Rattle.cfi_aux.specs.declared.placed.PlacedFunction.{PlacedFunction}
use Rattle.cfi_graph.specs.Code.{entry_of}
use Rattle.cfi_plan.specs.declared.plan.Plan.{Plan}
use Rattle.cfi_modules.specs.Entry.{IsGlobalOf, IsFirstOf, IsEntryIn}
use Rattle.cfi_valid.specs.Bare.{is_bare_plan}
use Rattle.cfi_valid.specs.Guests.{EntersAt, GuestBegins}
use Rattle.cfi_valid.specs.Loaded.{LoadedModule, placed_modules, loaded_by}

-- the first function of a kind has one address
pub first_once : (P : PlacedFunction → Type 0) (m : Placed) (a b : ℕ) → IsFirstOf P m a → IsFirstOf P m b → a ≡ b
first_once P m a b p q = ⊎_elim
    (λ (same : p.number ≡ q.number).
    let both : Some p.function ≡ Some q.function =
    sym p.is ∙ ap (slice_get m.functions) same ∙ q.is in
    let function : p.function ≡ q.function = cc in
    p.here ∙ ap (entry_of m) function ∙ sym q.here)
    (λ apart. ⊎_elim
    (λ (less : p.number < q.number). absurd (q.first p.number p.function less p.is p.holds))
    (λ (more : q.number < p.number). absurd (p.first q.number q.function more q.is q.holds))
    apart)
    (cases_order p.number q.number)

entry_once : (ms : List Placed) (name : List ℕ) (a b : ℕ) → IsEntryIn ms name a → IsEntryIn ms name b → a ≡ b
entry_once ms name a b p q = ⊎_elim
    (λ (same : p.number ≡ q.number).
    let both : Some p.owner ≡ Some q.owner = sym p.is ∙ ap (slice_get ms) same ∙ q.is in
    let owner : p.owner ≡ q.owner = cc in
    first_once (IsGlobalOf name) q.owner a b
    (subst (λ (m : Placed). IsFirstOf (IsGlobalOf name) m a) owner p.entry) q.entry)
    (λ apart. ⊎_elim
    (λ (less : p.number < q.number).
    absurd (q.first p.number p.owner less p.is p.entry.number p.entry.function p.entry.is p.entry.holds))
    (λ (more : q.number < p.number).
    absurd (p.first q.number q.owner more q.is q.entry.number q.entry.function q.entry.is q.entry.holds))
    apart)
    (cases_order p.number q.number)

at_once : (bare : Bool) (loaded : List LoadedModule) (entry : List ℕ) (a b : ℕ) → EntersAt bare loaded entry a
    → EntersAt bare loaded entry b → a ≡ b
at_once true loaded entry a b p q = p ∙ sym q
at_once false loaded entry a b p q = entry_once (placed_modules (loaded_by 0 loaded)) entry a b p q

pub begins_once : (plan : Plan) (loaded : List LoadedModule) (entry : List ℕ) (a b : ℕ)
    → GuestBegins plan loaded entry a → GuestBegins plan loaded entry b → a ≡ b
begins_once plan loaded entry a b p q = at_once (is_bare_plan plan) loaded entry a b p q
