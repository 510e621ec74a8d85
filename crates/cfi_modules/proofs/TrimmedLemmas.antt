-- Units without the idle ones at their end.
use Rattle.std.proofs.Common.{◌≡◌, ◌⊎◌, inl, inr, ℕ, zero, suc, ◌-◌, ◌<◌, ◌≤◌, ◌++◌, true, List, [], ◌∷◌, length, replicate, Some, refl, ap, sym, subst, ◌∙◌, ⊎_elim, arith}
use Rattle.std.specs.List.{slice_get}
use Rattle.std.proofs.lemmas.Bool.{false≢true}
use Rattle.std.proofs.lemmas.List.{get_or-replicate, length-replicate}
use Rattle.std.proofs.lemmas.Option.{slice_get_within, get_or_from_slice_get}
use Rattle.cfi_unit.specs.declared.unit.Unit.{Unit as CodeUnit}
use Rattle.cfi_model.specs.Closed.{idle}
use Rattle.cfi_verify.specs.Functions.{may_be_last}
use Rattle.cfi_modules.proofs.BusyLemmas.{IsBusy}

-- the last unit is a jump or a check that does not link
abbrev pub EndsUnlinked : (body : List CodeUnit) → Type 0
EndsUnlinked body =
    (unit : CodeUnit) × (slice_get body (length body - 1) ≡ Some unit) × (may_be_last unit ≡ true)

-- the units are these, and then idle ones
pub record IsTrimmed (us : List CodeUnit) : Type 0 where
  pub body : List CodeUnit
  pub idles : ℕ
  pub same : us ≡ body ++ replicate idles idle
  pub ends : (body ≡ []) ⊎ EndsUnlinked body

-- each unit is idle, or one that may be last comes
abbrev pub AreIdleOrBusy : List CodeUnit → Type 0
AreIdleOrBusy us = (k : ℕ) (u : CodeUnit) → slice_get us k ≡ Some u → (u ≡ idle) ⊎ IsBusy us k

busy_behind : (u : CodeUnit) (us : List CodeUnit) (k last : ℕ) (unit : CodeUnit) → suc k ≤ last
    → slice_get (u ∷ us) last ≡ Some unit → may_be_last unit ≡ true → IsBusy us k
busy_behind u us k zero unit up is ends = absurd (omega (arith, up))
busy_behind u us k (suc last) unit up is ends =
    record { last = last; up = omega (arith, up); unit = unit; is = is; ends = ends }

rest_of : (u : CodeUnit) (us : List CodeUnit) → AreIdleOrBusy (u ∷ us) → AreIdleOrBusy us
rest_of u us all k v is = ⊎_elim (λ (e : v ≡ idle). inl e)
    (λ (b : IsBusy (u ∷ us) (suc k)). inr (busy_behind u us k b.last b.unit b.up b.is b.ends))
    (all (suc k) v is)

-- no idle unit may be last
pub idle_goes_on : (n k : ℕ) (unit : CodeUnit) → slice_get (replicate n idle) k ≡ Some unit → may_be_last unit ≡ true → ⊥
idle_goes_on n k unit is ends =
    let within : k < n = omega (arith, slice_get_within (replicate n idle) k unit is, length-replicate n idle) in
    let same : unit ≡ idle =
    sym (get_or_from_slice_get (replicate n idle) k unit unit is) ∙ get_or-replicate n k idle unit within in
    false≢true (ap may_be_last (sym same) ∙ ends)

-- where nothing but idle units comes, a unit that is busy may be last itself
is_last : (u : CodeUnit) (n last : ℕ) (unit : CodeUnit) → slice_get (u ∷ replicate n idle) last ≡ Some unit
    → may_be_last unit ≡ true → may_be_last u ≡ true
is_last u n zero unit is ends = ap may_be_last (get_or_from_slice_get (u ∷ replicate n idle) 0 unit u is) ∙ ends
is_last u n (suc last) unit is ends = absurd (idle_goes_on n last unit is ends)

one_more : (u : CodeUnit) (us : List CodeUnit) → AreIdleOrBusy (u ∷ us) → (n : ℕ) → us ≡ replicate n idle
    → IsTrimmed (u ∷ us)
one_more u us all n same = ⊎_elim
    (λ (e : u ≡ idle). record {
      body = [];
      idles = suc n;
      same = ap (λ (v : CodeUnit). v ∷ us) e ∙ ap (λ (vs : List CodeUnit). idle ∷ vs) same;
      ends = inl refl;
    })
    (λ (b : IsBusy (u ∷ us) 0). record {
      body = u ∷ [];
      idles = n;
      same = ap (λ (vs : List CodeUnit). u ∷ vs) same;
      ends = inr (
        u,
        refl,
        is_last u n b.last b.unit
            (subst (λ (vs : List CodeUnit). slice_get (u ∷ vs) b.last ≡ Some b.unit) same b.is) b.ends,
      );
    })
    (all 0 u refl)

last_behind : (u : CodeUnit) (body : List CodeUnit) → EndsUnlinked body → EndsUnlinked (u ∷ body)
last_behind u [] ends = absurd (omega (arith, slice_get_within [] 0 ends.0 ends.1))
last_behind u (v ∷ body) ends =
    let same : length (u ∷ v ∷ body) - 1 ≡ suc (length (v ∷ body) - 1) = omega arith in
    (ends.0, ap (slice_get (u ∷ v ∷ body)) same ∙ ends.1, ends.2)

pub trim : (us : List CodeUnit) → AreIdleOrBusy us → IsTrimmed us
trim [] all = record { body = []; idles = 0; same = refl; ends = inl refl }
trim (u ∷ us) all =
    let t = trim us (rest_of u us all) in
    ⊎_elim
    (λ (none : t.body ≡ []).
    one_more u us all t.idles (t.same ∙ ap (λ (vs : List CodeUnit). vs ++ replicate t.idles idle) none))
    (λ (ends : EndsUnlinked t.body). record {
      body = u ∷ t.body;
      idles = t.idles;
      same = ap (λ (vs : List CodeUnit). u ∷ vs) t.same;
      ends = inr (last_behind u t.body ends);
    })
    t.ends
