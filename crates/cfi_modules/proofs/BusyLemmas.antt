-- Units of a verified module that may not be the last: in the same module one comes that may end a function.
use Rattle.std.proofs.Common.{◌≡◌, ◌⊎◌, inl, inr, ℕ, zero, suc, ◌+◌, ◌<◌, ◌≤◌, true, List, length, get_or, Some, refl, ap, sym, subst, ◌∙◌, ⊎_elim, add-one, arith}
use Rattle.std.specs.List.{Contains, slice_get}
use Rattle.std.proofs.lemmas.Bool.{cases_lt, cases_eq, false≢true}
use Rattle.std.proofs.lemmas.List.{get_or_default}
use Rattle.std.proofs.lemmas.Option.{slice_get-get_or, slice_get_within, get_or_from_slice_get}
use Rattle.cfi_unit.specs.declared.unit.Unit.{Unit as CodeUnit}
use Rattle.cfi_unit.specs.declared.spot.Spot.{Spot}
use Rattle.cfi_unit.specs.Spots.{place_of, BeginsUnit}
use Rattle.cfi_unit.proofs.SpotLemmas.{place_number, place_mono}
use Rattle.cfi_unit.proofs.UnitLemmas.{size_pos}
use Rattle.cfi_aux.specs.declared.placed.Placed.{Placed}
use Rattle.cfi_aux.specs.declared.placed.PlacedFunction.{PlacedFunction}
use Rattle.cfi_aux.specs.Extent.{end_of, LiesIn}
use Rattle.cfi_model.specs.Closed.{idle}
use Rattle.cfi_verify.specs.Functions.{end_before, may_be_last}
use Rattle.cfi_verify.specs.Fault.{IsVerifiedAs}
use Rattle.cfi_verify.proofs.FunctionLemmas.{end_before-next}
use Rattle.cfi_modules.proofs.EndLemmas.{spot_of, place_next, is_call, call_goes_on, none, has, number_of, begins_within}

-- this unit or a later one may be the last of a function
pub record IsBusy (code : List CodeUnit) (k : ℕ) : Type 0 where
  pub last : ℕ
  pub up : k ≤ last
  pub unit : CodeUnit
  pub is : slice_get code last ≡ Some unit
  pub ends : may_be_last unit ≡ true

-- such a unit begins at the word
abbrev pub BeginsBusy : (code : List CodeUnit) → (at : ℕ) → Type 0
BeginsBusy code at = (k : ℕ) × (at ≡ place_of code k) × IsBusy code k

-- a later unit stands behind
place_less : (code : List CodeUnit) (i j : ℕ) (u : CodeUnit) → i < j → j < length code
    → place_of code i < place_of code j
place_less code i j u less within =
    omega (
      arith,
      place_next code i u (omega (arith, less, within)),
      size_pos (get_or code i u),
      place_mono code (i + 1) j (omega (arith, less)),
    )

module _ (m : Placed) (loaded : List Placed) (spots : List Spot) (v : IsVerifiedAs m loaded spots) where
  abbrev code : List CodeUnit
  code = v.laid.units.code

  function_at : (f : PlacedFunction) → (there : Contains m.functions f) → slice_get m.functions there.0 ≡ Some f
  function_at f there =
      slice_get-get_or m.functions there.0 f there.1 ∙ ap (λ (g : PlacedFunction). Some g) there.2

  -- a unit of a function is followed by the last one, or is it
  pub home_busy : (f : PlacedFunction) → Contains m.functions f → (at : ℕ) → LiesIn f at → BeginsUnit spots at
      → BeginsBusy code at
  home_busy f there at lies begins =
      let k = place_number m.words spots v.laid.units at begins in
      let well = v.laid.ends there.0 f (function_at f there) in
      let n = number_of m loaded spots v well.0 well.1.has in
      let place = ap (λ (s : Spot). s.at) n.2 in
      let unit = ap (λ (s : Spot). s.unit) n.2 in
      let spot = begins.0 in
      let spot_at : spot.at ≡ at = begins.2 in
      let below : at ≤ (well.0).at =
      omega (
        arith,
        spot_at,
        well.1.last spot begins.1
            (omega (arith, spot_at, lies.0), omega (arith, spot_at, lies.1)),
      ) in (
        k.0,
        k.2,
        record {
          last = n.0;
          up = ⊎_elim (λ (less : n.0 < k.0).
              absurd (omega (arith, place_less code n.0 k.0 (well.0).unit less k.1, place, k.2, below)))
              (λ (more : k.0 ≤ n.0). more) (cases_lt n.0 k.0);
          unit = (well.0).unit;
          is = slice_get-get_or code n.0 (well.0).unit n.1 ∙ ap (λ (u : CodeUnit). Some u) (sym unit);
          ends = well.2;
        },
      )

  -- a function begins at such a unit
  pub entry_busy : (f : PlacedFunction) → Contains m.functions f → BeginsBusy code f.first
  entry_busy f there =
      let fits = v.laid.functions there.0 f (function_at f there) in
      home_busy f there f.first (omega arith, omega (arith, fits.some)) fits.begins

  module _ (k : ℕ) (u : CodeUnit) (within : k < length code) where
    abbrev at : ℕ
    at = place_of code k

    abbrev unit : CodeUnit
    unit = get_or code k u

    there_busy : (f : PlacedFunction) → Contains m.functions f → LiesIn f at → IsBusy code k
    there_busy f there lies =
        let b = home_busy f there at lies (spot_of at unit, has m loaded spots v k u within, refl) in
        let within_too : b.0 < length code = omega (arith, b.2.up, slice_get_within code b.2.last b.2.unit b.2.is) in
        let same : b.0 ≡ k = ⊎_elim
        (λ (less : b.0 < k). absurd (omega (arith, place_less code b.0 k u less within, b.1)))
        (λ (more : k ≤ b.0). ⊎_elim
        (λ (beyond : k < b.0). absurd (omega (arith, place_less code k b.0 u beyond within_too, b.1)))
        (λ (less : b.0 ≤ k). omega (arith, less, more)) (cases_lt k b.0)) (cases_lt b.0 k) in
        subst (IsBusy code) same b.2

    -- up to the end of a function each unit is idle or lies in a function
    up_to : (n : ℕ) → n ≤ length m.functions → at < end_before m.functions n → (unit ≡ idle) ⊎ IsBusy code k
    up_to zero some below = absurd (omega (arith, below))
    up_to (suc n) some below =
        let f = get_or m.functions n none in
        let is = slice_get-get_or m.functions n none (omega (arith, some)) in
        let fits = v.laid.functions n f is in
        let end : end_before m.functions (suc n) ≡ end_of f =
        ap (end_before m.functions) (sym (add-one n)) ∙ end_before-next m.functions n f is in
        ⊎_elim (λ (before : at < end_before m.functions n). up_to n (omega (arith, some)) before)
        (λ (behind : end_before m.functions n ≤ at).
        ⊎_elim (λ (gap : at < f.first).
        inl (fits.idle (spot_of at unit) (has m loaded spots v k u within) behind gap))
        (λ (inside : f.first ≤ at).
        inr (there_busy f (n, omega (arith, some), get_or_default m.functions n f none (omega (arith, some))) (inside, omega (arith, below, end))))
        (cases_lt at f.first))
        (cases_lt at (end_before m.functions n))

    -- a unit is idle, or lies in a function
    pub idle_or_busy : (unit ≡ idle) ⊎ IsBusy code k
    idle_or_busy =
        let n = length m.functions in
        let here : BeginsUnit spots at = (spot_of at unit, has m loaded spots v k u within, refl) in
        let inside = begins_within m loaded spots v at here in
        ⊎_elim (λ (below : at < end_before m.functions n). up_to n (omega arith) below)
        (λ (behind : end_before m.functions n ≤ at).
        inl (v.laid.idle (spot_of at unit) (has m loaded spots v k u within) behind inside))
        (cases_lt at (end_before m.functions n))

    -- what follows a call lies in its function
    pub call_busy : is_call unit ≡ true → IsBusy code (k + 1)
    call_busy call = ⊎_elim
        (λ (is : unit ≡ idle). absurd (false≢true (sym (ap is_call is) ∙ call)))
        (λ (busy : IsBusy code k). record {
          last = busy.last;
          up = ⊎_elim
              (λ (same : busy.last ≡ k).
              let here : unit ≡ busy.unit =
              get_or_from_slice_get code k busy.unit u (ap (slice_get code) (sym same) ∙ busy.is) in
              absurd (call_goes_on unit call (ap may_be_last here ∙ busy.ends)))
              (λ other. omega (arith, other, busy.up))
              (cases_eq busy.last k);
          unit = busy.unit;
          is = busy.is;
          ends = busy.ends;
        })
        idle_or_busy
