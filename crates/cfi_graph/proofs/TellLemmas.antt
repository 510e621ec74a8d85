-- What units, functions and modules tell, number by number.
use Rattle.std.proofs.Common.{◌≡◌, ◌∙◌, ℕ, zero, suc, ◌+◌, ◌<◌, List, [], ◌∷◌, length, get_or, Some, sym, ap, subst, arith}
use Rattle.std.specs.Prelude.{slice_get}
use Rattle.std.proofs.lemmas.Option.{none-some, same_Some, slice_get_within, slice_get-get_or}
use Rattle.cfi_unit.specs.declared.unit.Unit.{Unit as CodeUnit}
use Rattle.cfi_unit.specs.Unit.{size_of}
use Rattle.cfi_unit.specs.Code.{UnitCode}
use Rattle.cfi_unit.proofs.CodeLemmas.{UnitCode-one}
use Rattle.cfi_aux.specs.declared.placed.Placed.{Placed}
use Rattle.cfi_aux.specs.declared.placed.PlacedFunction.{PlacedFunction}
use Rattle.cfi_unit.specs.declared.spot.Spot.{Spot}
use Rattle.cfi_graph.specs.declared.fact.Fact.{Fact}
use Rattle.cfi_graph.specs.Code.{Stands}
use Rattle.cfi_unit.specs.Spots.{place_of, spots_of}
use Rattle.cfi_graph.specs.Facts.{ByName, IsUnitFact, IsFunctionFact, UnitTells, FunctionTells, ModuleTells, AreFacts, Adds}
use Rattle.cfi_graph.proofs.AddsLemmas.{TellsBelow, adds_as, adds_all}
use Rattle.cfi_graph.proofs.BoundLemmas.{place_next, contains_at, at_contains}

-- ---- spots

pub spot_at : (a : ℕ) (code : List CodeUnit) (k : ℕ) (spot : Spot) → slice_get (spots_of a code) k ≡ Some spot
    → (slice_get code k ≡ Some spot.unit) × (spot.at ≡ a + place_of code k)
spot_at a [] k spot is = absurd (none-some spot is)
spot_at a (unit ∷ code) zero spot is =
    let own : Spot = record { at = a; unit = unit } in
    let same : own ≡ spot = same_Some own spot is in
    let at : a ≡ spot.at = ap (λ s. s.at) same in
    (ap (λ s. Some s.unit) same, omega (arith, at))
spot_at a (unit ∷ code) (suc k) spot is =
    let rest = spot_at (a + size_of unit) code k spot is in
    let at = rest.1 in
    let next = place_next unit code k in
    (rest.0, omega (arith, at, next))

pub spot_back : (a : ℕ) (code : List CodeUnit) (k : ℕ) (unit : CodeUnit) (at : ℕ) → slice_get code k ≡ Some unit
    → at ≡ a + place_of code k → slice_get (spots_of a code) k ≡ Some (record { at = at; unit = unit })
spot_back a [] k unit at is place = absurd (none-some unit is)
spot_back a (first ∷ code) zero unit at is place =
    let own : Spot = record { at = a; unit = first } in
    let here : a ≡ at = omega (arith, place) in
    let moved : own ≡ record { at = at; unit = first } = ap (λ p. let s : Spot = record { at = p; unit = first } in s) here
    in
    let same : first ≡ unit = same_Some first unit is in
    ap (λ s. Some s) moved ∙ ap (λ u. let s : Spot = record { at = at; unit = u } in Some s) same
spot_back a (first ∷ code) (suc k) unit at is place =
    let next = place_next first code k in
    spot_back (a + size_of first) code k unit at is (omega (arith, place, next))

-- what the spot of a number tells, by what units tell
abbrev pub SpotTells : (Told : (at : ℕ) → CodeUnit → Fact → Type 0) → List Spot → ℕ → Fact → Type 0
SpotTells Told spots k fact = (spot : Spot) × (slice_get spots k ≡ Some spot) × Told spot.at spot.unit fact

-- what some unit of the module tells
abbrev pub SomeTells : Placed → (Told : (at : ℕ) → CodeUnit → Fact → Type 0) → Fact → Type 0
SomeTells m Told fact = (at : ℕ) × (unit : CodeUnit) × Stands m at unit × Told at unit fact

module _ (Told : (at : ℕ) → CodeUnit → Fact → Type 0) (m : Placed) (code : List CodeUnit) (units : UnitCode m.words code)
    (spots : List Spot) (are : spots ≡ spots_of 0 code) where
  -- a spot of the module stands there
  pub spot_stands : (k : ℕ) (spot : Spot) → slice_get spots k ≡ Some spot → Stands m spot.at spot.unit
  spot_stands k spot is =
      let found = spot_at 0 code k spot (sym (ap (λ ss. slice_get ss k) are) ∙ is) in
      let at = found.1 in
      record { code = code; units = units; number = k; is = found.0; place = omega (arith, at) }

  pub stand_all : (k : ℕ) (d : Spot) → k < length spots → Stands m (get_or spots k d).at (get_or spots k d).unit
  stand_all k d within = spot_stands k (get_or spots k d) (slice_get-get_or spots k d within)

  from_spot : (fact : Fact) → TellsBelow (length spots) (SpotTells Told spots) fact → SomeTells m Told fact
  from_spot fact (k, less, (spot, is, told)) = (spot.at, spot.unit, spot_stands k spot is, told)

  to_spot : (fact : Fact) → SomeTells m Told fact → TellsBelow (length spots) (SpotTells Told spots) fact
  to_spot fact (at, unit, stands, told) =
      let same : stands.code ≡ code = UnitCode-one m.words stands.code code stands.units units in
      let unit_is : slice_get code stands.number ≡ Some unit =
      subst (λ us. slice_get us stands.number ≡ Some unit) same stands.is in
      let place : at ≡ place_of code stands.number =
      subst (λ us. at ≡ place_of us stands.number) same stands.place in
      let own : Spot = record { at = at; unit = unit } in
      let is : slice_get spots stands.number ≡ Some own =
      ap (λ ss. slice_get ss stands.number) are ∙ spot_back 0 code stands.number unit at unit_is (omega (arith, place))
      in
      (stands.number, slice_get_within spots stands.number own is, (own, is, told))

  -- all spots tell what some unit tells
  pub spots_tell : (old new : List Fact) → Adds old new (TellsBelow (length spots) (SpotTells Told spots))
      → Adds old new (SomeTells m Told)
  spots_tell old new a =
      adds_as old new (TellsBelow (length spots) (SpotTells Told spots)) (SomeTells m Told) a from_spot to_spot

pub units_tell : (imports : ByName) (classes : List (List ℕ)) (number : ℕ) (m : Placed) (old new : List Fact)
    → Adds old new (SomeTells m (IsUnitFact imports classes number m)) → Adds old new (UnitTells imports classes number m)
units_tell imports classes number m old new a =
    adds_as old new (SomeTells m (IsUnitFact imports classes number m)) (UnitTells imports classes number m) a
    (λ fact told. record { at = told.0; unit = told.1; stands = told.2; tells = told.3 })
    (λ fact t. (t.at, t.unit, t.stands, t.tells))

-- what the unit of a spot tells is what the spot of the number tells
pub spot_tells_at : (Told : (at : ℕ) → CodeUnit → Fact → Type 0) (spots : List Spot) (k : ℕ) (d : Spot)
    → k < length spots → (old new : List Fact)
    → Adds old new (Told (get_or spots k d).at (get_or spots k d).unit) → Adds old new (SpotTells Told spots k)
spot_tells_at Told spots k d within old new a =
    let here = get_or spots k d in
    let is = slice_get-get_or spots k d within in
    adds_as old new (Told here.at here.unit) (SpotTells Told spots k) a (λ fact told. (here, is, told))
    (λ fact told.
    let same : told.0 ≡ here = same_Some told.0 here (sym told.1 ∙ is) in
    subst (λ s. Told s.at s.unit fact) same told.2)

-- ---- functions

abbrev pub NumberTells : (classes : List (List ℕ)) → (number : ℕ) → Placed → ℕ → Fact → Type 0
NumberTells classes number m k fact =
    (f : PlacedFunction) × (slice_get m.functions k ≡ Some f) × IsFunctionFact classes number m f fact

pub functions_tell : (classes : List (List ℕ)) (number : ℕ) (m : Placed) (old new : List Fact)
    → Adds old new (TellsBelow (length m.functions) (NumberTells classes number m))
    → Adds old new (FunctionTells classes number m)
functions_tell classes number m old new a =
    adds_as old new (TellsBelow (length m.functions) (NumberTells classes number m)) (FunctionTells classes number m) a
    (λ fact told. record {
      function = told.2.0;
      has = contains_at m.functions told.0 told.2.0 told.2.1;
      tells = told.2.2;
    })
    (λ fact t. (t.has.0, t.has.1, (t.function, at_contains m.functions t.function t.has, t.tells)))

pub number_tells : (classes : List (List ℕ)) (number : ℕ) (m : Placed) (k : ℕ) (f : PlacedFunction)
    → slice_get m.functions k ≡ Some f → (old new : List Fact) → Adds old new (IsFunctionFact classes number m f)
    → Adds old new (NumberTells classes number m k)
number_tells classes number m k f is old new a =
    adds_as old new (IsFunctionFact classes number m f) (NumberTells classes number m k) a
    (λ fact told. (f, is, told))
    (λ fact told.
    let same : told.0 ≡ f = same_Some told.0 f (sym told.1 ∙ is) in
    subst (λ g. IsFunctionFact classes number m g fact) same told.2)

-- ---- modules

abbrev pub OwnerTells : (ms : List Placed) → ByName → (classes : List (List ℕ)) → ℕ → Fact → Type 0
OwnerTells ms imports classes number fact =
    (m : Placed) × (slice_get ms number ≡ Some m) × ModuleTells imports classes number m fact

pub owner_tells : (ms : List Placed) (imports : ByName) (classes : List (List ℕ)) (number : ℕ) (m : Placed)
    → slice_get ms number ≡ Some m → (old new : List Fact) → Adds old new (ModuleTells imports classes number m)
    → Adds old new (OwnerTells ms imports classes number)
owner_tells ms imports classes number m is old new a =
    adds_as old new (ModuleTells imports classes number m) (OwnerTells ms imports classes number) a (λ fact told. (m, is, told))
    (λ fact told.
    let same : told.0 ≡ m = same_Some told.0 m (sym told.1 ∙ is) in
    subst (λ n. ModuleTells imports classes number n fact) same told.2)

pub all_told : (ms : List Placed) (imports : ByName) (classes : List (List ℕ)) (list : List Fact)
    → Adds [] list (TellsBelow (length ms) (OwnerTells ms imports classes)) → AreFacts ms imports classes list
all_told ms imports classes list a =
    let all = adds_all list (TellsBelow (length ms) (OwnerTells ms imports classes)) a in
    record {
      sound = λ fact has.
          let told = (all fact).0 has in
          record { number = told.0; owner = told.2.0; is = told.2.1; tells = told.2.2 };
      whole = λ fact told.
          (all fact).1 (told.number, slice_get_within ms told.number told.owner told.is, (told.owner, told.is, told.tells));
    }
