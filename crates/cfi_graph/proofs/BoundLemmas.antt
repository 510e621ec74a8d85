-- Units, functions and branches of shaped modules lie within their words.
use Rattle.std.proofs.Common.{◌≡◌, ◌∙◌, ℕ, zero, suc, ◌+◌, ◌<◌, ◌≤◌, List, [], ◌∷◌, length, take, get_or, Some, refl, ap, arith, length-append}
use Rattle.std.specs.Prelude.{slice_get}
use Rattle.std.specs.List.{Contains, flat_map}
use Rattle.std.proofs.lemmas.List.Elements.{All-contains}
use Rattle.std.proofs.lemmas.Option.{none-some, same_Some, slice_get_within, slice_get-get_or, get_or_from_slice_get}
use Rattle.cfi_unit.specs.declared.unit.Unit.{Unit as CodeUnit}
use Rattle.cfi_unit.specs.declared.unit.Unit.TheVariants as units
use Rattle.cfi_unit.specs.Unit.{words_of, size_of}
use Rattle.cfi_unit.proofs.UnitLemmas.{size_pos}
use Rattle.cfi_unit.proofs.CodeLemmas.{length-words_of}
use Rattle.cfi_word.specs.declared.limits.TheConstants.{MAX_CODE_WORDS}
use Rattle.cfi_aux.specs.declared.placed.Placed.{Placed}
use Rattle.cfi_aux.specs.declared.placed.PlacedFunction.{PlacedFunction}
use Rattle.cfi_aux.specs.declared.records.Kind.{Kind}
use Rattle.cfi_aux.specs.declared.records.Kind.TheVariants as kinds
use Rattle.cfi_graph.specs.declared.fact.TheConstants.{CHECK_WORDS}
use Rattle.cfi_graph.specs.Code.{Stands}
use Rattle.cfi_unit.specs.Spots.{place_of}
use Rattle.cfi_graph.specs.Calls.{HasKind}
use Rattle.cfi_graph.specs.Shaped.{slot_of, IsPart, IsUnitPlace, IsNamed, IsShaped}
use Rattle.cfi_graph.specs.Reading.{NamesInside}

-- ---- members by number

pub contains_at : {X : Type 0} (xs : List X) (k : ℕ) (x : X) → slice_get xs k ≡ Some x → Contains xs x
contains_at xs k x is = (k, slice_get_within xs k x is, get_or_from_slice_get xs k x x is)

pub at_contains : {X : Type 0} (xs : List X) (x : X) (h : Contains xs x) → slice_get xs h.0 ≡ Some x
at_contains xs x h =
    let within : h.0 < length xs = h.1 in
    slice_get-get_or xs h.0 x within ∙ ap (λ y. Some y) h.2

-- ---- places of units

pub place_next : (unit : CodeUnit) (code : List CodeUnit) (k : ℕ)
    → place_of (unit ∷ code) (suc k) ≡ size_of unit + place_of code k
place_next unit code k =
    let two = length-append (words_of unit) (flat_map words_of (take k code)) in
    let size = length-words_of unit in
    omega (arith, two, size)

-- a unit ends within the words
pub place_within : (code : List CodeUnit) (k : ℕ) (unit : CodeUnit) → slice_get code k ≡ Some unit
    → place_of code k + size_of unit ≤ length (flat_map words_of code)
place_within [] k unit is = absurd (none-some unit is)
place_within (first ∷ code) zero unit is =
    let same : first ≡ unit = same_Some first unit is in
    let size : size_of first ≡ size_of unit = ap size_of same in
    let two = length-append (words_of first) (flat_map words_of code) in
    let own = length-words_of first in
    omega (arith, size, two, own)
place_within (first ∷ code) (suc k) unit is =
    let rest = place_within code k unit is in
    let two = length-append (words_of first) (flat_map words_of code) in
    let own = length-words_of first in
    let next = place_next first code k in
    omega (arith, rest, two, own, next)

-- later units stand at later words
pub place_less : (code : List CodeUnit) (i j : ℕ) → i < j → j ≤ length code → place_of code i < place_of code j
place_less [] i j less within = absurd (omega (arith, less, within))
place_less (unit ∷ code) i zero less within = absurd (omega (arith, less))
place_less (unit ∷ code) zero (suc j) less within =
    let next = place_next unit code j in
    let some = size_pos unit in
    omega (arith, next, some)
place_less (unit ∷ code) (suc i) (suc j) less within =
    let rest = place_less code i j (omega (arith, less)) (omega (arith, within)) in
    let one = place_next unit code i in
    let two = place_next unit code j in
    omega (arith, rest, one, two)

pub place_most : (code : List CodeUnit) (k : ℕ) → place_of code k ≤ length (flat_map words_of code)
place_most [] zero = omega arith
place_most [] (suc k) = omega arith
place_most (unit ∷ code) zero = omega arith
place_most (unit ∷ code) (suc k) =
    let rest = place_most code k in
    let next = place_next unit code k in
    let two = length-append (words_of unit) (flat_map words_of code) in
    let own = length-words_of unit in
    omega (arith, rest, next, two, own)

-- ---- what stands and lies in a module

pub stands_within : (m : Placed) (at : ℕ) (unit : CodeUnit) → Stands m at unit → at + size_of unit ≤ length m.words
stands_within m at unit s =
    let ends = place_within s.code s.number unit s.is in
    let whole : length m.words ≡ length (flat_map words_of s.code) = ap length s.units.spelled in
    let place = s.place in
    omega (arith, ends, whole, place)

-- a check has its words
pub check_size : (unit : CodeUnit) (slot : ℕ) → slot_of unit ≡ Some slot → size_of unit ≡ CHECK_WORDS
check_size (units.Check linked rs1 imm own) slot is = refl
check_size (units.Plain insn) slot is = absurd (none-some slot is)
check_size (units.Load kind rd rs1 imm) slot is = absurd (none-some slot is)
check_size (units.Store kind rs1 rs2 imm) slot is = absurd (none-some slot is)
check_size (units.Branch cond rs1 rs2 off) slot is = absurd (none-some slot is)
check_size (units.Jump linked off) slot is = absurd (none-some slot is)
check_size units.Service slot is = absurd (none-some slot is)

-- where a check stands its words are code words
pub check_within : (m : Placed) → IsShaped m → (at : ℕ) (unit : CodeUnit) (slot : ℕ) → Stands m at unit
    → slot_of unit ≡ Some slot → m.base + at + CHECK_WORDS ≤ MAX_CODE_WORDS
check_within m (code, shape) at unit slot stands is =
    let ends = stands_within m at unit stands in
    let size = check_size unit slot is in
    let last = shape.ends in
    omega (arith, ends, size, last)

-- where a unit stands there is a code word
pub word_within : (m : Placed) → IsShaped m → (at : ℕ) (unit : CodeUnit) → Stands m at unit
    → m.base + at < MAX_CODE_WORDS
word_within m (code, shape) at unit stands =
    let ends = stands_within m at unit stands in
    let some = size_pos unit in
    let last = shape.ends in
    omega (arith, ends, some, last)

-- the numbers of a function of a shaped module
pub record IsInside (m : Placed) (f : PlacedFunction) : Type 0 where
  pub some : 0 < f.count
  pub ends : f.first + f.count ≤ length m.words
  pub typed : f.ty < length m.types

pub inside : (m : Placed) → IsShaped m → (f : PlacedFunction) → Contains m.functions f → IsInside m f
inside m (code, shape) f has =
    let part : IsPart code f = All-contains (IsPart code) m.functions f shape.parts has in
    let less = place_less code part.from part.to part.some part.within in
    let most = place_most code part.to in
    let whole : length m.words ≡ length (flat_map words_of code) = ap length shape.units.spelled in
    let begins = part.begins in
    let ends = part.ends in
    record {
      some = omega (arith, less, begins, ends);
      ends = omega (arith, most, whole, ends);
      typed = All-contains (λ g. g.ty < length m.types) m.functions f shape.typed has;
    }

names_inside : (code : List CodeUnit) (base types : ℕ) (kind : Kind)
    → base + length (flat_map words_of code) ≤ MAX_CODE_WORDS → IsNamed code types kind → NamesInside base types kind
names_inside code base types (kinds.Call node) fits named = named
names_inside code base types (kinds.Tail node) fits named = named
names_inside code base types kinds.Return fits named = tt
names_inside code base types (kinds.Import name cell) fits named = tt
names_inside code base types (kinds.Switch entries) fits named = λ k d within.
    let place : IsUnitPlace code (get_or entries k d) = named k d within in
    let less = place_less code place.0 (length code) place.1 (omega arith) in
    let most = place_most code (length code) in
    let is = place.2 in
    omega (arith, less, most, is, fits)

-- what a branch of a shaped module names
pub branch_names : (m : Placed) → IsShaped m → (slot : ℕ) (kind : Kind) → HasKind m slot kind
    → NamesInside m.base (length m.types) kind
branch_names m (code, shape) slot kind (number, at, is) =
    let named : IsNamed code (length m.types) kind =
    All-contains (IsNamed code (length m.types)) m.branches kind shape.named (contains_at m.branches number kind is) in
    let whole : length m.words ≡ length (flat_map words_of code) = ap length shape.units.spelled in
    let ends = shape.ends in
    names_inside code m.base (length m.types) kind (omega (arith, whole, ends)) named
