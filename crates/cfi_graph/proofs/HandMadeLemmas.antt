-- Modules that tests write by hand, and that a graph can be made of them.
use Rattle.std.proofs.Common.{◌≡◌, ◌∙◌, ℕ, zero, suc, ◌+◌, ◌<◌, ◌≤◌, ◌^◌, Bool, List, [], ◌∷◌, length, map, get_or, Some, refl, ap, arith}
use Rattle.std.specs.Prelude.{slice_get, All, IsTrue}
use Rattle.std.specs.List.{AllPairs, AllByRecursion, flat_map}
use Rattle.cfi_unit.specs.declared.unit.Unit.{Unit as CodeUnit}
use Rattle.cfi_unit.specs.Unit.{IsUnit, words_of}
use Rattle.cfi_word.specs.declared.map.TheConstants.{FIRST_BASE}
use Rattle.cfi_word.specs.declared.limits.TheConstants.{MAX_CODE_WORDS}
use Rattle.cfi_type_table.specs.Node.{Node}
use Rattle.cfi_type_table.specs.Spelling.{AreTypes}
use Rattle.cfi_aux.specs.declared.placed.Placed.{Placed}
use Rattle.cfi_aux.specs.declared.records.Kind.{Kind}
use Rattle.cfi_aux.specs.Cells.{have_cells}
use Rattle.cfi_graph.specs.Shaped.{slots_of, IsPart, FunctionPrecedes, IsNamed, IsShaped, IsBefore}
use Rattle.cfi_graph.specs.Reading.{HaveGraph, node_count}
use Rattle.cfi_graph.specs.HandMade.{function_of, placed_of, void_and_function}

-- ---- lists that are written out

pub all_none : {X : Type 0} (P : X → Type 0) → All P []
all_none P = λ k d within. absurd (omega (arith, within))

all_at : {X : Type 0} (P : X → Type 0) (x : X) (xs : List X) → P x → All P xs → (k : ℕ) (d : X)
    → k < length (x ∷ xs) → P (get_or (x ∷ xs) k d)
all_at P x xs here rest zero d within = here
all_at P x xs here rest (suc k) d within = rest k d (omega (arith, within))

pub all_more : {X : Type 0} (P : X → Type 0) (x : X) (xs : List X) → P x → All P xs → All P (x ∷ xs)
all_more P x xs here rest = λ k d within. all_at P x xs here rest k d within

pub pairs_none : {X : Type 0} (R : X → X → Type 0) → AllPairs R []
pairs_none R = λ i j d less within. absurd (omega (arith, within))

pairs_at : {X : Type 0} (R : X → X → Type 0) (x : X) (xs : List X) → All (R x) xs → AllPairs R xs → (i j : ℕ) (d : X)
    → i < j → j < length (x ∷ xs) → R (get_or (x ∷ xs) i d) (get_or (x ∷ xs) j d)
pairs_at R x xs here rest i zero d less within = absurd (omega (arith, less))
pairs_at R x xs here rest zero (suc j) d less within = here j d (omega (arith, within))
pairs_at R x xs here rest (suc i) (suc j) d less within = rest i j d (omega (arith, less)) (omega (arith, within))

pub pairs_more : {X : Type 0} (R : X → X → Type 0) (x : X) (xs : List X) → All (R x) xs → AllPairs R xs
    → AllPairs R (x ∷ xs)
pairs_more R x xs here rest = λ i j d less within. pairs_at R x xs here rest i j d less within

-- slots that count up from one
abbrev pub CountUp : (base : ℕ) → List ℕ → Type 0
CountUp base [] = Unit {0}
CountUp base (slot ∷ slots) = (slot ≡ base) × CountUp (base + 1) slots

count_up : (base : ℕ) (slots : List ℕ) → CountUp base slots → (k : ℕ) → k < length slots
    → slice_get slots k ≡ Some (base + k)
count_up base [] counts k within = absurd (omega (arith, within))
count_up base (slot ∷ slots) counts zero within =
    let here : slot ≡ base + 0 = omega (arith, counts.0) in
    ap (λ s. Some s) here
count_up base (slot ∷ slots) counts (suc k) within =
    let next : base + 1 + k ≡ base + suc k = omega arith in
    count_up (base + 1) slots counts.1 k (omega (arith, within)) ∙ ap (λ s. Some s) next

-- ---- modules

-- what has to be shown of such a module
pub record IsHandMade (base slot_base : ℕ) (code : List CodeUnit) (rows : List (ℕ × ℕ × ℕ × Bool))
    (branches : List Kind) (types : List Node) : Type 0 where
  pub fit : AllByRecursion IsUnit code
  pub parts : All (IsPart code) (map function_of rows)
  pub order : AllPairs FunctionPrecedes (map function_of rows)
  pub checks : length (slots_of code) ≡ length branches
  pub slots : CountUp slot_base (slots_of code)
  pub named : All (IsNamed code (length types)) branches
  pub typed : All (λ f. f.ty < length types) (map function_of rows)
  pub begins : FIRST_BASE ≤ base
  pub ends : base + length (flat_map words_of code) ≤ MAX_CODE_WORDS

pub hand_made_is_shaped : (base slot_base : ℕ) (code : List CodeUnit) (rows : List (ℕ × ℕ × ℕ × Bool))
    (branches : List Kind) (cells : IsTrue (have_cells 0 branches)) (types : List Node)
    → IsHandMade base slot_base code rows branches types
    → IsShaped (placed_of base slot_base code rows branches cells types)
hand_made_is_shaped base slot_base code rows branches cells types is = (
  code,
  record {
    units = record { fit = is.fit; spelled = refl };
    parts = is.parts;
    order = is.order;
    checks = is.checks;
    slots = λ k within.
        let checks = is.checks in
        count_up slot_base (slots_of code) is.slots k (omega (arith, within, checks));
    named = is.named;
    typed = is.typed;
    begins = is.begins;
    ends = is.ends;
  },
)

-- a graph can be made of one shaped module
pub one_has_graph : (m : Placed) → IsShaped m → AreTypes m.types → node_count (m ∷ []) < 2 ^ 32 → HaveGraph (m ∷ [])
one_has_graph m shaped types nodes = record {
  apart = record {
    shaped = all_more IsShaped m [] shaped (all_none IsShaped);
    order = pairs_more IsBefore m [] (all_none (IsBefore m)) (pairs_none IsBefore);
  };
  types = all_more (λ n. AreTypes n.types) m [] types (all_none (λ n. AreTypes n.types));
  few = omega arith;
  nodes = nodes;
}

-- ---- shorthand

pub all_by_recursion : {X : Type 0} (P : X → Type 0) (xs : List X) → AllByRecursion P xs → All P xs
all_by_recursion P [] holds = all_none P
all_by_recursion P (x ∷ xs) holds = all_more P x xs holds.0 (all_by_recursion P xs holds.1)

abbrev pub PairsByRecursion : {X : Type 0} → (X → X → Type 0) → List X → Type 0
PairsByRecursion R [] = Unit {0}
PairsByRecursion R (x ∷ xs) = AllByRecursion (R x) xs × PairsByRecursion R xs

pub pairs_by_recursion : {X : Type 0} (R : X → X → Type 0) (xs : List X) → PairsByRecursion R xs → AllPairs R xs
pairs_by_recursion R [] holds = pairs_none R
pairs_by_recursion R (x ∷ xs) holds =
    pairs_more R x xs (all_by_recursion (R x) xs holds.0) (pairs_by_recursion R xs holds.1)

pub void_first : AreTypes void_and_function
void_first = record {
  count = omega arith;
  nodes = (record { arity = refl; fields = tt }, (record { arity = refl; fields = (omega arith, refl, tt) }, tt));
  names = (all_none (λ k. k < 2), (all_more (λ k. k < 2) 0 [] (omega arith) (all_none (λ k. k < 2)), tt));
}
