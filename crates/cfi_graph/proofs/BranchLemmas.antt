-- What calls and switches tell, and functions, as the facts that are added for them.
use Rattle.std.proofs.Common.{◌≡◌, ◌⊎◌, ◌∙◌, ℕ, ◌+◌, ◌*◌, Bool, ℤ, List, [], ◌∷◌, ◌++◌, map, Some, refl, sym, ap, subst, inl, inr, arith}
use Rattle.std.specs.List.{Contains}
use Rattle.std.specs.Prelude.{slice_get}
use Rattle.std.proofs.lemmas.Option.{same_Some, none-some}
use Rattle.cfi_flow.proofs.Members.{member_map, from_map}
use Rattle.cfi_unit.specs.declared.unit.Unit.{Unit as CodeUnit}
use Rattle.cfi_unit.specs.declared.unit.Unit.TheVariants as units
use Rattle.cfi_aux.specs.declared.placed.Placed.{Placed}
use Rattle.cfi_aux.specs.declared.placed.PlacedFunction.{PlacedFunction}
use Rattle.cfi_aux.specs.declared.records.Kind.{Kind}
use Rattle.cfi_aux.specs.declared.records.Kind.TheVariants as kinds
use Rattle.cfi_graph.specs.declared.fact.Fact.{Fact}
use Rattle.cfi_graph.specs.declared.fact.Fact.TheVariants as facts
use Rattle.cfi_graph.specs.Code.{entry_of}
use Rattle.cfi_graph.specs.Shaped.{slot_of}
use Rattle.cfi_graph.specs.Calls.{HasKind}
use Rattle.cfi_graph.specs.Facts.{ByName, type_node, function_node, listed_fact, IsBranchFact, IsUnitFact, IsOpen, IsFunctionFact, Adds}
use Rattle.cfi_graph.proofs.AddsLemmas.{adds_two, adds_list, adds_as}
use Rattle.cfi_flow.proofs.RowLemmas.{make_link, link_is}

-- ---- a switch

module _ (imports : ByName) (classes : List (List ℕ)) (number : ℕ) (m : Placed) (at slot : ℕ) (entries : List ℕ) where
  listed_back : (fact : Fact) → IsBranchFact imports classes number m at slot (kinds.Switch entries) fact
      → Contains (map (listed_fact m.base slot) entries) fact
  listed_back (facts.Listed l) (from, (entry, has, to)) =
      subst (λ f. Contains (map (listed_fact m.base slot) entries) f)
      (ap facts.Listed (sym (link_is l slot (4 * m.base + entry) from to)))
      (member_map (listed_fact m.base slot) entries entry has)
  listed_back (facts.Arrow l) told = absurd told
  listed_back (facts.Site l) told = absurd told
  listed_back (facts.Return l) told = absurd told
  listed_back (facts.Pointer l) told = absurd told
  listed_back (facts.Entry l) told = absurd told

  listed_to : (fact : Fact) → Contains (map (listed_fact m.base slot) entries) fact
      → IsBranchFact imports classes number m at slot (kinds.Switch entries) fact
  listed_to fact has =
      let found = from_map (listed_fact m.base slot) entries fact has in
      subst (IsBranchFact imports classes number m at slot (kinds.Switch entries)) found.2 (refl, (found.0, found.1, refl))

  pub switch_adds : (old : List Fact) → Adds old (old ++ map (listed_fact m.base slot) entries)
      (IsBranchFact imports classes number m at slot (kinds.Switch entries))
  switch_adds old =
      adds_as old (old ++ map (listed_fact m.base slot) entries)
      (λ fact. Contains (map (listed_fact m.base slot) entries) fact)
      (IsBranchFact imports classes number m at slot (kinds.Switch entries))
      (adds_list old (map (listed_fact m.base slot) entries)) listed_to listed_back

-- ---- checks

-- two kinds of one slot are one
pub kind_one : (m : Placed) (slot : ℕ) (one other : Kind) → HasKind m slot one → HasKind m slot other → one ≡ other
kind_one m slot one other (i, at_i, is_i) (j, at_j, is_j) =
    let same : i ≡ j = omega (arith, at_i, at_j) in
    same_Some one other (sym is_i ∙ ap (λ k. slice_get m.branches k) same ∙ is_j)

module _ (imports : ByName) (classes : List (List ℕ)) (number : ℕ) (m : Placed) (at slot : ℕ) where
  -- a check whose slot has no branch tells nothing
  pub no_kind : ((kind : Kind) → HasKind m slot kind → ⊥) → (unit : CodeUnit) → slot_of unit ≡ Some slot → (fact : Fact)
      → IsUnitFact imports classes number m at unit fact → ⊥
  no_kind none (units.Check linked rs1 imm own) is fact told =
      none told.0 (subst (λ s. HasKind m s told.0) (same_Some own slot is) told.1)
  no_kind none (units.Plain insn) is fact told = absurd (none-some slot is)
  no_kind none (units.Load kind rd rs1 imm) is fact told = absurd (none-some slot is)
  no_kind none (units.Store kind rs1 rs2 imm) is fact told = absurd (none-some slot is)
  no_kind none (units.Branch cond rs1 rs2 off) is fact told = absurd (none-some slot is)
  no_kind none (units.Jump linked off) is fact told = absurd (none-some slot is)
  no_kind none units.Service is fact told = absurd (none-some slot is)

  check_here : (kind : Kind) → HasKind m slot kind → (linked : Bool) (rs1 : ℕ) (imm : ℤ) (old new : List Fact)
      → Adds old new (IsBranchFact imports classes number m at slot kind)
      → Adds old new (IsUnitFact imports classes number m at (units.Check linked rs1 imm slot))
  check_here kind has linked rs1 imm old new a =
      adds_as old new (IsBranchFact imports classes number m at slot kind)
      (IsUnitFact imports classes number m at (units.Check linked rs1 imm slot)) a (λ fact told. (kind, has, told))
      (λ fact told. subst (λ k. IsBranchFact imports classes number m at slot k fact)
      (kind_one m slot told.0 kind told.1 has) told.2)

  -- a check tells what its branch tells
  pub check_adds : (kind : Kind) → HasKind m slot kind → (unit : CodeUnit) → slot_of unit ≡ Some slot
      → (old new : List Fact) → Adds old new (IsBranchFact imports classes number m at slot kind)
      → Adds old new (IsUnitFact imports classes number m at unit)
  check_adds kind has (units.Check linked rs1 imm own) is old new a =
      subst (λ s. Adds old new (IsUnitFact imports classes number m at (units.Check linked rs1 imm s)))
      (sym (same_Some own slot is)) (check_here kind has linked rs1 imm old new a)
  check_adds kind has (units.Plain insn) is old new a = absurd (none-some slot is)
  check_adds kind has (units.Load k rd rs1 imm) is old new a = absurd (none-some slot is)
  check_adds kind has (units.Store k rs1 rs2 imm) is old new a = absurd (none-some slot is)
  check_adds kind has (units.Branch cond rs1 rs2 off) is old new a = absurd (none-some slot is)
  check_adds kind has (units.Jump linked off) is old new a = absurd (none-some slot is)
  check_adds kind has units.Service is old new a = absurd (none-some slot is)

-- ---- functions

module _ (classes : List (List ℕ)) (number : ℕ) (m : Placed) (f : PlacedFunction) where
  two_of_function : (fact : Fact) → IsFunctionFact classes number m f fact
      → (facts.Arrow (make_link (type_node classes number f.ty) (function_node m f)) ≡ fact)
      ⊎ (facts.Entry (make_link (type_node classes number f.ty) (entry_of m f)) ≡ fact)
  two_of_function (facts.Arrow l) told =
      inl (ap facts.Arrow (sym (link_is l (type_node classes number f.ty) (function_node m f) told.1 told.2)))
  two_of_function (facts.Entry l) told =
      inr (ap facts.Entry (sym (link_is l (type_node classes number f.ty) (entry_of m f) told.1 told.2)))
  two_of_function (facts.Site l) told = absurd told
  two_of_function (facts.Return l) told = absurd told
  two_of_function (facts.Pointer l) told = absurd told
  two_of_function (facts.Listed l) told = absurd told

  pub function_adds : (from to : ℕ) (old : List Fact) → IsOpen m f → from ≡ type_node classes number f.ty
      → to ≡ entry_of m f
      → Adds old
      ((old ++ facts.Arrow (make_link from (function_node m f)) ∷ []) ++ facts.Entry (make_link from to) ∷ [])
      (IsFunctionFact classes number m f)
  function_adds from to old opened is after =
      subst (λ k. Adds old
      ((old ++ facts.Arrow (make_link k (function_node m f)) ∷ []) ++ facts.Entry (make_link k to) ∷ [])
      (IsFunctionFact classes number m f)) (sym is)
      (subst (λ t. Adds old ((old ++ facts.Arrow (make_link (type_node classes number f.ty) (function_node m f)) ∷ [])
      ++ facts.Entry (make_link (type_node classes number f.ty) t) ∷ [])
      (IsFunctionFact classes number m f)) (sym after)
      (adds_two old (facts.Arrow (make_link (type_node classes number f.ty) (function_node m f)))
      (facts.Entry (make_link (type_node classes number f.ty) (entry_of m f)))
      (IsFunctionFact classes number m f) (opened, refl, refl) (opened, refl, refl) two_of_function))
