-- What a flow that says what modules tell joins is a direct edge.
use Rattle.std.proofs.Common.{◌≡◌, ℕ, ◌<◌, Bool, true, false, ℤ, List, length, Some, sym, subst, inl, inr}
use Rattle.std.specs.Prelude.{slice_get}
use Rattle.std.specs.List.{Contains}
use Rattle.cfi_flow.specs.Flow.{Reaches}
use Rattle.cfi_flow.specs.Kept.{Kept, GoesAlong}
use Rattle.cfi_unit.specs.declared.unit.Unit.TheVariants as units
use Rattle.cfi_aux.specs.declared.placed.Placed.{Placed}
use Rattle.cfi_aux.specs.declared.placed.PlacedFunction.{PlacedFunction}
use Rattle.cfi_aux.specs.declared.records.Kind.{Kind}
use Rattle.cfi_aux.specs.declared.records.Kind.TheVariants as kinds
use Rattle.cfi_graph.specs.declared.fact.Fact.TheVariants as facts
use Rattle.cfi_graph.specs.Code.{Stands, entry_of}
use Rattle.cfi_graph.specs.Shaped.{AreApart}
use Rattle.cfi_graph.specs.Calls.{HasKind}
use Rattle.cfi_graph.specs.Direct.{IsPointee, DirectEdge}
use Rattle.cfi_graph.specs.Facts.{ByName, AreImports, type_node, IsOpen, IsJumpFact, IsBranchFact, IsTold}
use Rattle.cfi_flow.proofs.RowLemmas.{make_link}
use Rattle.cfi_graph.proofs.BoundLemmas.{contains_at, branch_names}
use Rattle.cfi_graph.proofs.NodeLemmas.{StandsAt, shaped_at}
use Rattle.cfi_graph.proofs.WiderLemmas.{AreWider}
use Rattle.cfi_graph.specs.Links.{TellsLinks}
use Rattle.cfi_graph.proofs.ReadLemmas.{unit_cases}
use Rattle.cfi_graph.proofs.ReturnLemmas.{returned_edge}
use Rattle.cfi_graph.proofs.GoesLemmas.{is_function, may_point}

-- an entry that a type's node may lead to
pub record IsEntry (ms : List Placed) (classes : List (List ℕ)) (node address : ℕ) : Type 0 where
  pub number : ℕ
  pub owner : Placed
  pub function : PlacedFunction
  pub at : StandsAt ms number owner function
  pub opened : IsOpen owner function
  pub is : node ≡ type_node classes number function.ty
  pub entry : address ≡ entry_of owner function

module _ (ms : List Placed) (imports : ByName) (classes : List (List ℕ)) (named : AreImports ms imports)
    (apart : AreApart ms) (flow : Kept)
    (wider : AreWider ms classes flow.widenings) (tells : TellsLinks ms imports classes flow) where
  -- ---- listed addresses

  listed_check : (m : Placed) → Contains ms m → (number at : ℕ) (linked : Bool) (rs1 : ℕ) (imm : ℤ) (own : ℕ)
      → Stands m at (units.Check linked rs1 imm own) → (kind : Kind) → HasKind m own kind → (slot address : ℕ)
      → IsBranchFact imports classes number m at own kind (facts.Listed (make_link slot address)) → DirectEdge ms slot address
  listed_check m placed number at linked rs1 imm own stands (kinds.Switch entries) has slot address told = record {
    owner = m;
    placed = placed;
    at = at;
    link = linked;
    rs1 = rs1;
    imm = imm;
    stands = subst (λ s. Stands m at (units.Check linked rs1 imm s)) (sym told.0) stands;
    kind = kinds.Switch entries;
    has = subst (λ s. HasKind m s (kinds.Switch entries)) (sym told.0) has;
    goes = told.1;
  }
  listed_check m placed number at linked rs1 imm own stands (kinds.Import name cell) has slot address told = record {
    owner = m;
    placed = placed;
    at = at;
    link = linked;
    rs1 = rs1;
    imm = imm;
    stands = subst (λ s. Stands m at (units.Check linked rs1 imm s)) (sym told.0) stands;
    kind = kinds.Import name cell;
    has = subst (λ s. HasKind m s (kinds.Import name cell)) (sym told.0) has;
    goes = (named name address).0 told.1;
  }
  listed_check m placed number at linked rs1 imm own stands (kinds.Call type) has slot address told = absurd told
  listed_check m placed number at linked rs1 imm own stands (kinds.Tail type) has slot address told = absurd told
  listed_check m placed number at linked rs1 imm own stands kinds.Return has slot address told = absurd told

  no_listed_jump : (m : Placed) (at : ℕ) (linked : Bool) (off : ℤ) (slot address : ℕ)
      → IsJumpFact m at linked off (facts.Listed (make_link slot address)) → ⊥
  no_listed_jump m at true off slot address told = told
  no_listed_jump m at false off slot address told = told

  listed_edge : (slot address : ℕ) → IsTold ms imports classes (facts.Listed (make_link slot address))
      → DirectEdge ms slot address
  listed_edge slot address told =
      elim told.tells [
        | inl unit ↦ elim (unit_cases imports classes told.number told.owner (facts.Listed (make_link slot address)) unit) [
          | inl check ↦
              listed_check told.owner (contains_at ms told.number told.owner told.is) told.number check.at check.linked
              check.rs1 check.imm check.slot check.stands check.kind check.has slot address check.tells
          | inr jump ↦ absurd (no_listed_jump told.owner jump.at jump.linked jump.off slot address jump.tells)
        ]
        | inr function ↦ absurd function.tells
      ]

  -- ---- pointers

  entry_jump : (m : Placed) (at : ℕ) (linked : Bool) (off : ℤ) (node address : ℕ)
      → IsJumpFact m at linked off (facts.Entry (make_link node address)) → ⊥
  entry_jump m at true off node address told = told
  entry_jump m at false off node address told = told

  entry_check : (number : ℕ) (m : Placed) (at slot : ℕ) (kind : Kind) (node address : ℕ)
      → IsBranchFact imports classes number m at slot kind (facts.Entry (make_link node address)) → ⊥
  entry_check number m at slot (kinds.Call type) node address told = told
  entry_check number m at slot (kinds.Tail type) node address told = told
  entry_check number m at slot kinds.Return node address told = told
  entry_check number m at slot (kinds.Switch entries) node address told = told
  entry_check number m at slot (kinds.Import name cell) node address told = told

  pub entry_told : (node address : ℕ) → IsTold ms imports classes (facts.Entry (make_link node address))
      → IsEntry ms classes node address
  entry_told node address told =
      elim told.tells [
        | inl unit ↦ elim (unit_cases imports classes told.number told.owner (facts.Entry (make_link node address)) unit) [
          | inl check ↦
              absurd (entry_check told.number told.owner check.at check.slot check.kind node address check.tells)
          | inr jump ↦ absurd (entry_jump told.owner jump.at jump.linked jump.off node address jump.tells)
        ]
        | inr function ↦
            let tells = function.tells in
            record {
              number = told.number;
              owner = told.owner;
              function = function.function;
              at = record { is = told.is; has = function.has };
              opened = tells.0;
              is = tells.1;
              entry = tells.2;
            }
      ]

  pointee : (number : ℕ) (m : Placed) → slice_get ms number ≡ Some m → (type : ℕ) → type < length m.types
      → (pointing node address : ℕ) → pointing ≡ type_node classes number type
      → Reaches flow.widenings node pointing → IsEntry ms classes node address → IsPointee ms m type address
  pointee number m is type within pointing node address from reach e = record {
    owner = e.owner;
    function = e.function;
    is = is_function ms imports classes named apart flow wider e.number e.owner e.function e.at;
    may = may_point ms imports classes named apart flow wider number e.number m e.owner type e.function is within e.at e.opened
        (subst (λ k. Reaches flow.widenings (type_node classes e.number e.function.ty) k) from
        (subst (λ k. Reaches flow.widenings k pointing) e.is reach));
    entry = e.entry;
  }

  pointer_check : (number : ℕ) (m : Placed) → slice_get ms number ≡ Some m
      → (at : ℕ) (linked : Bool) (rs1 : ℕ) (imm : ℤ) (own : ℕ) → Stands m at (units.Check linked rs1 imm own)
      → (kind : Kind) → HasKind m own kind
      → (pointing node slot address : ℕ)
      → IsBranchFact imports classes number m at own kind (facts.Pointer (make_link pointing slot))
      → Reaches flow.widenings node pointing → IsEntry ms classes node address → DirectEdge ms slot address
  pointer_check number m is at linked rs1 imm own stands (kinds.Call type) has pointing node slot address told reach e = record {
    owner = m;
    placed = contains_at ms number m is;
    at = at;
    link = linked;
    rs1 = rs1;
    imm = imm;
    stands = subst (λ s. Stands m at (units.Check linked rs1 imm s)) (sym told.1) stands;
    kind = kinds.Call type;
    has = subst (λ s. HasKind m s (kinds.Call type)) (sym told.1) has;
    goes = pointee number m is type (branch_names m (shaped_at ms apart number m is) own (kinds.Call type) has)
        pointing node address told.0 reach e;
  }
  pointer_check number m is at linked rs1 imm own stands (kinds.Tail type) has pointing node slot address told reach e = record {
    owner = m;
    placed = contains_at ms number m is;
    at = at;
    link = linked;
    rs1 = rs1;
    imm = imm;
    stands = subst (λ s. Stands m at (units.Check linked rs1 imm s)) (sym told.1) stands;
    kind = kinds.Tail type;
    has = subst (λ s. HasKind m s (kinds.Tail type)) (sym told.1) has;
    goes = pointee number m is type (branch_names m (shaped_at ms apart number m is) own (kinds.Tail type) has)
        pointing node address told.0 reach e;
  }
  pointer_check number m is at linked rs1 imm own stands kinds.Return has pointing node slot address told reach e = absurd told
  pointer_check number m is at linked rs1 imm own stands (kinds.Switch entries) has pointing node slot address told reach e =
      absurd told
  pointer_check number m is at linked rs1 imm own stands (kinds.Import name cell) has pointing node slot address told reach e =
      absurd told

  pointer_jump : (m : Placed) (at : ℕ) (linked : Bool) (off : ℤ) (node slot : ℕ)
      → IsJumpFact m at linked off (facts.Pointer (make_link node slot)) → ⊥
  pointer_jump m at true off node slot told = told
  pointer_jump m at false off node slot told = told

  pointer_edge : (pointing node slot address : ℕ) → IsTold ms imports classes (facts.Pointer (make_link pointing slot))
      → Reaches flow.widenings node pointing → IsTold ms imports classes (facts.Entry (make_link node address))
      → DirectEdge ms slot address
  pointer_edge pointing node slot address told reach entry =
      elim told.tells [
        | inl unit ↦ elim (unit_cases imports classes told.number told.owner (facts.Pointer (make_link pointing slot)) unit) [
          | inl check ↦
              pointer_check told.number told.owner told.is check.at check.linked check.rs1 check.imm check.slot
              check.stands check.kind check.has pointing node slot address check.tells reach (entry_told node address entry)
          | inr jump ↦ absurd (pointer_jump told.owner jump.at jump.linked jump.off pointing slot jump.tells)
        ]
        | inr function ↦ absurd function.tells
      ]

  -- where control goes there is a direct edge
  pub goes_direct : (slot address : ℕ) → GoesAlong flow slot address → DirectEdge ms slot address
  goes_direct slot address goes =
      elim goes [
        | inl listed ↦ listed_edge slot address ((tells.listed slot address).0 listed)
        | inr by ↦ elim by.1 [
          | inl points ↦
              pointer_edge points.pointing by.0 slot address ((tells.pointers points.pointing slot).0 points.pointer)
              points.wider ((tells.entries by.0 address).0 points.entry)
          | inr returns ↦ returned_edge ms imports classes named apart flow wider tells by.0 slot address returns
        ]
      ]
