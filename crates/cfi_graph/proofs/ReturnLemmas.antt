-- Where a flow that says what modules tell returns, there is a direct edge.
use Rattle.std.proofs.Common.{◌≡◌, ◌∙◌, ℕ, Bool, true, false, ℤ, List, Some, sym, subst, inl, inr, arith}
use Rattle.std.specs.Prelude.{slice_get}
use Rattle.std.specs.List.{Contains}
use Rattle.cfi_flow.specs.Flow.{Reaches}
use Rattle.cfi_flow.specs.Kept.{Kept, ReturnsAlong}
use Rattle.cfi_unit.specs.declared.unit.Unit.TheVariants as units
use Rattle.cfi_aux.specs.declared.placed.Placed.{Placed}
use Rattle.cfi_aux.specs.declared.placed.PlacedFunction.{PlacedFunction}
use Rattle.cfi_aux.specs.declared.records.Kind.{Kind}
use Rattle.cfi_aux.specs.declared.records.Kind.TheVariants as kinds
use Rattle.cfi_graph.specs.declared.fact.Fact.TheVariants as facts
use Rattle.cfi_graph.specs.Code.{Stands, code_address}
use Rattle.cfi_graph.specs.Shaped.{AreApart}
use Rattle.cfi_graph.specs.Calls.{HasKind, ReturnsTo}
use Rattle.cfi_graph.specs.Direct.{DirectEdge}
use Rattle.cfi_graph.specs.Facts.{ByName, AreImports, type_node, IsJumpFact, IsBranchFact, IsTold}
use Rattle.cfi_flow.proofs.RowLemmas.{make_link}
use Rattle.cfi_graph.proofs.BoundLemmas.{contains_at, branch_names}
use Rattle.cfi_graph.proofs.NodeLemmas.{lies_there, shaped_at}
use Rattle.cfi_graph.proofs.WiderLemmas.{AreWider, reaches_high}
use Rattle.cfi_graph.specs.Links.{TellsLinks}
use Rattle.cfi_graph.proofs.ReadLemmas.{unit_cases}
use Rattle.cfi_graph.proofs.GoesLemmas.{IsEntered, leads_entry, is_function, apart_nodes, may_point, entered_by}

module _ (ms : List Placed) (imports : ByName) (classes : List (List ℕ)) (named : AreImports ms imports)
    (apart : AreApart ms) (flow : Kept)
    (wider : AreWider ms classes flow.widenings) (tells : TellsLinks ms imports classes flow) where
  module _ (m : Placed) (f : PlacedFunction) where
    site_jump : (caller : Placed) → Contains ms caller → (at : ℕ) (linked : Bool) (off : ℤ)
        → Stands caller at (units.Jump linked off) → (node address : ℕ)
        → IsJumpFact caller at linked off (facts.Site (make_link node address)) → (e : IsEntered ms classes flow.widenings m f node)
        → ReturnsTo ms e.owner e.entered address
    site_jump caller placed at false off stands node address told e = absurd told
    site_jump caller placed at true off stands node address told e =
        let leads = told.0 in
        elim e.enters [
          | inl same ↦ record {
            caller = caller;
            placed = placed;
            at = at;
            unit = units.Jump true off;
            stands = stands;
            call = leads_entry (code_address caller at) off node e.owner e.entered leads.leads same;
            after = told.1;
          }
          | inr opened ↦
              let low = leads.within in
              let high = reaches_high ms classes flow.widenings wider e.number e.entered.ty node opened.1 in
              absurd (omega (arith, low, high))
        ]

    site_check : (number : ℕ) (caller : Placed) → slice_get ms number ≡ Some caller
        → (at : ℕ) (linked : Bool) (rs1 : ℕ) (imm : ℤ) (own : ℕ)
        → Stands caller at (units.Check linked rs1 imm own) → (kind : Kind) → HasKind caller own kind
        → (node address : ℕ) → IsBranchFact imports classes number caller at own kind (facts.Site (make_link node address))
        → (e : IsEntered ms classes flow.widenings m f node) → ReturnsTo ms e.owner e.entered address
    site_check number caller is at linked rs1 imm own stands (kinds.Call type) has node address told e =
        elim e.enters [
          | inl same ↦
              absurd (apart_nodes ms imports classes named apart flow wider e.number number type e.owner e.entered e.at (sym same ∙ told.0))
          | inr opened ↦ record {
            caller = caller;
            placed = contains_at ms number caller is;
            at = at;
            unit = units.Check linked rs1 imm own;
            stands = stands;
            call = (
              type,
              has,
              may_point ms imports classes named apart flow wider number e.number caller e.owner type e.entered is
                  (branch_names caller (shaped_at ms apart number caller is) own (kinds.Call type) has) e.at opened.0
                  (subst (λ k. Reaches flow.widenings (type_node classes e.number e.entered.ty) k) told.0 opened.1),
            );
            after = told.1;
          }
        ]
    site_check number caller is at linked rs1 imm own stands (kinds.Tail type) has node address told e = absurd told
    site_check number caller is at linked rs1 imm own stands kinds.Return has node address told e = absurd told
    site_check number caller is at linked rs1 imm own stands (kinds.Switch entries) has node address told e =
        absurd told
    site_check number caller is at linked rs1 imm own stands (kinds.Import name cell) has node address told e =
        absurd told

    site_returns : (node address : ℕ) → IsTold ms imports classes (facts.Site (make_link node address))
        → (e : IsEntered ms classes flow.widenings m f node) → ReturnsTo ms e.owner e.entered address
    site_returns node address told e =
        elim told.tells [
          | inl unit ↦ elim (unit_cases imports classes told.number told.owner (facts.Site (make_link node address)) unit) [
            | inl check ↦
                site_check told.number told.owner told.is check.at check.linked check.rs1 check.imm check.slot
                check.stands check.kind check.has node address check.tells e
            | inr jump ↦
                site_jump told.owner (contains_at ms told.number told.owner told.is) jump.at jump.linked jump.off
                jump.stands node address jump.tells e
          ]
          | inr function ↦ absurd function.tells
        ]

  return_edge : (number : ℕ) (m : Placed) → slice_get ms number ≡ Some m
      → (at : ℕ) (linked : Bool) (rs1 : ℕ) (imm : ℤ) (own : ℕ) → Stands m at (units.Check linked rs1 imm own)
      → (kind : Kind) → HasKind m own kind → (node slot address : ℕ) → (r : ReturnsAlong flow node slot address)
      → IsBranchFact imports classes number m at own kind (facts.Return (make_link r.returning slot))
      → DirectEdge ms slot address
  return_edge number m is at linked rs1 imm own stands kinds.Return has node slot address r told =
      let there = lies_there m at r.returning told.0 in
      let f = there.function in
      let path = subst (λ to. Reaches flow.arrows node to) there.is r.reached in
      let e = entered_by ms imports classes named apart flow wider m f tells number (record { is = is; has = there.has }) path.0 node
      path.1 in
      record {
        owner = m;
        placed = contains_at ms number m is;
        at = at;
        link = linked;
        rs1 = rs1;
        imm = imm;
        stands = subst (λ s. Stands m at (units.Check linked rs1 imm s)) (sym told.1) stands;
        kind = kinds.Return;
        has = subst (λ s. HasKind m s kinds.Return) (sym told.1) has;
        goes = record {
          returning = f;
          has = there.has;
          lies = there.lies;
          owner = e.owner;
          entered = e.entered;
          is = is_function ms imports classes named apart flow wider e.number e.owner e.entered e.at;
          steps = e.steps;
          reached = e.reached;
          returns = site_returns m f node address ((tells.sites node address).0 r.site) e;
        };
      }
  return_edge number m is at linked rs1 imm own stands (kinds.Call type) has node slot address r told =
      absurd told
  return_edge number m is at linked rs1 imm own stands (kinds.Tail type) has node slot address r told =
      absurd told
  return_edge number m is at linked rs1 imm own stands (kinds.Switch entries) has node slot address r told =
      absurd told
  return_edge number m is at linked rs1 imm own stands (kinds.Import name cell) has node slot address r told =
      absurd told

  no_return_jump : (m : Placed) (at : ℕ) (linked : Bool) (off : ℤ) (node slot : ℕ)
      → IsJumpFact m at linked off (facts.Return (make_link node slot)) → ⊥
  no_return_jump m at true off node slot told = told
  no_return_jump m at false off node slot told = told

  -- a return goes along direct edges
  pub returned_edge : (node slot address : ℕ) → ReturnsAlong flow node slot address → DirectEdge ms slot address
  returned_edge node slot address r =
      let told = (tells.returns r.returning slot).0 r.back in
      elim told.tells [
        | inl unit ↦ elim (unit_cases imports classes told.number told.owner (facts.Return (make_link r.returning slot)) unit) [
          | inl check ↦
              return_edge told.number told.owner told.is check.at check.linked check.rs1 check.imm check.slot
              check.stands check.kind check.has node slot address r check.tells
          | inr jump ↦
              absurd (no_return_jump told.owner jump.at jump.linked jump.off r.returning slot jump.tells)
        ]
        | inr function ↦ absurd function.tells
      ]
