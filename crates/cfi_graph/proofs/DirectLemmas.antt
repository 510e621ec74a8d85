-- Where there is a direct edge, control goes along a flow that says what modules tell.
use Rattle.std.proofs.Common.{◌≡◌, ◌∙◌, ℕ, zero, suc, ◌+◌, ◌<◌, Bool, true, false, ℤ, List, length, Some, refl, ap, subst, inl, inr, arith}
use Rattle.std.specs.Prelude.{slice_get}
use Rattle.std.specs.List.{Contains}
use Rattle.cfi_flow.specs.Flow.{Links, IsPath, Reaches}
use Rattle.cfi_flow.specs.Kept.{Kept, GoesAlong}
use Rattle.cfi_unit.specs.declared.unit.Unit.{Unit as CodeUnit}
use Rattle.cfi_unit.specs.declared.unit.Unit.TheVariants as units
use Rattle.cfi_unit.specs.Unit.{size_of}
use Rattle.cfi_aux.specs.declared.placed.Placed.{Placed}
use Rattle.cfi_aux.specs.declared.placed.PlacedFunction.{PlacedFunction}
use Rattle.cfi_aux.specs.declared.records.Kind.{Kind}
use Rattle.cfi_aux.specs.declared.records.Kind.TheVariants as kinds
use Rattle.cfi_graph.specs.declared.fact.Fact.{Fact}
use Rattle.cfi_graph.specs.declared.fact.Fact.TheVariants as facts
use Rattle.cfi_graph.specs.Code.{Stands, code_address, entry_of, Leads}
use Rattle.cfi_graph.specs.Shaped.{AreApart}
use Rattle.cfi_graph.specs.Calls.{HasKind, IsFunction, MayPoint, IsImported, MayTail, IsCall, IsTailCall, IsReached}
use Rattle.cfi_aux.specs.Extent.{LiesIn}
use Rattle.cfi_graph.specs.Direct.{IsPointee, IsReturnTarget, IsImportTarget, GoesTo, DirectEdge}
use Rattle.cfi_graph.specs.Facts.{ByName, AreImports, type_node, function_node, word_of, LeadsToWord, LiesInNode, IsOpen, IsUnitFact, IsTold}
use Rattle.cfi_flow.proofs.RowLemmas.{make_link}
use Rattle.cfi_graph.proofs.BoundLemmas.{at_contains, inside, branch_names}
use Rattle.cfi_graph.proofs.NodeLemmas.{StandsAt, shaped_at, node_low}
use Rattle.cfi_graph.proofs.WiderLemmas.{AreWider, fits_callable}
use Rattle.cfi_graph.specs.Links.{TellsLinks}

-- the number of a function's module
number_of : (ms : List Placed) (n : Placed) (g : PlacedFunction) (is : IsFunction ms n g)
    → (number : ℕ) × StandsAt ms number n g
number_of ms n g is = (is.placed.0, record { is = at_contains ms n is.placed; has = is.function })

lies_node : (m : Placed) (f : PlacedFunction) (at : ℕ) → Contains m.functions f → LiesIn f at
    → LiesInNode m at (function_node m f)
lies_node m f at has lies = (f.first, record { function = f; has = has; lies = lies; is = refl }, refl)

-- pointers lead to open functions
may_open : (m : Placed) (node : ℕ) (n : Placed) (g : PlacedFunction) → MayPoint m node n g → IsOpen n g
may_open m node n g may = record { taken = may.taken; callable = fits_callable m.types node n.types g.ty may.fits }

module _ (ms : List Placed) (imports : ByName) (classes : List (List ℕ)) (named : AreImports ms imports)
    (apart : AreApart ms) (flow : Kept)
    (wider : AreWider ms classes flow.widenings) (tells : TellsLinks ms imports classes flow) where
  by_unit : (number : ℕ) (m : Placed) → slice_get ms number ≡ Some m → (at : ℕ) (unit : CodeUnit) → Stands m at unit
      → (fact : Fact) → IsUnitFact imports classes number m at unit fact → IsTold ms imports classes fact
  by_unit number m is at unit stands fact told = record {
    number = number;
    owner = m;
    is = is;
    tells = inl (record { at = at; unit = unit; stands = stands; tells = told });
  }

  step : (a b c : ℕ) → Links flow.arrows a b → Reaches flow.arrows b c → Reaches flow.arrows a c
  step a b c arrow (steps, path) = (suc steps, (b, arrow, path))

  told_arrow : (a b : ℕ) → IsTold ms imports classes (facts.Arrow (make_link a b)) → Links flow.arrows a b
  told_arrow a b told = (tells.arrows a b).1 (inl told)

  -- the node of an open function's type leads to the function
  type_arrow : (number : ℕ) (n : Placed) (g : PlacedFunction) → StandsAt ms number n g → IsOpen n g
      → Links flow.arrows (type_node classes number g.ty) (function_node n g)
  type_arrow number n g at opened =
      told_arrow (type_node classes number g.ty) (function_node n g) (record {
        number = number;
        owner = n;
        is = at.is;
        tells = inr (record { function = g; has = at.has; tells = (opened, refl, refl) });
      })

  -- what is reached from a type's node is reached from a wider one's
  narrow_path : (steps a b to : ℕ) → IsPath flow.widenings steps a b → Reaches flow.arrows a to
      → Reaches flow.arrows b to
  narrow_path zero a b to same rest = subst (λ k. Reaches flow.arrows k to) same rest
  narrow_path (suc steps) a b to (next, link, path) rest =
      narrow_path steps next b to path (step next a to ((tells.arrows next a).1 (inr link)) rest)

  -- the node of a pointer's type is reached from that of a function to which it may lead
  wider_node : (i j : ℕ) (m n : Placed) (node : ℕ) (g : PlacedFunction) → slice_get ms i ≡ Some m
      → node < length m.types → StandsAt ms j n g → MayPoint m node n g
      → Reaches flow.widenings (type_node classes j g.ty) (type_node classes i node)
  wider_node i j m n node g is within at may =
      let typed = (inside n (shaped_at ms apart j n at.is) g at.has).typed in
      (wider.fits i j m n is at.is node g.ty within typed (may_open m node n g may).callable).1 may.fits

  -- the node of a pointer's type leads to what such a function leads to
  pointer_reaches : (i j : ℕ) (m n : Placed) (node : ℕ) (g : PlacedFunction) → slice_get ms i ≡ Some m
      → node < length m.types → StandsAt ms j n g → MayPoint m node n g → (to : ℕ)
      → Reaches flow.arrows (function_node n g) to → Reaches flow.arrows (type_node classes i node) to
  pointer_reaches i j m n node g is within at may to rest =
      let up = wider_node i j m n node g is within at may in
      narrow_path up.0 (type_node classes j g.ty) (type_node classes i node) to up.1
      (step (type_node classes j g.ty) (function_node n g) to (type_arrow j n g at (may_open m node n g may)) rest)

  leads_word : (m : Placed) (at : ℕ) (off : ℤ) (number : ℕ) (n : Placed) (g : PlacedFunction) → StandsAt ms number n g
      → Leads (code_address m at) off (entry_of n g) → LeadsToWord (m.base + at) off (function_node n g)
  leads_word m at off number n g stands leads =
      record { leads = leads; within = (node_low ms apart number n g stands).1 }

  -- ---- tail calls

  pointer_step : (i : ℕ) (m : Placed) (f : PlacedFunction) → StandsAt ms i m f → (j : ℕ) (n : Placed)
      (g : PlacedFunction) → StandsAt ms j n g → (at : ℕ) → LiesIn f at → (linked : Bool) (rs1 : ℕ) (imm : ℤ) (slot : ℕ)
      → Stands m at (units.Check linked rs1 imm slot) → (type : ℕ) → HasKind m slot (kinds.Tail type)
      → MayPoint m type n g → (to : ℕ) → Reaches flow.arrows (function_node n g) to
      → Reaches flow.arrows (function_node m f) to
  pointer_step i m f m_at j n g n_at at lies linked rs1 imm slot stands type has may to rest =
      let within = branch_names m (shaped_at ms apart i m m_at.is) slot (kinds.Tail type) has in
      let node = type_node classes i type in
      step (function_node m f) node to
      (told_arrow (function_node m f) node (by_unit i m m_at.is at (units.Check linked rs1 imm slot) stands
      (facts.Arrow (make_link (function_node m f) node))
      (kinds.Tail type, has, (lies_node m f at m_at.has lies, refl))))
      (pointer_reaches i j m n type g m_at.is within n_at may to rest)

  -- an import leads from its function to the one that its name means
  import_step : (i : ℕ) (m : Placed) (f : PlacedFunction) → StandsAt ms i m f → (n : Placed) (g : PlacedFunction)
      → (at : ℕ) → LiesIn f at → (linked : Bool) (rs1 : ℕ) (imm : ℤ) (slot : ℕ)
      → Stands m at (units.Check linked rs1 imm slot) → (name : List ℕ) (cell : ℕ)
      → HasKind m slot (kinds.Import name cell) → IsImported ms name n g → (to : ℕ)
      → Reaches flow.arrows (function_node n g) to → Reaches flow.arrows (function_node m f) to
  import_step i m f m_at n g at lies linked rs1 imm slot stands name cell has is to rest =
      let target : IsImportTarget ms name (entry_of n g) = record { owner = n; function = g; is = is; entry = refl } in
      let there : imports name ≡ Some (entry_of n g) = (named name (entry_of n g)).1 target in
      let word : function_node n g ≡ word_of (entry_of n g) = omega arith in
      step (function_node m f) (function_node n g) to
      (told_arrow (function_node m f) (function_node n g)
      (by_unit i m m_at.is at (units.Check linked rs1 imm slot) stands
      (facts.Arrow (make_link (function_node m f) (function_node n g)))
      (kinds.Import name cell, has, (lies_node m f at m_at.has lies, (entry_of n g, there, word))))) rest

  kind_step : (i : ℕ) (m : Placed) (f : PlacedFunction) → StandsAt ms i m f → (j : ℕ) (n : Placed) (g : PlacedFunction)
      → StandsAt ms j n g → (at : ℕ) → LiesIn f at → (linked : Bool) (rs1 : ℕ) (imm : ℤ) (slot : ℕ)
      → Stands m at (units.Check linked rs1 imm slot) → (kind : Kind) → HasKind m slot kind → MayTail ms m kind n g
      → (to : ℕ) → Reaches flow.arrows (function_node n g) to → Reaches flow.arrows (function_node m f) to
  kind_step i m f m_at j n g n_at at lies linked rs1 imm slot stands (kinds.Tail type) has may to rest =
      pointer_step i m f m_at j n g n_at at lies linked rs1 imm slot stands type has may to rest
  kind_step i m f m_at j n g n_at at lies linked rs1 imm slot stands (kinds.Import name cell) has may to rest =
      import_step i m f m_at n g at lies linked rs1 imm slot stands name cell has may to rest
  kind_step i m f m_at j n g n_at at lies linked rs1 imm slot stands (kinds.Call type) has may to rest = absurd may
  kind_step i m f m_at j n g n_at at lies linked rs1 imm slot stands kinds.Return has may to rest = absurd may
  kind_step i m f m_at j n g n_at at lies linked rs1 imm slot stands (kinds.Switch entries) has may to rest = absurd may

  tail_step : (i : ℕ) (m : Placed) (f : PlacedFunction) → StandsAt ms i m f → (j : ℕ) (n : Placed) (g : PlacedFunction)
      → StandsAt ms j n g → (at : ℕ) → LiesIn f at → (unit : CodeUnit) → Stands m at unit → IsTailCall ms m at unit n g
      → (to : ℕ) → Reaches flow.arrows (function_node n g) to → Reaches flow.arrows (function_node m f) to
  tail_step i m f m_at j n g n_at at lies (units.Jump false off) stands call to rest =
      step (function_node m f) (function_node n g) to
      (told_arrow (function_node m f) (function_node n g) (by_unit i m m_at.is at (units.Jump false off) stands
      (facts.Arrow (make_link (function_node m f) (function_node n g)))
      (lies_node m f at m_at.has lies, leads_word m at off j n g n_at call))) rest
  tail_step i m f m_at j n g n_at at lies (units.Check linked rs1 imm slot) stands (kind, has, may) to rest =
      kind_step i m f m_at j n g n_at at lies linked rs1 imm slot stands kind has may to rest
  tail_step i m f m_at j n g n_at at lies (units.Jump true off) stands call to rest = absurd call
  tail_step i m f m_at j n g n_at at lies (units.Plain insn) stands call to rest = absurd call
  tail_step i m f m_at j n g n_at at lies (units.Load kind rd rs1 imm) stands call to rest = absurd call
  tail_step i m f m_at j n g n_at at lies (units.Store kind rs1 rs2 imm) stands call to rest = absurd call
  tail_step i m f m_at j n g n_at at lies (units.Branch cond rs1 rs2 off) stands call to rest = absurd call
  tail_step i m f m_at j n g n_at at lies units.Service stands call to rest = absurd call

  -- along tail calls one function's node leads to the other's
  tail_path : (steps i : ℕ) (m : Placed) (f : PlacedFunction) → StandsAt ms i m f → (n : Placed) (g : PlacedFunction)
      → IsReached ms steps m f n g → Reaches flow.arrows (function_node m f) (function_node n g)
  tail_path zero i m f at n g (modules, functions) =
      (0, ap (λ x. function_node x f) modules ∙ ap (λ h. function_node n h) functions)
  tail_path (suc steps) i m f at n g (o, h, is, call, rest) =
      let next = number_of ms o h is in
      tail_step i m f at next.0 o h next.1 call.at call.lies call.unit call.stands call.call (function_node n g)
      (tail_path steps next.0 o h next.1 n g rest)

  -- ---- calls

  -- a node that the call enters, to whose address it comes back
  abbrev IsSiteOf : (node to address : ℕ) → Type 0
  IsSiteOf node to address = Links flow.sites node address × Reaches flow.arrows node to

  call_site : (i : ℕ) (m : Placed) → slice_get ms i ≡ Some m → (j : ℕ) (n : Placed) (g : PlacedFunction)
      → StandsAt ms j n g → (at : ℕ) (unit : CodeUnit) → Stands m at unit → IsCall m at unit n g → (address : ℕ)
      → address ≡ code_address m (at + size_of unit) → (to : ℕ) → Reaches flow.arrows (function_node n g) to
      → (node : ℕ) × IsSiteOf node to address
  call_site i m is j n g n_at at (units.Jump true off) stands call address after to rest = (
    function_node n g,
    (
      (tells.sites (function_node n g) address).1 (by_unit i m is at (units.Jump true off) stands
          (facts.Site (make_link (function_node n g) address)) (leads_word m at off j n g n_at call, after)),
      rest,
    ),
  )
  call_site i m is j n g n_at at (units.Check linked rs1 imm slot) stands (type, has, may) address after to rest =
      let within = branch_names m (shaped_at ms apart i m is) slot (kinds.Call type) has in
      let node = type_node classes i type in (
        node,
        (
          (tells.sites node address).1 (by_unit i m is at (units.Check linked rs1 imm slot) stands
              (facts.Site (make_link node address)) (kinds.Call type, has, (refl, after))),
          pointer_reaches i j m n type g is within n_at may to rest,
        ),
      )
  call_site i m is j n g n_at at (units.Jump false off) stands call address after to rest = absurd call
  call_site i m is j n g n_at at (units.Plain insn) stands call address after to rest = absurd call
  call_site i m is j n g n_at at (units.Load kind rd rs1 imm) stands call address after to rest = absurd call
  call_site i m is j n g n_at at (units.Store kind rs1 rs2 imm) stands call address after to rest = absurd call
  call_site i m is j n g n_at at (units.Branch cond rs1 rs2 off) stands call address after to rest = absurd call
  call_site i m is j n g n_at at units.Service stands call address after to rest = absurd call

  -- ---- edges

  pointee_goes : (i : ℕ) (m : Placed) → slice_get ms i ≡ Some m → (type slot address : ℕ) → type < length m.types
      → IsTold ms imports classes (facts.Pointer (make_link (type_node classes i type) slot)) → IsPointee ms m type address
      → GoesAlong flow slot address
  pointee_goes i m is type slot address within told p =
      let n_at = number_of ms p.owner p.function p.is in
      let pointing = type_node classes i type in
      let node = type_node classes n_at.0 p.function.ty in
      let opened = may_open m type p.owner p.function p.may in
      inr (
        node,
        inl (record {
          entry = (tells.entries node address).1 (record {
            number = n_at.0;
            owner = p.owner;
            is = n_at.1.is;
            tells = inr (record { function = p.function; has = n_at.1.has; tells = (opened, refl, p.entry) });
          });
          pointing = pointing;
          wider = wider_node i n_at.0 m p.owner type p.function is within n_at.1 p.may;
          pointer = (tells.pointers pointing slot).1 told;
        }),
      )

  return_goes : (i : ℕ) (m : Placed) → slice_get ms i ≡ Some m → (at : ℕ) (linked : Bool) (rs1 : ℕ) (imm : ℤ) (slot : ℕ)
      → Stands m at (units.Check linked rs1 imm slot) → HasKind m slot kinds.Return → (address : ℕ)
      → IsReturnTarget ms m at address → GoesAlong flow slot address
  return_goes i m is at linked rs1 imm slot stands has address r =
      let entered = number_of ms r.owner r.entered r.is in
      let to = function_node m r.returning in
      let path = tail_path r.steps entered.0 r.owner r.entered entered.1 m r.returning r.reached in
      let call = r.returns in
      let site = call_site call.placed.0 call.caller (at_contains ms call.caller call.placed) entered.0 r.owner
      r.entered entered.1 call.at call.unit call.stands call.call address call.after to path in
      inr (
        site.0,
        inr (record {
          site = site.1.0;
          returning = to;
          reached = site.1.1;
          back = (tells.returns to slot).1 (by_unit i m is at (units.Check linked rs1 imm slot) stands
              (facts.Return (make_link to slot)) (kinds.Return, has, (lies_node m r.returning at r.has r.lies, refl)));
        }),
      )

  kind_goes : (i : ℕ) (m : Placed) → slice_get ms i ≡ Some m → (at : ℕ) (linked : Bool) (rs1 : ℕ) (imm : ℤ) (slot : ℕ)
      → Stands m at (units.Check linked rs1 imm slot) → (kind : Kind) → HasKind m slot kind → (address : ℕ)
      → GoesTo ms m at kind address → GoesAlong flow slot address
  kind_goes i m is at linked rs1 imm slot stands (kinds.Call type) has address goes =
      pointee_goes i m is type slot address
      (branch_names m (shaped_at ms apart i m is) slot (kinds.Call type) has)
      (by_unit i m is at (units.Check linked rs1 imm slot) stands
      (facts.Pointer (make_link (type_node classes i type) slot)) (kinds.Call type, has, (refl, refl))) goes
  kind_goes i m is at linked rs1 imm slot stands (kinds.Tail type) has address goes =
      pointee_goes i m is type slot address
      (branch_names m (shaped_at ms apart i m is) slot (kinds.Tail type) has)
      (by_unit i m is at (units.Check linked rs1 imm slot) stands
      (facts.Pointer (make_link (type_node classes i type) slot)) (kinds.Tail type, has, (refl, refl))) goes
  kind_goes i m is at linked rs1 imm slot stands kinds.Return has address goes =
      return_goes i m is at linked rs1 imm slot stands has address goes
  kind_goes i m is at linked rs1 imm slot stands (kinds.Import name cell) has address goes =
      inl ((tells.listed slot address).1 (by_unit i m is at (units.Check linked rs1 imm slot) stands
      (facts.Listed (make_link slot address)) (kinds.Import name cell, has, (refl, (named name address).1 goes))))
  kind_goes i m is at linked rs1 imm slot stands (kinds.Switch entries) has address goes =
      inl ((tells.listed slot address).1 (by_unit i m is at (units.Check linked rs1 imm slot) stands
      (facts.Listed (make_link slot address)) (kinds.Switch entries, has, (refl, goes))))

  -- where there is a direct edge control goes
  pub direct_goes : (slot address : ℕ) → DirectEdge ms slot address → GoesAlong flow slot address
  direct_goes slot address e =
      kind_goes e.placed.0 e.owner (at_contains ms e.owner e.placed) e.at e.link e.rs1 e.imm slot e.stands e.kind e.has
      address e.goes
