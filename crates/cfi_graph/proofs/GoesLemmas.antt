-- Where control goes along a flow that says what modules tell, there is a direct edge.
use Rattle.std.proofs.Common.{◌≡◌, ◌⊎◌, ◌∙◌, ℕ, zero, suc, ◌+◌, ◌*◌, ◌<◌, Bool, true, false, ℤ, List, length, Some, refl, sym, ap, subst, inl, inr, arith}
use Rattle.std.specs.Prelude.{slice_get}
use Rattle.std.specs.List.{Contains}
use Rattle.cfi_flow.specs.declared.links.Link.{Link}
use Rattle.cfi_flow.specs.Flow.{Links, IsPath, Reaches}
use Rattle.cfi_flow.specs.Kept.{Kept}
use Rattle.cfi_unit.specs.declared.unit.Unit.TheVariants as units
use Rattle.cfi_aux.specs.declared.placed.Placed.{Placed}
use Rattle.cfi_aux.specs.declared.placed.PlacedFunction.{PlacedFunction}
use Rattle.cfi_aux.specs.declared.records.Kind.{Kind}
use Rattle.cfi_aux.specs.declared.records.Kind.TheVariants as kinds
use Rattle.cfi_graph.specs.declared.fact.Fact.TheVariants as facts
use Rattle.cfi_graph.specs.Code.{Stands, code_address, entry_of, Leads}
use Rattle.cfi_graph.specs.Shaped.{AreApart}
use Rattle.cfi_graph.specs.Calls.{HasKind, IsFunction, MayPoint, IsImported, TailCalls, IsReached}
use Rattle.cfi_aux.specs.Extent.{LiesIn}
use Rattle.cfi_graph.specs.Facts.{ByName, AreImports, word_of, type_node, function_node, LeadsToWord, LiesInNode, IsOpen, IsJumpFact, IsBranchFact, IsTold}
use Rattle.cfi_flow.proofs.RowLemmas.{make_link}
use Rattle.cfi_flow.proofs.PathLemmas.{reaches_then, one_arrow}
use Rattle.cfi_graph.proofs.BoundLemmas.{contains_at, inside, branch_names}
use Rattle.cfi_graph.proofs.ImportLemmas.{imported_at, imported_word}
use Rattle.cfi_graph.proofs.NodeLemmas.{StandsAt, lies_there, shaped_at, node_low, same_numbers, same_modules, same_functions}
use Rattle.cfi_graph.proofs.WiderLemmas.{AreWider, reaches_high}
use Rattle.cfi_graph.specs.Links.{IsArrow, TellsLinks}
use Rattle.cfi_graph.proofs.ReadLemmas.{unit_cases}

-- the node stands for a function from which f of m is reached
pub record IsEntered (ms : List Placed) (classes : List (List ℕ)) (links : List Link) (m : Placed) (f : PlacedFunction)
    (node : ℕ) : Type 0 where
  pub number : ℕ
  pub owner : Placed
  pub entered : PlacedFunction
  pub at : StandsAt ms number owner entered
  pub steps : ℕ
  pub reached : IsReached ms steps owner entered m f
  pub enters : (node ≡ function_node owner entered)
      ⊎ (IsOpen owner entered × Reaches links (type_node classes number entered.ty) node)

-- an offset that leads to a function's node leads to its entry
pub leads_entry : (address : ℕ) (off : ℤ) (word : ℕ) (n : Placed) (g : PlacedFunction) → Leads address off (4 * word)
    → word ≡ function_node n g → Leads address off (entry_of n g)
leads_entry address off word n g leads is =
    subst (λ w. Leads address off (4 * w)) is leads

module _ (ms : List Placed) (imports : ByName) (classes : List (List ℕ)) (named : AreImports ms imports)
    (apart : AreApart ms) (flow : Kept)
    (wider : AreWider ms classes flow.widenings) where
  pub is_function : (number : ℕ) (m : Placed) (f : PlacedFunction) → StandsAt ms number m f → IsFunction ms m f
  is_function number m f at = record { placed = contains_at ms number m at.is; function = at.has }

  -- no function's node is a type's
  pub apart_nodes : (number other node : ℕ) (m : Placed) (f : PlacedFunction) → StandsAt ms number m f
      → function_node m f ≡ type_node classes other node → ⊥
  apart_nodes number other node m f at same =
      let low = (node_low ms apart number m f at).1 in
      omega (arith, low, same)

  -- no function's node is reached from a type's
  pub never_reached : (number other node : ℕ) (m : Placed) (f : PlacedFunction) → StandsAt ms number m f
      → Reaches flow.widenings (type_node classes other node) (function_node m f) → ⊥
  never_reached number other node m f at reach =
      let low = (node_low ms apart number m f at).1 in
      let high = reaches_high ms classes flow.widenings wider other node (function_node m f) reach in
      omega (arith, low, high)

  -- a pointer whose type's node is reached from that of an open function's type may lead there
  pub may_point : (i j : ℕ) (m n : Placed) (node : ℕ) (g : PlacedFunction) → slice_get ms i ≡ Some m
      → node < length m.types → StandsAt ms j n g → IsOpen n g
      → Reaches flow.widenings (type_node classes j g.ty) (type_node classes i node) → MayPoint m node n g
  may_point i j m n node g is within at opened reach =
      let typed = (inside n (shaped_at ms apart j n at.is) g at.has).typed in record {
        taken = opened.taken;
        fits = (wider.fits i j m n is at.is node g.ty within typed opened.callable).0 reach;
      }

  module _ (m : Placed) (f : PlacedFunction) where
    -- a tail call more
    one_more : (number : ℕ) (o : Placed) → slice_get ms number ≡ Some o → (at node next : ℕ) → LiesInNode o at node
        → (e : IsEntered ms classes flow.widenings m f next)
        → ((h : PlacedFunction) → Contains o.functions h → LiesIn h at → TailCalls ms o h e.owner e.entered)
        → IsEntered ms classes flow.widenings m f node
    one_more number o is at node next lies e calls =
        let there = lies_there o at node lies in
        record {
          number = number;
          owner = o;
          entered = there.function;
          at = record { is = is; has = there.has };
          steps = suc e.steps;
          reached = (
            e.owner,
            e.entered,
            is_function e.number e.owner e.entered e.at,
            calls there.function there.has there.lies,
            e.reached,
          );
          enters = inl there.is;
        }

    jump_step : (number : ℕ) (o : Placed) → slice_get ms number ≡ Some o → (at : ℕ) (off : ℤ)
        → Stands o at (units.Jump false off) → (node next : ℕ) → LiesInNode o at node
        → LeadsToWord (o.base + at) off next → IsEntered ms classes flow.widenings m f next → IsEntered ms classes flow.widenings m f node
    jump_step number o is at off stands node next lies leads e =
        elim e.enters [
          | inl same ↦
              one_more number o is at node next lies e (λ h has in_h. record {
                at = at;
                lies = in_h;
                unit = units.Jump false off;
                stands = stands;
                call = leads_entry (code_address o at) off next e.owner e.entered leads.leads same;
              })
          | inr opened ↦
              let low = leads.within in
              let high = reaches_high ms classes flow.widenings wider e.number e.entered.ty next opened.1 in
              absurd (omega (arith, low, high))
        ]

    tail_step : (number : ℕ) (o : Placed) → slice_get ms number ≡ Some o → (at : ℕ) (linked : Bool) (rs1 : ℕ) (imm : ℤ)
        (slot : ℕ) → Stands o at (units.Check linked rs1 imm slot) → (type : ℕ) → HasKind o slot (kinds.Tail type)
        → (node next : ℕ) → LiesInNode o at node → next ≡ type_node classes number type
        → IsEntered ms classes flow.widenings m f next → IsEntered ms classes flow.widenings m f node
    tail_step number o is at linked rs1 imm slot stands type has node next lies to e =
        elim e.enters [
          | inl same ↦
              absurd (apart_nodes e.number number type e.owner e.entered e.at (sym same ∙ to))
          | inr opened ↦
              one_more number o is at node next lies e (λ h h_has in_h. record {
                at = at;
                lies = in_h;
                unit = units.Check linked rs1 imm slot;
                stands = stands;
                call = (
                  kinds.Tail type,
                  has,
                  may_point number e.number o e.owner type e.entered is
                      (branch_names o (shaped_at ms apart number o is) slot (kinds.Tail type) has) e.at opened.0
                      (subst (λ k. Reaches flow.widenings (type_node classes e.number e.entered.ty) k) to opened.1),
                );
              })
        ]

    import_step : (number : ℕ) (o : Placed) → slice_get ms number ≡ Some o → (at : ℕ) (linked : Bool) (rs1 : ℕ)
        (imm : ℤ) (slot : ℕ) → Stands o at (units.Check linked rs1 imm slot) → (name : List ℕ) (cell : ℕ)
        → HasKind o slot (kinds.Import name cell) → (node next address : ℕ) → LiesInNode o at node
        → imports name ≡ Some address → next ≡ word_of address
        → IsEntered ms classes flow.widenings m f next → IsEntered ms classes flow.widenings m f node
    import_step number o is at linked rs1 imm slot stands name cell has node next address lies there word e =
        let to = (named name address).0 there in
        let n_at = imported_at ms name to.owner to.function to.is in
        let here : next ≡ function_node to.owner to.function = imported_word ms name address next to word in
        elim e.enters [
          | inl same ↦
              let one : function_node to.owner to.function ≡ function_node e.owner e.entered = sym here ∙ same in
              let owners = same_modules ms apart to.is.number e.number to.owner e.owner to.function e.entered n_at e.at one in
              let functions =
              same_functions ms apart to.is.number e.number to.owner e.owner to.function e.entered n_at e.at one in
              one_more number o is at node next lies e (λ h h_has in_h. record {
                at = at;
                lies = in_h;
                unit = units.Check linked rs1 imm slot;
                stands = stands;
                call = (
                  kinds.Import name cell,
                  has,
                  subst (λ g. IsImported ms name e.owner g) functions
                      (subst (λ n. IsImported ms name n to.function) owners to.is),
                );
              })
          | inr opened ↦
              let low = (node_low ms apart to.is.number to.owner to.function n_at).1 in
              let high = reaches_high ms classes flow.widenings wider e.number e.entered.ty next opened.1 in
              absurd (omega (arith, low, high, here))
        ]

    open_step : (number : ℕ) (o : Placed) (h : PlacedFunction) → StandsAt ms number o h → IsOpen o h
        → (node next : ℕ) → node ≡ type_node classes number h.ty → next ≡ function_node o h
        → IsEntered ms classes flow.widenings m f next → IsEntered ms classes flow.widenings m f node
    open_step number o h at opened node next from to e =
        elim e.enters [
          | inl same ↦
              let one : function_node o h ≡ function_node e.owner e.entered = sym to ∙ same in
              let numbers = same_numbers ms apart number e.number o e.owner h e.entered at e.at one in
              let owners = same_modules ms apart number e.number o e.owner h e.entered at e.at one in
              let functions = same_functions ms apart number e.number o e.owner h e.entered at e.at one in
              let is : node ≡ type_node classes e.number e.entered.ty =
              from ∙ ap (λ k. type_node classes k h.ty) numbers ∙ ap (λ g. type_node classes e.number g.ty) functions in
              record {
                number = e.number;
                owner = e.owner;
                entered = e.entered;
                at = e.at;
                steps = e.steps;
                reached = e.reached;
                enters = inr (
                  subst (λ g. IsOpen e.owner g) functions (subst (λ n. IsOpen n h) owners opened),
                  (zero, sym is),
                );
              }
          | inr type ↦
              absurd (never_reached number e.number e.entered.ty o h at
              (subst (λ k. Reaches flow.widenings (type_node classes e.number e.entered.ty) k) to type.1))
        ]

    wider_step : (node next : ℕ) → Links flow.widenings next node
        → IsEntered ms classes flow.widenings m f next → IsEntered ms classes flow.widenings m f node
    wider_step node next link e =
        elim e.enters [
          | inl same ↦
              let low = (node_low ms apart e.number e.owner e.entered e.at).1 in
              let high = (wider.high next node link).0 in
              absurd (omega (arith, low, high, same))
          | inr opened ↦ record {
            number = e.number;
            owner = e.owner;
            entered = e.entered;
            at = e.at;
            steps = e.steps;
            reached = e.reached;
            enters = inr (
              opened.0,
              reaches_then flow.widenings opened.1.0 (type_node classes e.number e.entered.ty) next node opened.1.1
                  (one_arrow flow.widenings next node link),
            );
          }
        ]

    jump_arrow : (number : ℕ) (o : Placed) → slice_get ms number ≡ Some o → (at : ℕ) (linked : Bool) (off : ℤ)
        → Stands o at (units.Jump linked off) → (node next : ℕ)
        → IsJumpFact o at linked off (facts.Arrow (make_link node next)) → IsEntered ms classes flow.widenings m f next
        → IsEntered ms classes flow.widenings m f node
    jump_arrow number o is at true off stands node next told e = absurd told
    jump_arrow number o is at false off stands node next told e =
        jump_step number o is at off stands node next told.0 told.1 e

    check_arrow : (number : ℕ) (o : Placed) → slice_get ms number ≡ Some o
        → (at : ℕ) (linked : Bool) (rs1 : ℕ) (imm : ℤ) (slot : ℕ) → Stands o at (units.Check linked rs1 imm slot)
        → (kind : Kind) → HasKind o slot kind
        → (node next : ℕ) → IsBranchFact imports classes number o at slot kind (facts.Arrow (make_link node next))
        → IsEntered ms classes flow.widenings m f next → IsEntered ms classes flow.widenings m f node
    check_arrow number o is at linked rs1 imm slot stands (kinds.Tail type) has node next told e =
        tail_step number o is at linked rs1 imm slot stands type has node next told.0 told.1 e
    check_arrow number o is at linked rs1 imm slot stands (kinds.Call type) has node next told e = absurd told
    check_arrow number o is at linked rs1 imm slot stands kinds.Return has node next told e = absurd told
    check_arrow number o is at linked rs1 imm slot stands (kinds.Switch entries) has node next told e = absurd told
    check_arrow number o is at linked rs1 imm slot stands (kinds.Import name cell) has node next (lies, (address, there, word)) e =
        import_step number o is at linked rs1 imm slot stands name cell has node next address lies there word e

    told_step : (node next : ℕ) → IsTold ms imports classes (facts.Arrow (make_link node next)) → IsEntered ms classes flow.widenings m f next
        → IsEntered ms classes flow.widenings m f node
    told_step node next told e =
        elim told.tells [
          | inl unit ↦ elim (unit_cases imports classes told.number told.owner (facts.Arrow (make_link node next)) unit) [
            | inl check ↦
                check_arrow told.number told.owner told.is check.at check.linked check.rs1 check.imm check.slot
                check.stands check.kind check.has node next check.tells e
            | inr jump ↦
                jump_arrow told.number told.owner told.is jump.at jump.linked jump.off jump.stands node next
                jump.tells e
          ]
          | inr function ↦
              let at : StandsAt ms told.number told.owner function.function =
              record { is = told.is; has = function.has } in
              let tells = function.tells in
              open_step told.number told.owner function.function at tells.0 node next tells.1 tells.2 e
        ]

    arrow_step : (node next : ℕ) → IsArrow ms imports classes flow.widenings node next
        → IsEntered ms classes flow.widenings m f next → IsEntered ms classes flow.widenings m f node
    arrow_step node next arrow e =
        elim arrow [ inl told ↦ told_step node next told e | inr link ↦ wider_step node next link e ]

    -- the nodes from which a function's node is reached
    pub entered_by : TellsLinks ms imports classes flow → (number : ℕ) → StandsAt ms number m f
        → (steps node : ℕ) → IsPath flow.arrows steps node (function_node m f)
        → IsEntered ms classes flow.widenings m f node
    entered_by tells number at zero node path = record {
      number = number;
      owner = m;
      entered = f;
      at = at;
      steps = 0;
      reached = (refl, refl);
      enters = inl path;
    }
    entered_by tells number at (suc steps) node (next, arrow, rest) =
        arrow_step node next ((tells.arrows node next).0 arrow) (entered_by tells number at steps next rest)
