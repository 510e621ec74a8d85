-- What the policy of the two modules of the run with a load allows: the call of the opened function, and its return.
use Rattle.std.proofs.Common.{ℕ, zero, suc, pos, true, false, List, [], ◌∷◌, refl, inl, arith}
use Rattle.std.specs.Prelude.{codes}
use Rattle.std.specs.List.{AllZip}
use Rattle.cfi_aux.specs.declared.placed.Placed.{Placed}
use Rattle.cfi_aux.specs.declared.placed.PlacedFunction.{PlacedFunction}
use Rattle.cfi_aux.specs.declared.records.Kind.TheVariants.{Call, Return}
use Rattle.cfi_bare.specs.Modules.{bare_types}
use Rattle.cfi_bare.specs.declared.modules.TheConstants.{FUNCTION_TYPE}
use Rattle.cfi_flow.proofs.Members.{member_first, member_later}
use Rattle.cfi_graph.specs.Calls.{HasKind, IsFunction, MayPoint}
use Rattle.cfi_graph.specs.Code.{Stands}
use Rattle.cfi_graph.specs.Direct.{DirectEdge, Allowed}
use Rattle.cfi_type_table.specs.Kind.{nodes_of}
use Rattle.cfi_type_table.specs.Node.{Node, node_of}
use Rattle.cfi_types.specs.Same.{Same}
use Rattle.cfi_valid.proofs.example.LoadPlaced.{whole, calls, returns, opener_units, plug_units, opener_placed, plug_placed}
use Rattle.cfi_valid.proofs.example.FitLemmas.{stands_in}

-- a type is equal to itself
each_same : {X : Type 0} (R : X → X → Type 0) → ((x : X) → R x x) → (xs : List X) → AllZip R xs xs
each_same R same [] = tt
each_same R same (x ∷ xs) = (same x, each_same R same xs)

pub type_same : (depth : ℕ) (xs : List Node) (a : ℕ) → Same depth xs a xs a
type_same zero xs a = tt
type_same (suc depth) xs a =
    (refl, refl, each_same (λ c d. Same depth xs c xs d) (type_same depth xs) (nodes_of (node_of xs a)))

-- ---- the two modules

abbrev both : List Placed
both = opener_placed ∷ plug_placed ∷ []

abbrev entered : PlacedFunction
entered = whole (codes "plug") 14

call_stands : Stands opener_placed 3 calls
call_stands = stands_in opener_placed opener_units refl refl 3 calls refl

return_stands : Stands plug_placed 0 returns
return_stands = stands_in plug_placed plug_units refl refl 0 returns refl

call_kind : HasKind opener_placed 0 (Call FUNCTION_TYPE)
call_kind = (0, refl, refl)

points : MayPoint opener_placed FUNCTION_TYPE plug_placed entered
points = record { taken = refl; fits = inl (refl, λ depth. type_same depth bare_types FUNCTION_TYPE) }

is_entered : IsFunction both plug_placed entered
is_entered = record {
  placed = member_later opener_placed (plug_placed ∷ []) plug_placed (member_first plug_placed []);
  function = member_first entered [];
}

call_edge : DirectEdge both 0 144
call_edge = record {
  owner = opener_placed;
  placed = member_first opener_placed (plug_placed ∷ []);
  at = 3;
  link = true;
  rs1 = 10;
  imm = pos 0;
  stands = call_stands;
  kind = Call FUNCTION_TYPE;
  has = call_kind;
  goes = record { owner = plug_placed; function = entered; is = is_entered; may = points; entry = refl };
}

return_edge : DirectEdge both 1 132
return_edge = record {
  owner = plug_placed;
  placed = is_entered.placed;
  at = 0;
  link = false;
  rs1 = 1;
  imm = pos 0;
  stands = return_stands;
  kind = Return;
  has = (0, refl, refl);
  goes = record {
    returning = entered;
    has = is_entered.function;
    lies = (omega arith, omega arith);
    owner = plug_placed;
    entered = entered;
    is = is_entered;
    steps = 0;
    reached = (refl, refl);
    returns = record {
      caller = opener_placed;
      placed = member_first opener_placed (plug_placed ∷ []);
      at = 3;
      unit = calls;
      stands = call_stands;
      call = (FUNCTION_TYPE, call_kind, points);
      after = refl;
    };
  };
}

pub may_call : Allowed both 0 144
may_call = record { more = 0; chain = call_edge }

pub may_return : Allowed both 1 132
may_return = record { more = 0; chain = return_edge }
