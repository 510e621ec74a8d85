-- A module written by hand: a graph can be made of it. Words are numbered from its first.
use Rattle.std.proofs.Common.{ℕ, ◌<◌, Bool, true, false, pos, List, [], ◌∷◌, map, refl, arith, rules}
use Rattle.cfi_unit.specs.declared.unit.Unit.{Unit as CodeUnit}
use Rattle.cfi_unit.specs.declared.unit.Unit.TheVariants as units
use Rattle.cfi_aux.specs.declared.placed.Placed.{Placed}
use Rattle.cfi_aux.specs.declared.records.Kind.{Kind}
use Rattle.cfi_aux.specs.declared.records.Kind.TheVariants as kinds
use Rattle.cfi_graph.specs.Shaped.{IsPart, IsNamed, FunctionPrecedes}
use Rattle.cfi_graph.specs.Reading.{HaveGraph}
use Rattle.cfi_graph.specs.HandMade.{function_of, placed_of, void_and_function}
use Rattle.cfi_graph.proofs.HandMadeLemmas.{all_by_recursion, pairs_by_recursion, IsHandMade, hand_made_is_shaped, one_has_graph, void_first}

-- a call of f, one of g, and one through a pointer to a type, of which f and g may be; both are taken and only return
abbrev pub call_code : List CodeUnit
call_code =
    units.Jump true (pos 68)
    ∷ units.Jump true (pos 120)
    ∷ units.Check true 5 (pos 0) 0
    ∷ units.Jump false (pos 0)
    ∷ units.Check false 1 (pos 0) 1
    ∷ units.Check false 1 (pos 0) 2
    ∷ []

abbrev pub call_rows : List (ℕ × ℕ × ℕ × Bool)
call_rows = (0, 17, 1, false) ∷ (17, 14, 1, true) ∷ (31, 14, 1, true) ∷ []

abbrev pub call_kinds : (node : ℕ) → List Kind
call_kinds node = kinds.Call node ∷ kinds.Return ∷ kinds.Return ∷ []

-- a module of them
abbrev pub call_module : Placed
call_module = placed_of 16 0 call_code call_rows (call_kinds 1) refl void_and_function

call_made : (node : ℕ) → node < 2 → IsHandMade 16 0 call_code call_rows (call_kinds node) void_and_function
call_made node below = record {
  fit = search rules;
  parts = all_by_recursion (IsPart call_code) (map function_of call_rows) (
    record { from = 0; to = 4; some = omega arith; within = omega arith; begins = refl; ends = refl },
    (
      record { from = 4; to = 5; some = omega arith; within = omega arith; begins = refl; ends = refl },
      (
        record { from = 5; to = 6; some = omega arith; within = omega arith; begins = refl; ends = refl },
        tt,
      ),
    ),
  );
  order = pairs_by_recursion FunctionPrecedes (map function_of call_rows) ((omega arith, (omega arith, tt)), ((omega arith, tt), (tt, tt)));
  checks = refl;
  slots = (refl, (refl, (refl, tt)));
  named = all_by_recursion (IsNamed call_code 2) (call_kinds node) (below, (tt, (tt, tt)));
  typed = all_by_recursion (λ f. f.ty < 2) (map function_of call_rows) (omega arith, (omega arith, (omega arith, tt)));
  begins = omega arith;
  ends = omega arith;
}

-- node 1 is the type of f and g, node 0 is Void
abbrev pub call_modules : (node : ℕ) → List Placed
call_modules node = placed_of 16 0 call_code call_rows (call_kinds node) refl void_and_function ∷ []

pub call_graph : (node : ℕ) → node < 2 → HaveGraph (call_modules node)
call_graph node below =
    one_has_graph (placed_of 16 0 call_code call_rows (call_kinds node) refl void_and_function)
    (hand_made_is_shaped 16 0 call_code call_rows (call_kinds node) refl void_and_function (call_made node below)) void_first
    (omega arith)
