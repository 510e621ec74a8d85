-- What modules written by hand, and an empty list of edges, are.
use Rattle.std.proofs.Common.{ℕ, ℤ, false, ◌≡◌, ◌+◌, ◌<◌, ◌≤◌, [], ◌∷◌, length, get_or, All, refl, sym, subst, arith}
use Rattle.cfi_unit.specs.declared.unit.Unit.TheVariants.{Jump}
use Rattle.cfi_unit.specs.Unit.{IsUnit}
use Rattle.cfi_word.specs.declared.limits.TheConstants.{MAX_CODE_WORDS}
use Rattle.cfi_word.specs.declared.map.TheConstants.{FIRST_BASE}
use Rattle.cfi_aux.specs.declared.placed.Placed.{Placed}
use Rattle.cfi_word.specs.Table.{slots_of}
use Rattle.cfi_class.specs.Labels.{CanBeLabelled}
use Rattle.cfi_graph.specs.Reading.{HaveGraph}
use Rattle.cfi_type_table.specs.Spelling.{AreTypes}
use Rattle.cfi_graph.specs.HandMade.{placed_of, void_and_function}
use Rattle.cfi_graph.specs.Shaped.{IsPart, IsNamed, FunctionPrecedes, IsBefore, IsShaped}
use Rattle.cfi_graph.proofs.HandMadeLemmas.{all_none, all_more, pairs_none, hand_made_is_shaped}
use Rattle.cfi_graph.proofs.CallRows.{call_code, call_rows, call_kinds, call_modules}
use Rattle.cfi_policy.specs.Code.{LieApart}

-- one module lies apart where it ends within the code
pub one_apart : (placed : Placed) (code_words : ℕ) → placed.base + length placed.words ≤ code_words
    → LieApart (placed ∷ []) code_words
one_apart placed code_words within = record {
  order = λ i j d lower there. absurd (omega arith);
  within = λ k d there.
      let first : k ≡ 0 = omega arith in
      subst (λ n. (get_or (placed ∷ []) n d).base + length (get_or (placed ∷ []) n d).words ≤ code_words) (sym first)
      within;
}

-- no edges can always be labelled
pub none_labelled : (slots code_words : ℕ) → slots ≤ slots_of code_words → CanBeLabelled [] slots code_words
none_labelled slots code_words room = record { room = room; within = λ k d there. absurd (omega arith) }

abbrev call_module_of : (node : ℕ) → Placed
call_module_of node = placed_of 16 0 call_code call_rows (call_kinds node) refl void_and_function

-- the module of the calls ends before the last of 1,024 code words
pub calls_end : (node : ℕ) → All (λ m. m.base + length m.words < 1024) (call_modules node)
calls_end node =
    all_more (λ m. m.base + length m.words < 1024) (call_module_of node) [] (omega arith)
    (all_none (λ m. m.base + length m.words < 1024))

-- and its slots within those of the table
pub calls_slots : (node : ℕ) → All (λ m. m.slot_base + length m.branches ≤ slots_of 1024) (call_modules node)
calls_slots node =
    all_more (λ m. m.slot_base + length m.branches ≤ slots_of 1024) (call_module_of node) [] (omega arith)
    (all_none (λ m. m.slot_base + length m.branches ≤ slots_of 1024))

-- no modules have a graph
pub none_has_graph : HaveGraph []
none_has_graph = record {
  apart = record { shaped = all_none IsShaped; order = pairs_none IsBefore };
  types = all_none (λ m. AreTypes m.types);
  few = omega arith;
  nodes = omega arith;
}

-- a module of a direct jump is shaped
pub jump_shaped : (base : ℕ) (off : ℤ) → FIRST_BASE ≤ base → base < MAX_CODE_WORDS → IsUnit (Jump false off)
    → IsShaped (placed_of base 0 (Jump false off ∷ []) [] [] refl [])
jump_shaped base off begins ends unit =
    let code = Jump false off ∷ [] in
    hand_made_is_shaped base 0 code [] [] refl [] (record {
      fit = (unit, tt);
      parts = all_none (IsPart code);
      order = pairs_none FunctionPrecedes;
      checks = refl;
      slots = tt;
      named = all_none (IsNamed code 0);
      typed = all_none (λ f. f.ty < 0);
      begins = begins;
      ends = omega (arith, ends);
    })
