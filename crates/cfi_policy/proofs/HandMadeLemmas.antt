-- What modules written by hand are.
use Rattle.std.proofs.Common.{ℕ, ◌+◌, ◌<◌, ◌≤◌, [], ◌∷◌, length, refl, arith}
use Rattle.cfi_aux.specs.declared.placed.Placed.{Placed}
use Rattle.cfi_word.specs.Table.{slots_of}
use Rattle.cfi_graph.specs.HandMade.{placed_of, void_and_function}
use Rattle.cfi_graph.specs.Reading.{HaveGraph}
use Rattle.cfi_graph.proofs.HandMadeLemmas.{all_none, all_more}
use Rattle.cfi_graph.proofs.CallRows.{call_code, call_rows, call_kinds, call_modules, call_graph}
use Rattle.cfi_policy.specs.Image.{HaveImage}
use Rattle.cfi_policy.proofs.WithinLemmas.{have_image}

-- one module that ends before the last of 1,024 code words
one_image : (m : Placed) → HaveGraph (m ∷ []) → m.base + length m.words < 1024 → m.slot_base + length m.branches ≤ 74
    → HaveImage (m ∷ []) 1024
one_image m graph ends slots =
    have_image (m ∷ []) graph 1024
    (all_more (λ o. o.base + length o.words < 1024) m [] ends (all_none (λ o. o.base + length o.words < 1024)))
    (all_more (λ o. o.slot_base + length o.branches ≤ slots_of 1024) m [] (omega (arith, slots))
    (all_none (λ o. o.slot_base + length o.branches ≤ slots_of 1024)))

pub call_image : (node : ℕ) → node < 2 → HaveImage (call_modules node) 1024
call_image node below =
    one_image (placed_of 16 0 call_code call_rows (call_kinds node) refl void_and_function) (call_graph node below)
    (omega arith) (omega arith)
