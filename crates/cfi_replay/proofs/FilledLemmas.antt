-- Fills that are written behind others.
use Rattle.std.proofs.Common.{◌≡◌, ℕ, Bool, List, [], ◌++◌, ap, ◌∙◌}
use Rattle.std.specs.List.{fold}
use Rattle.std.proofs.lemmas.List.Sums.{fold-append}
use Rattle.cfi_model.specs.Data.{filled}
use Rattle.cfi_model.specs.Pages.{Memory, blank_memory, memory_filled, touched_by}
use Rattle.cfi_model.specs.Plain.{PlainState, answered, plain_opened, with_fills}
use Rattle.cfi_model.specs.Service.{reply_of}
use Rattle.cfi_unit.specs.declared.fill.Fill.{Fill}

abbrev memory_of : List ℕ → List Bool → Memory
memory_of bytes made = record { bytes = bytes; made = made }

abbrev with_memory : PlainState → Memory → PlainState
with_memory m memory = record m { state = record m.state { memory = memory } }

filled_more : (memory : Memory) (xs ys : List Fill)
    → memory_filled memory (xs ++ ys) ≡ memory_filled (memory_filled memory xs) ys
filled_more memory xs ys =
    ap (λ (bytes : List ℕ). memory_of bytes (fold touched_by memory.made (xs ++ ys)))
    (fold-append filled memory.bytes xs ys)
    ∙ ap (memory_of (fold filled (fold filled memory.bytes xs) ys)) (fold-append touched_by memory.made xs ys)

-- an open is answered with all of them, or with the first ones, which the others are then written over
pub answered_more : (address policy : ℕ) (xs ys : List Fill) (m : PlainState)
    → answered (reply_of address 0 policy (xs ++ ys)) m ≡ with_fills ys (answered (reply_of address 0 policy xs) m)
answered_more address policy xs ys m =
    ap (with_memory (answered (reply_of address 0 policy []) m)) (filled_more m.state.memory xs ys)

-- and so a guest is opened
pub opened_more : (number entry : ℕ) (xs ys : List Fill)
    → plain_opened number entry (xs ++ ys) ≡ with_fills ys (plain_opened number entry xs)
opened_more number entry xs ys =
    ap (with_memory (plain_opened number entry [])) (filled_more blank_memory xs ys)
