-- Where functions lie: those of a module's records in bytes, from the start of its text, and those of a placed module
-- in words, from its first.
use Rattle.std.specs.Prelude.{ℕ, ◌+◌, ◌<◌, ◌≤◌, List}
use Rattle.std.specs.List.{Contains, AllPairs}
use Rattle.cfi_aux.specs.declared.records.Function.{Function}
use Rattle.cfi_aux.specs.declared.placed.PlacedFunction.{PlacedFunction}

-- where a function ends
abbrev pub byte_end : Function → ℕ
byte_end f = f.offset + f.length

-- the offset is in the function
abbrev pub Covers : Function → (offset : ℕ) → Type 0
Covers f offset = (f.offset ≤ offset) × (offset < byte_end f)

-- some function has the offset
abbrev pub IsCovered : List Function → (offset : ℕ) → Type 0
IsCovered functions offset = (f : Function) × Contains functions f × Covers f offset

-- the word after the last of a placed function
abbrev pub end_of : PlacedFunction → ℕ
end_of f = f.first + f.count

-- the word is one of the function's
abbrev pub LiesIn : PlacedFunction → (at : ℕ) → Type 0
LiesIn f at = (f.first ≤ at) × (at < end_of f)

-- items of a list in order: each ends before those after it begin, or there
abbrev pub DoNotOverlap : {T : Type 0} → (start end : T → ℕ) → List T → Type 0
DoNotOverlap start end xs = AllPairs (λ x y. end x ≤ start y) xs
