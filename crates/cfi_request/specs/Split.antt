-- The words of a command line as a command and its operands.
use Rattle.std.specs.Prelude.{◌≡◌, ◌≢◌, ℕ, List, [], ◌∷◌, map, All, Option, Some, None}
use Rattle.cfi_request.specs.declared.split.Split.{Split}
use Rattle.cfi_request.specs.Words.{IsOperand}

-- the command, as it was written
abbrev pub command_in : Split → List ℕ
command_in split = split.command.now

-- its operands, as they were written
abbrev pub operands_of : Split → List (List ℕ)
operands_of split = map (λ word. word.now) split.operands.items

-- The words are split where there is one, and none is an option: the first is the command.
abbrev pub IsSplit : List (List ℕ) → Option Split → Type 0
IsSplit words None = ¬ (All IsOperand words × (words ≢ []))
IsSplit words (Some split) = All IsOperand words × (words ≡ command_in split ∷ operands_of split)
