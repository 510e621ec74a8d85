-- The words of a command line. A word is its bytes.
use Rattle.std.specs.Prelude.{◌≢◌, ℕ, List, [], ◌∷◌, map, String, string_bytes}
use Rattle.std.specs.declared.alloc.Global.{Global}

-- the bytes of each word
abbrev pub texts : List (String Global) → List (List ℕ)
texts words = map string_bytes words

-- the code of `-`
abbrev pub dash : ℕ
dash = 45

-- the word is no option: it is not empty, and does not begin with `-`
abbrev pub IsOperand : List ℕ → Type 0
IsOperand [] = ⊥
IsOperand (first ∷ rest) = first ≢ dash
