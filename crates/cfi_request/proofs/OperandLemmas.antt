-- A word at its place.
use Rattle.std.proofs.Common.{◌≡◌, ◌<◌, ℕ, List, length, String, string_bytes, All, get_or, arith, sym, ap, subst, ◌∙◌}
use Rattle.std.specs.declared.alloc.Global.{Global}
use Rattle.std.proofs.lemmas.List.{length-map, get_or-map}
use Rattle.cfi_request.specs.Words.{IsOperand, texts}

-- the word is no option
abbrev pub IsNone : String Global → Type 0
IsNone word = IsOperand (string_bytes word)

pub operand_at : (words : List (String Global)) (i : ℕ) (word : String Global) → i < length words
    → word ≡ get_or words i word → All IsOperand (texts words) → IsNone word
operand_at words i word within is all =
    let here = all i (string_bytes word) (omega (arith, within, length-map words string_bytes)) in
    subst IsOperand (get_or-map string_bytes words i word (string_bytes word) within ∙ ap string_bytes (sym is)) here
