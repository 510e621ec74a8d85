-- Words are read as units, as far as units begin.
use Rattle.std.proofs.Common.{ℕ, zero, suc, ◌+◌, ◌≤◌, List, [], ◌∷◌, length, drop, refl, ⊎_elim, arith}
use Rattle.cfi_unit.specs.declared.unit.Unit.{Unit as CodeUnit}
use Rattle.cfi_unit.specs.Unit.{size_of}
use Rattle.cfi_unit.specs.Code.{BeginsAt}
use Rattle.cfi_unit.proofs.UnitLemmas.{unit_at, size_pos}
use Rattle.cfi_unit.proofs.CodeLemmas.{BeginsAt-within}
use Rattle.cfi_place.specs.Slots.{ReadFrom}
use Rattle.cfi_verify_law.proofs.UnitLemmas.{begins_some}

read_from : (words : List ℕ) (left at : ℕ) → length words ≤ at + left → (code : List CodeUnit) × ReadFrom words at code
read_from words zero at enough =
    ([], λ unit here. absurd (omega (arith, enough, size_pos unit, BeginsAt-within words at unit here)))
read_from words (suc left) at enough =
    ⊎_elim
    (λ (next : (unit : CodeUnit) × BeginsAt words at unit).
    let rest = read_from words left (at + size_of next.0) (omega (arith, enough, size_pos next.0)) in
    (next.0 ∷ rest.0, (next.1, rest.1)))
    (λ (no : ¬ ((unit : CodeUnit) × BeginsAt words at unit)). ([], λ unit here. no (unit, here)))
    (begins_some words at (unit_at (drop at words)) refl)

pub units_from : (words : List ℕ) → (code : List CodeUnit) × ReadFrom words 0 code
units_from words = read_from words (length words) 0 (omega arith)
