-- Words that are the code of units are read as these units.
use Rattle.std.proofs.Common.{◌≡◌, ℕ, ◌+◌, List, [], ◌∷◌, length, drop, refl, ap, sym, subst, ◌∙◌, arith, length-drop}
use Rattle.std.proofs.lemmas.List.{drop-drop}
use Rattle.cfi_unit.specs.declared.unit.Unit.{Unit as CodeUnit}
use Rattle.cfi_unit.specs.Unit.{size_of}
use Rattle.cfi_unit.specs.Code.{UnitCode}
use Rattle.cfi_unit.proofs.UnitLemmas.{size_pos}
use Rattle.cfi_unit.proofs.CodeLemmas.{BeginsAt-one, BeginsAt-within, UnitCode-first}
use Rattle.cfi_place.specs.Slots.{ReadFrom}

pub read-one : (words : List ℕ) (at : ℕ) (read code : List CodeUnit) → ReadFrom words at read
    → UnitCode (drop at words) code → read ≡ code
read-one words at [] [] r c = refl
read-one words at [] (v ∷ vs) r c = absurd (r v (UnitCode-first (drop at words) v vs c).0)
read-one words at (u ∷ us) [] r c =
    let inside = BeginsAt-within words at u r.0 in
    absurd (omega (arith, inside, size_pos u, length-drop at words, ap (λ (ws : List ℕ). length ws) c.spelled))
read-one words at (u ∷ us) (v ∷ vs) r c =
    let first = UnitCode-first (drop at words) v vs c in
    let same : u ≡ v = BeginsAt-one words at u v r.0 first.0 in
    let after : drop (size_of v) (drop at words) ≡ drop (at + size_of u) words =
    drop-drop (size_of v) at words ∙ ap (λ (w : CodeUnit). drop (at + size_of w) words) (sym same) in
    let rest : us ≡ vs =
    read-one words (at + size_of u) us vs r.1 (subst (λ (ws : List ℕ). UnitCode ws vs) after first.1) in
    cc
