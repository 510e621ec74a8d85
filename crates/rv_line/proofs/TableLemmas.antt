-- A table of names finds what has the word as its text.
use Rattle.std.proofs.Common.{◌≡◌, ℕ, true, List, [], ◌∷◌, map, refl, sym, ap, ◌∙◌, option_map, inl, inr}
use Rattle.std.specs.Borrow.{Bor}
use Rattle.std.specs.List.{list_all}
use Rattle.std.specs.Str.{bytes_eq}
use Rattle.std.proofs.lemmas.Bool.{cases_Bool, cond-true, cond-false, and_parts}
use Rattle.std.proofs.lemmas.Slice.Eq.{bytes_eq-Decides}
use Rattle.rv_line.specs.Keyword.{called}
use Rattle.rv_line.specs.Table.{first_named}

pub called-rows : {X : Type 0} (text : X → List ℕ) (rows : List (Bor (List ℕ) × X)) (word : List ℕ)
    → list_all (λ row. bytes_eq row.0.now (text row.1)) rows ≡ true
    → first_named word rows ≡ called text (map (λ row. row.1) rows) word
unfolding called first_named
called-rows text [] word all = refl
called-rows text (row ∷ rows) word all =
    let parts = and_parts _ _ all in
    let same : row.0.now ≡ text row.1 = (bytes_eq-Decides _ _).0 parts.0 in
    let test : bytes_eq row.0.now word ≡ bytes_eq (text row.1) word = ap (λ name. bytes_eq name word) same in
    elim (cases_Bool (bytes_eq row.0.now word)) [
      | inl is ↦
          ap (option_map (λ one. one.1)) (cond-true (bytes_eq row.0.now word) _ _ is)
          ∙ sym (cond-true (bytes_eq (text row.1) word) _ _ (sym test ∙ is))
      | inr other ↦
          ap (option_map (λ one. one.1)) (cond-false (bytes_eq row.0.now word) _ _ other)
          ∙ called-rows text rows word parts.1
          ∙ sym (cond-false (bytes_eq (text row.1) word) _ _ (sym test ∙ other))
    ]
