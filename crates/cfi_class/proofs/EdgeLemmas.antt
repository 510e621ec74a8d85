-- The edges of a list up to a place, one more at a time.
use Rattle.std.proofs.Common.{◌≡◌, ◌⊎◌, ℕ, ◌+◌, ◌<◌, ◌≤◌, List, length, get_or, All, subst, ◌∙◌, inl, inr, arith}
use Rattle.std.proofs.lemmas.Bool.{cases_lt}
use Rattle.std.proofs.lemmas.List.{get_or_default}
use Rattle.cfi_word.specs.declared.lists.Edge.{Edge}
use Rattle.cfi_class.specs.Labels.{IsEdgeWithin}
use Rattle.cfi_word.specs.Edge.{edge_of}

-- one of so many first edges leads from the slot to the address
abbrev pub HasFirst : (edges : List Edge) (count slot address : ℕ) → Type 0
HasFirst edges count slot address =
    (place : ℕ) × (place < count) × (get_or edges place (edge_of slot address) ≡ edge_of slot address)

-- the edge at a place
abbrev pub edge_at : (edges : List Edge) (place : ℕ) → Edge
edge_at edges place = get_or edges place (edge_of 0 0)

module _ (edges : List Edge) (count : ℕ) (there : count < length edges) where
  pub HasFirst-before : (slot address : ℕ) → HasFirst edges count slot address → HasFirst edges (count + 1) slot address
  HasFirst-before slot address (place, lower, is) = (place, omega arith, is)

  pub HasFirst-here : HasFirst edges (count + 1) (edge_at edges count).branch (edge_at edges count).target
  HasFirst-here = (count, omega arith, get_or_default edges count _ (edge_of 0 0) there)

  pub HasFirst-cases : (slot address : ℕ) → HasFirst edges (count + 1) slot address
      → HasFirst edges count slot address ⊎ (edge_at edges count ≡ edge_of slot address)
  HasFirst-cases slot address (place, lower, is) =
      elim (cases_lt place count) [
        | inl before ↦ inl (place, before, is)
        | inr after ↦
            let here : place ≡ count = omega arith in
            let at : get_or edges count (edge_of slot address) ≡ edge_of slot address =
            subst (λ n. get_or edges n (edge_of slot address) ≡ edge_of slot address) here is in
            inr (get_or_default edges count (edge_of 0 0) (edge_of slot address) there ∙ at)
      ]

module _ (edges : List Edge) (slots code_words : ℕ) (within : All (IsEdgeWithin slots code_words) edges) where
  pub HasFirst-within : (count slot address : ℕ) → count ≤ length edges → HasFirst edges count slot address
      → IsEdgeWithin slots code_words (edge_of slot address)
  HasFirst-within count slot address most (place, lower, is) =
      subst (IsEdgeWithin slots code_words) is (within place (edge_of slot address) (omega arith))

  pub edge_at-within : (place : ℕ) → place < length edges → IsEdgeWithin slots code_words (edge_at edges place)
  edge_at-within place there = within place (edge_of 0 0) there
