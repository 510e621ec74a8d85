-- The nodes of slots and code words, with a class number and without.
use Rattle.std.proofs.Common.{◌≡◌, ℕ, ◌+◌, ◌<◌, ◌≤◌, eqb, ltb, List, get_or, arith, inl, inr}
use Rattle.std.proofs.lemmas.Bool.{cases_lt, lt-ltb, le-ltb, eq-eqb, ne_eqb, cond-true, cond-false}
use Rattle.cfi_word.specs.declared.ids.TheConstants.{FIELD_MAX}
use Rattle.cfi_class.specs.declared.nodes.TheConstants.{CLASSES}
use Rattle.cfi_class.specs.inner.Nodes.{slot_node, word_node}

pub slot_node-class : (bary : List ℕ) (slot : ℕ) → get_or bary slot 0 < FIELD_MAX
    → slot_node bary slot ≡ get_or bary slot 0
slot_node-class bary slot low =
    cond-true (ltb (get_or bary slot 0) FIELD_MAX) _ _ (lt-ltb (get_or bary slot 0) FIELD_MAX low)

pub slot_node-none : (bary : List ℕ) (slot : ℕ) → FIELD_MAX ≤ get_or bary slot 0
    → slot_node bary slot ≡ CLASSES + slot
slot_node-none bary slot high =
    cond-false (ltb (get_or bary slot 0) FIELD_MAX) _ _ (le-ltb (get_or bary slot 0) FIELD_MAX high)

pub slot_node-low : (bary : List ℕ) (slot : ℕ) → slot_node bary slot ≤ CLASSES + slot
slot_node-low bary slot =
    elim (cases_lt (get_or bary slot 0) FIELD_MAX) [
      | inl lower ↦ let is = slot_node-class bary slot lower in omega arith
      | inr higher ↦ let is = slot_node-none bary slot higher in omega arith
    ]

pub word_node-class : (tary : List ℕ) (slots word : ℕ) → 1 ≤ get_or tary word 0
    → word_node tary slots word ≡ get_or tary word 0
word_node-class tary slots word some =
    cond-false (eqb (get_or tary word 0) 0) _ _ (ne_eqb (get_or tary word 0) 0 (λ is. omega arith))

pub word_node-none : (tary : List ℕ) (slots word : ℕ) → get_or tary word 0 ≡ 0
    → word_node tary slots word ≡ CLASSES + slots + word
word_node-none tary slots word none = cond-true (eqb (get_or tary word 0) 0) _ _ (eq-eqb (get_or tary word 0) 0 none)
