-- The code of the first modules, one more module at a time.
use Rattle.std.proofs.Common.{◌≡◌, ◌⊎◌, ℕ, ◌+◌, ◌<◌, ◌≤◌, List, length, get_or, sym, ap, subst, ◌∙◌, inl, inr, arith}
use Rattle.std.proofs.lemmas.Bool.{cases_lt}
use Rattle.std.proofs.lemmas.List.{get_or_default}
use Rattle.cfi_aux.specs.declared.placed.Placed.{Placed}
use Rattle.cfi_policy.specs.Code.{LiesInModule, EndsBefore, LieApart, HasWords}

-- the code with the words of so many first modules
pub record IsCodeSoFar (modules : List Placed) (count code_words : ℕ) (code : List ℕ) : Type 0 where
  pub len : length code ≡ code_words
  pub placed : (j : ℕ) (d : Placed) → j < count → HasWords code (get_or modules j d)
  pub free : (word : ℕ) → word < code_words
      → ((j : ℕ) (d : Placed) → j < count → LiesInModule (get_or modules j d) word → ⊥) → get_or code word 0 ≡ 0

module _ (modules : List Placed) (code_words : ℕ) (apart : LieApart modules code_words) (count : ℕ)
    (there : count < length modules) (item : Placed) (is : item ≡ get_or modules count item) (old new : List ℕ)
    (before : IsCodeSoFar modules count code_words old) (len : length new ≡ length old)
    (placed : HasWords new item)
    (kept : (word : ℕ) → (word < item.base) ⊎ (item.base + length item.words ≤ word)
    → get_or new word 0 ≡ get_or old word 0) where
  earlier_placed : (j : ℕ) (d : Placed) → j < count → HasWords new (get_or modules j d)
  earlier_placed j d lower k within =
      let ends : EndsBefore (get_or modules j d) (get_or modules count d) = apart.order j count d lower there in
      let begins : (get_or modules count d).base ≡ item.base =
      ap (λ m. m.base) (get_or_default modules count d item there ∙ sym is) in
      kept ((get_or modules j d).base + k) (inl (omega arith)) ∙ before.placed j d lower k within

  each_placed : (j : ℕ) (d : Placed) → j < count + 1 → HasWords new (get_or modules j d)
  each_placed j d lower =
      elim (cases_lt j count) [
        | inl earlier ↦ earlier_placed j d earlier
        | inr later ↦
            let here : count ≡ j = omega arith in
            subst (λ n. HasWords new (get_or modules n d)) here
            (subst (HasWords new) (is ∙ get_or_default modules count item d there) placed)
      ]

  elsewhere_free : (word : ℕ) → word < code_words
      → ((j : ℕ) (d : Placed) → j < count + 1 → LiesInModule (get_or modules j d) word → ⊥) → get_or new word 0 ≡ 0
  elsewhere_free word within none =
      let not_here : LiesInModule item word → ⊥ = λ lies. none count item (omega arith)
      (subst (λ m. LiesInModule m word) is lies) in
      let old_free : get_or old word 0 ≡ 0 = before.free word within (λ j d lower. none j d (omega arith)) in
      elim (cases_lt word item.base) [
        | inl below ↦ kept word (inl below) ∙ old_free
        | inr above ↦ elim (cases_lt word (item.base + length item.words)) [
          | inl inside ↦ absurd (not_here (above, inside))
          | inr past ↦ kept word (inr past) ∙ old_free
        ]
      ]

  pub one_more_module : IsCodeSoFar modules (count + 1) code_words new
  one_more_module = record {
    len = len ∙ before.len;
    placed = each_placed;
    free = elsewhere_free;
  }
