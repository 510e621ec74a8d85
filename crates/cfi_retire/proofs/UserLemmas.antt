-- The modules by their numbers, of which one is a user of another.
use Rattle.std.proofs.Common.{◌≡◌, ◌≢◌, ◌∙◌, ℕ, ◌+◌, ◌<◌, ◌≤◌, Bool, true, List, length, get_or, Some, sym, ap, subst, ⊎_elim, arith}
use Rattle.std.specs.Prelude.{slice_get}
use Rattle.std.proofs.lemmas.Bool.{cases_lt}
use Rattle.std.proofs.lemmas.Option.{slice_get_within, slice_get-get_or, get_or_from_slice_get}
use Rattle.cfi_aux.specs.declared.placed.Placed.{Placed}
use Rattle.cfi_graph.specs.Live.{JumpsInto, IsUser, HasNoUserBelow}

module _ (ms : List Placed) (live : List Bool) (target number : ℕ) (m n : Placed) (m_is : m ≡ get_or ms number m)
    (n_is : n ≡ get_or ms target n) where
  pub is_user : number < length ms → target < length ms → number ≢ target → slice_get live number ≡ Some true
      → JumpsInto m n → IsUser ms live target number
  is_user within there other lives jumps = record {
    other = other;
    lives = lives;
    user = m;
    is = slice_get-get_or ms number m within ∙ ap (λ x. Some x) (sym m_is);
    used = n;
    target_is = slice_get-get_or ms target n there ∙ ap (λ x. Some x) (sym n_is);
    jumps = jumps;
  }

  pub user_jumps : IsUser ms live target number → JumpsInto m n
  user_jumps user =
      let first : user.user ≡ m = sym (get_or_from_slice_get ms number user.user m user.is) ∙ sym m_is in
      let second : user.used ≡ n = sym (get_or_from_slice_get ms target user.used n user.target_is) ∙ sym n_is in
      subst (λ x. JumpsInto x n) first (subst (λ y. JumpsInto user.user y) second user.jumps)

module _ (ms : List Placed) (live : List Bool) (target : ℕ) where
  -- one module more is no user
  pub none_more : (number : ℕ) → HasNoUserBelow ms live target number → (IsUser ms live target number → ⊥)
      → HasNoUserBelow ms live target (number + 1)
  none_more number before here k less user =
      ⊎_elim
      (λ (low : k < number). before k low user)
      (λ (high : number ≤ k).
      let same : k ≡ number = omega (arith, high, less) in
      here (subst (IsUser ms live target) same user))
      (cases_lt k number)

  -- a user is one of the modules
  pub none_at_all : (number : ℕ) → length ms ≤ number → HasNoUserBelow ms live target number → (k : ℕ)
      → IsUser ms live target k → ⊥
  none_at_all number all none k user =
      let within = slice_get_within ms k user.user user.is in
      none k (omega (arith, within, all)) user
