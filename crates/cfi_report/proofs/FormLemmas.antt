-- The parts of a form say what the words say.
use Rattle.std.proofs.Common.{◌≡◌, ℕ, ◌^◌, ◌<◌, Bool, true, false, cond, ◌&&◌, List, Option, Some, None, option_and_then, refl, sym, subst, IfSome}
use Rattle.std.specs.Option.{option_map}
use Rattle.std.specs.Str.{bytes_eq}
use Rattle.std.proofs.lemmas.Bool.{cond_both, and_parts}
use Rattle.std.proofs.lemmas.Slice.Eq.{bytes_eq-Decides}
use Rattle.cfi_text.specs.Decimal.{dec_text, small_number_in}
use Rattle.cfi_text.specs.Hex.{hex8_text}
use Rattle.cfi_text.specs.Names.{is_name, name_in}
use Rattle.cfi_report.specs.inner.Form.{hex_address}
use Rattle.cfi_report.proofs.WordLemmas.{Spells, small_number_in-spells, address_in-spells}

-- what is said, if anything, is so
pub record Says {A : Type 0} (P : A → Type 0) (form : Option A) : Type 0 where
  pub says : IfSome form P

pub nothing : {A : Type 0} (P : A → Type 0) → Says P None
nothing P = record { says = tt }

-- the parts of a form

module _ {A : Type 0} where
  -- a fixed word
  pub keyed : (P : List ℕ → A → Type 0) (keyword word : List ℕ) (x y : Option A) → Says (P word) x → Says (P keyword) y
      → Says (P keyword) (cond (bytes_eq keyword word) x y)
  keyed P keyword word x y said other =
      cond_both (bytes_eq keyword word) x y (Says (P keyword))
      (λ h. subst (λ (w : List ℕ). Says (P w) x) (sym ((bytes_eq-Decides keyword word).0 h)) said) (λ _. other)

  -- two fixed words
  pub twice : (P : List ℕ → List ℕ → A → Type 0) (a b v w : List ℕ) (x y : Option A) → Says (P v w) x → Says (P a b) y
      → Says (P a b) (cond (bytes_eq a v && bytes_eq b w) x y)
  twice P a b v w x y said other =
      let same = λ (h : (bytes_eq a v && bytes_eq b w) ≡ true).
      let parts = and_parts _ _ h in
      let first = (bytes_eq-Decides a v).0 parts.0 in
      let last = (bytes_eq-Decides b w).0 parts.1 in
      subst (λ (t : List ℕ). Says (P t b) x) (sym first) (subst (λ (t : List ℕ). Says (P v t) x) (sym last) said) in
      cond_both (bytes_eq a v && bytes_eq b w) x y (Says (P a b)) same (λ _. other)

  -- a word that spells a value
  with_value : {V : Type 0} {fits : V → Type 0} {text : V → List ℕ} (P : A → Type 0) (word : List ℕ)
      (found : Option V) (f : V → Option A) → Spells fits text word found
      → ((v : V) → fits v → word ≡ text v → Says P (f v)) → Says P (option_and_then f found)
  with_value P word None f h each = nothing P
  with_value P word (Some v) f h each = each v h.spells.0 h.spells.1

  pub as_value : {V : Type 0} {fits : V → Type 0} {text : V → List ℕ} (P : A → Type 0) (word : List ℕ)
      (found : Option V) (f : V → A) → Spells fits text word found → ((v : V) → fits v → word ≡ text v → P (f v))
      → Says P (option_map f found)
  as_value P word None f h each = nothing P
  as_value P word (Some v) f h each = record { says = each v h.spells.0 h.spells.1 }

  pub number : (P : A → Type 0) (word : List ℕ) (f : ℕ → Option A)
      → ((n : ℕ) → n < 2 ^ 32 → word ≡ dec_text n → Says P (f n)) → Says P (option_and_then f (small_number_in word))
  number P word f each = with_value P word (small_number_in word) f (small_number_in-spells word) each

  pub address : (P : A → Type 0) (word : List ℕ) (f : ℕ → Option A)
      → ((n : ℕ) → n < 2 ^ 32 → word ≡ hex8_text n → Says P (f n)) → Says P (option_and_then f (hex_address word))
  address P word f each = with_value P word (hex_address word) f (address_in-spells word) each

  pub last_number : (P : A → Type 0) (word : List ℕ) (f : ℕ → A) → ((n : ℕ) → n < 2 ^ 32 → word ≡ dec_text n → P (f n))
      → Says P (option_map f (small_number_in word))
  last_number P word f each = as_value P word (small_number_in word) f (small_number_in-spells word) each

  pub last_address : (P : A → Type 0) (word : List ℕ) (f : ℕ → A)
      → ((n : ℕ) → n < 2 ^ 32 → word ≡ hex8_text n → P (f n)) → Says P (option_map f (hex_address word))
  last_address P word f each = as_value P word (hex_address word) f (address_in-spells word) each

  pub named : (P : A → Type 0) (word : List ℕ) (f : List ℕ → Option A) → (is_name word ≡ true → Says P (f word))
      → Says P (option_and_then f (name_in word))
  named P word f each = by_test (is_name word) (λ h. each h)
    where
      by_test : (test : Bool) → (test ≡ true → Says P (f word))
          → Says P (option_and_then f (cond test (Some word) None))
      by_test true h = h refl
      by_test false h = nothing P

  pub told : (P : A → Type 0) (x : A) → P x → Says P (Some x)
  told P x h = record { says = h }
