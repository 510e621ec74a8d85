-- Tests of lists, of kinds and of offsets, and what they tell.
use Rattle.std.proofs.Common.{◌≡◌, ℕ, zero, suc, ◌+◌, ◌-◌, ◌*◌, ◌/◌, ◌&&◌, ◌⊎◌, ℤ, pos, negsuc, Bool, true, false, List, [], ◌∷◌, Option, Some, None, inl, inr, sym, ap, subst, ◌∙◌}
use Rattle.std.specs.Prelude.{◌==◌, ◌||◌}
use Rattle.std.specs.List.{Contains, All, list_all, list_any}
use Rattle.std.proofs.lemmas.Bool.{cases_Bool, and_parts, eqb-true}
use Rattle.std.proofs.lemmas.List.Elements.{All-nil, All-cons}
use Rattle.elf_read.specs.Lists.{Each}
use Rattle.cfi_aux.specs.declared.records.Kind.{Kind}
use Rattle.cfi_aux.specs.declared.records.Kind.TheVariants.{Call, Tail}
use Rattle.cfi_flow.proofs.Members.{member_first, member_later}
use Rattle.cfi_type_table.specs.Kind.{is_callable}
use Rattle.cfi_type_table.specs.Node.{Node}
use Rattle.cfi_verify.specs.Branches.{IsKindOf, IsRecordOf}
use Rattle.cfi_verify.specs.Target.{LeadsTo}

-- ---- tests of lists

-- an item that passes
pub has_any : {T : Type 0} (test : T → Bool) (xs : List T) → list_any test xs ≡ true
    → (x : T) × Contains xs x × (test x ≡ true)
has_any test [] is = absurd (cc)
has_any test (x ∷ xs) is =
    elim (cases_Bool (test x)) [
      | inl here ↦ (x, member_first x xs, here)
      | inr apart ↦
          let told : list_any test xs ≡ true = sym (ap (λ (b : Bool). b || list_any test xs) apart) ∙ is in
          let found = has_any test xs told in
          (found.0, member_later x xs found.0 found.1, found.2)
    ]

pub either : (a b : Bool) → (a || b) ≡ true → (a ≡ true) ⊎ (b ≡ true)
either a b is =
    elim (cases_Bool a) [
      | inl here ↦ inl here
      | inr apart ↦ inr (sym (ap (λ (c : Bool). c || b) apart) ∙ is)
    ]

-- each item passes a test of its number and itself
abbrev pub all_numbered : {T : Type 0} → (ℕ → T → Bool) → List T → Bool
all_numbered test [] = true
all_numbered test (x ∷ xs) = test 0 x && all_numbered (λ n. test (suc n)) xs

pub each_tested : {T : Type 0} (test : ℕ → T → Bool) (P : ℕ → T → Type 0)
    → ((k : ℕ) (x : T) → test k x ≡ true → P k x) → (xs : List T) → all_numbered test xs ≡ true → Each xs P
each_tested test P tells [] all k y is = absurd (cc)
each_tested {T} test P tells (x ∷ xs) all zero y is =
    let same : x ≡ y = cc in
    let both = and_parts (test 0 x) (all_numbered (λ n. test (suc n)) xs) all in
    subst (P 0) same (tells 0 x both.0)
each_tested test P tells (x ∷ xs) all (suc k) y is =
    let both = and_parts (test 0 x) (all_numbered (λ n. test (suc n)) xs) all in
    each_tested (λ n. test (suc n)) (λ n. P (suc n)) (λ n. tells (suc n)) xs both.1 k y is

pub all_tested : {T : Type 0} (test : T → Bool) (P : T → Type 0) → ((x : T) → test x ≡ true → P x) → (xs : List T)
    → list_all test xs ≡ true → All P xs
all_tested test P tells [] all = All-nil P
all_tested test P tells (x ∷ xs) all =
    let both = and_parts (test x) (list_all test xs) all in
    All-cons P x xs (tells x both.0) (all_tested test P tells xs both.1)

-- ---- kinds

abbrev kind_fits : (types : List Node) → (link : Bool) → Kind → Bool
kind_fits types true (Call node) = is_callable types node
kind_fits types true kind = false
kind_fits types false (Call node) = false
kind_fits types false (Tail node) = is_callable types node
kind_fits types false kind = true

abbrev pub record_fits : (types : List Node) → (link : Bool) → Option Kind → Bool
record_fits types link None = false
record_fits types link (Some kind) = kind_fits types link kind

is_kind : (types : List Node) (link : Bool) (kind : Kind) → kind_fits types link kind ≡ true → IsKindOf types link kind
is_kind types true (Call node) is = is
is_kind types true kind is = absurd (cc)
is_kind types false (Call node) is = absurd (cc)
is_kind types false (Tail node) is = is
is_kind types false kind is = tt

pub is_record : (types : List Node) (link : Bool) (kind : Option Kind) → record_fits types link kind ≡ true
    → IsRecordOf types link kind
is_record types link None is = absurd (cc)
is_record types link (Some kind) is = is_kind types link kind is

-- ---- where units lead

-- the word to which an offset leads, and that it does
abbrev pub word_after : (at : ℕ) → ℤ → ℕ
word_after at (pos n) = (4 * at + n) / 4
word_after at (negsuc n) = (4 * at - (n + 1)) / 4

abbrev pub leads : (at : ℕ) → ℤ → (to : ℕ) → Bool
leads at (pos n) to = 4 * to == 4 * at + n
leads at (negsuc n) to = 4 * to + n + 1 == 4 * at

pub leads_to : (at : ℕ) (off : ℤ) (to : ℕ) → leads at off to ≡ true → LeadsTo at off to
leads_to at (pos n) to is = eqb-true (4 * to) (4 * at + n) is
leads_to at (negsuc n) to is = eqb-true (4 * to + n + 1) (4 * at) is
