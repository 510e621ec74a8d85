-- Two modules, three epochs: the one of the start, a load of the other, and a refresh.
use Rattle.std.proofs.Common.{◌≡◌, ◌⊎◌, inl, inr, ℕ, zero, suc, ◌+◌, ◌≤◌, List, [], ◌∷◌, length, take, Some, refl, ap, sym, subst, ◌∙◌, add-one, arith}
use Rattle.std.specs.List.{Contains, slice_get}
use Rattle.std.proofs.lemmas.List.Elements.{All-nil, All-cons}
use Rattle.cfi_word.specs.declared.map.TheConstants.{FIRST_BASE}
use Rattle.cfi_word.specs.declared.limits.TheConstants.{MIN_CODE_WORDS, MIN_VERSIONS}
use Rattle.cfi_word.specs.declared.lists.Image.{Image}
use Rattle.cfi_aux.specs.declared.placed.Placed.{Placed}
use Rattle.cfi_graph.specs.Shaped.{Follows}
use Rattle.cfi_model.specs.History.{History}
use Rattle.cfi_verify.specs.Example.{loop_module}
use Rattle.cfi_verify.specs.Fault.{IsVerified}
use Rattle.cfi_verify.proofs.ExampleLemmas.{loop_verified}
use Rattle.cfi_modules.specs.Growth.{IsHistoryOf, HasNumbers}
use Rattle.cfi_modules.specs.Loaded.{IsVerifiedAmong, AreLoaded}
use Rattle.cfi_modules.proofs.GrowthLemmas.{loaded_some}
use Rattle.cfi_modules.proofs.LoadedLemmas.{begins}
use Rattle.cfi_modules.proofs.MadeLemmas.{image_for, image_is}

-- the same module again, behind the first
abbrev second : Placed
second = record loop_module { base = FIRST_BASE + 1 }

abbrev pub modules : List Placed
modules = loop_module ∷ second ∷ []

alone : (base : ℕ) → IsVerified (record loop_module { base = base }) []
alone base = loop_verified base _ _ _ _ _ refl

next_of : (k : ℕ) (m n : Placed) → slice_get modules k ≡ Some m → slice_get modules (suc k) ≡ Some n → Follows m n
next_of zero m n here there =
    let a : loop_module ≡ m = cc in
    let b : second ≡ n = cc in
    subst (λ (x : Placed). Follows x n) a (subst (Follows loop_module) b (record { words = refl; slots = refl }))
next_of (suc zero) m n here there = absurd (cc)
next_of (suc (suc k)) m n here there = absurd (cc)

each : (k : ℕ) (m : Placed) → slice_get modules k ≡ Some m → IsVerifiedAmong (take k modules) m
each zero m is =
    let same : loop_module ≡ m = cc in
    ([], All-nil (Contains []), subst (λ (n : Placed). IsVerified n []) same (alone FIRST_BASE))
each (suc zero) m is =
    let same : second ≡ m = cc in
    ([], All-nil (Contains (loop_module ∷ [])), subst (λ (n : Placed). IsVerified n []) same (alone (FIRST_BASE + 1)))
each (suc (suc k)) m is = absurd (cc)

pub two : AreLoaded MIN_CODE_WORDS modules
two =
    let P : Placed → Type 0 = λ m. m.base + length m.words ≤ MIN_CODE_WORDS in
    record {
      size = record { multiple = refl; least = omega arith; most = omega arith };
      first = begins loop_module (second ∷ []) (refl, refl);
      next = λ k m n is there. next_of k m n is (ap (slice_get modules) (sym (add-one k)) ∙ there);
      ends = All-cons P loop_module (second ∷ []) (omega arith) (All-cons P second [] (omega arith) (All-nil P));
      verified = each;
    }

-- how many modules an epoch has, and its policy number
abbrev pub loaded_at : ℕ → ℕ
loaded_at zero = 1
loaded_at (suc epoch) = 2

abbrev pub policy_at : ℕ → ℕ
policy_at zero = 0
policy_at (suc epoch) = 1

abbrev pub image_at : ℕ → Image
image_at epoch = image_for MIN_CODE_WORDS (take (loaded_at epoch) modules)
    (loaded_some MIN_CODE_WORDS (loaded_at epoch) modules two)

abbrev pub growth : History
growth = record { first = 0; count = 3; ahead = 0; versions = MIN_VERSIONS; policy = policy_at; image = image_at }

steps : (epoch : ℕ) → (loaded_at (epoch + 1) ≡ loaded_at epoch) ⊎ (loaded_at (epoch + 1) ≡ loaded_at epoch + 1)
steps zero = inr refl
steps (suc epoch) = inl (ap loaded_at (add-one (suc epoch)))

few : (epoch : ℕ) → loaded_at epoch ≤ length modules
few zero = omega arith
few (suc epoch) = omega arith

pub is_growth : IsHistoryOf MIN_CODE_WORDS modules 1 growth
is_growth = record {
  loaded = loaded_at;
  first = refl;
  next = λ epoch known. steps epoch;
  few = λ epoch known. few epoch;
  live = λ epoch. [];
  images = λ epoch known.
      image_is MIN_CODE_WORDS (take (loaded_at epoch) modules) (loaded_some MIN_CODE_WORDS (loaded_at epoch) modules two);
}

low_policy : (epoch : ℕ) → policy_at epoch ≤ 1
low_policy zero = omega arith
low_policy (suc epoch) = omega arith

pub has_numbers : HasNumbers growth
has_numbers = record {
  versions_least = omega arith;
  versions_most = omega arith;
  epochs = λ epoch known. omega (arith, known.most);
  policies = λ epoch known. omega (arith, low_policy epoch);
}
