-- One module that verifies, at the first free place.
use Rattle.std.proofs.Common.{◌≡◌, ℕ, zero, suc, ◌+◌, ◌≤◌, List, [], ◌∷◌, length, take, Some, refl, ap, subst, ◌∙◌, sym, add-one, arith}
use Rattle.std.specs.List.{Contains, slice_get}
use Rattle.std.proofs.lemmas.List.Elements.{All-nil, All-cons}
use Rattle.cfi_word.specs.declared.limits.TheConstants.{MIN_CODE_WORDS}
use Rattle.cfi_aux.specs.declared.placed.Placed.{Placed}
use Rattle.cfi_graph.specs.Shaped.{Follows}
use Rattle.cfi_verify.specs.Example.{loop_module}
use Rattle.cfi_verify.specs.Fault.{IsVerified}
use Rattle.cfi_verify.proofs.ExampleLemmas.{verified}
use Rattle.cfi_modules.specs.Loaded.{IsVerifiedAmong, AreLoaded}
use Rattle.cfi_modules.proofs.LoadedLemmas.{begins}

abbrev modules : List Placed
modules = loop_module ∷ []

next : (k : ℕ) (m n : Placed) → slice_get modules k ≡ Some m → slice_get modules (k + 1) ≡ Some n → Follows m n
next k m n here there =
    let none : slice_get modules (suc k) ≡ Some n = ap (slice_get modules) (sym (add-one k)) ∙ there in absurd (cc)

each : (k : ℕ) (m : Placed) → slice_get modules k ≡ Some m → IsVerifiedAmong (take k modules) m
each zero m is =
    let same : loop_module ≡ m = cc in
    ([], All-nil (Contains []), subst (λ (n : Placed). IsVerified n []) same verified)
each (suc k) m is = absurd (cc)

pub one : AreLoaded MIN_CODE_WORDS modules
one = record {
  size = record { multiple = refl; least = omega arith; most = omega arith };
  first = begins loop_module [] (refl, refl);
  next = next;
  ends = All-cons (λ (m : Placed). m.base + length m.words ≤ MIN_CODE_WORDS) loop_module [] (omega arith)
      (All-nil (λ (m : Placed). m.base + length m.words ≤ MIN_CODE_WORDS));
  verified = each;
}
