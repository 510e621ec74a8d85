-- The bytes of a name, once they are there.
use Rattle.std.proofs.Common.{◌≡◌, ℕ, ◌≤◌, ltb, true, false, List, length, take, drop, Ok, Err, refl}
use Rattle.std.specs.Str.{IsUtf8, is_utf8}
use Rattle.std.proofs.lemmas.Bool.{le-ltb, false_from_ne_true}
use Rattle.std.proofs.lemmas.Str.{is_utf8-from_IsUtf8, IsUtf8-from_is_utf8}
use Rattle.cfi_aux.specs.declared.fault.AuxFault.TheVariants.{BadRecord}
use Rattle.cfi_aux.specs.Fault.{text_at}

pub text_good : (k n : ℕ) (bytes front rest name : List ℕ) → n ≤ length bytes → front ≡ take n bytes
    → rest ≡ drop n bytes → IsUtf8 front → name ≡ front → text_at k n bytes ≡ Ok (name, rest)
unfolding text_at
text_good k n bytes front rest name le front-is rest-is text same =
    let long : ltb (length bytes) n ≡ false = le-ltb _ _ le in
    let good : is_utf8 (take n bytes) ≡ true = rw (← front-is) (is_utf8-from_IsUtf8 front text) in
    rw (long, good, same, front-is, rest-is) refl

pub text_bad : (k n : ℕ) (bytes front : List ℕ) → n ≤ length bytes → front ≡ take n bytes → (IsUtf8 front → ⊥)
    → text_at k n bytes ≡ Err (BadRecord k)
unfolding text_at
text_bad k n bytes front le front-is other =
    let long : ltb (length bytes) n ≡ false = le-ltb _ _ le in
    let bad : is_utf8 (take n bytes) ≡ false =
    rw (← front-is) (false_from_ne_true _ (λ h. other (IsUtf8-from_is_utf8 front h))) in
    rw (long, bad) refl
