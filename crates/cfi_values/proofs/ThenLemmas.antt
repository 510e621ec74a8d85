-- Steps that did not fail.
use Rattle.std.proofs.Common.{◌≡◌, Bool, true, false, Result, Ok, Err, IfOk, refl}
use Rattle.cfi_values.specs.Then.{◌>>=◌, unless_bad}

-- the value of a step that did not fail
pub then_ok : {A B E : Type 0} (r : Result A E) (f : A → Result B E) (y : B) → (r >>= f) ≡ Ok y
    → (x : A) × (r ≡ Ok x) × (f x ≡ Ok y)
then_ok (Ok x) f y e = (x, refl, e)
then_ok (Err d) f y e = absurd cc

-- a test that did not fail
pub unless_bad_ok : {A E : Type 0} (b : Bool) (d : E) (r : Result A E) (y : A) → unless_bad b d r ≡ Ok y
    → (b ≡ true) × (r ≡ Ok y)
unless_bad_ok true d r y e = (refl, e)
unless_bad_ok false d r y e = absurd cc

abbrev done : {A E : Type 0} → A → Result A E
done x = Ok x

pub ok_is : {A E : Type 0} (x y : A) → done {E = E} x ≡ done {E = E} y → x ≡ y
ok_is x y e = cc

-- what follows where something is said of a success
pub if_ok : {T E : Type 0} (r : Result T E) (P Q : T → Type 0) → ((x : T) → P x → Q x) → IfOk r P → IfOk r Q
if_ok (Ok x) P Q then holds = then x holds
if_ok (Err e) P Q then holds = holds
