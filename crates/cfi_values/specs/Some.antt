-- What may be nothing: one step after another, and a test of it.
use Rattle.std.specs.Prelude.{Bool, false, Option, Some, None, option_and_then}

infixl 10 ◌>>=◌
-- a value goes on to the next step, if there is one
abbrev pub ◌>>=◌ : {A B : Type 0} → Option A → (A → Option B) → Option B
o >>= f = option_and_then f o

-- it is there and passes the test
abbrev pub holds : {A : Type 0} → (A → Bool) → Option A → Bool
holds test None = false
holds test (Some value) = test value
