-- One step after another: the value of a step goes on to the next one, and the first fault is the answer.
use Rattle.std.specs.Prelude.{Bool, Result, Ok, Err, if◌then◌else◌}

infixl 10 ◌>>=◌
-- a value goes on to the next step, and a fault is the answer
abbrev pub ◌>>=◌ : {A B E : Type 0} → Result A E → (A → Result B E) → Result B E
(Ok value) >>= next = next value
(Err fault) >>= next = Err fault

-- goes on where a test holds, and else has the fault
abbrev pub unless_bad : {A E : Type 0} → (fits : Bool) → (fault : E) → Result A E → Result A E
unless_bad fits fault on = if fits then on else Err fault
