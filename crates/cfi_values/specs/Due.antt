-- Calls that give what is due. Of each fault `fails` says what is due where a call met it; where memory ran out it says
-- nothing.
use Rattle.std.specs.Prelude.{◌≡◌, Result, Ok, Err}

-- the answer is the one that is due
abbrev pub Answers : {Y E : Type 0} → (fails : E → Result Y E → Type 0) → (answer due : Result Y E) → Type 0
Answers fails (Ok value) due = due ≡ Ok value
Answers fails (Err fault) due = fails fault due

-- the call left the value that is due
abbrev pub Leaves : {Y E : Type 0} → (fails : E → Result Y E → Type 0) → (answer : Result (Unit {0}) E) → (new : Y)
    → (due : Result Y E) → Type 0
Leaves fails (Ok done) new due = due ≡ Ok new
Leaves fails (Err fault) new due = fails fault due
