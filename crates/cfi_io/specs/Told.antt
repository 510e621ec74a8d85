-- Meanings of the outside that an object tells or does not tell. Nothing is claimed where nothing is told.
use Rattle.std.specs.Prelude.{ℕ, List, take, Option, Some, None, ⊤}
use Rattle.std.specs.Io.KnownBytes.{Appends}

-- what is told has P
abbrev pub WhereTold : {A : Type 0} → (told : Option A) → (P : A → Type 0) → Type 0
WhereTold None P = ⊤
WhereTold (Some told) P = P told

-- what was told before is told after, and P holds of the two
abbrev pub WhereKeptTold : {A : Type 0} → (before after : Option A) → (P : A → A → Type 0) → Type 0
WhereKeptTold None after P = ⊤
WhereKeptTold (Some before) None P = ⊥
WhereKeptTold (Some before) (Some after) P = P before after

-- known bytes grow by some of these bytes, from the first on
abbrev pub AppendsPrefix : (before after : Option (List ℕ)) → (bytes : List ℕ) → Type 0
AppendsPrefix before after bytes = (k : ℕ) × Appends before after (take k bytes)
