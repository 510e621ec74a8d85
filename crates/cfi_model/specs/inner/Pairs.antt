-- Which targets of branch slots a policy lets through, as it is kept.
use Rattle.std.specs.Prelude.{ℕ, Bool}
use Rattle.cfi_model.specs.declared.plain.pairs.Pairs.{Pairs}
use Rattle.cfi_model.specs.declared.plain.pairs.Pairs.TheVariants.{Listed, OneClass}
use Rattle.cfi_model.specs.Effect.{allows_by}
use Rattle.cfi_model.specs.Plain.{has_one_class}

-- the test
abbrev pub allows_in : Pairs → (slot target : ℕ) → Bool
allows_in (Listed pairs) = allows_by pairs.now
allows_in (OneClass labels) = has_one_class labels.now
