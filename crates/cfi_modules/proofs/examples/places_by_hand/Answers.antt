use Rattle.std.proofs.Common.{[], ◌∷◌, refl}
use Rattle.cfi_modules.specs.Examples.{main_at}
use Rattle.cfi_modules.proofs.HandLemmas.{rising, falling, in_first, in_second}
use Rattle.cfi_modules.proofs.examples.places_by_hand.Goals as goal

pub returns-clause-rising : goal.returns-clause-rising
returns-clause-rising c = rising

pub returns-clause-falling : goal.returns-clause-falling
returns-clause-falling c = falling

pub returns-clause-both : goal.returns-clause-both
returns-clause-both c = in_first 16 68 (main_at 24 ∷ []) refl

pub returns-clause-turned : goal.returns-clause-turned
returns-clause-turned c = in_first 24 100 (main_at 16 ∷ []) refl

pub returns-clause-second : goal.returns-clause-second
returns-clause-second c = in_second
