use Rattle.std.proofs.Common.{subst}
use Rattle.cfi_modules.specs.Image.{IsOrderedImage}
use Rattle.cfi_modules.specs.Series.{Series}
use Rattle.cfi_ledger.proofs.offer.imaged.Goals as goal

pub returns-in-Ok-clause-ordered : goal.returns-in-Ok-clause-ordered
returns-in-Ok-clause-ordered c =
    subst (λ (s : Series). IsOrderedImage s.placed c.in-Ok.image) c.series.ensures c.in-Ok.ensures.ordered
