use Rattle.std.proofs.Common.{List, subst}
use Rattle.std.specs.Prelude.{IfOk}
use Rattle.cfi_aux.specs.declared.placed.Placed.{Placed}
use Rattle.cfi_modules.specs.Image.{IsOrderedImage}
use Rattle.cfi_modules.proofs.series.Series.image.Goals as goal

pub returns-clause-ordered : goal.returns-clause-ordered
returns-clause-ordered c =
    subst (λ (ms : List Placed). IfOk c.image_of.result (IsOrderedImage ms)) c.modules.ensures.value
    c.image_of.ensures.order
