use Rattle.std.proofs.Common.{rules}
use Rattle.cfi_modules.proofs.series.Series.joins.Goals as goal

-- a module that joins is refused for memory alone
pub returns-in_err-place_next-clause-only : goal.returns-in_err-place_next-clause-only
returns-in_err-place_next-clause-only c placed joins =
    let only = c.in_err-place_next.ensures.only placed joins in
    let left = c.from_residual.ensures in
    search rules
