use Rattle.std.proofs.Common.{sym, subst}
use Rattle.cfi_modules.specs.Series.{HasNames}
use Rattle.cfi_modules.proofs.IndexLemmas.{kept_ok}
use Rattle.cfi_modules.proofs.index.with_last.Goals as goal

-- nothing is kept where memory ran out
pub returns : goal.returns
returns c =
    let placed = c.args.placed.now in
    subst (HasNames placed) (sym c.ok.ensures.value) (kept_ok placed c.with_last.result c.with_last.ensures)
