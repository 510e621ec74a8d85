use Rattle.cfi_ledger.proofs.DueLemmas.{drop_min}
use Rattle.cfi_ledger.proofs.opens.fills_from.Goals as goal

pub returns : goal.returns
returns c = drop_min c.args.fills.now c.args.first c.min.result c.min.ensures
