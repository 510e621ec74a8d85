use Rattle.std.proofs.Common.{◌∙◌}
use Rattle.cfi_modules.proofs.PreparedLemmas.{gives_back}
use Rattle.cfi_modules.proofs.prepared.Prepared.withdraw.Goals as goal

pub returns : goal.returns
returns c = λ series placed is.
    gives_back c.self.inside.series c.without_last.result.0 series c.without_last.result.1 placed
    c.without_last.ensures.rest c.without_last.ensures.placed (c.self.view_is ∙ is)
