use Rattle.std.proofs.Common.{ap, ◌∙◌}
use Rattle.cfi_unit.specs.declared.log.Log.TheVariants.{Open}
use Rattle.cfi_model.specs.Log.{last_picks, picks_in}
use Rattle.cfi_model.proofs.LogLemmas.{last_push}
use Rattle.cfi_model.proofs.log_book.LogBook.open.Goals as goal

-- the last entry is no pick
pub returns-clause-last : goal.returns-clause-last
returns-clause-last c =
    ap last_picks c.push_reserved.ensures.items
    ∙ ap picks_in (last_push c.self.inside.entries.items (Open c.args.number c.args.address c.args.policy))
