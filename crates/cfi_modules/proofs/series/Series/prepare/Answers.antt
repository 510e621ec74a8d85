use Rattle.std.proofs.Common.{◌≡◌, sym, ◌∙◌, ⊎_elim}
use Rattle.cfi_modules.specs.Series.{with_module}
use Rattle.cfi_modules.proofs.PreparedLemmas.{not_longer, one_fault}
use Rattle.cfi_modules.proofs.series.Series.prepare.Goals as goal

-- a module that joins is refused for memory alone
pub returns-in-Err-clause-only : goal.returns-in-Err-clause-only
returns-in-Err-clause-only c = λ placed joins.
    ⊎_elim (λ (same : c.add.new.self ≡ with_module c.args.self placed).
    absurd (not_longer c.args.self placed (sym c.in-Err.ensures.same ∙ same)))
    (λ starved. one_fault c.in-Err.fault starved)
    (c.in-Err.ensures.only placed joins)
