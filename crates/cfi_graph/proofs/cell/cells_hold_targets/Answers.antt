use Rattle.std.proofs.Common.{◌∙◌, unwrap_or, inl, inr, sym, ap, subst}
use Rattle.cfi_graph.specs.Direct.{IsImportTarget}
use Rattle.cfi_graph.specs.Named.{entry_among}
use Rattle.cfi_graph.proofs.FirstLemmas.{none_or_some}
use Rattle.std.proofs.lemmas.Option.{none-some}
use Rattle.cfi_graph.proofs.ImportLemmas.{are_imports}
use Rattle.cfi_graph.proofs.cell.cells_hold_targets.Goals as goal

-- the name leads somewhere, or nowhere
pub returns : goal.returns
returns c = λ live name.
    elim (none_or_some (entry_among live name)) [
      | inl none ↦
          inr (
            ap (λ o. unwrap_or o 0) none,
            λ address to.
                none-some address (sym none ∙ (are_imports live name address).1 to),
          )
      | inr some ↦
          inl (subst (IsImportTarget live name) (sym (ap (λ o. unwrap_or o 0) some.1))
          ((are_imports live name some.0).0 some.1))
    ]
