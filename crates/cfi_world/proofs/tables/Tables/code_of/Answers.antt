use Rattle.std.proofs.Common.{◌≤◌, subst, sym, ap, ◌∙◌, length}
use Rattle.cfi_word.specs.declared.limits.TheConstants.{MAX_CODE_WORDS}
use Rattle.cfi_model.specs.Tables.{IsTables}
use Rattle.cfi_world.proofs.FieldLemmas.{code_most}
use Rattle.cfi_world.proofs.tables.Tables.code_of.Goals as goal

-- an entry's code has as many words as the tables
pub returns-clause-most : goal.returns-clause-most
returns-clause-most c =
    let is : IsTables c.args.self.now.tables =
    subst (λ v. IsTables v.tables) c.self.view_is c.self.invariant.tables in
    subst (λ code. length code ≤ MAX_CODE_WORDS) (sym (c.as_slice.ensures ∙ ap (λ i. i.code) c.image.ensures))
    (code_most c.args.self.now.tables c.args.number is c.requires)
