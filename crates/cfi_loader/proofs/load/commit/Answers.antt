use Rattle.std.proofs.Common.{◌-◌, List, length, get_or, ap, subst, ◌∙◌}
use Rattle.cfi_aux.specs.declared.placed.Placed.{Placed}
use Rattle.cfi_ledger.specs.declared.books.Books.{Books}
use Rattle.cfi_ledger.specs.Opens.{IsFirstGlobal}
use Rattle.cfi_loader.proofs.load.commit.Goals as goal

pub returns-clause-address : goal.returns-clause-address
returns-clause-address c = λ d.
    let same = ap (λ (b : Books). b.force.roster.placed) c.commit.ensures.same in
    let modules = c.modules.ensures.value ∙ same in
    let found = c.address_at.result in
    subst (λ (ps : List Placed). IsFirstGlobal (get_or ps (length c.args.candidate.roster.placed - 1) d) found) same
    (subst (λ (ps : List Placed). IsFirstGlobal (get_or c.commit.new.self.force.roster.placed (length ps - 1) d) found)
    modules (c.address_at.ensures d))
