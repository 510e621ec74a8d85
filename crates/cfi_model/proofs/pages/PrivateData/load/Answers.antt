use Rattle.std.proofs.Common.{◌/◌, ◌∙◌, ap, arith}
use Rattle.cfi_model.specs.declared.pages.TheConstants.{PAGE_BYTES}
use Rattle.cfi_model.specs.Data.{loaded}
use Rattle.cfi_model.proofs.PagedLemmas.{number_low, load_found}
use Rattle.cfi_model.proofs.pages.PrivateData.load.Goals as goal

pub index-page-requires : goal.index-page-requires
index-page-requires c =
    let low = number_low c.self.inside.numbers c.self.inside.pool.items _ (c.args.offset / PAGE_BYTES) c.self.invariant
    (omega arith) in
    omega (arith, low, c.from.ensures)

pub returns : goal.returns
returns c =
    c.load_from.ensures
    ∙ load_found c.self.inside.numbers c.self.inside.pool.items _ c.args.kind c.args.offset c.from.result
    c.index-page.result.now c.self.invariant c.requires.within c.requires.aligned c.from.ensures c.index-page.ensures
    ∙ ap (λ m. loaded c.args.kind m.bytes c.args.offset) c.self.view_is
