use Rattle.std.proofs.Common.{◌≡◌, ◌/◌, ◌∙◌, ap, slice_set, slice_index_or, subst, sym, true, false}
use Rattle.cfi_model.specs.declared.pages.TheConstants.{PAGE_BYTES}
use Rattle.cfi_model.specs.Data.{stored}
use Rattle.cfi_model.specs.Pages.{Memory}
use Rattle.cfi_model.specs.inner.Paged.{paged_bytes}
use Rattle.cfi_model.proofs.PagedLemmas.{store_found}
use Rattle.cfi_model.proofs.pages.PrivateData.put.Goals as goal

pub returns-clause-bytes : goal.returns-clause-bytes
returns-clause-bytes c =
    ap (λ l. paged_bytes c.self.inside.numbers (slice_set c.self.inside.pool.items c.from.result l))
    c.store_into.ensures
    ∙ store_found c.self.inside.numbers c.self.inside.pool.items _ c.args.kind c.args.offset c.args.value
    c.from.result c.index_mut-page.result.now c.self.invariant c.requires.within c.requires.aligned
    (subst (λ (m : Memory). slice_index_or m.made (c.args.offset / PAGE_BYTES) false ≡ true) (sym c.self.view_is) c.requires.made)
    c.from.ensures c.index_mut-page.ensures.value
    ∙ ap (λ (m : Memory). stored c.args.kind m.bytes c.args.offset c.args.value) c.self.view_is
