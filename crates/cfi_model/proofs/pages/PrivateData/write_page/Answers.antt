use Rattle.std.proofs.Common.{◌+◌, ◌∙◌, ap, length, slice_set}
use Rattle.std.specs.List.{splice}
use Rattle.cfi_model.specs.Pages.{Memory}
use Rattle.cfi_model.specs.inner.Paged.{paged_bytes}
use Rattle.cfi_model.proofs.MakeLemmas.{seen_made}
use Rattle.cfi_model.proofs.FillLemmas.{written_paged}
use Rattle.cfi_model.proofs.pages.PrivateData.write_page.Goals as goal

pub returns-clause-bytes : goal.returns-clause-bytes
returns-clause-bytes c =
    let bytes = c.args.bytes.now in
    let offset = c.args.offset in
    let made = seen_made _ _ _ _ _ c.self.view_is c.requires.made in
    ap (λ l. paged_bytes c.self.inside.numbers (slice_set c.self.inside.pool.items c.from.result l))
    c.write_bytes.ensures
    ∙ written_paged _ _ _ offset bytes c.self.invariant c.requires.within c.requires.fits c.from.result
    c.index_mut-page.result.now made c.from.ensures c.index_mut-page.ensures.value
    ∙ ap (λ (m : Memory). splice m.bytes offset (offset + length bytes) bytes) c.self.view_is
