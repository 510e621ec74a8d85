use Rattle.std.proofs.Common.{◌≤◌, ◌+◌, ◌%◌, ◌∙◌, ap, arith, length, refl, sym, rules, ◌<◌, ℕ, List}
use Rattle.std.specs.List.{splice}
use Rattle.cfi_model.specs.declared.pages.TheConstants.{PAGE_BYTES}
use Rattle.cfi_model.specs.Pages.{touched_from}
use Rattle.cfi_model.proofs.FillLemmas.{spliced_both, touched_page, touched_more}
use Rattle.cfi_model.proofs.pages.PrivateData.+write.Goals as goal

pub returns-clause-bytes : goal.returns-clause-bytes
returns-clause-bytes t c =
    let front : List ℕ = c.split_at.result.0.now in
    let back : List ℕ = c.split_at.result.1.now in
    let offset : ℕ = c.args.offset in
    let to : ℕ = offset + length front in
    let fits : offset + length front + length back ≤ length c.args.self.now.bytes =
    omega (arith, c.requires, c.touch.ensures.size, c.split_at.ensures.back_len, c.split_at.ensures.front_len) in
    c.write.ensures.bytes
    ∙ ap (λ l. splice l to (to + length back) back) c.write_page.ensures.bytes
    ∙ ap (λ l. splice (splice l offset to front) to (to + length back) back) c.touch.ensures.bytes
    ∙ spliced_both c.args.self.now.bytes front back offset fits
    ∙ ap (λ l. splice c.args.self.now.bytes offset (offset + length l) l) (sym c.split_at.ensures.by_index.0)

pub returns-clause-made : goal.returns-clause-made
returns-clause-made t c =
    let front : ℕ = length c.split_at.result.0.now in
    let back : ℕ = length c.split_at.result.1.now in
    let offset : ℕ = c.args.offset in
    let size = c.split_at.ensures.front_len in
    let least = c.min.ensures in
    let some_bytes : 0 < length c.args.bytes.now = search rules in
    let some : 1 ≤ front = omega (arith, size, least, some_bytes) in
    let fits : offset % PAGE_BYTES + front ≤ PAGE_BYTES = omega (arith, size, least) in
    let page = touched_page c.args.self.now.made offset front some fits in
    c.write.ensures.made
    ∙ ap (λ m. touched_from m (offset + front) back) (c.write_page.ensures.made ∙ c.touch.ensures.made ∙ sym page)
    ∙ sym (touched_more c.args.self.now.made offset front back (offset + front) (length c.args.bytes.now) refl
    (omega (arith, c.split_at.ensures.back_len, size)))
