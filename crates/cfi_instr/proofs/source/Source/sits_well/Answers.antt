use Rattle.std.proofs.Common.{◌≡◌, ◌∙◌, ◌/◌, ◌&&◌, not, Bool, true, false, ap, sym, rules}
use Rattle.std.specs.List.{slice_index_or}
use Rattle.cfi_instr.specs.Items.{item_of}
use Rattle.cfi_instr.specs.inner.Ends.{is_before_end}
use Rattle.cfi_instr.specs.inner.Misplaced.{fits_on}
use Rattle.cfi_instr.proofs.EndLemmas.{sits-same}
use Rattle.cfi_instr.proofs.source.Source.sits_well.Goals as goal

pub returns-then-is_before_end : goal.returns-then-is_before_end
returns-then-is_before_end c = λ functions table.
    let t = c.args.self.now in
    let w = item_of t (c.args.reloc.now.offset / 4) in
    let earlier = slice_index_or c.args.marked.now w false in
    let marked : c.unwrap_or-earlier.result ≡ earlier = search rules in
    let fits : fits_on t c.args.reloc.now.kind (c.args.reloc.now.offset / 4) ≡ true = search rules in
    let before : is_before_end c.args.ends.now w ≡ true = search rules in
    ap not marked ∙ ap (λ (b : Bool). b && not earlier) (sym before)
    ∙ sits-same t functions c.args.ends.now earlier c.args.reloc.now table fits

pub returns-else-is_before_end : goal.returns-else-is_before_end
returns-else-is_before_end c = λ functions table.
    let t = c.args.self.now in
    let w = item_of t (c.args.reloc.now.offset / 4) in
    let earlier = slice_index_or c.args.marked.now w false in
    let fits : fits_on t c.args.reloc.now.kind (c.args.reloc.now.offset / 4) ≡ true = search rules in
    let before : is_before_end c.args.ends.now w ≡ false = search rules in
    c.if-is_before_end.false ∙ ap (λ (b : Bool). b && not earlier) (sym before)
    ∙ sits-same t functions c.args.ends.now earlier c.args.reloc.now table fits
