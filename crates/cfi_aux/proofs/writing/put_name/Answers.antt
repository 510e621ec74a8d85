use Rattle.std.proofs.Common.{List, ℕ, ◌++◌, ap, ◌∙◌}
use Rattle.cfi_aux.specs.Records.{name_bytes}
use Rattle.cfi_aux.proofs.Appends.{name_put}
use Rattle.cfi_aux.proofs.writing.put_name.Goals as goal

pub returns : goal.returns
returns c =
    name_put c.args.out.now.items c.as_bytes-text.result.now c.put_word.new.out.items c.extend_from_slice.new.self.items
    c.extend_from_slice-2.new.self.items c.padding.result c.in_ok-put_word.ensures
    c.in_ok-extend_from_slice.ensures.items c.padding.ensures c.in_ok-extend_from_slice-2.ensures.items
    ∙ ap (λ (text : List ℕ). c.args.out.now.items ++ name_bytes text)
    (c.as_bytes-text.ensures.value ∙ c.as_str.ensures)
