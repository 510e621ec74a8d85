use Rattle.std.proofs.Common.{ℕ, ◌≡◌, ◌++◌, ap, ◌∙◌, rules}
use Rattle.cfi_type_table.specs.Spelling.{word}
use Rattle.cfi_aux.specs.Records.{flag_of, name_bytes}
use Rattle.cfi_aux.proofs.Appends.{five_parts}
use Rattle.cfi_aux.proofs.writing.put_function.Goals as goal

pub returns : goal.returns
returns c =
    let flags : c.from.result ≡ flag_of c.args.function.now.taken = search rules in
    five_parts c.args.out.now.items (word c.args.function.now.offset) (word c.args.function.now.length)
    (word c.args.function.now.ty) (word (flag_of c.args.function.now.taken)) (name_bytes c.args.function.now.name)
    c.put_word.new.out.items c.put_word-2.new.out.items c.put_word-3.new.out.items c.put_word-4.new.out.items
    c.put_name.new.out.items c.in_ok-put_word.ensures c.in_ok-put_word-2.ensures c.in_ok-put_word-3.ensures
    (c.in_ok-put_word-4.ensures ∙ ap (λ (n : ℕ). c.put_word-3.new.out.items ++ word n) flags) c.in_ok-put_name.ensures
