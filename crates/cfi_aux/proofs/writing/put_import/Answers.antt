use Rattle.std.proofs.Common.{◌≡◌, ◌++◌, ◌∙◌, ℕ, length, ap, rules}
use Rattle.cfi_type_table.specs.Spelling.{word}
use Rattle.cfi_aux.specs.declared.format.TheConstants.{IMPORT}
use Rattle.cfi_aux.specs.Format.{import_words}
use Rattle.cfi_aux.specs.Records.{name_bytes}
use Rattle.cfi_aux.proofs.Appends.{four_puts}
use Rattle.cfi_aux.proofs.writing.put_import.Goals as goal

pub returns : goal.returns
returns c =
    let words : c.import_words-words.result ≡ import_words (length c.args.name.now) = search rules in
    four_puts c.args.out.now.items (word IMPORT) (word (import_words (length c.args.name.now))) (word c.args.cell)
    (name_bytes c.args.name.now) c.put_word.new.out.items c.put_word-2.new.out.items c.put_word-3.new.out.items
    c.put_name.new.out.items c.in_ok-put_word.ensures
    (c.in_ok-put_word-2.ensures ∙ ap (λ (n : ℕ). c.put_word.new.out.items ++ word n) words)
    c.in_ok-put_word-3.ensures c.in_ok-put_name.ensures
