use Rattle.std.proofs.Common.{◌≡◌, ℕ, List, Option, Some, None, IfOk, refl, subst, sym, ◌∙◌, if◌then◌else◌}
use Rattle.std.specs.Str.{is_utf8}
use Rattle.cfi_text.specs.Names.{name_in}
use Rattle.cfi_text.proofs.NamesLemmas.{is_utf8-name}
use Rattle.cfi_text.proofs.names.name_of.Goals as goal

-- a name is text, so what the word is as text it is as a name
pub returns-then-is_name : goal.returns-then-is_name
returns-then-is_name c =
    let word = c.args.word.now in
    let named = sym c.is_name.ensures ∙ c.if-is_name.true in
    let text : (if is_utf8 word then Some word else None) ≡ name_in word = rw (is_utf8-name word named, named) refl in
    subst (λ (found : Option (List ℕ)). IfOk c.text_of.result (λ (x : Option (List ℕ)). x ≡ found)) text c.text_of.ensures
