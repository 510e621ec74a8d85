use Rattle.std.proofs.Common.{◌≡◌, Some, None, if◌then◌else◌, arith}
use Rattle.std.proofs.lemmas.Map.Text.{text_keys}
use Rattle.std.specs.BTreeMap.{get_by_text}
use Rattle.std.specs.Str.{bytes_eq}
use Rattle.rv_names.proofs.NamesLemmas.{given}
use Rattle.rv_names.proofs.names.give_number.Goals as goal

pub returns-clause-ok : goal.returns-clause-ok
returns-clause-ok c = λ other.
    let inserted : get_by_text c.insert.new.self other
    ≡ (if bytes_eq c.args.name.now other then Some c.args.number else get_by_text c.args.numbers.now other)
    = grind (arith, text_keys) in
    let missing : get_by_text c.args.numbers.now c.args.name.now ≡ None = grind (arith, text_keys) in
    given (λ q. get_by_text c.args.numbers.now q) (λ q. get_by_text c.insert.new.self q) c.args.name.now other
    c.args.number missing inserted
