use Rattle.std.proofs.Common.{IfSome, rules}
use Rattle.cfi_report.proofs.WordLemmas.{address_in-is, IsSmall}
use Rattle.cfi_report.proofs.words.address.Goals as goal

pub returns : goal.returns
returns c =
    let small : IfSome c.read_hex8.result IsSmall = search (rules, c.read_hex8.type_inv) in
    address_in-is c.args.word.now c.read_hex8.result small c.read_hex8.ensures.some c.read_hex8.ensures.only
