-- Where no symbol is undefined, no name is looked up.
use Rattle.std.proofs.Common.{◌∙◌, sym}
use Rattle.cfi_place.specs.Names.{find_in, first_in}
use Rattle.cfi_place.proofs.WantedLemmas.{values_alike}
use Rattle.cfi_place.proofs.value.wanted_addresses.Goals as goal

pub returns : goal.returns
returns c = λ room names.
    values_alike c.args.symbols.now room (find_in c.new.result) (first_in c.args.exports.now) names
    (sym c.some_undefined.ensures ∙ c.if-some_undefined.false)
