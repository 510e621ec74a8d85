use Rattle.std.proofs.Common.{rules, ◌≡◌, ◌<◌, ◌^◌, IfSome}
use Rattle.cfi_text.specs.Decimal.{IsDecimal, number_in}
use Rattle.cfi_request.specs.inner.Drawing.{command_by, count_in}
use Rattle.cfi_request.proofs.CommandLemmas.{gen_reading}
use Rattle.cfi_request.proofs.drawing.drawing.Goals as goal

-- the words are the command that they say
pub returns : goal.returns
returns c =
    let seed = c.args.seed.now in
    let count = c.args.count.now in
    let fits : IfSome (number_in seed) (λ n. n < 2 ^ 64) = search rules in
    let is : IfSome (number_in seed) (λ n. IsDecimal seed n) = search rules in
    let same : c.drawn.result ≡ command_by (number_in seed) (count_in count) = search rules in
    record { reading = gen_reading seed count c.drawn.result c.requires.operands fits is same }
