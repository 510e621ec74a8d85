use Rattle.cfi_text.proofs.DecimalLemmas.{IsDecimal-dec_text}
use Rattle.cfi_text.proofs.decimal.put_dec.Goals as goal

pub returns-clause-spelled : goal.returns-clause-spelled
returns-clause-spelled c = IsDecimal-dec_text c.args.value c.ranges.value.fits
