use Rattle.std.proofs.Common.{arith}
use Rattle.std.proofs.lemmas.Bool.Decides.{nat_tests}
use Rattle.std.proofs.lemmas.List.Sums.{prefix_len-le-length}
use Rattle.cfi_text.proofs.lines.place_of.Goals as goal

pub returns-clause-place : goal.returns-clause-place
returns-clause-place c = grind (arith, nat_tests, prefix_len-le-length)
