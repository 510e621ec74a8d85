use Rattle.std.proofs.Common.{rules, tests, arith}
use Rattle.std.proofs.lemmas.Grind.{common_steps}
use Rattle.std.proofs.lemmas.Bool.Decides.{nat_tests}
use Rattle.rv_guest.proofs.guest.Guest.jalr.Goals as goal

-- a jump through another register than x31 ends no check
pub returns-else-f-eq31-clause-state : goal.returns-else-f-eq31-clause-state
returns-else-f-eq31-clause-state c = first_of (search (tests, rules), grind (arith, common_steps, nat_tests))
