use Rattle.std.proofs.Common.{length}
use Rattle.cfi_engine.proofs.script.make_rest.Given as goal

-- the calls that are left
abbrev pub decreases-loop : goal.decreases-loop
decreases-loop g l = length l.loader.left
