use Rattle.std.proofs.Common.{arith}
use Rattle.cfi_threads.proofs.tables.try_once.Goals as goal

pub fetch-instruction-requires-clause-word : goal.fetch-instruction-requires-clause-word
fetch-instruction-requires-clause-word g c = omega (arith, c.args.tables.now.size.least)
