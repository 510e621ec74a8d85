use Rattle.std.proofs.Common.{◌≡◌, ◌++◌, take}
use Rattle.cfi_tables.proofs.blank.push_code.Given as goal

abbrev pub invariant-loop-instruction : goal.invariant-loop-instruction
invariant-loop-instruction l = l.words.items ≡ l.fn.words.items ++ take l.instruction-index l.code
