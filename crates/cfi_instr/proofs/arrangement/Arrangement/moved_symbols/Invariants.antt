use Rattle.std.proofs.Common.{◌≡◌, map, take}
use Rattle.cfi_instr.specs.Moves.{moved_symbol}
use Rattle.cfi_instr.proofs.arrangement.Arrangement.moved_symbols.Given as goal

abbrev pub invariant-loop-symbol : goal.invariant-loop-symbol
invariant-loop-symbol l =
    l.found.items ≡ map (moved_symbol l.self.source l.self.offsets) (take l.symbol-index l.symbol-items)
