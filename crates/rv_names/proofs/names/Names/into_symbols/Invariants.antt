use Rattle.std.proofs.Common.{◌≡◌, ◌++◌, map}
use Rattle.rv_names.specs.Names.{symbol_of}
use Rattle.rv_names.proofs.names.Names.into_symbols.Given as goal

-- the symbols so far stand before those that are left
abbrev pub invariant-loop-entry : goal.invariant-loop-entry
invariant-loop-entry l = l.symbols.items ++ map symbol_of l.entry-iterator.rest.items ≡ map symbol_of l.fn.self
