use Rattle.std.proofs.Common.{◌≡◌, ◌++◌, take, length, ℕ, List}
use Rattle.elf_read.specs.Places.{joined}
use Rattle.elf_read.specs.declared.object.Symbol.{Symbol}
use Rattle.elf_write.specs.Contents.{null_entry, name_table, entry_of}
use Rattle.elf_write.proofs.contents.put_symbols.Given as goal

-- the entries of the first symbols, and the length of their names
pub record AreEntries (symbols : List Symbol) (old out : List ℕ) (k names : ℕ) : Type 0 where
  pub entries : out ≡ old ++ (null_entry ++ joined (entry_of symbols) k)
  pub named : names ≡ length (name_table (take k symbols))

abbrev pub invariant-loop-symbol : goal.invariant-loop-symbol
invariant-loop-symbol l = AreEntries l.symbols l.fn.out.items l.out.items l.symbol-index l.names
