-- A symbol that breaks no rule alone is well named, and breaks one where it defines a name again.
use Rattle.std.proofs.Common.{◌≡◌, false}
use Rattle.elf_read.specs.inner.Alone.{is_bad_alone}
use Rattle.elf_read.proofs.SymbolLemmas.{good_alone}
use Rattle.elf_read.proofs.bad_symbol.is_bad_symbol.Goals as goal

pub defines_again-requires-clause-named : goal.defines_again-requires-clause-named
defines_again-requires-clause-named c =
    let good : is_bad_alone c.args.table.now c.args.k ≡ false = cc in
    (good_alone _ _ good).name
