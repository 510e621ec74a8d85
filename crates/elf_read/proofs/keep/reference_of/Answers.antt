-- The symbol of a good relocation is there.
use Rattle.std.proofs.Common.{◌≡◌, ◌≢◌, false, ◌==◌, Some, ap, arith}
use Rattle.std.proofs.lemmas.Bool.{ne_eqb}
use Rattle.elf_read.specs.Relocation.{rela_at, symbol_index}
use Rattle.elf_read.specs.Object.{reference_of}
use Rattle.elf_read.proofs.KeepLemmas.{reference_there, symbol_number-le}
use Rattle.elf_read.proofs.keep.reference_of.Goals as goal

pub bounds-numbers-symbol : goal.bounds-numbers-symbol
bounds-numbers-symbol c =
    let bytes = c.args.table.now in
    let symbol : c.symbol_index-symbol.result ≡ symbol_index (rela_at bytes c.args.s c.args.i) =
    rw (← c.rela_at.ensures) c.symbol_index-symbol.ensures in
    let some : symbol_index (rela_at bytes c.args.s c.args.i) ≢ 0 = rw (← symbol) c.if-symbol-eq0.false in
    let there = reference_there bytes c.args.s c.args.i c.requires.sound c.requires.within c.requires.entry some in
    omega (arith, symbol, there, c.requires.numbers.len)

pub overflow_cast-result : goal.overflow_cast-result
overflow_cast-result c =
    let bytes = c.args.table.now in
    let symbol : c.symbol_index-symbol.result ≡ symbol_index (rela_at bytes c.args.s c.args.i) =
    rw (← c.rela_at.ensures) c.symbol_index-symbol.ensures in
    let some : symbol_index (rela_at bytes c.args.s c.args.i) ≢ 0 = rw (← symbol) c.if-symbol-eq0.false in
    let there = reference_there bytes c.args.s c.args.i c.requires.sound c.requires.within c.requires.entry some in
    let number = c.requires.numbers.each c.symbol_index-symbol.result (omega (arith, symbol, there)) in
    let small = symbol_number-le bytes c.symbol_index-symbol.result in
    omega (arith, number, small)

pub returns : goal.returns
unfolding reference_of
returns c =
    let bytes = c.args.table.now in
    let symbol : c.symbol_index-symbol.result ≡ symbol_index (rela_at bytes c.args.s c.args.i) =
    rw (← c.rela_at.ensures) c.symbol_index-symbol.ensures in
    let some : symbol_index (rela_at bytes c.args.s c.args.i) ≢ 0 = rw (← symbol) c.if-symbol-eq0.false in
    let there = reference_there bytes c.args.s c.args.i c.requires.sound c.requires.within c.requires.entry some in
    let number = c.requires.numbers.each c.symbol_index-symbol.result (omega (arith, symbol, there)) in
    let named : (symbol_index (rela_at bytes c.args.s c.args.i) == 0) ≡ false = ne_eqb _ _ some in
    rw (named, ← symbol) (ap Some number)
