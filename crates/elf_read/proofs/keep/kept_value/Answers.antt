-- A value in a section is within the joined text or data.
use Rattle.std.proofs.Common.{◌≡◌, true, sym, ◌∙◌, arith}
use Rattle.elf_read.specs.Symbol.{symbol_at, is_in_section}
use Rattle.elf_read.proofs.KeepLemmas.{value_read}
use Rattle.elf_read.proofs.keep.kept_value.Goals as goal

pub overflow_add-result : goal.overflow_add-result
overflow_add-result c =
    let inside : is_in_section c.args.table.now (symbol_at c.args.table.now c.args.k) ≡ true =
    sym c.is_in_section.ensures ∙ c.if-not-is_in_section.false in
    let small =
    value_read c.args.table.now c.args.layout.now _ c.args.k _ c.requires.sound c.requires.layout c.requires.within
    c.requires.kept inside c.symbol-entry.ensures c.index-start.ensures in
    omega (arith, small)

pub overflow_cast-result-2 : goal.overflow_cast-result-2
overflow_cast-result-2 c =
    let inside : is_in_section c.args.table.now (symbol_at c.args.table.now c.args.k) ≡ true =
    sym c.is_in_section.ensures ∙ c.if-not-is_in_section.false in
    let small =
    value_read c.args.table.now c.args.layout.now _ c.args.k _ c.requires.sound c.requires.layout c.requires.within
    c.requires.kept inside c.symbol-entry.ensures c.index-start.ensures in
    omega (arith, small)
