-- The symbol table of good sections links to a section that is there.
use Rattle.std.proofs.Common.{◌≡◌, true, sym, subst, arith}
use Rattle.std.proofs.lemmas.Bool.Decides.{nat_tests}
use Rattle.elf_read.specs.Section.{section_at, has_symbols, symbol_table}
use Rattle.elf_read.specs.Fault.{HasSections}
use Rattle.elf_read.proofs.SectionLemmas.{symbol_link-within}
use Rattle.elf_read.proofs.symbol_table.SymbolTable.new.Goals as goal

pub contents-names-requires : goal.contents-names-requires
contents-names-requires c =
    let bytes = c.sections.inside.file in
    let good : HasSections bytes = subst HasSections (sym c.sections.view_is) c.requires.sections in
    let some : has_symbols bytes ≡ true = grind (arith, nat_tests) in
    let within = symbol_link-within bytes good some in
    let is : c.section-link.result ≡ section_at bytes (symbol_table bytes) = cc in
    record { within = rw is within }
