-- A symbol that is neither undefined nor absolute is in a section.
use Rattle.std.proofs.Common.{◌≡◌, ◌≢◌}
use Rattle.elf_read.specs.Symbol.{symbol_at}
use Rattle.elf_read.proofs.KeepLemmas.{section_there}
use Rattle.elf_read.proofs.keep.kept_place.Goals as goal

pub is_text-requires : goal.is_text-requires
is_text-requires c =
    let bytes = c.args.table.now in
    let entry : c.symbol-section.result ≡ symbol_at bytes c.args.k = c.symbol-section.ensures in
    let defined : (symbol_at bytes c.args.k).section ≢ 0 = rw (← entry) c.if-section-eq-UNDEFINED.false in
    let relative : (symbol_at bytes c.args.k).section ≢ 0xfff1 = rw (← entry) c.if-section.false in
    let there = section_there bytes c.args.k c.requires.sound c.requires.within defined relative in
    record { within = rw entry there }
