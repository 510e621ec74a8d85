-- The entries and the length of the names, symbol by symbol.
use Rattle.std.proofs.Common.{refl, ◌∙◌, arith, append-nil}
use Rattle.elf_write.specs.Contents.{null_entry, name_table, entry_of}
use Rattle.elf_write.proofs.SymbolLemmas.{names_more, names_within, ended-above, entry_is, entries_more}
use Rattle.elf_write.proofs.contents.put_symbols.Goals as goal

pub loop-symbol-init : goal.loop-symbol-init
unfolding name_table
loop-symbol-init c =
    let none = append-nil null_entry in
    record { entries = rw none (c.in_ok-put_null_entry.ensures); named = refl }

pub overflow_cast-names : goal.overflow_cast-names
overflow_cast-names c =
    let all = names_within c.args.symbols.now c.loop-symbol.symbol-index c.symbol-item.result c.loop-symbol-test.true
    c.symbol-item.is in
    omega (arith, all)

pub ended_len-names-requires : goal.ended_len-names-requires
ended_len-names-requires c =
    let all = names_within c.args.symbols.now c.loop-symbol.symbol-index c.symbol-item.result c.loop-symbol-test.true
    c.symbol-item.is in
    let name = ended-above c.symbol-item.result.name in
    record { small = omega (arith, all, name) }

pub overflow_add-names : goal.overflow_add-names
overflow_add-names c =
    let all = names_within c.args.symbols.now c.loop-symbol.symbol-index c.symbol-item.result c.loop-symbol-test.true
    c.symbol-item.is in
    omega (arith, all)

-- this turn's entry and name
pub loop-symbol-preserved : goal.loop-symbol-preserved
loop-symbol-preserved c =
    let symbols = c.args.symbols.now in
    let k = c.loop-symbol.symbol-index in
    let symbol = c.symbol-item.result in
    let entry = entry_is symbols k c.loop-symbol.names c.place_after.result symbol c.loop-symbol-test.true
    c.symbol-item.is c.loop-symbol.invariant.named c.place_after.ensures in
    let next = names_more symbols k symbol c.loop-symbol-test.true c.symbol-item.is in
    record {
      entries = c.in_ok-put_symbol.ensures
          ∙ entries_more (entry_of symbols) k c.args.out.now.items null_entry c.loop-symbol.out.items _
          c.loop-symbol.invariant.entries entry;
      named = omega (arith, next);
    }
