-- The name is well formed where its end, its length and its bytes are.
use Rattle.std.proofs.Common.{◌≡◌, drop, sym, arith}
use Rattle.elf_read.specs.Symbol.{symbol_at, symbol_names}
use Rattle.elf_read.proofs.SymbolLemmas.{well_named}
use Rattle.elf_read.proofs.symbol_table.SymbolTable.name.Goals as goal

pub returns-clause-cases : goal.returns-clause-cases
returns-clause-cases c =
    let bytes = c.args.self.now in
    let from : c.rest.result.now ≡ drop (symbol_at bytes c.args.k).name (symbol_names bytes) = cc in
    sym (well_named bytes c.args.k _ _ from c.in_ok-stored.ensures.ends c.in_ok-stored.ensures.some (omega arith)
    c.in-Ok.ensures.cases.1)
