use Rattle.std.proofs.Common.{ℕ, ◌≡◌, List, is_some}
use Rattle.std.specs.BTreeMap.{get_by}
use Rattle.std.specs.Cmp.Lexicographic.{slice_cmp}
use Rattle.std.specs.Ordering.{nat_cmp}
use Rattle.elf_read.specs.Places.{IsNone, some_below}
use Rattle.elf_read.specs.Symbol.{is_bad_symbol, defines}
use Rattle.elf_read.proofs.bad_symbol.check_symbols.Given as goal

abbrev pub invariant-loop-k : goal.invariant-loop-k
invariant-loop-k l =
    IsNone (is_bad_symbol l.table) l.k
    × ((q : List ℕ) → is_some (get_by (λ key. slice_cmp nat_cmp q key.now) l.defined)
    ≡ some_below (defines l.table q) l.k)
