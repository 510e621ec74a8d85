use Rattle.std.proofs.Common.{◌≡◌, ℕ, List, ◌<◌, length, take, Option, None}
use Rattle.std.specs.List.{slice_index_or}
use Rattle.elf_read.specs.declared.object.Reloc.{Reloc}
use Rattle.cfi_instr.specs.Words.{first_on}
use Rattle.cfi_instr.proofs.source.firsts_on.Given as goal
use Rattle.std.proofs.Common.{Bool}

-- the table has, for each word, the first of the relocations so far
pub record HasFirsts (calling : Bool) (relocs : List Reloc) (count : ℕ) (table : List (Option Reloc)) : Type 0 where
  pub size : length table ≡ count
  pub each : (w : ℕ) → w < count → slice_index_or table w None ≡ first_on calling relocs w

abbrev pub invariant-loop-reloc : goal.invariant-loop-reloc
invariant-loop-reloc l = HasFirsts l.calling (take l.reloc-index l.relocs) l.count l.table.items
