use Rattle.std.proofs.Common.{◌≡◌, ℕ, length, take, false}
use Rattle.std.specs.List.{slice_index_or, list_any}
use Rattle.elf_read.specs.Places.{IsNone}
use Rattle.elf_read.specs.declared.object.Symbol.{Symbol}
use Rattle.elf_read.specs.declared.object.Reloc.{Reloc}
use Rattle.cfi_aux.specs.declared.records.Function.{Function}
use Rattle.std.proofs.Common.{List, Bool}
use Rattle.cfi_instr.specs.Words.{Words, count_of}
use Rattle.cfi_instr.specs.inner.Misplaced.{is_on}
use Rattle.cfi_instr.proofs.source.Source.first_misplaced.Given as goal
use Rattle.cfi_instr.proofs.RelocLemmas.{is_out_of_place}

-- none of the first k relocations is misplaced, and the items that they are on are marked
pub record AreSeen (t : Words) (symbols : List Symbol) (functions : List Function) (relocs : List Reloc) (k : ℕ)
    (marked : List Bool) : Type 0 where
  pub none : IsNone (is_out_of_place t symbols functions relocs) k
  pub size : length marked ≡ count_of t
  pub marks : (w : ℕ) → slice_index_or marked w false ≡ list_any (is_on t w) (take k relocs)

abbrev pub invariant-loop-k : goal.invariant-loop-k
invariant-loop-k l = AreSeen l.self l.symbols l.functions l.relocs l.k l.marked.items
