-- Relocations in order, with the items that earlier ones are on.
use Rattle.std.proofs.Common.{◌≡◌, ℕ, ◌/◌, ◌<◌, Bool, false, not, List, length, take, get_or, Option, Some, None, true, sym, ap, ◌∙◌}
use Rattle.std.specs.List.{list_any, slice_get, slice_index_or}
use Rattle.std.proofs.lemmas.Option.{slice_get-get_or}
use Rattle.elf_read.specs.declared.object.Symbol.{Symbol}
use Rattle.elf_read.specs.declared.object.Reloc.{Reloc}
use Rattle.cfi_aux.specs.declared.records.Function.{Function}
use Rattle.cfi_instr.specs.Words.{Words}
use Rattle.cfi_instr.specs.Items.{item_of}
use Rattle.cfi_instr.specs.inner.Misplaced.{is_on, is_placed_by}

-- a relocation after those before it
abbrev pub is_placed : Words → List Symbol → List Function → (earlier : List Reloc) → Option Reloc → Bool
is_placed t symbols functions earlier None = true
is_placed t symbols functions earlier (Some reloc) =
    is_placed_by t symbols functions (list_any (is_on t (item_of t (reloc.offset / 4))) earlier) reloc

-- relocation k is out of its place
abbrev pub is_out_of_place : Words → List Symbol → List Function → List Reloc → (k : ℕ) → Bool
is_out_of_place t symbols functions relocs k =
    not (is_placed t symbols functions (take k relocs) (slice_get relocs k))

-- relocation k is misplaced exactly where it is not well placed after the marks of those before it
pub misplaced-here : (t : Words) (symbols : List Symbol) (functions : List Function) (relocs : List Reloc) (k : ℕ)
    (d : Reloc) (marked : List Bool) (placed : Bool) → k < length relocs
    → ((w : ℕ) → slice_index_or marked w false ≡ list_any (is_on t w) (take k relocs))
    → placed ≡ is_placed_by t symbols functions
    (slice_index_or marked (item_of t ((get_or relocs k d).offset / 4)) false) (get_or relocs k d)
    → is_out_of_place t symbols functions relocs k ≡ not placed
misplaced-here t symbols functions relocs k d marked placed lt marks is =
    let reloc = get_or relocs k d in
    let here : slice_get relocs k ≡ Some reloc = slice_get-get_or relocs k d lt in
    let mark = marks (item_of t (reloc.offset / 4)) in
    let by : is_placed_by t symbols functions (list_any (is_on t (item_of t (reloc.offset / 4))) (take k relocs)) reloc
    ≡ placed = ap (λ (b : Bool). is_placed_by t symbols functions b reloc) (sym mark) ∙ sym is in
    ap (λ (b : Bool). not b) (ap (is_placed t symbols functions (take k relocs)) here ∙ by)
