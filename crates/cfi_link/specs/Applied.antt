-- Which relocations are applied when modules are joined: those of branches and jumps in text that lead to a place in
-- the joined text (RISC-V ELF psABI, "Relocations"). All others are kept.
use Rattle.std.specs.Prelude.{ℕ, Bool, true, false, not, ◌==◌, ◌||◌, ◌&&◌, if◌then◌else◌, List, [], ◌∷◌, ◌++◌, map, filter, slice_index, Option, Some, None, is_none, option_map, option_and_then, Result, Ok, Err}
use Rattle.std.specs.List.{slice_get}
use Rattle.elf_read.specs.declared.object.Reloc.{Reloc}
use Rattle.elf_read.specs.declared.object.Area.{Area}
use Rattle.elf_read.specs.declared.object.Area.TheVariants as areas
use Rattle.elf_read.specs.declared.relocation.TheConstants.{BRANCH, JAL}
use Rattle.rv_reloc.specs.declared.fault.RelocFault.{RelocFault}
use Rattle.rv_reloc.specs.Applied.{applied}
use Rattle.cfi_link.specs.declared.fault.LinkFault.{LinkFault}
use Rattle.cfi_link.specs.declared.fault.LinkFault.TheVariants.{BadReloc}
use Rattle.cfi_link.specs.declared.joined.OwnReloc.{OwnReloc}

-- relocations of the area change the text
abbrev pub is_in_text : Area → Bool
is_in_text areas.Text = true
is_in_text areas.Data = false

-- the relocation is that of a branch or of a jump
abbrev pub is_jump : Reloc → Bool
is_jump reloc = is_in_text reloc.area && (reloc.kind == BRANCH || reloc.kind == JAL)

-- where its symbol leads in the text, by the list of where symbols lead
abbrev pub reach_of_symbol : List (Option ℕ) → (symbol : Option ℕ) → Option ℕ
reach_of_symbol reaches symbol =
    option_and_then (λ k. option_and_then (λ reach. reach) (slice_get reaches k)) symbol

-- the value that a relocation is applied with; none of one that is kept
abbrev pub target_of : List (Option ℕ) → Reloc → Option ℕ
target_of reaches reloc = if is_jump reloc then reach_of_symbol reaches reloc.symbol else None

-- a relocation at its place in the text, where it has a target
abbrev pub applied_to : (target : Option ℕ) → Reloc → List ℕ → Result (List ℕ) RelocFault
applied_to None reloc text = Ok text
applied_to (Some value) reloc text = applied reloc reloc.offset value None text

-- goes on with what a step gave, or refuses the relocation
abbrev pub or_bad : OwnReloc → Result (List ℕ) RelocFault → (List ℕ → Result (List ℕ) LinkFault)
    → Result (List ℕ) LinkFault
or_bad own (Ok text) next = next text
or_bad own (Err fault) next = Err (BadReloc own.owner own.number)

-- relocations, one after the other
unfoldable pub applied_from : List (Option ℕ) → List OwnReloc → (text : List ℕ) → Result (List ℕ) LinkFault
applied_from reaches [] text = Ok text
applied_from reaches (own ∷ relocs) text =
    or_bad own (applied_to (target_of reaches own.reloc) own.reloc text) (λ next. applied_from reaches relocs next)

-- ---- what is kept

-- a relocation by the new numbers of symbols
abbrev pub renumbered : (numbers : List ℕ) → Reloc → Reloc
renumbered numbers reloc = record reloc { symbol = option_map (λ k. slice_index numbers k) reloc.symbol }

-- it is not applied, since it leads nowhere in the joined text
abbrev pub is_kept : List (Option ℕ) → OwnReloc → Bool
is_kept reaches own = is_none (target_of reaches own.reloc)

-- those that are kept, with the numbers that their symbols get
abbrev pub kept_in : List (Option ℕ) → (numbers : List ℕ) → List OwnReloc → List Reloc
kept_in reaches numbers relocs = map (λ own. renumbered numbers own.reloc) (filter (is_kept reaches) relocs)

-- a relocation of this area
abbrev pub is_in : Area → Reloc → Bool
is_in areas.Text reloc = is_in_text reloc.area
is_in areas.Data reloc = not (is_in_text reloc.area)

-- those in text before those in data
abbrev pub by_area : List Reloc → List Reloc
by_area relocs = filter (is_in areas.Text) relocs ++ filter (is_in areas.Data) relocs
