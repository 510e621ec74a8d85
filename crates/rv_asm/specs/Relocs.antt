-- The relocations of a statement, in the order of their fields.
use Rattle.std.specs.Prelude.{ℕ, ◌+◌, ◌&&◌, pos, List, [], ◌∷◌, if◌then◌else◌, Option, Some, None, is_some}
use Rattle.elf_read.specs.declared.object.Area.{Area}
use Rattle.elf_read.specs.declared.object.Area.TheVariants as areas
use Rattle.elf_read.specs.declared.object.Reloc.{Reloc}
use Rattle.elf_read.specs.declared.relocation.TheConstants as relocs
use Rattle.rv_line.specs.declared.statement.Statement.{Statement}
use Rattle.rv_line.specs.declared.statement.Statement.TheVariants as statements
use Rattle.rv_names.specs.declared.names.Entry.{Entry}
use Rattle.rv_asm.specs.declared.spot.Spot.{Spot}
use Rattle.rv_names.specs.Names.{number_in, text_value}
use Rattle.rv_asm.specs.Reference.{reference_of, is_leap}
use Rattle.rv_asm.specs.Spot.{pair_label, end_of}

-- a relocation by a name
abbrev pub reloc_by : (table : List Entry) → Area → (offset kind : ℕ) → (name : List ℕ) → Reloc
reloc_by table area offset kind name =
    record { area = area; offset = offset; kind = kind; symbol = number_in table name; addend = pos 0 }

-- the one of the name that a statement refers to; a jump or a branch to a name that the text has has none
abbrev pub first_reloc : (table : List Entry) → Spot → Option (ℕ × List ℕ) → Option Reloc
first_reloc table spot None = None
first_reloc table spot (Some reference) =
    if is_leap reference.0 && is_some (text_value table reference.1) then None
    else Some (reloc_by table spot.area (end_of spot) reference.0 reference.1)

-- the second one of `la`, by the label of its first instruction
abbrev pub second_reloc : (table : List Entry) → Spot → Statement → Option Reloc
second_reloc table spot (statements.La rd name) =
    Some (reloc_by table areas.Text (spot.text_end + 4) relocs.PCREL_LO12_I (pair_label spot.pairs))
second_reloc table spot statement = None

-- what is there of two
abbrev pub both : Option Reloc → Option Reloc → List Reloc
both None None = []
both None (Some second) = second ∷ []
both (Some first) None = first ∷ []
both (Some first) (Some second) = first ∷ second ∷ []

-- the relocations of a statement where it stands: one of its reference, and the second of a pair
abbrev pub relocs_of : (table : List Entry) → Spot → Statement → List Reloc
relocs_of table spot statement =
    both (first_reloc table spot (reference_of statement)) (second_reloc table spot statement)
