-- Joined modules that break no rule, and why they make no module.
use Rattle.std.specs.Prelude.{◌≡◌, ◌%◌, ◌<◌, ◌^◌, IsTrue, length, map, All, Some, None, Err, ⊤}
use Rattle.elf_read.specs.declared.object.Object.{Object}
use Rattle.cfi_type_table.specs.Spelling.{IsNode, NamesBelow}
use Rattle.cfi_aux.specs.Records.{list_length}
use Rattle.cfi_aux.specs.Cells.{have_cells}
use Rattle.elf_read.specs.Sound.{IsSoundSymbol, IsSoundReloc}
use Rattle.cfi_link.specs.declared.fault.LinkFault.{LinkFault}
use Rattle.cfi_link.specs.declared.fault.LinkFault.TheVariants as faults
use Rattle.cfi_link.specs.Joined.{Joined}
use Rattle.cfi_link.specs.Chosen.{twice_in}
use Rattle.cfi_link.specs.Fault.{relocated_by}

-- the object of joined modules, of which nothing is changed yet
abbrev pub object_of : Joined → Object
object_of joined = record {
  text = joined.text;
  static_data = joined.static_data;
  symbols = joined.symbols;
  relocs = map (λ own. own.reloc) joined.relocs;
  types = None;
  records = None;
}

-- what each of the modules has breaks no rule
pub record AreSound (joined : Joined) : Type 0 where
  pub words : length joined.text % 4 ≡ 0
  pub symbols : All (IsSoundSymbol (object_of joined)) joined.symbols
  pub relocs : All (λ own. IsSoundReloc (object_of joined) own.reloc) joined.relocs
  pub nodes : All IsNode joined.types
  pub names : All (NamesBelow (length joined.types)) joined.types
  pub functions : All (λ f. length f.name < 2 ^ 32) joined.functions
  pub branches : All (λ b. list_length b < 2 ^ 32) joined.branches
  pub cells : IsTrue (have_cells (length joined.static_data) joined.branches)

-- a refusal for a name or a relocation, unless memory ran out
abbrev pub IsMakeFault : Joined → LinkFault → Type 0
IsMakeFault joined (faults.Twice name) = twice_in joined.symbols ≡ Some name
IsMakeFault joined (faults.BadReloc number k) =
    (twice_in joined.symbols ≡ None) × (relocated_by joined ≡ Err (faults.BadReloc number k))
IsMakeFault joined faults.Memory = ⊤
IsMakeFault joined fault = ⊥
