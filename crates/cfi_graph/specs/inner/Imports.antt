-- The addresses of the map of names.
use Rattle.std.specs.BTreeMap.{get_by}
use Rattle.std.specs.Cmp.Lexicographic.{slice_cmp}
use Rattle.std.specs.Ordering.{nat_cmp}
use Rattle.cfi_graph.specs.declared.imports.Imports.{Imports}
use Rattle.cfi_graph.specs.Facts.{ByName}

-- the addresses of the map
unfoldable pub imports_in : Imports → ByName
imports_in map name = get_by (λ key. slice_cmp nat_cmp name key.now) map.entries
