-- Names that branches import, for which functions are looked for.
use Rattle.std.specs.Prelude.{◌≡◌, ℕ, Bool, ◌&&◌, List, Some, IsTrue}
use Rattle.std.specs.List.{Contains}
use Rattle.std.specs.BTreeSet.{contains_by}
use Rattle.std.specs.Cmp.Lexicographic.{slice_cmp}
use Rattle.std.specs.Ordering.{nat_cmp}
use Rattle.cfi_aux.specs.declared.records.Kind.{Kind}
use Rattle.cfi_aux.specs.declared.records.Kind.TheVariants.{Import}
use Rattle.cfi_graph.specs.declared.names.Names.{Names}
use Rattle.cfi_graph.specs.Facts.{ByName}
use Rattle.cfi_graph.specs.inner.Marks.{has_mark}

-- whether the name is one of these: its mark is there, and it is
unfoldable pub has_name : Names → (name : List ℕ) → Bool
has_name names name =
    has_mark names.marks name && contains_by (λ key. slice_cmp nat_cmp name key.now) names.names

-- a name that leads somewhere has one of the marks
abbrev pub AreMarked : List Bool → ByName → Type 0
AreMarked marks own = (name : List ℕ) (address : ℕ) → own name ≡ Some address → IsTrue (has_mark marks name)

-- the new names are the old ones and more
abbrev pub Keeps : (old new : Names) → Type 0
Keeps old new = (name : List ℕ) → IsTrue (has_name old name) → IsTrue (has_name new name)

-- the names that the branches import are among these
abbrev pub HasImports : Names → List Kind → Type 0
HasImports names branches =
    (name : List ℕ) (cell : ℕ) → Contains branches (Import name cell) → IsTrue (has_name names name)

-- those that own functions have are
abbrev pub HasMet : Names → (own : ByName) → List Kind → Type 0
HasMet names own branches = (name : List ℕ) (cell address : ℕ) → Contains branches (Import name cell)
    → own name ≡ Some address → IsTrue (has_name names name)
