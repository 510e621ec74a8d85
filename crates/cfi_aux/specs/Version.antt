-- The versions of records: the word of each, with which its section begins, which nodes its functions and branches
-- may name, and which branches it has.
use Rattle.std.specs.Prelude.{ℕ, Bool, true, false, ◌==◌, ◌&&◌, nat_lt, if◌then◌else◌, List, length, Option, Some, None}
use Rattle.std.specs.List.{list_any}
use Rattle.cfi_type_table.specs.declared.kind.TheConstants.{FUNC}
use Rattle.cfi_type_table.specs.Kind.{is_callable}
use Rattle.cfi_type_table.specs.Node.{Node, node_of}
use Rattle.cfi_aux.specs.declared.format.TheConstants.{SWITCH, IMPORT}
use Rattle.cfi_aux.specs.declared.records.Kind.{Kind}
use Rattle.cfi_aux.specs.declared.records.Kind.TheVariants.{Call, Tail, Return, Switch, Import}
use Rattle.cfi_aux.specs.declared.version.RecordVersion.{RecordVersion}
use Rattle.cfi_aux.specs.declared.version.RecordVersion.TheVariants.{One, Two, Three}

-- the word of a version
abbrev pub version_word : RecordVersion → ℕ
version_word One = 1
version_word Two = 2
version_word Three = 3

-- the version of a word
abbrev pub version_of : (word : ℕ) → Option RecordVersion
version_of word =
    if word == version_word One then Some One
    else (if word == version_word Two then Some Two
    else (if word == version_word Three then Some Three else None))

-- the number of a node that is there and is the type of a function with fixed arguments
abbrev pub is_func : (types : List Node) → ℕ → Bool
is_func types n = nat_lt n (length types) && (node_of types n).kind == FUNC

-- the number of a node that may be the type of a function or a branch, in a version
abbrev pub is_type : RecordVersion → (types : List Node) → ℕ → Bool
is_type One types n = is_func types n
is_type Two types n = is_callable types n
is_type Three types n = is_callable types n

-- the greatest kind of a branch, in a version: imports are in the third alone
abbrev pub last_kind : RecordVersion → ℕ
last_kind One = SWITCH
last_kind Two = SWITCH
last_kind Three = IMPORT

-- the branch is an import
abbrev pub is_import : Kind → Bool
is_import (Import name cell) = true
is_import (Call node) = false
is_import (Tail node) = false
is_import Return = false
is_import (Switch places) = false

-- the version in which records with these branches are written: the third exactly where one is an import
abbrev pub version_for : List Kind → RecordVersion
version_for branches = if list_any is_import branches then Three else Two
