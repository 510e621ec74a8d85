-- Tests of indirect jumps and their records.
use Rattle.std.specs.Prelude.{ℕ, ◌*◌, Bool, true, false, not, ◌&&◌, List, Option, Some, None, if◌then◌else◌}
use Rattle.std.specs.List.{list_any, slice_get}
use Rattle.cfi_aux.specs.declared.records.Function.{Function}
use Rattle.cfi_aux.specs.declared.records.Kind.{Kind}
use Rattle.cfi_aux.specs.declared.records.Kind.TheVariants as kinds
use Rattle.cfi_instr.specs.Words.{Words, insn_at}
use Rattle.cfi_instr.specs.Insns.{is_linked}
use Rattle.cfi_values.specs.Some.{holds}
use Rattle.cfi_instr.specs.Items.{is_indirect}
use Rattle.cfi_instr.specs.inner.Functions.{is_own_item}

-- the branch is a call by a pointer
abbrev pub is_call : Kind → Bool
is_call (kinds.Call node) = true
is_call (kinds.Tail node) = false
is_call kinds.Return = false
is_call (kinds.Switch entries) = false
is_call (kinds.Import name cell) = false

-- both tests have one answer
abbrev pub same : Bool → Bool → Bool
same a b = if a then b else not b

-- there is a record, and it is one of a call exactly where the jump links
abbrev pub has_fitting_kind : (linked : Bool) → Option Kind → Bool
has_fitting_kind linked None = false
has_fitting_kind linked (Some kind) = same (is_call kind) linked

-- the indirect jump at the word, which is the one of this number, has no fitting record
abbrev pub lacks_kind_by : Words → List Kind → (w number : ℕ) → Bool
lacks_kind_by t branches w number =
    is_indirect t w && not (has_fitting_kind (holds is_linked (insn_at t w)) (slice_get branches number))

-- an entry is no item of the function that has the jump
abbrev pub lead_out : Words → List Function → (at : ℕ) → (entries : List ℕ) → Bool
lead_out t functions at entries = list_any (λ entry. not (is_own_item t functions at entry)) entries

-- a switch has such an entry
abbrev pub switches_astray : Words → List Function → (at : ℕ) → Kind → Bool
switches_astray t functions at (kinds.Switch entries) = lead_out t functions at entries
switches_astray t functions at (kinds.Call node) = false
switches_astray t functions at (kinds.Tail node) = false
switches_astray t functions at kinds.Return = false
switches_astray t functions at (kinds.Import name cell) = false

-- a branch is a switch with an entry elsewhere
abbrev pub switches_astray_by : Words → List Function → (at : ℕ) → Option Kind → Bool
switches_astray_by t functions at None = false
switches_astray_by t functions at (Some kind) = switches_astray t functions at kind

-- the record of the indirect jump at the word, which is the one of this number, has such an entry
abbrev pub has_bad_switch_by : Words → List Function → List Kind → (w number : ℕ) → Bool
has_bad_switch_by t functions branches w number =
    is_indirect t w && switches_astray_by t functions (4 * w) (slice_get branches number)
