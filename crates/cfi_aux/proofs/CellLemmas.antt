-- Cells of branches that fit, where the length of the data is known or not.
use Rattle.std.proofs.Common.{◌≡◌, ℕ, Bool, IsTrue, List, [], ◌∷◌, Option, Some, None, refl}
use Rattle.std.specs.List.{list_all, AllByRecursion}
use Rattle.std.proofs.lemmas.Bool.{and_parts, and_from}
use Rattle.cfi_type_table.specs.Node.{Node}
use Rattle.cfi_aux.specs.declared.records.Records.{Records}
use Rattle.cfi_aux.specs.declared.records.Kind.{Kind}
use Rattle.cfi_aux.specs.declared.records.Kind.TheVariants.{Call, Tail, Return, Switch, Import}
use Rattle.cfi_aux.specs.declared.version.RecordVersion.{RecordVersion}
use Rattle.cfi_aux.specs.Records.{IsBranchIn, AreRecordsIn}
use Rattle.cfi_aux.specs.Cells.{has_cell, have_cells}
use Rattle.cfi_aux.proofs.Bodies.{fits_cell}
use Rattle.cfi_aux.proofs.Branches.{IsBranchOf}

-- the cells of all branches fit
abbrev pub fit_cells : (size : Option ℕ) → List Kind → Bool
fit_cells size branches = list_all (fits_cell size) branches

pub branches_parts : (version : RecordVersion) (types : List Node) (size : Option ℕ) (bs : List Kind)
    → AllByRecursion (IsBranchOf version types size) bs
    → AllByRecursion (IsBranchIn version types) bs × IsTrue (fit_cells size bs)
branches_parts version types size [] h = (tt, refl)
branches_parts version types size (b ∷ bs) h =
    let others = branches_parts version types size bs h.1 in
    ((h.0.is, others.0), and_from (fits_cell size b) (fit_cells size bs) h.0.cell others.1)

pub branches_whole : (version : RecordVersion) (types : List Node) (size : Option ℕ) (bs : List Kind)
    → AllByRecursion (IsBranchIn version types) bs → IsTrue (fit_cells size bs)
    → AllByRecursion (IsBranchOf version types size) bs
branches_whole version types size [] h cells = tt
branches_whole version types size (b ∷ bs) h cells =
    let both = and_parts (fits_cell size b) (fit_cells size bs) cells in
    (record { is = h.0; cell = both.0 }, branches_whole version types size bs h.1 both.1)

-- where the length of the data is not known, the cells of records fit
any_cell : (version : RecordVersion) (types : List Node) (b : Kind) → IsBranchIn version types b
    → IsTrue (fits_cell None b)
any_cell version types (Call node) h = refl
any_cell version types (Tail node) h = refl
any_cell version types Return h = refl
any_cell version types (Switch places) h = refl
any_cell version types (Import name cell) h = h.words.0.1

pub any_cells : (version : RecordVersion) (types : List Node) (bs : List Kind)
    → AllByRecursion (IsBranchIn version types) bs → IsTrue (fit_cells None bs)
any_cells version types [] h = refl
any_cells version types (b ∷ bs) h =
    and_from (fits_cell None b) (fit_cells None bs) (any_cell version types b h.0) (any_cells version types bs h.1)

-- where it is known, they are cells of the data
same_cell : (size : ℕ) (b : Kind) → fits_cell (Some size) b ≡ has_cell size b
same_cell size (Call node) = refl
same_cell size (Tail node) = refl
same_cell size Return = refl
same_cell size (Switch places) = refl
same_cell size (Import name cell) = refl

pub same_cells : (size : ℕ) (bs : List Kind) → fit_cells (Some size) bs ≡ have_cells size bs
same_cells size [] = refl
same_cells size (b ∷ bs) = rw (same_cell size b, same_cells size bs) refl

-- records of a version whose cells fit
abbrev pub AreRecordsOf : (version : RecordVersion) (types : List Node) (size : Option ℕ) → Records → Type 0
AreRecordsOf version types size r = AreRecordsIn version types r × IsTrue (fit_cells size r.branches)
