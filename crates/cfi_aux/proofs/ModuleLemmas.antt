-- The parts of a module are read again, and what is read of an object is its module.
use Rattle.std.proofs.Common.{◌≡◌, ℕ, Bool, IsTrue, List, length, Option, Some, Result, Ok, Err, IfOk, refl, sym, ap, subst, ◌∙◌}
use Rattle.std.proofs.Props.{props}
use Rattle.elf_read.specs.declared.object.Object.{Object}
use Rattle.cfi_type_table.specs.Node.{Node}
use Rattle.cfi_type_table.specs.Spelling as spelled
use Rattle.cfi_type_table.proofs.Tables.{types_again}
use Rattle.cfi_aux.specs.declared.fault.AuxFault.{AuxFault}
use Rattle.cfi_aux.specs.declared.fault.AuxFault.TheVariants.{NoRecords, Types, Version, Short, BadRecord, Memory}
use Rattle.cfi_aux.specs.declared.modules.Module.{Module}
use Rattle.cfi_aux.specs.declared.records.Records.{Records}
use Rattle.cfi_aux.specs.Records.{spelling_in}
use Rattle.cfi_aux.specs.Cells.{have_cells}
use Rattle.cfi_aux.specs.Reading.{ReadingGives, ReadingFails}
use Rattle.cfi_aux.specs.Modules.{AreSpelled, IsModuleOf, parts_by, parts_in}
use Rattle.cfi_values.proofs.ThenLemmas.{ok_is}
use Rattle.cfi_aux.proofs.Whole.{records_again_within}

pub parts_again : (object : Object) (types : List Node) (records : Records) → AreSpelled object types records
    → parts_in object ≡ Ok (types, records)
parts_again object types records h =
    let size : ℕ = length object.static_data in
    let read : parts_by size (Some (spelled.spelling types)) (Some (spelling_in h.version records)) ≡ Ok (types, records) =
    rw (types_again types h.table, records_again_within types size h.version records h.good h.cells) refl in
    ap (λ (o : Option (List ℕ)). parts_by size o object.records) h.types_spelled
    ∙ ap (λ (o : Option (List ℕ)). parts_by size (Some (spelled.spelling types)) o) h.records_spelled ∙ read

-- a test that passes does so in one way
passes_once : (b : Bool) → IsProp (IsTrue b)
passes_once b = Prim.hlevel props

-- what a module is made of
abbrev Made : Type 0
Made = Object × (List Node × Records)

abbrev AreCells : Made → Type 0
AreCells made = IsTrue (have_cells (length made.0.static_data) made.1.1.branches)

abbrev made_module : (made : Made) → AreCells made → Module
made_module made cells = record { object = made.0; types = made.1.0; records = made.1.1; cells = cells }

made_once : (one other : Made) → one ≡ other → (cells : AreCells one) (cells' : AreCells other)
    → made_module one cells ≡ made_module other cells'
made_once one other same cells =
    subst (λ (y : Made). (cells' : AreCells y) → made_module one cells ≡ made_module y cells') same
    (λ cells'. ap (made_module one) (passes_once (have_cells (length one.0.static_data) one.1.1.branches) cells cells'))

-- modules are the same where they have the same object, types and records
pub same_module : (m n : Module) → m.object ≡ n.object → m.types ≡ n.types → m.records ≡ n.records → m ≡ n
same_module m n object types records =
    made_once (m.object, (m.types, m.records)) (n.object, (n.types, n.records))
    (λ i. (object i, (types i, records i))) m.cells n.cells

pub module_again : (object : Object) (m : Module) → IsModuleOf object m → parts_in object ≡ Ok (m.types, m.records)
module_again object m h = parts_again object m.types m.records h.parts

-- a success fails with no fault, whatever it is
none_fails : {X Y : Type 0} (e : AuxFault) (x : X) (y : Y) → ReadingFails e (Ok x) → ReadingFails e (Ok y)
none_fails Memory x y h = tt
none_fails NoRecords x y h = absurd cc
none_fails (Types fault) x y h = absurd cc
none_fails Version x y h = absurd cc
none_fails Short x y h = absurd cc
none_fails (BadRecord k) x y h = absurd cc

-- what is due of an object that is a module, seen of the answer
pub module_due : (object : Object) (m : Module) (answer : Result Module AuxFault) → IsModuleOf object m
    → IfOk answer (IsModuleOf object) → ReadingGives (λ m. (m.types, m.records)) answer (parts_in object)
    → ReadingGives (λ found. found) answer (Ok m)
module_due object m (Ok n) is made due =
    let parts : (m.types, m.records) ≡ (n.types, n.records) = ok_is _ _ (sym (module_again object m is) ∙ due) in
    ap Ok (same_module m n (is.object_kept ∙ sym made.object_kept) (ap (λ (x : List Node × Records). x.0) parts)
    (ap (λ (x : List Node × Records). x.1) parts))
module_due object m (Err e) is made due =
    none_fails e (m.types, m.records) m (subst (ReadingFails e) (module_again object m is) due)
