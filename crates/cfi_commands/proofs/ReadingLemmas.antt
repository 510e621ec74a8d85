-- A file is a module, or has a fault, and never both.
use Rattle.std.proofs.Common.{◌≡◌, ℕ, List, Result, Ok, Err, refl, sym, ap, subst, ◌∙◌, false}
use Rattle.std.specs.Prelude.{◌≢◌, is_ok}
use Rattle.std.proofs.lemmas.Bool.{both_ways}
use Rattle.elf_read.specs.declared.object.Object.{Object}
use Rattle.elf_read.specs.Fault.{IsObject}
use Rattle.elf_read.proofs.FaultLemmas.{one_object}
use Rattle.cfi_aux.specs.declared.fault.AuxFault.{AuxFault}
use Rattle.cfi_aux.specs.declared.fault.AuxFault.TheVariants.{NoRecords, Types, Version, Short, BadRecord, Memory}
use Rattle.cfi_aux.specs.declared.modules.Module.{Module}
use Rattle.cfi_aux.specs.declared.records.Records.{Records}
use Rattle.cfi_aux.specs.Modules.{IsModuleOf, parts_in}
use Rattle.cfi_aux.specs.Reading.{ReadingFails}
use Rattle.cfi_aux.proofs.ModuleLemmas.{module_again, same_module}
use Rattle.cfi_type_table.specs.Node.{Node}
use Rattle.cfi_values.proofs.ThenLemmas.{ok_is}
use Rattle.cfi_commands.specs.Reading.{IsModuleFile}

-- a fault that is no want of memory is what is due
pub due_of : {Y : Type 0} (fault : AuxFault) (due : Result Y AuxFault) → fault ≢ Memory → ReadingFails fault due
    → due ≡ Err fault
due_of NoRecords due other fails = fails
due_of (Types fault) due other fails = fails
due_of Version due other fails = fails
due_of Short due other fails = fails
due_of (BadRecord k) due other fails = fails
due_of Memory due other fails = absurd (other refl)

-- an answer is no fault
ok_or_err : {X E : Type 0} {x : X} {e : E} → Ok x ≡ Err e → ⊥
ok_or_err {X} {E} same = both_ways false refl (sym (ap (λ (r : Result X E). is_ok r) same))

pub refused_is_none : (bytes : List ℕ) (object : Object) (fault : AuxFault) (m : Module) → IsObject bytes object
    → parts_in object ≡ Err fault → IsModuleFile bytes m → ⊥
refused_is_none bytes object fault m is refused file =
    let same : object ≡ file.object = one_object bytes object file.object is.kept file.is.kept in
    ok_or_err (sym (module_again file.object m file.whole) ∙ ap parts_in (sym same) ∙ refused)

-- an object is one module
pub one_module : (object : Object) (m n : Module) → IsModuleOf object m → IsModuleOf object n → m ≡ n
one_module object m n is other =
    let parts : (m.types, m.records) ≡ (n.types, n.records) =
    ok_is _ _ (sym (module_again object m is) ∙ module_again object n other) in
    same_module m n (is.object_kept ∙ sym other.object_kept) (ap (λ (x : List Node × Records). x.0) parts)
    (ap (λ (x : List Node × Records). x.1) parts)

-- what is found is the module that the file is
pub found_is_it : (bytes : List ℕ) (object : Object) (found m : Module) → IsObject bytes object
    → IsModuleOf object found → IsModuleFile bytes m → found ≡ m
found_is_it bytes object found m is read file =
    let same : object ≡ file.object = one_object bytes object file.object is.kept file.is.kept in
    one_module object found m read (subst (λ (o : Object). IsModuleOf o m) (sym same) file.whole)
