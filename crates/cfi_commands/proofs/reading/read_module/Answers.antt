use Rattle.std.proofs.Common.{rules, refl, ap, inl, Ok}
use Rattle.std.specs.Prelude.{◌≢◌}
use Rattle.cfi_aux.specs.declared.fault.AuxFault.TheVariants.{Memory}
use Rattle.cfi_aux.specs.Modules.{parts_in}
use Rattle.cfi_commands.proofs.ReadingLemmas.{due_of, found_is_it, refused_is_none}
use Rattle.cfi_commands.proofs.reading.read_module.Goals as goal

-- what is read is sound
pub returns-in-Ok-module_of-clause-sound : goal.returns-in-Ok-module_of-clause-sound
returns-in-Ok-module_of-clause-sound c =
    c.in-Ok-module_of.ensures.sound (c.what_is_read_is_sound.ensures _ _ c.in-Ok.ensures.ok)

-- it is the module that the file is
pub returns-in-Ok-module_of-clause-only : goal.returns-in-Ok-module_of-clause-only
returns-in-Ok-module_of-clause-only c m file =
    inl (ap Ok (found_is_it _ c.in-Ok.object c.in-Ok-module_of.found m c.in-Ok.ensures.ok c.in-Ok-module_of.ensures.ok
    file))

-- the object is no module
pub returns-in-Err-module_of : goal.returns-in-Err-module_of
returns-in-Err-module_of c =
    let fault = c.in-Err-module_of.fault in
    let other : fault ≢ Memory = search rules in
    let object = c.in-Ok.object in
    let due = due_of fault (parts_in object) other c.in-Err-module_of.ensures.fault in
    record {
      ok = tt;
      sound = tt;
      fault = (refl, (object, c.in-Ok.ensures.ok, due, other));
      only = λ m file. absurd (refused_is_none _ object fault m c.in-Ok.ensures.ok due file);
    }
