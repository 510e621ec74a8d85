-- What calls that take a type table or a module may take for granted of it. For a type table it is `AreTypes`: few
-- nodes, each as its kind wants it, and each node that one names is there.
use Rattle.elf_read.specs.Sound.{IsSoundObject}
use Rattle.cfi_type_table.specs.Spelling.{AreTypes}
use Rattle.cfi_aux.specs.declared.modules.Module.{Module}

-- a module's object and type table break no rule
pub record IsSoundModule (m : Module) : Type 0 where
  pub object_sound : IsSoundObject m.object
  pub table : AreTypes m.types
