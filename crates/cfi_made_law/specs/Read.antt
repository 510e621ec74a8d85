-- Modules that were read of files.
use Rattle.std.specs.Prelude.{ℕ, List}
use Rattle.elf_read.specs.Fault.{IsObject}
use Rattle.elf_read.specs.declared.object.Object.{Object}
use Rattle.cfi_aux.specs.Modules.{IsModuleOf}
use Rattle.cfi_aux.specs.declared.modules.Module.{Module}

-- some bytes are an object, and this is the module that the object is
pub record IsReadOf (m : Module) : Type 0 where
  pub bytes : List ℕ
  pub object : Object
  pub is : IsObject bytes object
  pub whole : IsModuleOf object m
