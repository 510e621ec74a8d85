-- A module as its file has it. A written file has two sections of relocations, that of text before that of data, so
-- those of text come first; nothing else changes.
use Rattle.elf_read.specs.declared.object.Object.{Object}
use Rattle.cfi_aux.specs.declared.modules.Module.{Module}
use Rattle.cfi_link.specs.Applied.{by_area}

-- an object, and a module, with its relocations in this order
abbrev pub object_of_file : Object → Object
object_of_file object = record object { relocs = by_area object.relocs }

-- the module, with its object as the file has it
abbrev pub module_of_file : Module → Module
module_of_file m = record m { object = object_of_file m.object; cells = m.cells }
