-- The symbols of a module that was read, and its faults as those of giving it stubs.
use Rattle.std.proofs.Common.{◌≡◌, ◌<◌, ◌^◌, ℕ, List, length, ap, subst, arith}
use Rattle.elf_read.specs.declared.object.Object.{Object}
use Rattle.elf_read.specs.Sound.{IsSoundObject}
use Rattle.cfi_aux.specs.Sound.{IsSoundModule}
use Rattle.cfi_aux.specs.declared.modules.Module.{Module}
use Rattle.cfi_made_law.proofs.ReadLemmas.{read-small}
use Rattle.cfi_commands.specs.declared.fault.CommandFault.{CommandFault}
use Rattle.cfi_commands.specs.declared.fault.CommandFault.TheVariants.{File, Together, Memory}
use Rattle.cfi_commands.specs.declared.refusal.Refusal.{Refusal}
use Rattle.cfi_commands.specs.declared.refusal.Refusal.TheVariants.{Import}
use Rattle.cfi_commands.specs.Fault.{IsOfFile}
use Rattle.cfi_commands.specs.Stubbing.{IsStubbingFault}
use Rattle.cfi_commands.specs.Reading.{IsModuleFile, IsFileFault}

pub few_symbols : (bytes : List ℕ) (m : Module) → IsModuleFile bytes m → IsSoundModule m
    → length m.object.symbols < 2 ^ 32
few_symbols bytes m file sound =
    let object = file.object in
    let same : length m.object.symbols ≡ length object.symbols =
    ap (λ (o : Object). length o.symbols) file.whole.object_kept in
    let small = read-small bytes object file.is (subst IsSoundObject file.whole.object_kept sound.object_sound) in
    omega (arith, same, small.symbols)

module _ (bytes : List ℕ) where
  -- a fault of the file is one of giving it stubs
  file_as : (refusal : Refusal) → IsFileFault bytes refusal → IsStubbingFault bytes refusal
  file_as (Import fault) is = absurd is
  file_as refusal is = is

  pub module_as_stub : (fault : CommandFault) → IsOfFile 0 (IsFileFault bytes) fault
      → IsOfFile 0 (IsStubbingFault bytes) fault
  module_as_stub (File number refusal) is = (is.0, file_as refusal is.1)
  module_as_stub (Together fault) is = absurd is
  module_as_stub Memory is = tt
