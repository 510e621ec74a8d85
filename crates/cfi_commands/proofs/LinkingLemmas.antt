-- What modules that were read one by one have.
use Rattle.std.proofs.Common.{◌<◌, ◌^◌, ℕ, List, length, All, arith}
use Rattle.cfi_type_table.specs.Node.{Node}
use Rattle.cfi_aux.specs.declared.modules.Module.{Module}
use Rattle.cfi_aux.specs.declared.records.Records.{Records}
use Rattle.cfi_aux.specs.declared.version.RecordVersion.{RecordVersion}
use Rattle.cfi_aux.specs.Records.{AreRecordsIn, CanBeWritten}
use Rattle.cfi_aux.specs.Sound.{IsSoundModule}
use Rattle.cfi_link.specs.Linked.{AreModules}
use Rattle.cfi_commands.specs.declared.fault.CommandFault.{CommandFault}
use Rattle.cfi_commands.specs.declared.fault.CommandFault.TheVariants.{File, Together, Memory}
use Rattle.cfi_commands.specs.Linking.{IsLinkingFault}
use Rattle.cfi_commands.specs.Modules.{AreModuleFiles, IsModulesFault}
use Rattle.cfi_commands.proofs.InstrumentingLemmas.{short_text}
use Rattle.cfi_commands.proofs.ModulesLemmas.{same_count, each_of}

-- they can be linked, where there are few
pub linkable : (files : List (List ℕ)) (modules : List Module) → AreModuleFiles files modules
    → length files < 2 ^ 32 → All IsSoundModule modules
    → ((version : RecordVersion) (types : List Node) (records : Records) → AreRecordsIn version types records
    → CanBeWritten records)
    → AreModules modules
linkable files modules are few sound written = record {
  count = omega (arith, few, same_count files modules are);
  sound = sound;
  texts = each_of (λ m. length m.object.text < 2 ^ 32) short_text files modules are;
  written = each_of (λ m. CanBeWritten m.records)
      (λ bytes m file.
      written file.whole.parts.version m.types m.records file.whole.parts.good) files modules are;
}

-- a file that is no module is at fault
pub modules_as_linking : (files : List (List ℕ)) (fault : CommandFault) → IsModulesFault files fault
    → IsLinkingFault files fault
modules_as_linking files (File number refusal) bad = bad
modules_as_linking files (Together fault) bad = absurd bad
modules_as_linking files Memory bad = tt
