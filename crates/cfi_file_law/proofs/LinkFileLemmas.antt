-- The modules of files can be linked, and what links them has its relocations in the order of a file.
use Rattle.std.proofs.Common.{◌≡◌, ◌∙◌, ℕ, ◌<◌, ◌^◌, List, [], ◌∷◌, length, All, sym, ap, subst}
use Rattle.std.proofs.lemmas.List.Elements.{All-nil, All-cons, All-head, All-tail}
use Rattle.elf_read.specs.Sound.{IsSoundObject}
use Rattle.elf_read.specs.declared.object.Reloc.{Reloc}
use Rattle.cfi_type_table.specs.Node.{Node}
use Rattle.cfi_aux.specs.Records.{AreRecordsIn, CanBeWritten}
use Rattle.cfi_aux.specs.Sound.{IsSoundModule}
use Rattle.cfi_aux.specs.declared.modules.Module.{Module}
use Rattle.cfi_aux.specs.declared.records.Records.{Records}
use Rattle.cfi_aux.specs.declared.version.RecordVersion.{RecordVersion}
use Rattle.cfi_link.specs.Joined.{joined_of}
use Rattle.cfi_link.specs.Chosen.{chosen_in, numbers_of, reaches_of}
use Rattle.cfi_link.specs.Applied.{kept_in, by_area}
use Rattle.cfi_link.specs.Linked.{AreModules, Linked}
use Rattle.cfi_commands.specs.Reading.{IsModuleFile}
use Rattle.cfi_commands.specs.Modules.{AreModuleFiles}
use Rattle.cfi_commands.proofs.ModulesLemmas.{each_of}
use Rattle.cfi_commands.proofs.LinkingLemmas.{linkable}
use Rattle.cfi_made_law.specs.Order.{module_of_file}
use Rattle.cfi_file_law.specs.Saved.{AreBytes}
use Rattle.cfi_made_law.proofs.ReadLemmas.{IsFit, read-fit}
use Rattle.cfi_made_law.proofs.OrderLemmas.{by_area-twice}
use Rattle.cfi_made_law.proofs.LinkLemmas.{IsReadModule}
use Rattle.cfi_made_law.proofs.SourceLemmas.{ReadIsSound, read-source}

pub fit-of : ReadIsSound → (bytes : List ℕ) (m : Module) → AreBytes bytes → IsModuleFile bytes m → IsFit m.object
fit-of sound bytes m are is =
    subst IsFit (sym is.whole.object_kept) (read-fit bytes is.object are is.is (sound bytes is.object is.is))

sound-of : ReadIsSound → (bytes : List ℕ) (m : Module) → IsModuleFile bytes m → IsSoundModule m
sound-of sound bytes m is = record {
  object_sound = subst IsSoundObject (sym is.whole.object_kept) (sound bytes is.object is.is);
  table = is.whole.parts.table;
}

abbrev HasFit : Module → Type 0
HasFit m = IsFit m.object

pub fit-modules : ReadIsSound → (files : List (List ℕ)) (modules : List Module) → All AreBytes files
    → AreModuleFiles files modules → All HasFit modules
fit-modules sound files [] all are = All-nil HasFit
fit-modules sound [] (m ∷ modules) all are = absurd are
fit-modules sound (bytes ∷ files) (m ∷ modules) all are =
    All-cons HasFit m modules (fit-of sound bytes m (All-head AreBytes bytes files all) are.0)
    (fit-modules sound files modules (All-tail AreBytes bytes files all) are.1)

pub read-modules : ReadIsSound → (files : List (List ℕ)) (modules : List Module) → AreModuleFiles files modules
    → All IsReadModule modules
read-modules sound files modules are =
    each_of IsReadModule
    (λ bytes m is. read-source sound m
    (record { bytes = bytes; object = is.object; is = is.is; whole = is.whole })) files modules are

pub are-modules : ReadIsSound
    → ((version : RecordVersion) (types : List Node) (records : Records) → AreRecordsIn version types records
    → CanBeWritten records)
    → (files : List (List ℕ)) (modules : List Module) → AreModuleFiles files modules → length files < 2 ^ 32
    → AreModules modules
are-modules sound written files modules are few =
    linkable files modules are few (each_of IsSoundModule (sound-of sound) files modules are) written

-- ---- the order

-- the output is as its file has it
pub as-it-is : (modules : List Module) (output : Module) → Linked modules output → module_of_file output ≡ output
as-it-is modules output linked =
    let joined = joined_of modules in
    let kept = kept_in (reaches_of (chosen_in joined.symbols) joined.symbols) (numbers_of joined.symbols) joined.relocs in
    let is : output.object.relocs ≡ by_area kept = linked.made.relocs in
    let ordered : by_area output.object.relocs ≡ output.object.relocs =
    ap by_area is ∙ sym (by_area-twice kept) ∙ sym is in
    ap (λ (rs : List Reloc). record output { object = record output.object { relocs = rs } }) ordered
