-- The sizes of a module that was read.
use Rattle.std.proofs.Common.{◌≡◌, ◌≤◌, ◌<◌, ◌^◌, ℕ, zero, suc, List, [], ◌∷◌, length, Bool, true, false, not, refl, ap, ◌∙◌, arith, length-append, if◌then◌else◌}
use Rattle.elf_read.specs.Header.{section_count}
use Rattle.elf_read.specs.Object.{kept_count, kept_reloc, reloc_of, relocs_of}
use Rattle.elf_read.specs.Places.{joined, count_where}
use Rattle.elf_read.specs.Relocation.{rela_count, rela_at, kind_of, is_dropped}
use Rattle.elf_read.specs.Fault.{kept_relocs}
use Rattle.elf_read.specs.declared.object.Object.{Object}
use Rattle.elf_read.specs.declared.object.Reloc.{Reloc}
use Rattle.cfi_aux.specs.declared.modules.Module.{Module}
use Rattle.cfi_aux.proofs.JoinedLists.{joined_length}
use Rattle.cfi_made_law.specs.Read.{IsReadOf}
use Rattle.cfi_commands.specs.declared.fault.CommandFault.{CommandFault}
use Rattle.cfi_commands.specs.declared.fault.CommandFault.TheVariants.{File, Together, Memory}
use Rattle.cfi_commands.specs.declared.refusal.Refusal.{Refusal}
use Rattle.cfi_commands.specs.declared.refusal.Refusal.TheVariants.{Instr}
use Rattle.cfi_commands.specs.Fault.{IsOfFile}
use Rattle.cfi_commands.specs.Instrumenting.{IsInstrumentFault}
use Rattle.cfi_commands.specs.Reading.{IsModuleFile, IsFileFault}
use Rattle.cfi_commands.proofs.ListingLemmas.{short_text as short_object}

pub short_text : (bytes : List ℕ) (m : Module) → IsModuleFile bytes m → length m.object.text < 2 ^ 32
short_text bytes m file =
    let short = short_object bytes file.object file.is in
    let same : length m.object.text ≡ length file.object.text =
    ap (λ (o : Object). length o.text) file.whole.object_kept in
    omega (arith, short, same)

-- what one entry adds
abbrev one_kept : (out : Bool) → ℕ
one_kept out = if not out then 1 else 0

one_of : (out : Bool) (reloc : Reloc) → length (if out then [] else reloc ∷ []) ≡ one_kept out
one_of true reloc = refl
one_of false reloc = refl

entry_length : (bytes : List ℕ) (s i : ℕ)
    → length (reloc_of bytes s i) ≡ one_kept (is_dropped (kind_of (rela_at bytes s i)))
unfolding reloc_of
entry_length bytes s i =
    one_of (is_dropped (kind_of (rela_at bytes s i))) (kept_reloc bytes s i)

entries_length : (bytes : List ℕ) (s count : ℕ) → length (joined (reloc_of bytes s) count)
    ≡ count_where (λ i. not (is_dropped (kind_of (rela_at bytes s i)))) count
entries_length bytes s zero = refl
entries_length bytes s (suc count) =
    let before = entries_length bytes s count in
    let here = entry_length bytes s count in
    omega (arith, length-append (joined (reloc_of bytes s) count) (reloc_of bytes s count), before, here)

section_length : (bytes : List ℕ) (s : ℕ) → length (relocs_of bytes s) ≡ kept_count bytes s
unfolding relocs_of kept_count
section_length bytes s = entries_length bytes s (rela_count bytes s)

pub few_relocs : (bytes : List ℕ) (m : Module) → IsModuleFile bytes m → length m.object.relocs ≤ 2 ^ 32
few_relocs bytes m file =
    let same : length m.object.relocs ≡ length file.object.relocs =
    ap (λ (o : Object). length o.relocs) file.whole.object_kept in
    let kept : length file.object.relocs ≡ kept_relocs bytes =
    ap (λ (xs : List Reloc). length xs) file.is.kept.relocs
    ∙ joined_length (relocs_of bytes) (kept_count bytes) (section_count bytes) (λ s _. section_length bytes s) in
    omega (arith, same, kept, file.is.sound.relocs)

-- it was read of a file
pub read-of : (bytes : List ℕ) (m : Module) → IsModuleFile bytes m → IsReadOf m
read-of bytes m file = record { bytes = bytes; object = file.object; is = file.is; whole = file.whole }

module _ (bytes : List ℕ) where
  -- a fault of the file is one of instrumenting it
  file_as : (refusal : Refusal) → IsFileFault bytes refusal → IsInstrumentFault bytes refusal
  file_as (Instr fault) is = absurd is
  file_as refusal is = is

  pub module_as_instrument : (fault : CommandFault) → IsOfFile 0 (IsFileFault bytes) fault
      → IsOfFile 0 (IsInstrumentFault bytes) fault
  module_as_instrument (File number refusal) is = (is.0, file_as refusal is.1)
  module_as_instrument (Together fault) is = absurd is
  module_as_instrument Memory is = tt
