-- The files of the modules that are drawn of a seed: each source is assembled, and the module that its object is, as it
-- is read of the object's file, is instrumented. Sources and files are numbered from 0.
use Rattle.std.specs.Prelude.{◌⊎◌, ℕ, List, take, slice_get, IsSomeAnd, ⊤}
use Rattle.std.specs.List.{AllZip}
use Rattle.cfi_commands.specs.Assembling.{IsAssembled, IsSourceFault}
use Rattle.cfi_commands.specs.Instrumenting.{IsInstrumentedFile, IsInstrumentFault}
use Rattle.cfi_commands.specs.declared.fault.CommandFault.{CommandFault}
use Rattle.cfi_commands.specs.declared.fault.CommandFault.TheVariants.{File, Together, Memory}
use Rattle.cfi_commands.specs.declared.refusal.Refusal.{Refusal}
use Rattle.cfi_gen.specs.Drawn.{AreSeeded}
use Rattle.cfi_gen.specs.Source.{source_text}
use Rattle.cfi_gen.specs.declared.shape.Drawn.{Drawn}

-- the file of a source, by way of its object's
pub record IsMadeFile (text file : List ℕ) : Type 0 where
  pub object : List ℕ
  pub assembled : IsAssembled text object
  pub instrumented : IsInstrumentedFile object file

-- those of drawn modules, of so many, one by one
abbrev pub AreMadeFiles : (count : ℕ) → List Drawn → (files : List (List ℕ)) → Type 0
AreMadeFiles count = AllZip (λ one file. IsMadeFile (source_text count one) file)

-- those of the modules that are drawn of a seed
pub record AreGenerated (seed count : ℕ) (files : List (List ℕ)) : Type 0 where
  pub drawn : List Drawn
  pub seeded : AreSeeded seed count drawn
  pub made : AreMadeFiles count drawn files

-- why a source has no file: it is not assembled, or what is read of its object's file is not instrumented
abbrev pub RefusesSource : (text : List ℕ) → Refusal → Type 0
RefusesSource text refusal =
    IsSourceFault text refusal ⊎ ((object : List ℕ) × IsAssembled text object × IsInstrumentFault object refusal)

-- those before the source of this number have files, and it is refused so
pub record IsFirstBadSource (count : ℕ) (drawn : List Drawn) (number : ℕ) (refusal : Refusal) : Type 0 where
  pub files : List (List ℕ)
  pub before : AreMadeFiles count (take number drawn) files
  pub here : IsSomeAnd (slice_get drawn number) (λ one. RefusesSource (source_text count one) refusal)

-- the first source that is refused, and why
abbrev pub IsSourcesFault : (count : ℕ) → List Drawn → CommandFault → Type 0
IsSourcesFault count drawn (File number refusal) = IsFirstBadSource count drawn number refusal
IsSourcesFault count drawn (Together fault) = ⊥
IsSourcesFault count drawn Memory = ⊤

-- of the modules that are drawn of a seed the source of this number is the first that is refused, and so
pub record IsFirstRefusedDrawn (seed count number : ℕ) (refusal : Refusal) : Type 0 where
  pub drawn : List Drawn
  pub seeded : AreSeeded seed count drawn
  pub first : IsFirstBadSource count drawn number refusal

-- why there are no files
abbrev pub IsGenerateFault : (seed count : ℕ) → CommandFault → Type 0
IsGenerateFault seed count (File number refusal) = IsFirstRefusedDrawn seed count number refusal
IsGenerateFault seed count (Together fault) = ⊥
IsGenerateFault seed count Memory = ⊤
