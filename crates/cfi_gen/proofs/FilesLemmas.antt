-- The files of sources, one after the other.
use Rattle.std.proofs.Common.{◌≡◌, ◌+◌, ◌≤◌, ◌<◌, ℕ, zero, suc, List, [], ◌∷◌, ◌++◌, length, length-append, take, get_or, Some, inl, inr, refl, sym, ap, subst, arith, ◌∙◌}
use Rattle.std.specs.Prelude.{slice_get, IsSomeAnd}
use Rattle.std.proofs.lemmas.List.{length-map}
use Rattle.std.proofs.lemmas.Slice.Zip.{AllZip-long}
use Rattle.std.proofs.lemmas.Option.{slice_get_read}
use Rattle.std.proofs.lemmas.List.{take_more}
use Rattle.cfi_commands.specs.Assembling.{IsAssembled, IsSourceFault}
use Rattle.cfi_commands.specs.Fault.{IsOfFile}
use Rattle.cfi_commands.specs.Instrumenting.{IsInstrumentFault}
use Rattle.cfi_commands.specs.declared.fault.CommandFault.{CommandFault}
use Rattle.cfi_commands.specs.declared.fault.CommandFault.TheVariants.{File, Together, Memory}
use Rattle.cfi_commands.specs.declared.refusal.Refusal.{Refusal}
use Rattle.elf_read.specs.Places.{joined}
use Rattle.cfi_gen.specs.Drawn.{AreSeeded}
use Rattle.cfi_gen.specs.Source.{source_text}
use Rattle.cfi_gen.specs.declared.shape.Drawn.{Drawn}
use Rattle.std.specs.List.{AllZip}
use Rattle.cfi_gen.specs.inner.Fault.{fault_at}
use Rattle.cfi_gen.specs.Generated.{AreMadeFiles, IsMadeFile, IsFirstBadSource, IsSourcesFault, RefusesSource}

-- one more
zip_more : {A B : Type 0} (R : A → B → Type 0) (xs : List A) (ys : List B) (x : A) (y : B) → AllZip R xs ys → R x y
    → AllZip R (xs ++ x ∷ []) (ys ++ y ∷ [])
zip_more R [] [] x y all one = (one, tt)
zip_more R [] (b ∷ ys) x y all one = absurd all
zip_more R (a ∷ xs) [] x y all one = absurd all
zip_more R (a ∷ xs) (b ∷ ys) x y all one = (all.0, zip_more R xs ys x y all.1 one)

pub files_more : (count : ℕ) (drawn : List Drawn) (files : List (List ℕ)) (one : Drawn) (file : List ℕ)
    → AreMadeFiles count drawn files → IsMadeFile (source_text count one) file
    → AreMadeFiles count (drawn ++ one ∷ []) (files ++ file ∷ [])
files_more count drawn files one file all made =
    zip_more (λ (d : Drawn) (f : List ℕ). IsMadeFile (source_text count d) f) drawn files one file all made

-- the files with those of one module more
pub files_grow : (count : ℕ) (drawn : List Drawn) (k : ℕ) (one : Drawn) (old new : List (List ℕ)) (file : List ℕ)
    → k < length drawn → one ≡ get_or drawn k one → AreMadeFiles count (take k drawn) old
    → IsMadeFile (source_text count one) file → new ≡ old ++ file ∷ [] → AreMadeFiles count (take (k + 1) drawn) new
files_grow count drawn k one old new file within is all made pushed =
    let longer : take (k + 1) drawn ≡ take k drawn ++ one ∷ [] =
    take_more drawn k one within ∙ ap (λ (d : Drawn). take k drawn ++ d ∷ []) (sym is) in
    subst (AreMadeFiles count (take (k + 1) drawn)) (sym pushed)
    (subst (λ (ds : List Drawn). AreMadeFiles count ds (old ++ file ∷ [])) (sym longer)
    (files_more count (take k drawn) old one file all made))

-- ---- faults

-- a source that is not assembled is refused
pub not_assembled : (text : List ℕ) (fault : CommandFault) → IsOfFile 0 (IsSourceFault text) fault
    → IsOfFile 0 (RefusesSource text) fault
not_assembled text (File number refusal) is = (is.0, inl is.1)
not_assembled text (Together fault) is = is
not_assembled text Memory is = tt

-- and one of which the object's file is not instrumented
pub not_instrumented : (text object : List ℕ) (fault : CommandFault) → IsAssembled text object
    → IsOfFile 0 (IsInstrumentFault object) fault → IsOfFile 0 (RefusesSource text) fault
not_instrumented text object (File number refusal) made is = (is.0, inr (object, made, is.1))
not_instrumented text object (Together fault) made is = is
not_instrumented text object Memory made is = tt

-- a fault by another number
pub renumbered : (P : Refusal → Type 0) (number : ℕ) (fault : CommandFault) → IsOfFile 0 P fault
    → IsOfFile number P (fault_at number fault)
renumbered P number (File k refusal) is = (refl, is.1)
renumbered P number (Together fault) is = is
renumbered P number Memory is = tt

-- the source of a number is refused, and those before it have files
sources_fault : (count : ℕ) (drawn : List Drawn) (number : ℕ) (one : Drawn) (files : List (List ℕ))
    (fault : CommandFault) → slice_get drawn number ≡ Some one → AreMadeFiles count (take number drawn) files
    → IsOfFile number (RefusesSource (source_text count one)) fault → IsSourcesFault count drawn fault
sources_fault count drawn number one files (File k refusal) here before is =
    subst (λ (n : ℕ). IsFirstBadSource count drawn n refusal) (sym is.0) (record {
      files = files;
      before = before;
      here = subst (λ o. IsSomeAnd o (λ d. RefusesSource (source_text count d) refusal)) (sym here) is.1;
    })
sources_fault count drawn number one files (Together fault) here before is = is
sources_fault count drawn number one files Memory here before is = tt

-- the source at a place is refused
pub refused_at : (count : ℕ) (drawn : List Drawn) (number k : ℕ) (one : Drawn) (files : List (List ℕ))
    (fault told : CommandFault) → number < length drawn → one ≡ get_or drawn number one → k ≡ number
    → AreMadeFiles count (take number drawn) files → IsOfFile 0 (RefusesSource (source_text count one)) fault
    → told ≡ fault_at k fault → IsSourcesFault count drawn told
refused_at count drawn number k one files fault told within is same before refuses at =
    subst (IsSourcesFault count drawn) (sym (at ∙ ap (λ (n : ℕ). fault_at n fault) same))
    (sources_fault count drawn number one files (fault_at number fault)
    (slice_get_read drawn (length drawn) number one refl within is) before
    (renumbered (RefusesSource (source_text count one)) number fault refuses))

-- ---- how many there are

-- a list of numbers
joined_count : (count : ℕ) → length (joined (λ (number : ℕ). number ∷ []) count) ≡ count
joined_count zero = refl
joined_count (suc count) =
    omega (arith, length-append (joined (λ (number : ℕ). number ∷ []) count) (count ∷ []), joined_count count)

-- as many files as modules that were drawn
pub files_count : (seed count : ℕ) (drawn all : List Drawn) (files : List (List ℕ)) → AreSeeded seed count drawn
    → all ≡ drawn → AreMadeFiles count all files → length files ≡ count
files_count seed count drawn all files seeded same made =
    let number : Drawn → ℕ = λ one. one.number in
    AllZip-long (λ (one : Drawn) (file : List ℕ). IsMadeFile (source_text count one) file) all files made
    ∙ ap (λ (ds : List Drawn). length ds) same ∙ sym (length-map drawn number)
    ∙ ap (λ (ns : List ℕ). length ns) seeded.numbers ∙ joined_count count
