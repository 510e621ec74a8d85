-- Modules that are read one after the other.
use Rattle.std.proofs.Common.{◌≡◌, ◌∙◌, ℕ, suc, List, [], ◌∷◌, ◌++◌, length, take, get_or, All, Option, Some, refl, sym, ap, subst, arith, length-append}
use Rattle.std.specs.Prelude.{slice_get, IsSomeAnd}
use Rattle.std.proofs.Math.Seq.{take-append_seam, get_or-append_seam}
use Rattle.std.proofs.lemmas.Option.{slice_get-get_or}
use Rattle.std.proofs.lemmas.List.Elements.{All-nil, All-cons}
use Rattle.cfi_aux.specs.declared.modules.Module.{Module}
use Rattle.cfi_commands.specs.declared.fault.CommandFault.{CommandFault}
use Rattle.cfi_commands.specs.declared.fault.CommandFault.TheVariants.{File, Together, Memory}
use Rattle.cfi_commands.specs.declared.refusal.Refusal.{Refusal}
use Rattle.cfi_commands.specs.Fault.{IsOfFile}
use Rattle.cfi_commands.specs.Reading.{IsModuleFile, IsFileFault}
use Rattle.cfi_commands.specs.Modules.{AreModuleFiles, IsFirstBadFile, IsModulesFault}

-- the item between those before it and those after it
module _ {X : Type 0} (done : List X) (x : X) (rest : List X) (k : ℕ) (count : k ≡ length done) where
  pub at_seam : slice_get (done ++ x ∷ rest) k ≡ Some x
  at_seam =
      slice_get-get_or (done ++ x ∷ rest) k x (omega (arith, count, length-append done (x ∷ rest)))
      ∙ ap (λ (n : ℕ). Some (get_or (done ++ x ∷ rest) n x)) count
      ∙ ap (λ (y : X). Some y) (get_or-append_seam done x rest x)

  -- and those before it
  pub before_seam : take k (done ++ x ∷ rest) ≡ done
  before_seam = ap (λ (n : ℕ). take n (done ++ x ∷ rest)) count ∙ take-append_seam done (x ∷ rest)

-- one more file at the end
pub more_modules : (files : List (List ℕ)) (modules : List Module) (bytes : List ℕ) (m : Module)
    → AreModuleFiles files modules → IsModuleFile bytes m
    → AreModuleFiles (files ++ bytes ∷ []) (modules ++ m ∷ [])
more_modules [] [] bytes m are is = (is, tt)
more_modules [] (first ∷ modules) bytes m are is = absurd are
more_modules (file ∷ files) [] bytes m are is = absurd are
more_modules (file ∷ files) (first ∷ modules) bytes m are is =
    (are.0, more_modules files modules bytes m are.1 is)

-- there are as many modules as files
pub same_count : (files : List (List ℕ)) (modules : List Module) → AreModuleFiles files modules
    → length modules ≡ length files
same_count [] [] are = refl
same_count [] (m ∷ modules) are = absurd are
same_count (bytes ∷ files) [] are = absurd are
same_count (bytes ∷ files) (m ∷ modules) are = ap (λ (n : ℕ). suc n) (same_count files modules are.1)

-- what holds of the module that any file is holds of each of them
pub each_of : (P : Module → Type 0) → ((bytes : List ℕ) (m : Module) → IsModuleFile bytes m → P m)
    → (files : List (List ℕ)) (modules : List Module) → AreModuleFiles files modules → All P modules
each_of P holds files [] are = All-nil P
each_of P holds [] (m ∷ modules) are = absurd are
each_of P holds (bytes ∷ files) (m ∷ modules) are =
    All-cons P m modules (holds bytes m are.0) (each_of P holds files modules are.1)

module _ (done rest : List (List ℕ)) (bytes : List ℕ) (modules : List Module)
    (are : AreModuleFiles done modules) where
  abbrev files : List (List ℕ)
  files = done ++ bytes ∷ rest

  -- the file after those before it, which are modules, is the first that is no module
  bad_at : (refusal : Refusal) → IsFileFault bytes refusal → IsFirstBadFile files (length modules) refusal
  bad_at refusal is =
      let count = same_count done modules are in
      record {
        modules = modules;
        before = subst (λ (fs : List (List ℕ)). AreModuleFiles fs modules)
            (sym (before_seam done bytes rest (length modules) count)) are;
        here = subst (λ (o : Option (List ℕ)). IsSomeAnd o (λ b. IsFileFault b refusal))
            (sym (at_seam done bytes rest (length modules) count)) is;
      }

  pub modules_fault : (fault : CommandFault) → IsOfFile (length modules) (IsFileFault bytes) fault
      → IsModulesFault (done ++ bytes ∷ rest) fault
  modules_fault (File number refusal) is =
      subst (λ (n : ℕ). IsFirstBadFile files n refusal) (sym is.0) (bad_at refusal is.1)
  modules_fault (Together fault) is = absurd is
  modules_fault Memory is = tt
