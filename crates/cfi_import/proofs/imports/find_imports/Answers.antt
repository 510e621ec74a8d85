use Rattle.std.proofs.Common.{◌≡◌, ◌∙◌, ℕ, List, Option, Result, Ok, Err, IfOk, subst}
use Rattle.elf_read.specs.declared.object.Symbol.{Symbol}
use Rattle.cfi_import.specs.Imports.{imports_of, names_of, place_of}
use Rattle.cfi_import.specs.inner.Found.{is_found, places_from, place_in}
use Rattle.cfi_import.specs.declared.imports.Imports.{Imports}
use Rattle.cfi_import.proofs.FoundLemmas.{found-by, places-by}
use Rattle.cfi_import.proofs.imports.find_imports.Goals as goal

pub returns-clause-names : goal.returns-clause-names
returns-clause-names c =
    subst (λ (imports : List (ℕ × Symbol)). IfOk c.scan.result (λ found. found.names.items ≡ names_of imports))
    (found-by c.args.object.now c.as_slice-symbols.result.now c.as_slice.result.now c.deref.result.now
    c.as_slice-symbols.ensures c.as_slice.ensures (c.deref.ensures.value ∙ c.in_ok-marks.ensures))
    c.scan.ensures.names

-- where the list of places is the counted one, each place is that of an import
weaker : {E : Type 0} (due : List (Option ℕ)) (imports : List (ℕ × Symbol)) (result : Result Imports E)
    → ((places : List (Option ℕ)) → places ≡ due → (number : ℕ) → place_in places number ≡ place_of imports number)
    → IfOk result (λ found. found.places.items ≡ due)
    → IfOk result (λ found. (number : ℕ) → place_in found.places.items number ≡ place_of imports number)
weaker due imports (Ok found) give is = give found.places.items is
weaker due imports (Err fault) give is = tt

pub returns-clause-places : goal.returns-clause-places
returns-clause-places c =
    let marks = c.deref.result.now in
    let symbols = c.as_slice-symbols.result.now in
    let are = found-by c.args.object.now symbols c.as_slice.result.now marks c.as_slice-symbols.ensures
    c.as_slice.ensures (c.deref.ensures.value ∙ c.in_ok-marks.ensures) in
    weaker (places_from (is_found marks) 0 0 symbols) (imports_of c.args.object.now) c.scan.result
    (λ places is. places-by (is_found marks) symbols (imports_of c.args.object.now) places are is)
    c.scan.ensures.places
