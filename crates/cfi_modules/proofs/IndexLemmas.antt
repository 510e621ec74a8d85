-- An index has the same names beside modules that stand behind those that it is of.
use Rattle.std.proofs.Common.{◌≡◌, ◌∙◌, ℕ, zero, suc, ◌-◌, ◌<◌, List, [], ◌∷◌, ◌++◌, length, take, Option, Some, None, Result, Ok, Err, refl, ap, arith, length-append}
use Rattle.std.specs.Prelude.{option_and_then, IfOk}
use Rattle.std.specs.Ordering.{nat_cmp}
use Rattle.std.specs.BTreeMap.{get}
use Rattle.std.specs.List.{slice_get}
use Rattle.std.specs.Option.{option_or}
use Rattle.std.specs.Result.{result_ok}
use Rattle.std.proofs.Math.Seq.{take-length}
use Rattle.std.proofs.lemmas.List.{take-append-le}
use Rattle.cfi_aux.specs.declared.placed.Placed.{Placed}
use Rattle.cfi_place.specs.Names.{Names, find_in}
use Rattle.cfi_modules.specs.declared.index.ExportPlace.{ExportPlace}
use Rattle.cfi_modules.specs.declared.index.Index.{Index}
use Rattle.cfi_modules.specs.inner.Index.{digest_of, export_at, address_if, address_by, address_in, ArePlacesBelow, IsIndexOf}
use Rattle.cfi_modules.specs.Series.{HasNames}

slice_get-take : {X : Type 0} (xs : List X) (n k : ℕ) → k < n → slice_get (take n xs) k ≡ slice_get xs k
slice_get-take xs zero k less = absurd (omega (arith, less))
slice_get-take [] (suc n) k less = refl
slice_get-take (x ∷ xs) (suc n) zero less = refl
slice_get-take (x ∷ xs) (suc n) (suc k) less = slice_get-take xs n k (omega (arith, less))

module _ (placed : List Placed) (n : ℕ) where
  export-take : (place : ExportPlace) → place.number < n → export_at (take n placed) place ≡ export_at placed place
  export-take place less =
      ap (λ (o : Option Placed). option_and_then (λ (m : Placed). slice_get m.exports place.export) o)
      (slice_get-take placed n place.number less)

  by-take : (apart : Names) (name : List ℕ) (o : Option ExportPlace)
      → ((place : ExportPlace) → o ≡ Some place → place.number < n)
      → address_by (take n placed) apart name o ≡ address_by placed apart name o
  by-take apart name None below = refl
  by-take apart name (Some place) below =
      ap (λ (e : Option (List ℕ × ℕ)). option_or (option_and_then (address_if name) e) (apart name))
      (export-take place (below place refl))

  pub index-take : (index : Index) → ArePlacesBelow n index → (name : List ℕ)
      → address_in (take n placed) index name ≡ address_in placed index name
  index-take index below name =
      by-take (find_in index.apart) name (get nat_cmp index.places (digest_of name))
      (λ place is. below (digest_of name) place is)

pub before_last : {X : Type 0} (xs : List X) (x : X) → take (length (xs ++ x ∷ []) - 1) (xs ++ x ∷ []) ≡ xs
before_last xs x =
    ap (λ (k : ℕ). take k (xs ++ x ∷ [])) (omega (arith, length-append xs (x ∷ [])))
    ∙ take-append-le (length xs) xs (x ∷ []) (omega arith)
    ∙ take-length xs

-- nothing is kept where memory ran out
pub kept_ok : {E : Type 0} (placed : List Placed) (r : Result Index E) → IfOk r (IsIndexOf placed)
    → HasNames placed (result_ok r)
kept_ok placed (Ok index) is = is
kept_ok placed (Err error) is = tt
