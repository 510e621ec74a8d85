-- Lists of accesses, one after the other.
use Rattle.std.proofs.Common.{◌≡◌, ℕ, List, [], ◌∷◌, ◌++◌, refl, ap, ◌∙◌}
use Rattle.cfi_model.specs.Raw.{Raw}
use Rattle.cfi_model.specs.Run.{Take, take_one, run_of}
use Rattle.cfi_model.specs.History.{History}
use Rattle.cfi_model.specs.Fits.{Fits, Along}
use Rattle.cfi_model.specs.Shows.{End, ends_before, ends_along}

-- where two lists have nothing, neither has
pub no_first : (a b : List End) → a ++ b ≡ [] → (a ≡ []) × (b ≡ [])
no_first [] b none = (refl, none)
no_first (x ∷ a) b none = absurd (cc)

-- two lists of accesses, one after the other
pub run_append : (a b : List Take) (r : Raw) → run_of r (a ++ b) ≡ run_of (run_of r a) b
run_append [] b r = refl
run_append (t ∷ a) b r = run_append a b (take_one r t)

pub along_append : (h : History) (code : List ℕ) (a b : List Take) (r : Raw) → Along h code r a
    → Along h code (run_of r a) b → Along h code r (a ++ b)
along_append h code [] b r p q = q
along_append h code (t ∷ a) b r p q = (p.0, along_append h code a b (take_one r t) p.1 q)

-- one access more at the end
pub run_snoc : (takes : List Take) (t : Take) (r : Raw) → run_of r (takes ++ t ∷ []) ≡ take_one (run_of r takes) t
run_snoc takes t r = run_append takes (t ∷ []) r

pub along_snoc : (h : History) (code : List ℕ) (takes : List Take) (t : Take) (r : Raw) → Along h code r takes
    → Fits h code (run_of r takes) t → Along h code r (takes ++ t ∷ [])
along_snoc h code takes t r along fits = along_append h code takes (t ∷ []) r along (fits, tt)

-- where no unit has ended, and none ends with the last access
pub unended_snoc : (takes : List Take) (t : Take) (r : Raw) → ends_along r takes ≡ []
    → ends_before (run_of r takes) t ≡ [] → ends_along r (takes ++ t ∷ []) ≡ []
unended_snoc [] t r none last = ap (λ ends. ends ++ []) last
unended_snoc (x ∷ takes) t r none last =
    let first = no_first (ends_before r x) _ none in
    ap (λ ends. ends ++ ends_along (take_one r x) (takes ++ t ∷ [])) first.0
    ∙ unended_snoc takes t (take_one r x) first.1 last
