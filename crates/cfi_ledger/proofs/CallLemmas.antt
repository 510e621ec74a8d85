-- The script's calls that are left.
use Rattle.std.proofs.Common.{◌≡◌, ℕ, zero, suc, ◌+◌, ◌-◌, ◌++◌, List, [], ◌∷◌, length, map, take, drop, replicate, Option, Some, None, refl, sym, ap, ◌∙◌, arith}
use Rattle.std.specs.Prelude.{IfNone, option_map}
use Rattle.std.specs.List.{slice_get}
use Rattle.std.proofs.lemmas.List.{append-nil, drop-drop, drop-map, map-append, take_all}
use Rattle.cfi_valid.specs.Script.{Call, Refresh}
use Rattle.cfi_ledger.specs.Calls.{call_due}
use Rattle.cfi_ledger.specs.declared.due.Due.{Due}
use Rattle.cfi_ledger.specs.declared.due.Due.TheVariants as dues

-- ---- the calls of a script

refreshes : (count : ℕ) → map call_due (replicate count dues.Refresh) ≡ replicate count Refresh
refreshes zero = refl
refreshes (suc count) = ap (λ (calls : List Call). Refresh ∷ calls) (refreshes count)

-- with so many refreshes more
pub refreshes_more : (calls : List Due) (n len count : ℕ) → n ≡ len + count → len ≡ length calls
    → map call_due (take n calls ++ replicate (n - len) dues.Refresh) ≡ map call_due calls ++ replicate count Refresh
refreshes_more calls n len count all is =
    map-append call_due (take n calls) (replicate (n - len) dues.Refresh)
    ∙ ap (λ (ds : List Due). map call_due ds ++ map call_due (replicate (n - len) dues.Refresh))
    (take_all n calls (omega (arith, all, is)))
    ∙ ap (λ (k : ℕ). map call_due calls ++ map call_due (replicate k dues.Refresh)) (omega (arith, all))
    ∙ ap (λ (more : List Call). map call_due calls ++ more) (refreshes count)

-- ---- those that are left

-- after one more
pub left_next : (calls : List Due) (made : ℕ)
    → map call_due (drop (made + 1) calls) ≡ drop 1 (map call_due (drop made calls))
left_next calls made =
    ap (map call_due) (sym (drop-drop 1 made calls)) ∙ sym (drop-map call_due 1 (drop made calls))

-- none is
pub none_left : (left : List Call) → slice_get left 0 ≡ None → left ≡ []
none_left [] none = refl
none_left (call ∷ left) none = absurd (cc)

pub none_due : (due : Option Due) (made left all : List Call) → option_map call_due due ≡ slice_get left 0
    → made ++ left ≡ all → IfNone due (made ≡ all)
none_due (Some call) made left all is script = tt
none_due None made left all is script =
    sym (append-nil made) ∙ ap (λ (calls : List Call). made ++ calls) (sym (none_left left (sym is))) ∙ script
