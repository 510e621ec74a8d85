-- Modules by name, as modules are added.
use Rattle.std.proofs.Common.{◌≡◌, ℕ, ◌+◌, ◌≤◌, Bool, true, false, not, cond, List, [], ◌∷◌, ◌++◌, length, Option, is_some, Some, None, refl, sym, subst, ◌∙◌, ⊎_elim, arith, length-append}
use Rattle.std.proofs.lemmas.Bool.{cases_Bool, cond-true, cond-false}
use Rattle.std.proofs.lemmas.Bool.Decides.{nat_tests}
use Rattle.std.proofs.lemmas.List.Folds.{position_or_len_push}
use Rattle.std.proofs.lemmas.List.Sums.{prefix_len-le-length, sum_by-append}
use Rattle.std.proofs.lemmas.Slice.Eq.{bytes_eq-Decides}
use Rattle.std.specs.List.{position, position_or_len}
use Rattle.std.specs.Str.{bytes_eq}
use Rattle.cfi_plan.specs.declared.plan.PlanModule.{PlanModule}
use Rattle.cfi_plan.specs.Draft.{module_of, starts, one_if}

position_or_len-le : (p : PlanModule → Bool) (xs : List PlanModule) → position_or_len p xs ≤ length xs
position_or_len-le p xs = prefix_len-le-length (λ (x : PlanModule). not (p x)) xs

-- an item that fails changes no first place
position-push_no : (p : PlanModule → Bool) (xs : List PlanModule) (y : PlanModule) → p y ≡ false
    → position p (xs ++ y ∷ []) ≡ position p xs
position-push_no p xs y e =
    let push = rw e at (position_or_len_push p xs y) in
    let most = position_or_len-le p xs in
    let long = length-append xs (y ∷ []) in
    grind (arith, nat_tests)

-- an item that passes is the first, where none before it does
position-push_yes : (p : PlanModule → Bool) (xs : List PlanModule) (y : PlanModule) → p y ≡ true → position p xs ≡ None
    → position p (xs ++ y ∷ []) ≡ Some (length xs)
position-push_yes p xs y e none =
    let push = rw e at (position_or_len_push p xs y) in
    let most = position_or_len-le p xs in
    let long = length-append xs (y ∷ []) in
    grind (arith, nat_tests)

-- a module of a new name takes the next number
pub module_of-push : (modules : List PlanModule) (one : PlanModule) (name : List ℕ) → module_of modules one.name ≡ None
    → module_of (modules ++ one ∷ []) name ≡ cond (bytes_eq one.name name) (Some (length modules)) (module_of modules
    name)
module_of-push modules one name none =
    let p : PlanModule → Bool = λ other. bytes_eq other.name name in
    let found = λ (same : bytes_eq one.name name ≡ true).
    let absent = subst (λ (other : List ℕ). module_of modules other ≡ None) ((bytes_eq-Decides one.name name).0 same)
    none in
    position-push_yes p modules one same absent ∙ sym (cond-true (bytes_eq one.name name) _ _ same) in
    let missed = λ (other : bytes_eq one.name name ≡ false).
    position-push_no p modules one other ∙ sym (cond-false (bytes_eq one.name name) _ _ other) in
    ⊎_elim found missed (cases_Bool (bytes_eq one.name name))

pub starts-push : (modules : List PlanModule) (one : PlanModule)
    → starts (modules ++ one ∷ []) ≡ starts modules + one_if one.start
starts-push modules one = sum_by-append (λ (x : PlanModule). one_if x.start) modules (one ∷ []) ∙ omega arith

-- what is not there
pub none_from : (found : Option ℕ) → is_some found ≡ false → found ≡ None
none_from None e = refl
none_from (Some number) e = cc
