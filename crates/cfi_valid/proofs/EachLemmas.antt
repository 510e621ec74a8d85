-- What holds of each item of a list, and of the last unit of a function.
use Rattle.std.proofs.Common.{◌≡◌, ℕ, zero, suc, ◌≤◌, ◌&&◌, Bool, true, cond, List, [], ◌∷◌, sym, ap, subst, ◌∙◌, ⊎_elim}
use Rattle.std.specs.Prelude.{nat_le, nat_lt}
use Rattle.std.specs.List.{Contains, AllByRecursion, list_all}
use Rattle.std.proofs.lemmas.Bool.{and_parts, and_from, le-leb, lt-ltb, leb-true}
use Rattle.elf_read.specs.Lists.{Each}
use Rattle.cfi_aux.specs.Extent.{end_of, LiesIn}
use Rattle.cfi_aux.specs.declared.placed.PlacedFunction.{PlacedFunction}
use Rattle.cfi_flow.proofs.Members.{no_member, member_cases}
use Rattle.cfi_unit.specs.declared.spot.Spot.{Spot}

-- no item of no list, and the one of a list of one
pub each_none : {T : Type 0} (P : ℕ → T → Type 0) → Each [] P
each_none P = λ k x is. absurd (cc)

pub each_one : {T : Type 0} (x : T) (P : ℕ → T → Type 0) → P 0 x → Each (x ∷ []) P
each_one {T} x P here zero y is =
    let same : x ≡ y = cc in
    subst (λ (z : T). P 0 z) same here
each_one x P here (suc k) y is = absurd (cc)

-- what holds of each item, and of each with its number
pub each_of : {T : Type 0} (Q : T → Type 0) (xs : List T) → AllByRecursion Q xs → Each xs (λ k x. Q x)
each_of Q [] all k y is = absurd (cc)
each_of Q (x ∷ xs) all zero y is =
    let same : x ≡ y = cc in
    subst Q same all.0
each_of Q (x ∷ xs) all (suc k) y is = each_of Q xs all.1 k y is

abbrev pub AllNumbered : {T : Type 0} → (ℕ → T → Type 0) → List T → Type 0
AllNumbered P [] = Unit {0}
AllNumbered P (x ∷ xs) = P 0 x × AllNumbered (λ n. P (suc n)) xs

pub each_numbered : {T : Type 0} (P : ℕ → T → Type 0) (xs : List T) → AllNumbered P xs → Each xs P
each_numbered P [] all k y is = absurd (cc)
each_numbered {T} P (x ∷ xs) all zero y is =
    let same : x ≡ y = cc in
    subst (λ (z : T). P 0 z) same all.0
each_numbered P (x ∷ xs) all (suc k) y is = each_numbered (λ n. P (suc n)) xs all.1 k y is

-- ---- the last unit of a function

-- a unit does not lie in the function, or not behind this word
abbrev pub is_most : PlacedFunction → (last : ℕ) → Spot → Bool
is_most f last s = cond (nat_le f.first s.at && nat_lt s.at (end_of f)) (nat_le s.at last) true

pub most_by : (f : PlacedFunction) (last : ℕ) (spots : List Spot) → list_all (is_most f last) spots ≡ true
    → (other : Spot) → Contains spots other → LiesIn f other.at → other.at ≤ last
most_by f last [] all other is lies = absurd (no_member other is)
most_by f last (s ∷ spots) all other is lies =
    let both = and_parts (is_most f last s) (list_all (is_most f last) spots) all in
    ⊎_elim
    (λ (same : s ≡ other).
    let most : is_most f last other ≡ true = subst (λ (x : Spot). is_most f last x ≡ true) same both.0 in
    let inside = and_from (nat_le f.first other.at) (nat_lt other.at (end_of f)) (le-leb f.first other.at lies.0)
    (lt-ltb other.at (end_of f) lies.1) in
    leb-true other.at last (sym (ap (λ (b : Bool). cond b (nat_le other.at last) true) inside) ∙ most))
    (λ (later : Contains spots other). most_by f last spots both.1 other later lies)
    (member_cases s spots other is)
