-- The first function of a module of which something holds.
use Rattle.std.proofs.Common.{◌≡◌, ℕ, zero, suc, ◌<◌, ◌≤◌, ◌&&◌, Bool, true, false, cond, List, [], ◌∷◌, Some, None, refl, ap, sym, subst, ◌∙◌, ◌^◌, ⊎_elim, arith}
use Rattle.std.specs.Prelude.{find, bytes_eq}
use Rattle.std.specs.List.{slice_get}
use Rattle.std.proofs.lemmas.Bool.{cases_lt, cases_Bool, false≢true, and_parts}
use Rattle.std.proofs.lemmas.Slice.Eq.{bytes_eq-Decides}
use Rattle.std.proofs.lemmas.Option.{slice_get_within, get_or_from_slice_get}
use Rattle.cfi_aux.specs.declared.placed.Placed.{Placed}
use Rattle.cfi_aux.specs.declared.placed.PlacedFunction.{PlacedFunction}
use Rattle.cfi_graph.specs.Code.{entry_of}
use Rattle.cfi_modules.specs.Entry.{IsGlobal, IsGlobalOf, IsFirstOf, HasNoneOf, HasAddresses}

-- what is found is the first
pub record IsFound (p : PlacedFunction → Bool) (fs : List PlacedFunction) (f : PlacedFunction) : Type 0 where
  pub number : ℕ
  pub is : slice_get fs number ≡ Some f
  pub holds : p f ≡ true
  pub first : (k : ℕ) (g : PlacedFunction) → k < number → slice_get fs k ≡ Some g → p g ≡ true → ⊥

module _ (p : PlacedFunction → Bool) where
  found_behind : (f : PlacedFunction) (fs : List PlacedFunction) (g : PlacedFunction) → p f ≡ false → IsFound p fs g
      → IsFound p (f ∷ fs) g
  found_behind f fs g other found = record {
    number = suc found.number;
    is = found.is;
    holds = found.holds;
    first = earlier;
  }
    where
      earlier : (k : ℕ) (h : PlacedFunction) → k < suc found.number → slice_get (f ∷ fs) k ≡ Some h → p h ≡ true → ⊥
      earlier zero h below is holds =
          let same : f ≡ h = cc in false≢true (sym other ∙ ap p same ∙ holds)
      earlier (suc k) h below is holds = found.first k h (omega (arith, below)) is holds

  -- ---- find, from the front

  find_some : (fs : List PlacedFunction) (g : PlacedFunction) → find p fs ≡ Some g → IsFound p fs g
  find_some [] g is = absurd (cc)
  find_some (f ∷ fs) g is = ⊎_elim
      (λ (here : p f ≡ true).
      let same : Some f ≡ Some g = sym (ap (λ b. cond b (Some f) (find p fs)) here) ∙ is in
      let f_is : f ≡ g = cc in
      record { number = 0; is = same; holds = ap p (sym f_is) ∙ here; first = λ k h below. absurd (omega (arith, below)) })
      (λ (other : p f ≡ false).
      found_behind f fs g other (find_some fs g (sym (ap (λ b. cond b (Some f) (find p fs)) other) ∙ is)))
      (cases_Bool (p f))

  find_none : (fs : List PlacedFunction) → find p fs ≡ None → (k : ℕ) (g : PlacedFunction) → slice_get fs k ≡ Some g
      → p g ≡ true → ⊥
  find_none [] is k g there holds = cc
  find_none (f ∷ fs) is zero g there holds =
      let same : f ≡ g = cc in
      let found = ap (λ b. cond b (Some f) (find p fs)) (ap p same ∙ holds) in
      let none : Some f ≡ None = sym found ∙ is in
      cc
  find_none (f ∷ fs) is (suc k) g there holds = ⊎_elim
      (λ (here : p f ≡ true).
      let none : Some f ≡ None = sym (ap (λ b. cond b (Some f) (find p fs)) here) ∙ is in
      cc)
      (λ (other : p f ≡ false).
      find_none fs (sym (ap (λ b. cond b (Some f) (find p fs)) other) ∙ is) k g there holds)
      (cases_Bool (p f))

  -- ---- of a module

  module _ (P : PlacedFunction → Type 0) (yes : (f : PlacedFunction) → p f ≡ true → P f)
      (no : (f : PlacedFunction) → P f → p f ≡ true) (m : Placed) where
    pub first_is : (f : PlacedFunction) (address : ℕ) → find p m.functions ≡ Some f → address ≡ entry_of m f
        → IsFirstOf P m address
    first_is f address is here =
        let found = find_some m.functions f is in
        record {
          number = found.number;
          function = f;
          is = found.is;
          holds = yes f found.holds;
          first = λ k g below there holds. found.first k g below there (no g holds);
          here = here;
        }

    pub first_only : (f : PlacedFunction) (address : ℕ) → find p m.functions ≡ Some f → IsFirstOf P m address
        → address ≡ entry_of m f
    first_only f address is first =
        let found = find_some m.functions f is in
        ⊎_elim
        (λ (less : found.number < first.number).
        absurd (first.first found.number f less found.is (yes f found.holds)))
        (λ (more : first.number ≤ found.number). ⊎_elim
        (λ (less : first.number < found.number).
        absurd (found.first first.number first.function less first.is (no first.function first.holds)))
        (λ (least : found.number ≤ first.number).
        let number : first.number ≡ found.number = omega (arith, least, more) in
        let same : Some first.function ≡ Some f = sym first.is ∙ ap (slice_get m.functions) number ∙ found.is in
        let function : first.function ≡ f = cc in
        first.here ∙ ap (entry_of m) function)
        (cases_lt first.number found.number))
        (cases_lt found.number first.number)

    pub none_of : find p m.functions ≡ None → HasNoneOf P m
    none_of is k g there holds = find_none m.functions is k g there (no g holds)

    pub found_fits : (f : PlacedFunction) → find p m.functions ≡ Some f → HasAddresses m → entry_of m f < 2 ^ 32
    found_fits f is fits =
        let found = find_some m.functions f is in
        subst (λ (g : PlacedFunction). entry_of m g < 2 ^ 32) (get_or_from_slice_get m.functions found.number f f found.is)
        (fits found.number f (slice_get_within m.functions found.number f found.is))

-- ---- the two properties

pub global_yes : (f : PlacedFunction) → f.global ≡ true → IsGlobal f
global_yes f is = is

both : (a b : Bool) → a ≡ true → b ≡ true → a && b ≡ true
both true true here there = refl
both true false here there = there
both false b here there = here

pub named_yes : (name : List ℕ) (f : PlacedFunction) → f.global && bytes_eq f.name name ≡ true → IsGlobalOf name f
named_yes name f is =
    let parts = and_parts f.global (bytes_eq f.name name) is in (parts.0, (bytes_eq-Decides f.name name).0 parts.1)

pub named_no : (name : List ℕ) (f : PlacedFunction) → IsGlobalOf name f → f.global && bytes_eq f.name name ≡ true
named_no name f is = both f.global (bytes_eq f.name name) is.0 ((bytes_eq-Decides f.name name).1 is.1)
