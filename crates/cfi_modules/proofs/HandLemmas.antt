-- The first Global functions and the entries of the examples.
use Rattle.std.proofs.Common.{◌≡◌, ℕ, zero, suc, ◌+◌, ◌*◌, ◌<◌, List, [], ◌∷◌, codes, Some, refl, ap, subst, ◌∙◌, arith}
use Rattle.std.specs.List.{slice_get}
use Rattle.std.proofs.lemmas.Bool.{false≢true}
use Rattle.cfi_aux.specs.declared.placed.Placed.{Placed}
use Rattle.cfi_aux.specs.declared.placed.PlacedFunction.{PlacedFunction}
use Rattle.cfi_modules.specs.Entry.{IsGlobal, IsGlobalOf, IsFirstOf, HasNoneOf, IsEntryIn}
use Rattle.cfi_modules.specs.Examples.{having, low, high, own, main, own_at, main_at}

-- what stands first is not Global
own_alone : (fs : List PlacedFunction) (k : ℕ) (g : PlacedFunction) → k < 1 → slice_get (own ∷ fs) k ≡ Some g
    → ¬ IsGlobal g
own_alone fs zero g below is global =
    let same : own ≡ g = cc in false≢true (ap (λ (f : PlacedFunction). f.global) same ∙ global)
own_alone fs (suc k) g below is global = absurd (omega (arith, below))

pub rising : IsFirstOf IsGlobal (having 16 (own ∷ low ∷ high ∷ [])) 72
rising = record {
  number = 1;
  function = low;
  is = refl;
  holds = refl;
  first = own_alone (low ∷ high ∷ []);
  here = refl;
}

pub falling : IsFirstOf IsGlobal (having 16 (own ∷ high ∷ low ∷ [])) 84
falling = record {
  number = 1;
  function = high;
  is = refl;
  holds = refl;
  first = own_alone (high ∷ low ∷ []);
  here = refl;
}

-- ---- entries

-- the one function of a module
first_main : (base address : ℕ) → address ≡ 4 * (base + 1)
    → IsFirstOf (IsGlobalOf (codes "main")) (main_at base) address
first_main base address here = record {
  number = 0;
  function = main;
  is = refl;
  holds = (refl, refl);
  first = λ k g below. absurd (omega (arith, below));
  here = here;
}

-- the entry is in the first module, whatever stands behind it
pub in_first : (base address : ℕ) (ms : List Placed) → address ≡ 4 * (base + 1)
    → IsEntryIn (main_at base ∷ ms) (codes "main") address
in_first base address ms here = record {
  number = 0;
  owner = main_at base;
  is = refl;
  entry = first_main base address here;
  first = λ k m below. absurd (omega (arith, below));
}

-- a function that is not Global is none
none_own : HasNoneOf (IsGlobalOf (codes "main")) (own_at 16)
none_own zero g there global = own_alone [] zero g (omega arith) there global.0
none_own (suc k) g there global = absurd (cc)

none_before : (k : ℕ) (m : Placed) → k < 1 → slice_get (own_at 16 ∷ main_at 24 ∷ []) k ≡ Some m
    → HasNoneOf (IsGlobalOf (codes "main")) m
none_before zero m below is =
    let same : own_at 16 ≡ m = cc in
    subst (HasNoneOf (IsGlobalOf (codes "main"))) same none_own
none_before (suc k) m below is = absurd (omega (arith, below))

pub in_second : IsEntryIn (own_at 16 ∷ main_at 24 ∷ []) (codes "main") 100
in_second = record {
  number = 1;
  owner = main_at 24;
  is = refl;
  entry = first_main 24 100 refl;
  first = none_before;
}
