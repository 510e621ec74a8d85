-- Offsets lead to one word, and a word lies in one function.
use Rattle.std.proofs.Common.{◌≡◌, ◌∙◌, ℕ, ◌+◌, ◌*◌, ◌<◌, ◌≤◌, true, false, leb, leb-true, ℤ, pos, negsuc, List, length, get_or, refl, sym, ap, subst, inl, inr, arith}
use Rattle.std.specs.List.{Contains, AllPairs}
use Rattle.std.specs.List.Sorted.{IsPartitionPoint}
use Rattle.std.proofs.lemmas.Bool.{cases_lt, leb-false}
use Rattle.std.proofs.lemmas.List.{get_or_default}
use Rattle.cfi_aux.specs.declared.placed.PlacedFunction.{PlacedFunction}
use Rattle.cfi_graph.specs.Code.{Leads}
use Rattle.cfi_aux.specs.Extent.{LiesIn}
use Rattle.cfi_graph.specs.Shaped.{FunctionPrecedes}
use Rattle.cfi_graph.specs.Facts.{LeadsToWord, IsFirst}

leads_one : (from : ℕ) (off : ℤ) (one other : ℕ) → Leads from off (4 * one) → Leads from off (4 * other) → one ≡ other
leads_one from (pos n) one other a b = omega (arith, a, b)
leads_one from (negsuc n) one other a b = omega (arith, a, b)

-- an offset leads to one word
pub word_one : (at : ℕ) (off : ℤ) (one other : ℕ) → LeadsToWord at off one → LeadsToWord at off other → one ≡ other
word_one at off one other a b = leads_one (4 * at) off one other a.leads b.leads

-- functions in order in which one word lies have one number
same_number : (functions : List PlacedFunction) → AllPairs FunctionPrecedes functions → (i j at : ℕ) (d : PlacedFunction)
    → i < length functions → j < length functions → LiesIn (get_or functions i d) at → LiesIn (get_or functions j d) at
    → i ≡ j
same_number functions order i j at d i_in j_in a b =
    elim (cases_lt i j) [
      | inl less ↦
          let before : FunctionPrecedes (get_or functions i d) (get_or functions j d) = order i j d less j_in in
          absurd (omega (arith, before, a.1, b.0))
      | inr more ↦ elim (cases_lt j i) [
        | inl less ↦
            let before : FunctionPrecedes (get_or functions j d) (get_or functions i d) = order j i d less i_in in
            absurd (omega (arith, before, b.1, a.0))
        | inr least ↦ omega (arith, more, least)
      ]
    ]

-- a word lies in one of them
pub function_one : (functions : List PlacedFunction) → AllPairs FunctionPrecedes functions → (at : ℕ) (f g : PlacedFunction)
    → Contains functions f → Contains functions g → LiesIn f at → LiesIn g at → f ≡ g
function_one functions order at f g f_in g_in a b =
    let g_is : get_or functions g_in.0 f ≡ g = get_or_default functions g_in.0 f g g_in.1 ∙ g_in.2 in
    let same : f_in.0 ≡ g_in.0 =
    same_number functions order f_in.0 g_in.0 at f f_in.1 g_in.1 (subst (λ h. LiesIn h at) (sym f_in.2) a)
    (subst (λ h. LiesIn h at) (sym g_is) b) in
    sym f_in.2 ∙ ap (λ k. get_or functions k f) same ∙ g_is

pub first_one : (functions : List PlacedFunction) → AllPairs FunctionPrecedes functions → (at one other : ℕ)
    → IsFirst functions at one → IsFirst functions at other → one ≡ other
first_one functions order at one other a b =
    a.is ∙ ap (λ f. f.first) (function_one functions order at a.function b.function a.has b.has a.lies b.lies) ∙ sym b.is

-- ---- the function of a word, by where functions end

abbrev pub end_of : PlacedFunction → ℕ
end_of f = f.first + f.count

-- functions before the number end at the word or before it, the others past it
pub record IsCut (functions : List PlacedFunction) (number at : ℕ) : Type 0 where
  pub before : (k : ℕ) (d : PlacedFunction) → k < number → end_of (get_or functions k d) ≤ at
  pub after : (k : ℕ) (d : PlacedFunction) → number ≤ k → k < length functions → at < end_of (get_or functions k d)

pub ends_rise : (functions : List PlacedFunction) → AllPairs FunctionPrecedes functions → (i j : ℕ) (d : PlacedFunction) → i ≤ j
    → j < length functions → end_of (get_or functions i d) ≤ end_of (get_or functions j d)
ends_rise functions order i j d least within =
    elim (cases_lt i j) [
      | inl less ↦
          let before : FunctionPrecedes (get_or functions i d) (get_or functions j d) = order i j d less within in
          omega (arith, before)
      | inr more ↦
          let same : i ≡ j = omega (arith, least, more) in
          subst (λ k. end_of (get_or functions i d) ≤ end_of (get_or functions k d)) same (omega arith)
    ]

module _ (functions : List PlacedFunction) (number at : ℕ) (cut : IsCut functions number at) where
  -- a word that lies in a function lies in one that ends past it
  pub not_before : (first : ℕ) (is : IsFirst functions at first) → number ≤ is.has.0
  not_before first is =
      elim (cases_lt is.has.0 number) [
        | inl less ↦
            let ends : end_of (get_or functions is.has.0 is.function) ≤ at = cut.before is.has.0 is.function less in
            let same = is.has.2 in
            let last : end_of is.function ≤ at = subst (λ f. end_of f ≤ at) same ends in
            let lies = is.lies in
            absurd (omega (arith, last, lies.1))
        | inr more ↦ more
      ]

  pub past_all : length functions ≤ number → (first : ℕ) → IsFirst functions at first → ⊥
  past_all all first is =
      let more = not_before first is in
      let within : is.has.0 < length functions = is.has.1 in
      omega (arith, all, more, within)

  -- the function of the number is the one in which the word lies
  pub lies_here : AllPairs FunctionPrecedes functions → (f : PlacedFunction) → f ≡ get_or functions number f
      → number < length functions → (first : ℕ) → IsFirst functions at first → first ≡ f.first
  lies_here order f f_is there first is =
      let k = is.has.0 in
      let more = not_before first is in
      let within : k < length functions = is.has.1 in
      elim (cases_lt number k) [
        | inl less ↦
            let before : FunctionPrecedes (get_or functions number f) (get_or functions k f) = order number k f less within in
            let ends : at < end_of (get_or functions number f) = cut.after number f (omega arith) there in
            let same : get_or functions k f ≡ is.function =
            get_or_default functions k f is.function within ∙ is.has.2 in
            let begins : (get_or functions k f).first ≡ is.function.first = ap (λ g. g.first) same in
            let lies = is.lies in
            absurd (omega (arith, before, ends, begins, lies.0))
        | inr least ↦
            let here : k ≡ number = omega (arith, more, least) in
            let own : get_or functions k f ≡ is.function =
            get_or_default functions k f is.function within ∙ is.has.2 in
            let same : is.function ≡ f = sym own ∙ ap (λ n. get_or functions n f) here ∙ sym f_is in
            is.is ∙ ap (λ g. g.first) same
      ]

  pub found_here : (f : PlacedFunction) → f ≡ get_or functions number f → number < length functions → f.first ≤ at
      → IsFirst functions at f.first
  found_here f f_is there begins =
      let ends : at < end_of (get_or functions number f) = cut.after number f (omega arith) there in
      let last : at < end_of f = subst (λ g. at < end_of g) (sym f_is) ends in
      record { function = f; has = (number, there, sym f_is); lies = (begins, last); is = refl }

  pub begins_later : AllPairs FunctionPrecedes functions → (f : PlacedFunction) → f ≡ get_or functions number f
      → number < length functions → at < f.first → (first : ℕ) → IsFirst functions at first → ⊥
  begins_later order f f_is there later first is =
      let same = lies_here order f f_is there first is in
      let own = is.is in
      let lies = is.lies in
      omega (arith, later, same, own, lies.0)

-- where the functions are cut by whether they end at the word or before
pub cut_from : (functions : List PlacedFunction) (number at : ℕ)
    → IsPartitionPoint (λ f. leb (end_of f) at ≡ true) (λ f. leb (end_of f) at ≡ false) functions number
    → IsCut functions number at
cut_from functions number at point = record {
  before = λ k d less. leb-true (end_of (get_or functions k d)) at (point.0 k d (omega arith) less);
  after = λ k d more within. leb-false (end_of (get_or functions k d)) at (point.1 k d more within);
}
