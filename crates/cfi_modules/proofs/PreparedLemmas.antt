-- A series with one module more is another, and gives that back; and one answer has one fault.
use Rattle.std.proofs.Common.{◌≡◌, ℕ, [], ◌∷◌, Bool, true, List, length, get_or, Result, Err, refl, sym, ap, subst, ◌∙◌, arith, length-append}
use Rattle.std.proofs.lemmas.List.{get_or_push}
use Rattle.cfi_aux.specs.declared.placed.Placed.{Placed}
use Rattle.cfi_modules.specs.declared.fault.JoinFault.{JoinFault}
use Rattle.cfi_modules.specs.declared.fault.JoinFault.TheVariants.{Memory}
use Rattle.cfi_modules.specs.Series.{Series, with_module, without_last}
use Rattle.cfi_modules.proofs.IndexLemmas.{before_last}

pub not_longer : (series : Series) (placed : Placed) → series ≡ with_module series placed → ⊥
not_longer series placed same =
    omega (
      arith,
      ap (λ (s : Series). length s.placed) same,
      length-append series.placed (placed ∷ []),
    )

abbrev series_with : ℕ → List Placed → List Bool → Series
series_with code_words placed flags = record { code_words = code_words; placed = placed; flags = flags }

-- without the module it is what it was
pub series_before : (old : Series) (one : Placed) → without_last (with_module old one) ≡ old
series_before old one =
    ap (λ (ps : List Placed). series_with old.code_words ps (without_last (with_module old one)).flags)
    (before_last old.placed one)
    ∙ ap (series_with old.code_words old.placed) (before_last old.flags true)

-- without its last module it is what it was, and that module is the one that it took
module _ (all rest old : Series) (last one : Placed) (rest_is : rest ≡ without_last all)
    (last_is : with_module rest last ≡ all) (is : all ≡ with_module old one) where
  same_rest : rest ≡ old
  same_rest = rest_is ∙ ap without_last is ∙ series_before old one

  same_last : last ≡ one
  same_last =
      let n = length old.placed in
      let both : with_module old last ≡ with_module old one =
      subst (λ (s : Series). with_module s last ≡ with_module old one) same_rest (last_is ∙ is) in
      sym (get_or_push old.placed last one n refl)
      ∙ ap (λ (s : Series). get_or s.placed n one) both
      ∙ get_or_push old.placed one one n refl

  abbrev pair : Series → Placed → Series × Placed
  pair s p = (s, p)

  pub gives_back : pair rest last ≡ pair old one
  gives_back = ap (λ (s : Series). pair s last) same_rest ∙ ap (pair old) same_last

-- an answer has one fault
abbrev refused : JoinFault → Result (Unit {0}) JoinFault
refused fault = Err fault

pub one_fault : (fault : JoinFault) → refused fault ≡ refused Memory → fault ≡ Memory
one_fault fault same = cc
