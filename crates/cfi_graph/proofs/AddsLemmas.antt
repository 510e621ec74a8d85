-- Lists of facts to which facts are added.
use Rattle.std.proofs.Common.{◌≡◌, ◌⊎◌, ◌↔◌, ℕ, ◌+◌, ◌<◌, List, [], ◌∷◌, ◌++◌, refl, subst, inl, inr, arith}
use Rattle.std.specs.Prelude.{Result, Ok, Err, OnOk}
use Rattle.std.specs.List.{Contains}
use Rattle.std.proofs.lemmas.Bool.{cases_lt}
use Rattle.std.proofs.lemmas.List.Elements.{Contains-append_left, Contains-append_right, Contains-append_cases, Contains-push, Contains-push_cases}
use Rattle.cfi_graph.specs.declared.fact.Fact.{Fact}
use Rattle.cfi_graph.specs.Facts.{Adds}

-- nothing is added, since nothing is told
pub adds_none : (list : List Fact) (Tells : Fact → Type 0) → ((fact : Fact) → Tells fact → ⊥) → Adds list list Tells
adds_none list Tells none = record {
  kept = λ fact has. has;
  whole = λ fact told. absurd (none fact told);
  only = λ fact has. inl has;
}

-- the one fact that is told is added
pub adds_one : (old : List Fact) (one : Fact) (Tells : Fact → Type 0) → Tells one
    → ((fact : Fact) → Tells fact → one ≡ fact) → Adds old (old ++ one ∷ []) Tells
adds_one old one Tells told only = record {
  kept = λ fact has. Contains-append_left old (one ∷ []) fact has;
  whole = λ fact tells. subst (λ f. Contains (old ++ one ∷ []) f) (only fact tells) (Contains-push old one);
  only = λ fact has. elim (Contains-push_cases old one fact has) [
    | inl before ↦ inl before
    | inr same ↦ inr (subst Tells same told)
  ];
}

-- what each of two lists adds
pub adds_then : (old mid new : List Fact) (First Second : Fact → Type 0) → Adds old mid First → Adds mid new Second
    → Adds old new (λ fact. First fact ⊎ Second fact)
adds_then old mid new First Second a b = record {
  kept = λ fact has. b.kept fact (a.kept fact has);
  whole = λ fact told. elim told [ inl one ↦ b.kept fact (a.whole fact one) | inr two ↦ b.whole fact two ];
  only = λ fact has. elim (b.only fact has) [
    | inl mid_has ↦ elim (a.only fact mid_has) [ inl old_has ↦ inl old_has | inr one ↦ inr (inl one) ]
    | inr two ↦ inr (inr two)
  ];
}

-- the same facts, said otherwise
pub adds_as : (old new : List Fact) (First Second : Fact → Type 0) → Adds old new First
    → ((fact : Fact) → First fact → Second fact) → ((fact : Fact) → Second fact → First fact) → Adds old new Second
adds_as old new First Second a to back = record {
  kept = a.kept;
  whole = λ fact told. a.whole fact (back fact told);
  only = λ fact has. elim (a.only fact has) [ inl old_has ↦ inl old_has | inr told ↦ inr (to fact told) ];
}

-- a list that is added as it is
pub adds_list : (old more : List Fact) → Adds old (old ++ more) (λ fact. Contains more fact)
adds_list old more = record {
  kept = λ fact has. Contains-append_left old more fact has;
  whole = λ fact has. Contains-append_right old more fact has;
  only = λ fact has. Contains-append_cases old more fact has;
}

-- what one of the numbers below tells
abbrev pub TellsBelow : (count : ℕ) → (ℕ → Fact → Type 0) → Fact → Type 0
TellsBelow count Tells fact = (number : ℕ) × (number < count) × Tells number fact

pub adds_below_more : (old mid new : List Fact) (Tells : ℕ → Fact → Type 0) (count : ℕ)
    → Adds old mid (TellsBelow count Tells) → Adds mid new (Tells count) → Adds old new (TellsBelow (count + 1) Tells)
adds_below_more old mid new Tells count a b =
    adds_as old new (λ fact. TellsBelow count Tells fact ⊎ Tells count fact) (TellsBelow (count + 1) Tells)
    (adds_then old mid new (TellsBelow count Tells) (Tells count) a b)
    (λ fact told. elim told [
      | inl below ↦ (below.0, (let less : below.0 < count = below.1 in omega (arith, less)), below.2)
      | inr here ↦ (count, omega arith, here)
    ])
    (λ fact told.
    let within : told.0 < count + 1 = told.1 in
    elim (cases_lt told.0 count) [
      | inl less ↦ inl (told.0, less, told.2)
      | inr past ↦
          let here : told.0 ≡ count = omega (arith, within, past) in
          inr (subst (λ n. Tells n fact) here told.2)
    ])

-- a list that begins with nothing has what is told, and no more
pub adds_all : (new : List Fact) (Tells : Fact → Type 0) → Adds [] new Tells
    → (fact : Fact) → Contains new fact ↔ Tells fact
adds_all new Tells a fact = (
  λ has. elim (a.only fact has) [
    | inl none ↦ let below : none.0 < 0 = none.1 in absurd (omega (arith, below))
    | inr told ↦ told
  ],
  λ told. a.whole fact told,
)

-- both facts that are told are added
pub adds_two : (old : List Fact) (one two : Fact) (Tells : Fact → Type 0) → Tells one → Tells two
    → ((fact : Fact) → Tells fact → (one ≡ fact) ⊎ (two ≡ fact))
    → Adds old ((old ++ one ∷ []) ++ two ∷ []) Tells
adds_two old one two Tells first second only =
    let mid : List Fact = old ++ one ∷ [] in
    adds_as old (mid ++ two ∷ []) (λ fact. (one ≡ fact) ⊎ (two ≡ fact)) Tells
    (adds_then old mid (mid ++ two ∷ []) (λ fact. one ≡ fact) (λ fact. two ≡ fact)
    (adds_one old one (λ fact. one ≡ fact) refl (λ fact same. same))
    (adds_one mid two (λ fact. two ≡ fact) refl (λ fact same. same)))
    (λ fact told. elim told [ inl a ↦ subst Tells a first | inr b ↦ subst Tells b second ])
    only

-- what follows where something is said of a success
pub on_ok : {T E : Type 0} (r : Result T E) (P Q : Type 0) → (P → Q) → OnOk r P → OnOk r Q
on_ok (Ok x) P Q then holds = then holds
on_ok (Err e) P Q then holds = holds
