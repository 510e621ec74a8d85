-- What readers read is spelled so, and what is spelled so is read.
use Rattle.std.proofs.Common.{◌≡◌, ℕ, List, ◌++◌, Ok, refl, sym, ap, subst, ◌∙◌, append_assoc}
use Rattle.cfi_type_table.proofs.Parts.{IsBytes, Takes, Takes-then}
use Rattle.cfi_aux.specs.Reading.{Reader, and_with, and_also, seen_as}
use Rattle.cfi_values.specs.Then.{◌>>=◌}
use Rattle.cfi_values.proofs.ThenLemmas.{then_ok, ok_is}

-- a reader reads exactly what is spelled: `spell` is the spelling of a value, `good` says which values have one
pub record Reads (X : Type 0) (spell : X → List ℕ) (good : X → Type 0) (read : Reader X) : Type 0 where
  pub takes : (bytes : List ℕ) (x : X × List ℕ) → IsBytes bytes → read bytes ≡ Ok x
      → Takes bytes (spell x.0) x.1 × good x.0
  pub again : (x : X) (rest : List ℕ) → good x → read (spell x ++ rest) ≡ Ok (x, rest)

-- ---- one after the other

with_takes : {A B : Type 0} (spell : A → List ℕ) (good : A → Type 0) (read : Reader A) (spell' : A → B → List ℕ)
    (good' : A → B → Type 0) (read' : A → Reader B) → Reads A spell good read
    → ((a : A) → good a → Reads B (spell' a) (good' a) (read' a)) → (bytes : List ℕ) (x : (A × B) × List ℕ)
    → IsBytes bytes → and_with read read' bytes ≡ Ok x
    → Takes bytes (spell x.0.0 ++ spell' x.0.0 x.0.1) x.1 × (good x.0.0 × good' x.0.0 x.0.1)
unfolding and_with
with_takes {A = A} {B = B} spell good read spell' good' read' first second bytes x fits e =
    let a = then_ok (read bytes) (λ a. read' a.0 a.1 >>= λ b. Ok ((a.0, b.0), b.1)) x e in
    let b = then_ok (read' a.0.0 a.0.1) (λ b. Ok ((a.0.0, b.0), b.1)) x a.2 in
    let one = first.takes bytes a.0 fits a.1 in
    let two = (second a.0.0 one.1).takes a.0.1 b.0 one.0.rest_fits b.1 in
    let both = Takes-then bytes (spell a.0.0) a.0.1 (spell' a.0.0 b.0.0) b.0.1 one.0 two.0 in
    let made : (A × B) × List ℕ = ((a.0.0, b.0.0), b.0.1) in
    subst (λ (y : (A × B) × List ℕ). Takes bytes (spell y.0.0 ++ spell' y.0.0 y.0.1) y.1
    × (good y.0.0 × good' y.0.0 y.0.1)) (ok_is made x b.2) (both, (one.1, two.1))

with_again : {A B : Type 0} (spell : A → List ℕ) (good : A → Type 0) (read : Reader A) (spell' : A → B → List ℕ)
    (good' : A → B → Type 0) (read' : A → Reader B) → Reads A spell good read
    → ((a : A) → good a → Reads B (spell' a) (good' a) (read' a)) → (x : A × B) (rest : List ℕ)
    → (good x.0 × good' x.0 x.1) → and_with read read' ((spell x.0 ++ spell' x.0 x.1) ++ rest) ≡ Ok (x, rest)
unfolding and_with
with_again spell good read spell' good' read' first second x rest h =
    ap (and_with read read') (append_assoc (spell x.0) (spell' x.0 x.1) rest)
    ∙ rw (first.again x.0 (spell' x.0 x.1 ++ rest) h.0, (second x.0 h.0).again x.1 rest h.1) refl

pub Reads-with : {A B : Type 0} (spell : A → List ℕ) (good : A → Type 0) (read : Reader A) (spell' : A → B → List ℕ)
    (good' : A → B → Type 0) (read' : A → Reader B) → Reads A spell good read
    → ((a : A) → good a → Reads B (spell' a) (good' a) (read' a))
    → Reads (A × B) (λ x. spell x.0 ++ spell' x.0 x.1) (λ x. good x.0 × good' x.0 x.1) (and_with read read')
Reads-with spell good read spell' good' read' first second = record {
  takes = with_takes spell good read spell' good' read' first second;
  again = with_again spell good read spell' good' read' first second;
}

also_with : {A B : Type 0} (read : Reader A) (read' : Reader B) (bytes : List ℕ)
    → and_also read read' bytes ≡ and_with read (λ a. read') bytes
unfolding and_also and_with
also_with read read' bytes = refl

pub Reads-also : {A B : Type 0} (spell : A → List ℕ) (good : A → Type 0) (read : Reader A) (spell' : B → List ℕ)
    (good' : B → Type 0) (read' : Reader B) → Reads A spell good read → Reads B spell' good' read'
    → Reads (A × B) (λ x. spell x.0 ++ spell' x.1) (λ x. good x.0 × good' x.1) (and_also read read')
Reads-also spell good read spell' good' read' first second =
    let both = Reads-with spell good read (λ a. spell') (λ a. good') (λ a. read') first (λ a h. second) in
    record {
      takes = λ bytes x fits e. both.takes bytes x fits (sym (also_with read read' bytes) ∙ e);
      again = λ x rest h. also_with read read' ((spell x.0 ++ spell' x.1) ++ rest) ∙ both.again x rest h;
    }

-- ---- seen as another value

-- values and their views are spelled alike, and are good together
pub record Agree (A B : Type 0) (spell : A → List ℕ) (good : A → Type 0) (spell' : B → List ℕ) (good' : B → Type 0)
    (view : A → B) (back : B → A) : Type 0 where
  pub spelled : (a : A) → good a → spell' (view a) ≡ spell a
  pub viewed : (a : A) → good a → good' (view a)
  pub good_back : (b : B) → good' b → good (back b)
  pub view_back : (b : B) → good' b → view (back b) ≡ b

as_takes : {A B : Type 0} (spell : A → List ℕ) (good : A → Type 0) (read : Reader A) (spell' : B → List ℕ)
    (good' : B → Type 0) (view : A → B) (back : B → A) → Agree A B spell good spell' good' view back
    → Reads A spell good read → (bytes : List ℕ) (x : B × List ℕ) → IsBytes bytes → seen_as view read bytes ≡ Ok x
    → Takes bytes (spell' x.0) x.1 × good' x.0
unfolding seen_as
as_takes {A = A} {B = B} spell good read spell' good' view back agree reads bytes x fits e =
    let a = then_ok (read bytes) (λ a. Ok (view a.0, a.1)) x e in
    let one = reads.takes bytes a.0 fits a.1 in
    let made : B × List ℕ = (view a.0.0, a.0.1) in
    let taken : Takes bytes (spell' (view a.0.0)) a.0.1 =
    subst (λ (s : List ℕ). Takes bytes s a.0.1) (sym (agree.spelled a.0.0 one.1)) one.0 in
    subst (λ (y : B × List ℕ). Takes bytes (spell' y.0) y.1 × good' y.0) (ok_is made x a.2)
    (taken, agree.viewed a.0.0 one.1)

as_again : {A B : Type 0} (spell : A → List ℕ) (good : A → Type 0) (read : Reader A) (spell' : B → List ℕ)
    (good' : B → Type 0) (view : A → B) (back : B → A) → Agree A B spell good spell' good' view back
    → Reads A spell good read → (x : B) (rest : List ℕ) → good' x → seen_as view read (spell' x ++ rest) ≡ Ok (x, rest)
unfolding seen_as
as_again {B = B} spell good read spell' good' view back agree reads x rest h =
    let g = agree.good_back x h in
    let v = agree.view_back x h in
    let same : spell' x ≡ spell (back x) = ap spell' (sym v) ∙ agree.spelled (back x) g in
    ap (λ (s : List ℕ). seen_as view read (s ++ rest)) same
    ∙ rw (reads.again (back x) rest g) (ap (λ (y : B). Ok (y, rest)) v)

pub Reads-as : {A B : Type 0} (spell : A → List ℕ) (good : A → Type 0) (read : Reader A) (spell' : B → List ℕ)
    (good' : B → Type 0) (view : A → B) (back : B → A) → Agree A B spell good spell' good' view back
    → Reads A spell good read → Reads B spell' good' (seen_as view read)
Reads-as spell good read spell' good' view back agree reads = record {
  takes = as_takes spell good read spell' good' view back agree reads;
  again = as_again spell good read spell' good' view back agree reads;
}

-- the same values, told good in other words
pub Reads-good : {X : Type 0} (spell : X → List ℕ) (good good' : X → Type 0) (read : Reader X)
    → ((x : X) → good x → good' x) → ((x : X) → good' x → good x) → Reads X spell good read → Reads X spell good' read
Reads-good spell good good' read there back reads = record {
  takes = λ bytes x fits e. let one = reads.takes bytes x fits e in (one.0, there x.0 one.1);
  again = λ x rest h. reads.again x rest (back x h);
}
