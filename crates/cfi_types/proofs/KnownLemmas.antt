-- Which classes of the new table are known: those of a near table.
use Rattle.std.proofs.Common.{◌≡◌, ℕ, suc, ◌+◌, ◌-◌, ◌<◌, List, [], ◌∷◌, ◌++◌, length, get_or, sym, ap, subst, ◌∙◌, arith}
use Rattle.std.specs.List.{Contains}
use Rattle.std.proofs.lemmas.List.{length-append, get_or_read}
use Rattle.std.proofs.lemmas.List.Elements.{All-from_recursion, All-get_or, Contains-get_or}
use Rattle.cfi_type_table.specs.Node.{Node}
use Rattle.cfi_type_table.specs.Spelling.{AreTypes}
use Rattle.cfi_types.specs.Same.{Equal}
use Rattle.cfi_types.specs.Classes.{table_of, class_of, IsNodePlace}
use Rattle.cfi_types.specs.inner.Depth.{digests_to}
use Rattle.cfi_types.specs.inner.Extending.{next_at, AreBack}
use Rattle.cfi_types.specs.declared.near.TheConstants.{DEPTH}
use Rattle.cfi_types.proofs.DepthLemmas.{Equal-trans, same_digest, length-digests}
use Rattle.cfi_types.proofs.OrderLemmas.{first_place, class_below, next_steps}
use Rattle.cfi_types.proofs.PreparedLemmas.{IsPrepared, as_many, near_many, own_many, near_at, new_at, own_row, kept_row, number_within, near_place, new_place}

module _ {tables : List (List Node)} {kept : List (List ℕ)} {new : List Node} {numbers : List ℕ}
    {near : List (List Node)} {own : List (List ℕ)} (s : IsPrepared tables kept new numbers near own) {back : List ℕ}
    (is_back : AreBack own kept numbers (length numbers) back) where
  -- the kept place of a class that is known
  pub record IsKnown (o : ℕ) : Type 0 where
    pub t : ℕ
    pub a : ℕ
    pub place : IsNodePlace tables t a
    pub number : get_or back o 0 ≡ class_of kept t a
    pub same : (b : ℕ) → b < length new → class_of own (length numbers) b ≡ o → Equal (table_of tables t) a new b

  pub known : (o : ℕ) → o < length back → IsKnown o
  known o lt =
      let at = is_back.each o lt in
      let i = at.0 in
      let a = at.1 in
      let t = get_or numbers i 0 in
      let here = near_place s i a at.2 at.3 in
      record {
        t = t;
        a = a;
        place = (number_within s i at.2, omega (arith, here.1, ap (length {A = Node}) (near_at s i at.2)));
        number = at.5;
        same = λ b lb is.
            subst (λ (xs : List Node). Equal xs a new b) (near_at s i at.2)
            (subst (λ (ys : List Node). Equal (table_of (near ++ new ∷ []) i) a ys b) (new_at s)
            ((s.owns.equal i a (length numbers) b here (new_place s b lb)).0 (at.4 ∙ sym is)));
      }

  -- a node of an old table whose type a node of the new one has is of a known class
  pub known_class : (t a b : ℕ) → IsNodePlace tables t a → b < length new → Equal (table_of tables t) a new b
      → class_of own (length numbers) b < length back
  known_class t a b here lb equal =
      let inside : a < length (get_or kept t []) = omega (arith, here.1, kept_row s t here.0) in
      let first = first_place kept (suc t) t a s.classes.order (omega arith) (omega (arith, here.0, (as_many s))) inside in
      let u = first.0 in
      let r = first.1 in
      let place : IsNodePlace tables u r =
      let lu : u < length tables = omega (arith, first.2.within, (as_many s)) in
      (lu, omega (arith, first.2.inside, kept_row s u lu)) in
      let same : Equal (table_of tables u) r (table_of tables t) a = (s.classes.equal u r t a place here).0 first.2.same in
      let to_new : Equal (table_of tables u) r new b =
      Equal-trans (table_of tables u) r (table_of tables t) a new b same equal in
      let old_types : AreTypes (table_of tables u) =
      All-get_or AreTypes tables u [] place.0 (All-from_recursion AreTypes tables s.types) in
      let digest : get_or (digests_to DEPTH (table_of tables u)) r 0 ≡ get_or (digests_to DEPTH new) b 0 =
      same_digest DEPTH (table_of tables u) new old_types s.more r b place.1 lb (to_new DEPTH) in
      let told : Contains (digests_to DEPTH new) (get_or (digests_to DEPTH (table_of tables u)) r 0) =
      subst (λ (d : ℕ). Contains (digests_to DEPTH new) d) (sym digest)
      (Contains-get_or (digests_to DEPTH new) b 0 (omega (arith, lb, length-digests DEPTH new))) in
      let has : Contains numbers u =
      s.is_near.whole u r place (record { within = first.2.inside; number = first.2.first; is_told = told }) in
      let i = has.0 in
      let is : get_or numbers i 0 ≡ u = sym (get_or_read numbers i u has.1 (sym has.2) 0) in
      let lt : i < length numbers = has.1 in
      let near_is : table_of (near ++ new ∷ []) i ≡ table_of tables u =
      near_at s i lt ∙ ap (table_of tables) is in
      let there : IsNodePlace (near ++ new ∷ []) i r =
      (omega (arith, lt, length-append near (new ∷ []), (near_many s)), omega (arith, place.1, ap (length {A = Node}) near_is)) in
      let both : class_of own i r ≡ class_of own (length numbers) b =
      (s.owns.equal i r (length numbers) b there (new_place s b lb)).1
      (subst (λ (xs : List Node). Equal xs r (table_of (near ++ new ∷ []) (length numbers)) b) (sym near_is)
      (subst (λ (ys : List Node). Equal (table_of tables u) r ys b) (sym (new_at s)) to_new)) in
      let rest : ℕ = length numbers - (i + 1) in
      let upto : i + 1 + rest ≡ length numbers = omega (arith, lt) in
      let below = class_below own i r (omega (arith, lt, (own_many s))) (omega (arith, there.1, own_row s i (omega (arith, lt)))) in
      omega (arith, both, below, next_steps own (i + 1) rest (omega (arith, (own_many s), upto)), ap (next_at own) upto, is_back.count)
