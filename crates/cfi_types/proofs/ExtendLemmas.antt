-- The numbers of one more table's nodes are the classes of the longer list of tables.
use Rattle.std.proofs.Common.{◌≡◌, ℕ, zero, suc, ◌+◌, ◌-◌, ◌<◌, ◌≤◌, ◌^◌, List, [], ◌∷◌, ◌++◌, length, map, get_or, All, refl, sym, ap, subst, ◌∙◌, arith, inl, inr, Result, Ok, Err}
use Rattle.std.specs.Prelude.{◌↔◌, IfOk}
use Rattle.std.specs.Global.{Vec}
use Rattle.std.specs.declared.alloc.AllocError.{AllocError}
use Rattle.std.proofs.lemmas.Bool.{cases_lt}
use Rattle.std.proofs.lemmas.List.{length-append, length-map, map_push, get_or_append_left, get_or_push, get_or-map, get_or_read}
use Rattle.cfi_type_table.specs.Node.{Node}
use Rattle.cfi_types.specs.Same.{Equal}
use Rattle.cfi_types.specs.Classes.{table_of, class_of, IsNodePlace, InOrder, AreClasses}
use Rattle.cfi_types.specs.inner.Extending.{next_after, next_at, AreBack, renumbered}
use Rattle.cfi_types.proofs.Places.{flat}
use Rattle.cfi_types.proofs.DepthLemmas.{Equal-sym, Equal-trans}
use Rattle.cfi_types.proofs.NearLemmas.{flat_many}
use Rattle.cfi_types.proofs.OrderLemmas.{flat_push, below_next, next_after-most, order_both, row_order, class_below, next_up}
use Rattle.cfi_types.proofs.PreparedLemmas.{IsPrepared, new_row, as_many, own_many, new_at, kept_row, new_many, new_place}
use Rattle.cfi_types.proofs.RenumberLemmas.{renumber-old, renumber-new, order-renumbered}
use Rattle.cfi_types.proofs.KnownLemmas.{known, known_class}

module _ {tables : List (List Node)} {kept : List (List ℕ)} {new : List Node} {numbers : List ℕ}
    {near : List (List Node)} {own : List (List ℕ)} (s : IsPrepared tables kept new numbers near own) {back : List ℕ} {next : ℕ}
    (is_back : AreBack own kept numbers (length numbers) back) (next_is : next ≡ next_after 0 (flat kept)) where
  abbrev pub row : List ℕ
  row = map (renumbered back next) (new_row own numbers)

  abbrev rows : List (List ℕ)
  rows = kept ++ row ∷ []

  abbrev all : List (List Node)
  all = tables ++ new ∷ []

  -- ---- the numbers of the new table

  -- a kept number is below the next one
  kept_below : (t a : ℕ) → IsNodePlace tables t a → class_of kept t a < next
  kept_below t a here =
      let lt : t < length kept = omega (arith, here.0, (as_many s)) in
      omega (
        arith,
        class_below kept t a lt (omega (arith, here.1, kept_row s t here.0)),
        next_up kept t lt,
        next_is,
      )

  back_below : (o : ℕ) → o < length back → get_or back o 0 < next
  back_below o lt = let k = known s is_back o lt in omega (arith, k.number, kept_below k.t k.a k.place)

  -- the class of a new node among the near ones' own
  abbrev class : (b : ℕ) → ℕ
  class b = class_of own (length numbers) b

  number_of : (b : ℕ) → b < length new → get_or row b 0 ≡ renumbered back next (class b)
  number_of b lb = get_or-map (renumbered back next) (new_row own numbers) b 0 0 (omega (arith, lb, (new_many s)))

  -- an old node's type is a new one's exactly where they have one number
  old_new : (t a b : ℕ) → IsNodePlace tables t a → b < length new
      → (class_of kept t a ≡ get_or row b 0) ↔ Equal (table_of tables t) a new b
  old_new t a b here lb =
      elim (cases_lt (class b) (length back)) [
        | inl less ↦
            let k = known s is_back (class b) less in
            let value : get_or row b 0 ≡ class_of kept k.t k.a =
            number_of b lb ∙ renumber-old back next (class b) less ∙ k.number in
            let near_new : Equal (table_of tables k.t) k.a new b = k.same b lb refl in (
              (λ e. Equal-trans (table_of tables t) a (table_of tables k.t) k.a new b
                  ((s.classes.equal t a k.t k.a here k.place).0 (e ∙ value)) near_new),
              (λ q. (s.classes.equal t a k.t k.a here k.place).1
                  (Equal-trans (table_of tables t) a new b (table_of tables k.t) k.a q
                  (Equal-sym (table_of tables k.t) k.a new b near_new))
                  ∙ sym value),
            )
        | inr least ↦
            let value = number_of b lb ∙ renumber-new back next (class b) least in (
              (λ e. absurd (omega (arith, e, value, kept_below t a here))),
              (λ q. absurd (omega (arith, least, known_class s is_back t a b here lb q))),
            )
      ]

  -- numbers of new nodes are equal where their s.classes are
  one_number : (o p : ℕ) → renumbered back next o ≡ renumbered back next p → (b c : ℕ) → b < length new → c < length new
      → class b ≡ o → class c ≡ p → o ≡ p
  one_number o p same b c lb lc ob pc =
      elim (cases_lt o (length back)) [
        | inl low ↦
            elim (cases_lt p (length back)) [
              | inl low' ↦
                  let k = known s is_back o low in
                  let l = known s is_back p low' in
                  let one : class_of kept k.t k.a ≡ class_of kept l.t l.a =
                  sym k.number ∙ sym (renumber-old back next o low) ∙ same ∙ renumber-old back next p low' ∙ l.number in
                  let both : Equal (table_of tables k.t) k.a (table_of tables l.t) l.a =
                  (s.classes.equal k.t k.a l.t l.a k.place l.place).0 one in
                  let news : Equal new b new c =
                  Equal-trans new b (table_of tables k.t) k.a new c
                  (Equal-sym (table_of tables k.t) k.a new b (k.same b lb ob))
                  (Equal-trans (table_of tables k.t) k.a (table_of tables l.t) l.a new c both (l.same c lc pc)) in
                  sym ob ∙ (new_new b c lb lc).1 news ∙ pc
              | inr high ↦
                  absurd (omega (
                    arith,
                    same,
                    renumber-old back next o low,
                    back_below o low,
                    renumber-new back next p high,
                  ))
            ]
        | inr high ↦
            elim (cases_lt p (length back)) [
              | inl low ↦
                  absurd (omega (
                    arith,
                    same,
                    renumber-old back next p low,
                    back_below p low,
                    renumber-new back next o high,
                  ))
              | inr high' ↦
                  omega (arith, same, renumber-new back next o high, renumber-new back next p high', high, high')
            ]
      ]
    where
      new_new : (d e : ℕ) → d < length new → e < length new → (class d ≡ class e) ↔ Equal new d new e
      new_new d e ld le =
          subst (λ (xs : List Node). (class d ≡ class e) ↔ Equal xs d xs e) (new_at s)
          (s.owns.equal (length numbers) d (length numbers) e (new_place s d ld) (new_place s e le))

  news : (b c : ℕ) → b < length new → c < length new → (get_or row b 0 ≡ get_or row c 0) ↔ Equal new b new c
  news b c lb lc =
      let both : (class b ≡ class c) ↔ Equal new b new c =
      subst (λ (xs : List Node). (class b ≡ class c) ↔ Equal xs b xs c) (new_at s)
      (s.owns.equal (length numbers) b (length numbers) c (new_place s b lb) (new_place s c lc)) in (
        (λ e. both.0 (one_number (class b) (class c) (sym (number_of b lb) ∙ e ∙ number_of c lc) b c lb lc refl refl)),
        (λ q. number_of b lb ∙ ap (renumbered back next) (both.1 q) ∙ sym (number_of c lc)),
      )

  -- ---- all tables

  old_class : (t a : ℕ) → t < length tables → class_of rows t a ≡ class_of kept t a
  old_class t a lt =
      ap (λ (r : List ℕ). get_or r a 0) (get_or_append_left kept (row ∷ []) [] t (omega (arith, lt, (as_many s))))

  new_class : (b : ℕ) → class_of rows (length tables) b ≡ get_or row b 0
  new_class b = ap (λ (r : List ℕ). get_or r b 0) (get_or_push kept row [] (length tables) (as_many s))

  old_table : (t : ℕ) → t < length tables → table_of all t ≡ table_of tables t
  old_table t lt = get_or_append_left tables (new ∷ []) [] t lt

  new_table : table_of all (length tables) ≡ new
  new_table = get_or_push tables new [] (length tables) refl

  -- a node of all tables is one of the old ones or of the new one
  old_place : (t a : ℕ) → t < length tables → IsNodePlace all t a → IsNodePlace tables t a
  old_place t a lt here = (lt, omega (arith, here.1, ap (length {A = Node}) (old_table t lt)))

  is_last : (t a : ℕ) → length tables ≤ t → IsNodePlace all t a → t ≡ length tables
  is_last t a least here = omega (arith, least, here.0, length-append tables (new ∷ []))

  last_place : (t a : ℕ) → t ≡ length tables → IsNodePlace all t a → a < length new
  last_place t a is here =
      omega (arith, here.1, ap (λ (n : ℕ). length (table_of all n)) is, ap (length {A = Node}) new_table)

  Told : (t a u b : ℕ) → Type 0
  Told t a u b = (class_of rows t a ≡ class_of rows u b) ↔ Equal (table_of all t) a (table_of all u) b

  turn : (t a u b : ℕ) → Told t a u b → Told u b t a
  unfolding Told
  turn t a u b told = (
    (λ e. Equal-sym (table_of all t) a (table_of all u) b (told.0 (sym e))),
    (λ q. sym (told.1 (Equal-sym (table_of all u) b (table_of all t) a q))),
  )

  by_parts : (t a u b m n : ℕ) (xs ys : List Node) → class_of rows t a ≡ m → class_of rows u b ≡ n
      → table_of all t ≡ xs → table_of all u ≡ ys → (m ≡ n) ↔ Equal xs a ys b → Told t a u b
  unfolding Told
  by_parts t a u b m n xs ys one other left right both =
      subst (λ (zs : List Node). (class_of rows t a ≡ class_of rows u b) ↔ Equal zs a (table_of all u) b) (sym left)
      (subst (λ (zs : List Node). (class_of rows t a ≡ class_of rows u b) ↔ Equal xs a zs b) (sym right)
      ((λ e. both.0 (sym one ∙ e ∙ other)), (λ q. one ∙ both.1 q ∙ sym other)))

  told : (t a u b : ℕ) → IsNodePlace all t a → IsNodePlace all u b → Told t a u b
  told t a u b here there =
      elim (cases_lt t (length tables)) [
        | inl old ↦
            elim (cases_lt u (length tables)) [
              | inl old' ↦
                  by_parts t a u b (class_of kept t a) (class_of kept u b) (table_of tables t) (table_of tables u)
                  (old_class t a old) (old_class u b old') (old_table t old) (old_table u old')
                  (s.classes.equal t a u b (old_place t a old here) (old_place u b old' there))
              | inr past ↦ mixed t a u b old past here there
            ]
        | inr past ↦
            elim (cases_lt u (length tables)) [
              | inl old ↦ turn u b t a (mixed u b t a old past there here)
              | inr past' ↦
                  let is = is_last t a past here in
                  let is' = is_last u b past' there in
                  by_parts t a u b (get_or row a 0) (get_or row b 0) new new
                  (ap (λ (n : ℕ). class_of rows n a) is ∙ new_class a) (ap (λ (n : ℕ). class_of rows n b) is' ∙ new_class b)
                  (ap (table_of all) is ∙ new_table) (ap (table_of all) is' ∙ new_table)
                  (news a b (last_place t a is here) (last_place u b is' there))
            ]
      ]
    where
      mixed : (v c w d : ℕ) → v < length tables → length tables ≤ w → IsNodePlace all v c → IsNodePlace all w d
          → Told v c w d
      mixed v c w d old past one other =
          let is = is_last w d past other in
          by_parts v c w d (class_of kept v c) (get_or row d 0) (table_of tables v) new (old_class v c old)
          (ap (λ (n : ℕ). class_of rows n d) is ∙ new_class d) (old_table v old) (ap (table_of all) is ∙ new_table)
          (old_new v c d (old_place v c old one) (last_place w d is other))

  in_order : InOrder 0 (flat rows)
  in_order =
      let start : length back + 0 ≡ next_at own (length numbers) = omega (arith, is_back.count) in
      let none : next + 0 ≡ next_after 0 (flat kept) = omega (arith, next_is) in
      let mine : InOrder (length back + 0) (new_row own numbers) =
      subst (λ (n : ℕ). InOrder n (new_row own numbers)) (sym start)
      (row_order own (length numbers) (omega (arith, (own_many s))) s.owns.order) in
      subst (InOrder 0) (sym (flat_push kept row))
      (order_both 0 (flat kept) row s.classes.order
      (subst (λ (n : ℕ). InOrder n row) none (order-renumbered back next back_below (new_row own numbers) 0 mine)))

  pub extended : AreClasses all rows
  unfolding Told
  extended = record {
    shape =
        map_push (length {A = ℕ}) kept row
        ∙ ap (λ (ls : List ℕ). ls ++ length row ∷ []) s.classes.shape
        ∙ ap (λ (n : ℕ). map (length {A = Node}) tables ++ n ∷ []) (length-map (new_row own numbers) (renumbered back next) ∙ (new_many s))
        ∙ sym (map_push (length {A = Node}) tables new);
    equal = told;
    order = in_order;
  }

  -- the numbers fit where all nodes do
  pub fitting : length (flat all) < 2 ^ 32 → All (λ o. next + (o - length back) < 2 ^ 32) (new_row own numbers)
  fitting fits k d lt =
      let m : ℕ = length numbers in
      let o : ℕ = get_or (new_row own numbers) k 0 in
      let same : get_or (new_row own numbers) k d ≡ o = get_or_read (new_row own numbers) k (get_or (new_row own numbers) k d) lt (default (new_row own numbers) k d lt) 0 in
      let here : m < length own = omega (arith, (own_many s)) in
      let order : InOrder (next_at own m) (new_row own numbers) = row_order own m here s.owns.order in
      omega (
        arith,
        same,
        fits,
        ap (length {A = Node}) (flat_push tables new),
        length-append (flat tables) new,
        next_is,
        next_after-most 0 (flat kept) s.classes.order,
        flat_many tables kept s.classes,
        below_next (next_at own m) (new_row own numbers) k lt,
        next_after-most (next_at own m) (new_row own numbers) order,
        (new_many s),
        is_back.count,
      )
    where
      default : (xs : List ℕ) (j e : ℕ) → j < length xs → get_or xs j e ≡ get_or xs j (get_or xs j e)
      default [] j e less = absurd (omega (arith, less))
      default (x ∷ xs) zero e less = refl
      default (x ∷ xs) (suc j) e less = default xs j e (omega (arith, less))

  -- the same of what the code returned
  pub extended_result : (r : Result (Vec ℕ) AllocError) → IfOk r (λ v. v.items ≡ row)
      → IfOk r (λ v. AreClasses all (kept ++ v.items ∷ []))
  extended_result (Ok v) is = subst (λ (ns : List ℕ). AreClasses all (kept ++ ns ∷ [])) (sym is) extended
  extended_result (Err e) is = tt
