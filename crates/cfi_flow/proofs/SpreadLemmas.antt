-- Steps of what comes along arrows, and what it ends with.
use Rattle.std.proofs.Common.{◌≡◌, ◌∙◌, ℕ, zero, suc, ◌+◌, ◌<◌, ◌≤◌, ◌⊎◌, Bool, true, false, not, Option, Some, None, List, [], ◌∷◌, ◌++◌, length, set, get_or, slice_index_or, replicate, refl, sym, ap, subst, inl, inr, arith}
use Rattle.std.specs.Prelude.{unwrap_or}
use Rattle.std.specs.Option.{is_some}
use Rattle.std.specs.List.{Contains}
use Rattle.std.proofs.lemmas.Bool.{cases_eq, cases_lt, false≢true}
use Rattle.std.proofs.lemmas.List.{length-set, length-append, get_or-set_same, get_or-set_other, get_or_append_left, get_or_default, get_or_past, get_or-replicate, length-replicate}
use Rattle.std.proofs.lemmas.List.Elements.{Contains-append_left, Contains-get_or, Contains-push, Contains-push_cases}
use Rattle.cfi_flow.specs.declared.links.Link.{Link}
use Rattle.cfi_flow.specs.Flow.{Links}
use Rattle.cfi_flow.specs.inner.Reach.{IsWalk}
use Rattle.cfi_flow.specs.inner.Spread.{tag_of, HasTag, Arrives, AreSpread, untagged, AreLonger, IsTagged, AreBegun}
use Rattle.cfi_flow.proofs.Members.{no_member, member_first, member_of_one}
use Rattle.cfi_flow.proofs.RowLemmas.{make_link, link_is}
use Rattle.cfi_flow.proofs.ReachLemmas.{walk_on}

pub none_some : (tag : ℕ) → None ≡ Some tag → ⊥
none_some tag h = cc

pub same_tag : (a b : ℕ) → Some a ≡ Some b → a ≡ b
same_tag a b h = ap (λ o. unwrap_or o 0) h

pub none_of : (o : Option ℕ) (b : Bool) → is_some o ≡ not b → b ≡ true → o ≡ None
none_of None b e t = refl
none_of (Some x) b e t = let is : true ≡ false = e ∙ ap not t in absurd (false≢true (sym is))

pub some_of : (o : Option ℕ) (b : Bool) → is_some o ≡ not b → b ≡ false → (tag : ℕ) × (o ≡ Some tag)
some_of None b e f = let is : false ≡ true = e ∙ ap not f in absurd (false≢true is)
some_of (Some x) b e f = (x, refl)

-- one tag fewer is missing
count_tagged : (tags : List (Option ℕ)) (x tag : ℕ) → x < length tags → tag_of tags x ≡ None
    → untagged (set tags x (Some tag)) + 1 ≡ untagged tags
count_tagged [] x tag h none = absurd (omega arith)
count_tagged (Some t ∷ tags) zero tag h none = absurd (none_some t (sym none))
count_tagged (None ∷ tags) zero tag h none = refl
count_tagged (Some t ∷ tags) (suc x) tag h none = count_tagged tags x tag (omega arith) none
count_tagged (None ∷ tags) (suc x) tag h none =
    let rest : untagged (set tags x (Some tag)) + 1 ≡ untagged tags = count_tagged tags x tag (omega arith) none in
    omega (arith, rest)

tag_set : (tags : List (Option ℕ)) (x tag k : ℕ) → x < length tags → HasTag tags k → HasTag (set tags x (Some tag)) k
tag_set tags x tag k h m =
    elim (cases_eq k x) [
      | inl e ↦ (tag, subst (λ j. tag_of (set tags x (Some tag)) j ≡ Some tag) (sym e) (get_or-set_same tags x (Some tag) None h))
      | inr n ↦ (m.0, get_or-set_other tags x k (Some tag) None n ∙ m.1)
    ]

tag_from : (tags : List (Option ℕ)) (x tag k t : ℕ) → x < length tags → tag_of (set tags x (Some tag)) k ≡ Some t
    → ((x ≡ k) × (t ≡ tag)) ⊎ (tag_of tags k ≡ Some t)
tag_from tags x tag k t h m =
    elim (cases_eq k x) [
      | inl e ↦
          let here : tag_of (set tags x (Some tag)) x ≡ Some t =
          subst (λ j. tag_of (set tags x (Some tag)) j ≡ Some t) e m in
          inl (sym e, same_tag t tag (sym here ∙ get_or-set_same tags x (Some tag) None h))
      | inr n ↦ inr (sym (get_or-set_other tags x k (Some tag) None n) ∙ m)
    ]

pub tag_within : (tags : List (Option ℕ)) (k : ℕ) → HasTag tags k → k < length tags
tag_within tags k m =
    elim (cases_lt k (length tags)) [
      | inl a ↦ a
      | inr b ↦ absurd (none_some m.0 (sym (get_or_past tags k None b) ∙ m.1))
    ]

pub still : (order o : List Link) (l : Link) → length order ≤ length o
    → ((j : ℕ) (d : Link) → j < length order → slice_index_or o j d ≡ slice_index_or order j d) → Contains order l
    → Contains o l
still order o l longer stays h =
    let lt : h.0 < length o = omega (arith, h.1, longer) in
    (h.0, lt, stays h.0 l h.1 ∙ h.2)

-- one after the other
longer_then : (t m m' : List (Option ℕ)) (o p p' : List Link) (A B C : (node tag : ℕ) → Type 0)
    → AreLonger t o A m p → AreLonger m p B m' p' → ((k x : ℕ) → C k x → A k x ⊎ B k x)
    → ((k x : ℕ) → A k x → C k x) → ((k x : ℕ) → B k x → C k x) → AreLonger t o C m' p'
longer_then t m m' o p p' A B C v w split one other = record {
  len = w.len ∙ v.len;
  longer = omega (arith, v.longer, w.longer);
  stays = λ j d h. let lt : j < length p = omega (arith, h, v.longer) in w.stays j d lt ∙ v.stays j d h;
  kept = λ k h. w.kept k (v.kept k h);
  done = λ k x c. elim (split k x c) [ inl a ↦ w.kept k (v.done k x a) | inr b ↦ w.done k x b ];
  fresh = λ k x h. elim (w.fresh k x h) [
    | inl a ↦ elim (v.fresh k x a) [ inl c ↦ inl c | inr c ↦ inr (one k x c) ]
    | inr b ↦ inr (other k x b)
  ];
  listed = λ k x h. elim (w.listed k x h) [
    | inl a ↦ elim (v.listed k x a) [
      | inl b ↦ inl b
      | inr b ↦ inr (still p p' (make_link k x) w.longer w.stays b)
    ]
    | inr b ↦ inr b
  ];
  count = w.count ∙ v.count;
}

-- the one node has the tag
abbrev pub IsOne : (x tag : ℕ) → (node other : ℕ) → Type 0
IsOne x tag k t = (x ≡ k) × (t ≡ tag)

pub step_seen : (m : List (Option ℕ)) (o : List Link) (x tag : ℕ) → HasTag m x → AreLonger m o (IsOne x tag) m o
step_seen m o x tag seen = record {
  len = refl;
  longer = omega arith;
  stays = λ j d h. refl;
  kept = λ k h. h;
  done = λ k t h. subst (λ j. HasTag m j) h.0 seen;
  fresh = λ k t h. inl h;
  listed = λ k t h. inl h;
  count = refl;
}

pub step_new : (m : List (Option ℕ)) (o : List Link) (x tag : ℕ) → x < length m → tag_of m x ≡ None
    → AreLonger m o (IsOne x tag) (set m x (Some tag)) (o ++ make_link x tag ∷ [])
step_new m o x tag below new =
    let link = make_link x tag in
    let l : length (o ++ link ∷ []) ≡ length o + 1 = length-append o (link ∷ []) in
    record {
      len = length-set m x (Some tag);
      longer = omega (arith, l);
      stays = λ j d h. get_or_append_left o (link ∷ []) d j h;
      kept = λ k h. tag_set m x tag k below h;
      done = λ k t h.
          (tag, subst (λ j. tag_of (set m x (Some tag)) j ≡ Some tag) h.0 (get_or-set_same m x (Some tag) None below));
      fresh = λ k t h. elim (Contains-push_cases o link (make_link k t) h) [
        | inl a ↦ inl a
        | inr e ↦ inr (ap (λ y. y.from) e, sym (ap (λ y. y.to) e))
      ];
      listed = λ k t h. elim (tag_from m x tag k t below h) [
        | inl both ↦
            let is : link ≡ make_link k t =
            ap (λ n. make_link n tag) both.0 ∙ ap (λ n. make_link k n) (sym both.1) in
            inr (subst (λ y. Contains (o ++ link ∷ []) y) is (Contains-push o link))
        | inr a ↦ inl a
      ];
      count =
          let u : untagged (set m x (Some tag)) + 1 ≡ untagged m = count_tagged m x tag below new in
          omega (arith, l, u);
    }

-- one node more of a row
pub row_more : (t m m' : List (Option ℕ)) (o p p' : List Link) (row : List ℕ) (x tag : ℕ)
    → IsTagged t o row tag m p → AreLonger m p (IsOne x tag) m' p' → IsTagged t o (row ++ x ∷ []) tag m' p'
row_more t m m' o p p' row x tag v w =
    longer_then t m m' o p p' (λ k y. Contains row k × (y ≡ tag)) (IsOne x tag)
    (λ k y. Contains (row ++ x ∷ []) k × (y ≡ tag)) v w
    (λ k y h. elim (Contains-push_cases row x k h.0) [ inl a ↦ inl (a, h.1) | inr e ↦ inr (e, h.1) ])
    (λ k y h. (Contains-append_left row (x ∷ []) k h.0, h.1))
    (λ k y h. (subst (λ j. Contains (row ++ x ∷ []) j) h.0 (Contains-push row x), h.1))

-- one seed more
pub begun_more : (t m m' : List (Option ℕ)) (o p p' : List Link) (seeds : List Link) (seed : Link)
    → AreBegun t o seeds m p → IsTagged m p (seed.from ∷ []) seed.to m' p' → AreBegun t o (seeds ++ seed ∷ []) m' p'
begun_more t m m' o p p' seeds seed v w =
    longer_then t m m' o p p' (Links seeds) (λ k y. Contains (seed.from ∷ []) k × (y ≡ seed.to))
    (Links (seeds ++ seed ∷ [])) v w
    (λ k y h. elim (Contains-push_cases seeds seed (make_link k y) h) [
      | inl a ↦ inl a
      | inr e ↦ inr (
        subst (λ j. Contains (seed.from ∷ []) j) (ap (λ z. z.from) e) (member_first seed.from []),
        sym (ap (λ z. z.to) e),
      )
    ])
    (λ k y h. Contains-append_left seeds (seed ∷ []) (make_link k y) h)
    (λ k y h. subst (λ z. Contains (seeds ++ seed ∷ []) z)
    (link_is seed k y (member_of_one seed.from k h.0) (sym h.1)) (Contains-push seeds seed))

-- equal lists are tagged alike
pub tagged_is : (tags : List (Option ℕ)) (order : List Link) (row row' : List ℕ) (tag : ℕ) (m m' : List (Option ℕ))
    (o o' : List Link) → row' ≡ row → m' ≡ m → o' ≡ o → IsTagged tags order row tag m o
    → IsTagged tags order row' tag m' o'
tagged_is tags order row row' tag m m' o o' e f g v =
    subst (λ r. IsTagged tags order r tag m' o') (sym e)
    (subst (λ n. IsTagged tags order row tag n o') (sym f) (subst (λ n. IsTagged tags order row tag m n) (sym g) v))

-- ---- the search

abbrev pub no_link : Link
no_link = record { from = 0; to = 0 }

-- `i` nodes of the order have the nodes of their rows tagged
pub record IsSpreading (rows : List (List ℕ)) (seeds : List Link) (tags : List (Option ℕ)) (order : List Link)
    (i : ℕ) : Type 0 where
  pub len : length tags ≡ length rows
  pub count : untagged tags + length order ≡ length rows
  pub marked : (k t : ℕ) → Links order k t → HasTag tags k
  pub listed : (k t : ℕ) → tag_of tags k ≡ Some t → Links order k t
  pub sound : (k t : ℕ) → Links order k t → Arrives rows seeds k t
  pub begun : (k t : ℕ) → Links seeds k t → HasTag tags k
  pub closed : (j : ℕ) → j < i → (k : ℕ) → Contains (slice_index_or rows (get_or order j no_link).from []) k
      → HasTag tags k

untagged_all : (tags : List (Option ℕ)) → ((k t : ℕ) → tag_of tags k ≡ Some t → ⊥) → untagged tags ≡ length tags
untagged_all [] none = refl
untagged_all (Some t ∷ tags) none = absurd (none 0 t refl)
untagged_all (None ∷ tags) none =
    let rest : untagged tags ≡ length tags = untagged_all tags (λ k t h. none (suc k) t h) in omega (arith, rest)

none_tagged : (n k t : ℕ) → tag_of (replicate n None) k ≡ Some t → ⊥
none_tagged n k t h =
    elim (cases_lt k n) [
      | inl a ↦ none_some t (sym (get_or-replicate n k None None a) ∙ h)
      | inr b ↦
          let past : length (replicate n None) ≤ k = omega (arith, b, length-replicate {A = Option ℕ} n None) in
          none_some t (sym (get_or_past (replicate n None) k None past) ∙ h)
    ]

pub spreading_begins : (rows : List (List ℕ)) (seeds : List Link) (tags : List (Option ℕ)) (order : List Link)
    (m : List (Option ℕ)) (o : List Link) → tags ≡ replicate (length rows) None → order ≡ []
    → AreBegun tags order seeds m o → IsSpreading rows seeds m o 0
spreading_begins rows seeds tags order m o e f b =
    let none : (k t : ℕ) → tag_of tags k ≡ Some t → ⊥ = λ k t h.
    none_tagged (length rows) k t (subst (λ ts. tag_of ts k ≡ Some t) e h) in
    let empty : (k t : ℕ) → Links order k t → ⊥ = λ k t h.
    no_member (make_link k t) (subst (λ ls. Contains ls (make_link k t)) f h) in
    let told : (k t : ℕ) → Links o k t → Links seeds k t = λ k t h.
    elim (b.fresh k t h) [ inl a ↦ absurd (empty k t a) | inr c ↦ c ] in
    let n : length tags ≡ length rows = ap length e ∙ length-replicate {A = Option ℕ} (length rows) None in
    record {
      len = b.len ∙ n;
      count = omega (arith, b.count, untagged_all tags none, n, ap length f);
      marked = λ k t h. b.done k t (told k t h);
      listed = λ k t h. elim (b.listed k t h) [ inl a ↦ absurd (none k t a) | inr c ↦ c ];
      sound = λ k t h. record { origin = k; seed = told k t h; steps = 0; walk = refl };
      begun = b.done;
      closed = λ j lt. absurd (omega (arith, lt));
    }

arrive_on : (rows : List (List ℕ)) (seeds : List Link) (a k x t : ℕ) → Arrives rows seeds a x
    → Contains (slice_index_or rows a []) k → t ≡ x → Arrives rows seeds k t
arrive_on rows seeds a k x t w h e = record {
  origin = w.origin;
  seed = subst (λ y. Links seeds w.origin y) (sym e) w.seed;
  steps = suc w.steps;
  walk = walk_on rows w.steps w.origin a k w.walk h;
}

pub link_at : (order : List Link) (i : ℕ) → i < length order
    → Links order (get_or order i no_link).from (get_or order i no_link).to
link_at order i lt =
    let link = get_or order i no_link in
    subst (λ y. Contains order y) (link_is link link.from link.to refl refl) (Contains-get_or order i no_link lt)

closed_more : (rows : List (List ℕ)) (seeds : List Link) (tags : List (Option ℕ)) (order : List Link) (i : ℕ)
    (m : List (Option ℕ)) (o : List Link) → IsSpreading rows seeds tags order i → i < length order
    → IsTagged tags order (slice_index_or rows (get_or order i no_link).from []) (get_or order i no_link).to m o
    → (j : ℕ) → j < i + 1 → (k : ℕ) → Contains (slice_index_or rows (get_or o j no_link).from []) k → HasTag m k
closed_more rows seeds tags order i m o s lt v j below k h =
    let within : j < length order = omega (arith, below, lt) in
    let old : Contains (slice_index_or rows (get_or order j no_link).from []) k =
    subst (λ l. Contains (slice_index_or rows l.from []) k) (v.stays j no_link within) h in
    elim (cases_eq j i) [
      | inl e ↦ v.done k (get_or order i no_link).to
          (subst (λ n. Contains (slice_index_or rows (get_or order n no_link).from []) k) e old, refl)
      | inr n ↦ let less : j < i = omega (arith, below, n) in v.kept k (s.closed j less k old)
    ]

pub spreading_goes_on : (rows : List (List ℕ)) (seeds : List Link) (tags : List (Option ℕ)) (order : List Link)
    (i : ℕ) (m : List (Option ℕ)) (o : List Link) → IsSpreading rows seeds tags order i → i < length order
    → IsTagged tags order (slice_index_or rows (get_or order i no_link).from []) (get_or order i no_link).to m o
    → IsSpreading rows seeds m o (i + 1)
spreading_goes_on rows seeds tags order i m o s lt v =
    let link = get_or order i no_link in
    record {
      len = v.len ∙ s.len;
      count = v.count ∙ s.count;
      marked = λ k t h. elim (v.fresh k t h) [ inl a ↦ v.kept k (s.marked k t a) | inr b ↦ v.done k t b ];
      listed = λ k t h. elim (v.listed k t h) [
        | inl a ↦ still order o (make_link k t) v.longer v.stays (s.listed k t a)
        | inr b ↦ b
      ];
      sound = λ k t h. elim (v.fresh k t h) [
        | inl a ↦ s.sound k t a
        | inr b ↦ arrive_on rows seeds link.from k link.to t (s.sound link.from link.to (link_at order i lt)) b.0 b.1
      ];
      begun = λ k t h. v.kept k (s.begun k t h);
      closed = closed_more rows seeds tags order i m o s lt v;
    }

spread_along : (rows : List (List ℕ)) (seeds : List Link) (tags : List (Option ℕ)) (order : List Link) (i : ℕ)
    → IsSpreading rows seeds tags order i → length order ≤ i
    → (steps a b : ℕ) → HasTag tags a → IsWalk rows steps a b → HasTag tags b
spread_along rows seeds tags order i s past zero a b h e = subst (λ n. HasTag tags n) e h
spread_along rows seeds tags order i s past (suc steps) a b h w =
    let l = s.listed a h.0 h.1 in
    let lt : l.0 < i = omega (arith, l.1, past) in
    let is : get_or order l.0 no_link ≡ make_link a h.0 =
    get_or_default order l.0 no_link (make_link a h.0) l.1 ∙ l.2 in
    let row : Contains (slice_index_or rows (get_or order l.0 no_link).from []) w.0 =
    subst (λ z. Contains (slice_index_or rows z.from []) w.0) (sym is) w.1 in
    spread_along rows seeds tags order i s past steps w.0 b (s.closed l.0 lt w.0 row) w.2

pub spreading_ends : (rows : List (List ℕ)) (seeds : List Link) (tags : List (Option ℕ)) (order : List Link)
    (i : ℕ) → IsSpreading rows seeds tags order i → length order ≤ i → AreSpread rows seeds tags
spreading_ends rows seeds tags order i s past = record {
  len = s.len;
  sound = λ k t h. s.sound k t (s.listed k t h);
  whole = λ k t a. spread_along rows seeds tags order i s past a.steps a.origin k (s.begun a.origin t a.seed) a.walk;
}

-- each node of the order has a row
pub spreading_within : (rows : List (List ℕ)) (seeds : List Link) (tags : List (Option ℕ)) (order : List Link)
    (i j : ℕ) → IsSpreading rows seeds tags order i → j < length order → (get_or order j no_link).from < length rows
spreading_within rows seeds tags order i j s lt =
    let link = get_or order j no_link in
    let m : link.from < length tags = tag_within tags link.from (s.marked link.from link.to (link_at order j lt)) in
    omega (arith, m, s.len)
