-- Steps of a search along rows, and what it ends with.
use Rattle.std.proofs.Common.{◌≡◌, ◌∙◌, ℕ, zero, suc, ◌+◌, ◌<◌, ◌≤◌, ◌⊎◌, Bool, true, false, List, [], ◌∷◌, ◌++◌, length, set, slice_index, slice_index_or, replicate, refl, sym, ap, subst, inl, inr, arith}
use Rattle.std.specs.List.{Contains}
use Rattle.std.proofs.lemmas.Bool.{cases_eq, cases_lt, false≢true}
use Rattle.std.proofs.lemmas.List.{length-set, length-append, get_or-set_same, get_or-set_other, get_or_append_left, get_or_default, get_or_past, get_or-replicate, length-replicate}
use Rattle.std.proofs.lemmas.List.Elements.{Contains-append_left, Contains-get_or, Contains-push, Contains-push_cases}
use Rattle.cfi_flow.specs.inner.Reach.{IsWalk, AreReached, IsMarked, AreClear, unmarked, IsVisited, IsCleared}
use Rattle.cfi_flow.proofs.Members.{member_first, member_of_one}

-- one mark fewer is missing
pub count_marked : (marks : List Bool) (x : ℕ) → x < length marks → (IsMarked marks x → ⊥)
    → unmarked (set marks x true) + 1 ≡ unmarked marks
count_marked [] x h fresh = absurd (omega arith)
count_marked (true ∷ marks) zero h fresh = absurd (fresh refl)
count_marked (false ∷ marks) zero h fresh = refl
count_marked (true ∷ marks) (suc x) h fresh = count_marked marks x (omega arith) fresh
count_marked (false ∷ marks) (suc x) h fresh =
    let rest : unmarked (set marks x true) + 1 ≡ unmarked marks = count_marked marks x (omega arith) fresh in
    omega (arith, rest)

mark_set : (marks : List Bool) (x k : ℕ) → x < length marks → IsMarked marks k → IsMarked (set marks x true) k
mark_set marks x k h m =
    elim (cases_eq k x) [
      | inl e ↦ subst (λ j. IsMarked (set marks x true) j) (sym e) (get_or-set_same marks x true false h)
      | inr n ↦ get_or-set_other marks x k true false n ∙ m
    ]

mark_from : (marks : List Bool) (x k : ℕ) → IsMarked (set marks x true) k → (k ≡ x) ⊎ IsMarked marks k
mark_from marks x k m =
    elim (cases_eq k x) [
      | inl e ↦ inl e
      | inr n ↦ inr (sym (get_or-set_other marks x k true false n) ∙ m)
    ]

-- the next node of the row is marked already
pub visited_seen : (marks : List Bool) (order row : List ℕ) (m : List Bool) (o : List ℕ) (x : ℕ)
    → IsVisited marks order row m o → IsMarked m x → IsVisited marks order (row ++ x ∷ []) m o
visited_seen marks order row m o x v seen = record {
  len = v.len;
  longer = v.longer;
  stays = v.stays;
  kept = v.kept;
  done = λ k h. elim (Contains-push_cases row x k h) [
    | inl a ↦ v.done k a
    | inr e ↦ subst (λ j. IsMarked m j) e seen
  ];
  fresh = λ k h. elim (v.fresh k h) [ inl a ↦ inl a | inr b ↦ inr (Contains-append_left row (x ∷ []) k b) ];
  listed = v.listed;
  count = v.count;
}

-- the next node of the row is marked now
pub visited_new : (marks : List Bool) (order row : List ℕ) (m : List Bool) (o : List ℕ) (x : ℕ)
    → IsVisited marks order row m o → x < length m → (IsMarked m x → ⊥)
    → IsVisited marks order (row ++ x ∷ []) (set m x true) (o ++ x ∷ [])
visited_new marks order row m o x v below new = record {
  len = length-set m x true ∙ v.len;
  longer = let l : length (o ++ x ∷ []) ≡ length o + 1 = length-append o (x ∷ []) in omega (arith, v.longer, l);
  stays = λ j h.
      let lt : j < length o = omega (arith, v.longer) in
      get_or_append_left o (x ∷ []) 0 j lt ∙ v.stays j h;
  kept = λ k h. mark_set m x k below (v.kept k h);
  done = λ k h. elim (Contains-push_cases row x k h) [
    | inl a ↦ mark_set m x k below (v.done k a)
    | inr e ↦ subst (λ j. IsMarked (set m x true) j) e (get_or-set_same m x true false below)
  ];
  fresh = λ k h. elim (Contains-push_cases o x k h) [
    | inl a ↦ elim (v.fresh k a) [ inl b ↦ inl b | inr b ↦ inr (Contains-append_left row (x ∷ []) k b) ]
    | inr e ↦ inr (subst (λ j. Contains (row ++ x ∷ []) j) e (Contains-push row x))
  ];
  listed = λ k h. elim (mark_from m x k h) [
    | inl e ↦ inr (subst (λ j. Contains (o ++ x ∷ []) j) (sym e) (Contains-push o x))
    | inr a ↦ elim (v.listed k a) [ inl b ↦ inl b | inr b ↦ inr (Contains-append_left o (x ∷ []) k b) ]
  ];
  count =
      let l : length (o ++ x ∷ []) ≡ length o + 1 = length-append o (x ∷ []) in
      let u : unmarked (set m x true) + 1 ≡ unmarked m = count_marked m x below new in
      omega (arith, v.count, l, u);
}

-- a search from a node: `i` nodes of the order have their rows marked
pub record IsSearch (rows : List (List ℕ)) (from : ℕ) (marks : List Bool) (order : List ℕ) (i : ℕ) : Type 0 where
  pub len : length marks ≡ length rows
  pub count : unmarked marks + length order ≡ length rows
  pub at : i ≤ length order
  pub marked : (k : ℕ) → Contains order k → IsMarked marks k
  pub listed : (k : ℕ) → IsMarked marks k → Contains order k
  pub start : Contains order from
  pub sound : (k : ℕ) → Contains order k → (steps : ℕ) × IsWalk rows steps from k
  pub closed : (j : ℕ) → j < i → (k : ℕ) → Contains (slice_index_or rows (slice_index order j) []) k → IsMarked marks k

unmarked_none : (marks : List Bool) → ((k : ℕ) → IsMarked marks k → ⊥) → unmarked marks ≡ length marks
unmarked_none [] none = refl
unmarked_none (true ∷ marks) none = absurd (none 0 refl)
unmarked_none (false ∷ marks) none =
    let rest : unmarked marks ≡ length marks = unmarked_none marks (λ k h. none (suc k) h) in omega (arith, rest)

none_marked : (n k : ℕ) → IsMarked (replicate n false) k → ⊥
none_marked n k h =
    elim (cases_lt k n) [
      | inl a ↦ let is : false ≡ true = sym (get_or-replicate n k false false a) ∙ h in absurd (false≢true is)
      | inr b ↦
          let past : length (replicate n false) ≤ k = omega (arith, length-replicate n false) in
          let is : false ≡ true = sym (get_or_past (replicate n false) k false past) ∙ h in absurd (false≢true is)
    ]

-- new marks are clear
pub clear_begins : (count : ℕ) (marks : List Bool) → marks ≡ replicate count false → AreClear count marks
clear_begins count marks e = record {
  len = ap length e ∙ length-replicate count false;
  none = λ k m. none_marked count k (subst (λ b. IsMarked b k) e m);
}

-- the search begins
pub search_begins : (rows : List (List ℕ)) (from : ℕ) (marks : List Bool) → from < length rows
    → AreClear (length rows) marks → IsSearch rows from (set marks from true) (from ∷ []) 0
search_begins rows from marks h clear =
    let below : from < length marks = omega (arith, h, clear.len) in
    let one : unmarked (set marks from true) + 1 ≡ unmarked marks = count_marked marks from below (clear.none from) in
    let all : unmarked marks ≡ length marks = unmarked_none marks clear.none in
    record {
      len = length-set marks from true ∙ clear.len;
      count = let l : length (from ∷ []) ≡ 1 = refl in omega (arith, one, all, l, clear.len);
      at = omega arith;
      marked = λ k m.
          subst (λ j. IsMarked (set marks from true) j) (member_of_one from k m) (get_or-set_same marks from true false below);
      listed = λ k m. elim (mark_from marks from k m) [
        | inl s ↦ subst (λ j. Contains (from ∷ []) j) (sym s) (member_first from [])
        | inr a ↦ absurd (clear.none k a)
      ];
      start = member_first from [];
      sound = λ k m. (0, member_of_one from k m);
      closed = λ j lt. absurd (omega arith);
    }

pub walk_on : (rows : List (List ℕ)) (steps a b c : ℕ) → IsWalk rows steps a b → Contains (slice_index_or rows b []) c
    → IsWalk rows (suc steps) a c
walk_on rows zero a b c e h = (c, subst (λ n. Contains (slice_index_or rows n []) c) (sym e) h, refl)
walk_on rows (suc steps) a b c w h = (w.0, w.1, walk_on rows steps w.0 b c w.2 h)

still : (order o : List ℕ) (k : ℕ) → length order ≤ length o
    → ((j : ℕ) → j < length order → slice_index o j ≡ slice_index order j) → Contains order k → Contains o k
still order o k longer stays h =
    let lt : h.0 < length o = omega (arith, h.1) in
    (h.0, lt, get_or_default o h.0 k 0 lt ∙ stays h.0 h.1 ∙ get_or_default order h.0 0 k h.1 ∙ h.2)

closed_more : (rows : List (List ℕ)) (from : ℕ) (marks : List Bool) (order : List ℕ) (i : ℕ)
    (m : List Bool) (o : List ℕ) → IsSearch rows from marks order i → i < length order
    → IsVisited marks order (slice_index_or rows (slice_index order i) []) m o
    → (j : ℕ) → j < i + 1 → (k : ℕ) → Contains (slice_index_or rows (slice_index o j) []) k → IsMarked m k
closed_more rows from marks order i m o s lt v j below k h =
    let within : j < length order = omega arith in
    let old : Contains (slice_index_or rows (slice_index order j) []) k =
    subst (λ n. Contains (slice_index_or rows n []) k) (v.stays j within) h in
    elim (cases_eq j i) [
      | inl e ↦ v.done k (subst (λ n. Contains (slice_index_or rows (slice_index order n) []) k) e old)
      | inr n ↦ let less : j < i = omega arith in v.kept k (s.closed j less k old)
    ]

marked_within : (marks : List Bool) (k : ℕ) → IsMarked marks k → k < length marks
marked_within marks k m =
    elim (cases_lt k (length marks)) [
      | inl a ↦ a
      | inr b ↦ let is : false ≡ true = sym (get_or_past marks k false b) ∙ m in absurd (false≢true is)
    ]

walked : (rows : List (List ℕ)) (from : ℕ) (marks : List Bool) (order : List ℕ) (i : ℕ)
    → IsSearch rows from marks order i → length order ≤ i
    → (steps a b : ℕ) → Contains order a → IsWalk rows steps a b → Contains order b
walked rows from marks order i s past zero a b h e = subst (λ n. Contains order n) e h
walked rows from marks order i s past (suc steps) a b h w =
    let lt : h.0 < i = omega (arith, h.1) in
    let is : slice_index order h.0 ≡ a = get_or_default order h.0 0 a h.1 ∙ h.2 in
    let row : Contains (slice_index_or rows (slice_index order h.0) []) w.0 =
    subst (λ n. Contains (slice_index_or rows n []) w.0) (sym is) w.1 in
    walked rows from marks order i s past steps w.0 b (s.listed w.0 (s.closed h.0 lt w.0 row)) w.2

-- the search goes on by one node
pub search_goes_on : (rows : List (List ℕ)) (from : ℕ) (marks : List Bool) (order : List ℕ) (i : ℕ)
    (m : List Bool) (o : List ℕ) → IsSearch rows from marks order i → i < length order
    → IsVisited marks order (slice_index_or rows (slice_index order i) []) m o → IsSearch rows from m o (i + 1)
search_goes_on rows from marks order i m o s lt v =
    let node = slice_index order i in
    let row = slice_index_or rows (slice_index order i) [] in
    let in_order : (k : ℕ) → Contains order k → Contains o k = λ k h. still order o k v.longer v.stays h in
    record {
      len = v.len ∙ s.len;
      count = v.count ∙ s.count;
      at = omega (arith, v.longer);
      marked = λ k h. elim (v.fresh k h) [ inl a ↦ v.kept k (s.marked k a) | inr b ↦ v.done k b ];
      listed = λ k h. elim (v.listed k h) [ inl a ↦ in_order k (s.listed k a) | inr b ↦ b ];
      start = in_order from s.start;
      sound = λ k h. elim (v.fresh k h) [
        | inl a ↦ s.sound k a
        | inr b ↦
            let w = s.sound node (Contains-get_or order i 0 lt) in
            (suc w.0, walk_on rows w.0 from node k w.1 b)
      ];
      closed = closed_more rows from marks order i m o s lt v;
    }

-- a search that has no node left
pub search_ends : (rows : List (List ℕ)) (from : ℕ) (marks : List Bool) (order : List ℕ) (i : ℕ)
    → IsSearch rows from marks order i → length order ≤ i → AreReached rows from order
search_ends rows from marks order i s past = record {
  within = λ k h. let m : k < length marks = marked_within marks k (s.marked k h) in omega (arith, m, s.len);
  sound = s.sound;
  whole = λ k steps w. walked rows from marks order i s past steps from k s.start w;
}

-- each node of the order has a row
pub search_within : (rows : List (List ℕ)) (from : ℕ) (marks : List Bool) (order : List ℕ) (i j : ℕ)
    → IsSearch rows from marks order i → j < length order → slice_index order j < length rows
search_within rows from marks order i j s lt =
    let m : slice_index order j < length marks =
    marked_within marks (slice_index order j) (s.marked (slice_index order j) (Contains-get_or order j 0 lt)) in
    omega (arith, m, s.len)

-- the mark of the next node is taken away
pub cleared_more : (marks : List Bool) (nodes : List ℕ) (m : List Bool) (x : ℕ) → IsCleared marks nodes m
    → x < length m → IsCleared marks (nodes ++ x ∷ []) (set m x false)
cleared_more marks nodes m x c below =
    let here : IsMarked (set m x false) x → ⊥ = λ h.
    let is : false ≡ true = sym (get_or-set_same m x false false below) ∙ h in absurd (false≢true is) in
    let from : (k : ℕ) → IsMarked (set m x false) k → IsMarked m k = λ k h. elim (cases_eq k x) [
      | inl e ↦ absurd (here (subst (λ j. IsMarked (set m x false) j) e h))
      | inr n ↦ sym (get_or-set_other m x k false false n) ∙ h
    ] in
    record {
      len = length-set m x false ∙ c.len;
      gone = λ k h marked. elim (Contains-push_cases nodes x k h) [
        | inl a ↦ c.gone k a (from k marked)
        | inr e ↦ here (subst (λ j. IsMarked (set m x false) j) (sym e) marked)
      ];
      only = λ k h. c.only k (from k h);
    }

-- equal lists are cleared alike
pub cleared_is : (marks : List Bool) (nodes nodes' : List ℕ) (m m' : List Bool) → nodes' ≡ nodes → m' ≡ m
    → IsCleared marks nodes m → IsCleared marks nodes' m'
cleared_is marks nodes nodes' m m' e f c =
    subst (λ n. IsCleared marks n m') (sym e) (subst (λ n. IsCleared marks nodes n) (sym f) c)

-- the marks of a search are clear again
pub search_clears : (rows : List (List ℕ)) (from : ℕ) (marks : List Bool) (order : List ℕ) (i : ℕ) (m : List Bool)
    → IsSearch rows from marks order i → IsCleared marks order m → AreClear (length rows) m
search_clears rows from marks order i m s c = record {
  len = c.len ∙ s.len;
  none = λ k h. c.gone k (s.listed k (c.only k h)) h;
}

-- equal lists are visited alike
pub visited_is : (marks : List Bool) (order row row' : List ℕ) (m m' : List Bool) (o o' : List ℕ)
    → row' ≡ row → m' ≡ m → o' ≡ o → IsVisited marks order row m o → IsVisited marks order row' m' o'
visited_is marks order row row' m m' o o' e f g v =
    subst (λ r. IsVisited marks order r m' o') (sym e)
    (subst (λ n. IsVisited marks order row n o') (sym f) (subst (λ n. IsVisited marks order row m n) (sym g) v))
