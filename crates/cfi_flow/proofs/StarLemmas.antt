-- Links that are found by where they begin, one link more, and one step from a link to the one before.
use Rattle.std.proofs.Common.{◌≡◌, ◌∙◌, ◌↔◌, ℕ, zero, suc, ◌+◌, ◌<◌, ◌≤◌, ◌⊎◌, ◌==◌, cond, List, [], ◌∷◌, ◌++◌, length, set, slice_index_or, refl, sym, ap, subst, inl, inr, arith}
use Rattle.std.specs.List.{Contains}
use Rattle.std.proofs.lemmas.Bool.{cases_eq, cases_lt, eq-eqb, ne_eqb}
use Rattle.std.proofs.lemmas.List.{length-append, get_or-set_same, get_or-set_other, get_or_append_left, get_or_default, get_or_push}
use Rattle.std.proofs.lemmas.List.Elements.{Contains-append_left, Contains-get_or, Contains-push, Contains-push_cases}
use Rattle.cfi_flow.specs.declared.links.Link.{Link}
use Rattle.cfi_flow.specs.inner.Star.{no_link, link_at, last_from, IsStar}

last_same : (links : List Link) (node number : ℕ) → (link_at links number).from ≡ node
    → last_from links node (suc number) ≡ suc number
last_same links node number e =
    ap (λ b. cond b (suc number) (last_from links node number)) (eq-eqb (link_at links number).from node e)

last_other : (links : List Link) (node number : ℕ) → ((link_at links number).from ≡ node → ⊥)
    → last_from links node (suc number) ≡ last_from links node number
last_other links node number n =
    ap (λ b. cond b (suc number) (last_from links node number)) (ne_eqb (link_at links number).from node n)

last_most : (links : List Link) (node count : ℕ) → last_from links node count ≤ count
last_most links node zero = omega arith
last_most links node (suc number) =
    elim (cases_eq (link_at links number).from node) [
      | inl e ↦ let is = last_same links node number e in omega (arith, is)
      | inr n ↦
          let is = last_other links node number n in
          let rest = last_most links node number in
          omega (arith, is, rest)
    ]

last_is : (links : List Link) (node count number : ℕ) → last_from links node count ≡ suc number
    → (number < count) × ((link_at links number).from ≡ node)
last_is links node zero number e = absurd (omega (arith, e))
last_is links node (suc place) number e =
    elim (cases_eq (link_at links place).from node) [
      | inl same ↦
          let is = last_same links node place same in
          let at : place ≡ number = omega (arith, is, e) in
          (omega (arith, at), subst (λ k. (link_at links k).from ≡ node) at same)
      | inr n ↦
          let rest = last_is links node place number (sym (last_other links node place n) ∙ e) in
          (omega (arith, rest.0), rest.1)
    ]

last_after : (links : List Link) (node count number : ℕ) → last_from links node count ≤ number → number < count
    → (link_at links number).from ≡ node → ⊥
last_after links node zero number past lt e = absurd (omega (arith, lt))
last_after links node (suc place) number past lt e =
    elim (cases_eq (link_at links place).from node) [
      | inl same ↦ let is = last_same links node place same in absurd (omega (arith, is, past, lt))
      | inr n ↦
          let is = last_other links node place n in
          elim (cases_eq number place) [
            | inl here ↦ n (subst (λ k. (link_at links k).from ≡ node) here e)
            | inr other ↦ last_after links node place number (omega (arith, is, past)) (omega (arith, lt, other)) e
          ]
    ]

last_longer : (links more : List Link) (node count : ℕ) → count ≤ length links
    → last_from (links ++ more) node count ≡ last_from links node count
last_longer links more node zero le = refl
last_longer links more node (suc number) le =
    let below : number < length links = omega (arith, le) in
    let is : link_at (links ++ more) number ≡ link_at links number =
    get_or_append_left links more no_link number below in
    ap (λ l. cond (l.from == node) (suc number) (last_from (links ++ more) node number)) is
    ∙ ap (λ n. cond ((link_at links number).from == node) (suc number) n)
    (last_longer links more node number (omega (arith, le)))

-- one link more
module _ (links : List Link) (lasts befores : List ℕ) (star : IsStar links lasts befores) (link : Link)
    (roomy : List ℕ) (room : link.from < length roomy)
    (same : (node : ℕ) → slice_index_or roomy node 0 ≡ slice_index_or lasts node 0) where
  abbrev all : List Link
  all = links ++ link ∷ []

  last_link : link_at all (length links) ≡ link
  last_link = get_or_push links link no_link (length links) refl

  one_longer : length all ≡ suc (length links)
  one_longer = let l : length all ≡ length links + 1 = length-append links (link ∷ []) in omega (arith, l)

  abbrev new_lasts : List ℕ
  new_lasts = set roomy link.from (length links + 1)

  abbrev new_befores : List ℕ
  new_befores = befores ++ slice_index_or roomy link.from 0 ∷ []

  new_last : (node : ℕ) → slice_index_or new_lasts node 0 ≡ last_from all node (length all)
  new_last node =
      subst (λ n. slice_index_or new_lasts node 0 ≡ last_from all node n) (sym one_longer)
      (elim (cases_eq node link.from) [
        | inl e ↦
            let is : (link_at all (length links)).from ≡ node = ap (λ l. l.from) last_link ∙ sym e in
            let read : slice_index_or new_lasts node 0 ≡ length links + 1 =
            ap (λ n. slice_index_or new_lasts n 0) e
            ∙ get_or-set_same roomy link.from (length links + 1) 0 room in
            let last : last_from all node (suc (length links)) ≡ suc (length links) =
            last_same all node (length links) is in
            let number : length links + 1 ≡ suc (length links) = omega arith in
            read ∙ number ∙ sym last
        | inr n ↦
            let not_here : (link_at all (length links)).from ≡ node → ⊥ = λ h.
            n (sym h ∙ ap (λ l. l.from) last_link) in
            get_or-set_other roomy link.from node (length links + 1) 0 n
            ∙ same node
            ∙ star.last node
            ∙ sym (last_longer links (link ∷ []) node (length links) (omega arith))
            ∙ sym (last_other all node (length links) not_here)
      ])

  new_before : (number : ℕ) → number < length all
      → slice_index_or new_befores number 0 ≡ last_from all (link_at all number).from number
  new_before number lt =
      let long = one_longer in
      elim (cases_lt number (length links)) [
        | inl below ↦
            let is : link_at all number ≡ link_at links number =
            get_or_append_left links (link ∷ []) no_link number below in
            let here : number < length befores = omega (arith, below, star.len) in
            get_or_append_left befores (slice_index_or roomy link.from 0 ∷ []) 0 number here
            ∙ star.before number below
            ∙ sym (last_longer links (link ∷ []) (link_at links number).from number (omega (arith, below)))
            ∙ ap (λ l. last_from all l.from number) (sym is)
        | inr past ↦
            let at : number ≡ length links = omega (arith, past, lt, long) in
            let end : length befores ≡ number = omega (arith, at, star.len) in
            let is : link_at all number ≡ link = ap (λ k. link_at all k) at ∙ last_link in
            get_or_push befores (slice_index_or roomy link.from 0) 0 number end
            ∙ same link.from
            ∙ star.last link.from
            ∙ sym (last_longer links (link ∷ []) link.from (length links) (omega arith))
            ∙ ap (λ n. last_from all link.from n) (sym at)
            ∙ ap (λ l. last_from all l.from number) (sym is)
      ]

  pub star_more : IsStar all new_lasts new_befores
  star_more = record {
    len =
        let one : length new_befores ≡ length befores + 1 =
        length-append befores (slice_index_or roomy link.from 0 ∷ []) in
        let long = one_longer in
        omega (arith, one, long, star.len);
    last = new_last;
    before = new_before;
  }

-- the list has the links that begin at the node, from the number on, beside the old ones
pub record IsFrom (links : List Link) (node at : ℕ) (old list : List Link) : Type 0 where
  pub count : ℕ
  pub within : count ≤ length links
  pub here : at ≡ last_from links node count
  pub seen : (number : ℕ) → at ≤ number → number < length links → (link_at links number).from ≡ node
      → Contains list (link_at links number)
  pub kept : (link : Link) → Contains old link → Contains list link
  pub only : (link : Link) → Contains list link → Contains old link ⊎ (Contains links link × (link.from ≡ node))

module _ (links : List Link) (lasts befores : List ℕ) (star : IsStar links lasts befores) (node : ℕ) where
  pub from_begins : (at : ℕ) (list : List Link) → at ≡ slice_index_or lasts node 0 → IsFrom links node at list list
  from_begins at list is = record {
    count = length links;
    within = omega arith;
    here = is ∙ star.last node;
    seen = λ number past lt e.
        let last = is ∙ star.last node in
        absurd (last_after links node (length links) number (omega (arith, last, past)) lt e);
    kept = λ link h. h;
    only = λ link h. inl h;
  }

  module _ (at number : ℕ) (old list : List Link) (from : IsFrom links node at old list) (is : at ≡ suc number) where
    found : (number < from.count) × ((link_at links number).from ≡ node)
    found = last_is links node from.count number (sym from.here ∙ is)

    pub found_within : number < length links
    found_within = let lt = found.0 in omega (arith, lt, from.within)

    next_last : slice_index_or befores number 0 ≡ last_from links node number
    next_last = star.before number found_within ∙ ap (λ n. last_from links n number) found.1

    pub next_less : slice_index_or befores number 0 < at
    next_less =
        let most = last_most links node number in
        let next = next_last in
        omega (arith, most, next, is)

    pub from_goes_on : IsFrom links node (slice_index_or befores number 0) old (list ++ link_at links number ∷ [])
    from_goes_on = record {
      count = number;
      within = let lt = found_within in omega (arith, lt);
      here = next_last;
      seen = λ other past lt e.
          let next = next_last in
          elim (cases_lt other number) [
            | inl below ↦ absurd (last_after links node number other (omega (arith, next, past)) below e)
            | inr up ↦ elim (cases_eq other number) [
              | inl same ↦
                  subst (λ k. Contains (list ++ link_at links number ∷ []) (link_at links k)) (sym same)
                  (Contains-push list (link_at links number))
              | inr differs ↦
                  Contains-append_left list (link_at links number ∷ []) (link_at links other)
                  (from.seen other (omega (arith, up, differs, is)) lt e)
            ]
          ];
      kept = λ link h. Contains-append_left list (link_at links number ∷ []) link (from.kept link h);
      only = λ link h. elim (Contains-push_cases list (link_at links number) link h) [
        | inl a ↦ from.only link a
        | inr e ↦ inr (
          subst (λ l. Contains links l) e (Contains-get_or links number no_link found_within),
          ap (λ l. l.from) (sym e) ∙ found.1,
        )
      ];
    }

  pub from_ends : (at : ℕ) (old list : List Link) → IsFrom links node at old list → at ≤ 0 → (link : Link)
      → Contains list link ↔ (Contains old link ⊎ (Contains links link × (link.from ≡ node)))
  from_ends at old list from none link = (
    from.only link,
    λ h. elim h [
      | inl a ↦ from.kept link a
      | inr b ↦
          let place = b.0 in
          let is : link_at links place.0 ≡ link = get_or_default links place.0 no_link link place.1 ∙ place.2 in
          subst (λ l. Contains list l) is
          (from.seen place.0 (omega (arith, none)) place.1 (ap (λ l. l.from) is ∙ b.1))
    ],
  )
