-- Few edges of what comes back from nodes.
use Rattle.std.proofs.Common.{◌≡◌, ℕ, zero, suc, ◌+◌, ◌*◌, ◌≤◌, Option, Some, None, List, [], ◌∷◌, ◌++◌, length, refl, sym, ap, subst, inl, inr, arith}
use Rattle.std.specs.List.{Contains, flat_map}
use Rattle.std.proofs.lemmas.List.{length-append}
use Rattle.std.proofs.lemmas.List.Elements.{Contains-append_left, Contains-append_right, Contains-append_cases}
use Rattle.cfi_word.specs.declared.lists.Edge.{Edge}
use Rattle.cfi_word.specs.Chain.{ChainOf, Chain}
use Rattle.cfi_word.specs.Edge.{edge_of}
use Rattle.cfi_flow.specs.declared.links.Link.{Link}
use Rattle.cfi_flow.specs.Flow.{Links, IsPath, Reaches}
use Rattle.cfi_flow.specs.Fans.{IsListed}
use Rattle.cfi_flow.specs.inner.Spread.{tag_of, HasTag}
use Rattle.cfi_flow.specs.inner.Ways.{between, return_edges, site_edges, arrow_edges, tied, ComesBack, AreWays}
use Rattle.cfi_flow.proofs.Members.{no_member, member_first, member_of_one, member_flat, from_flat}
use Rattle.cfi_flow.proofs.RowLemmas.{make_link, link_is}
use Rattle.cfi_flow.proofs.PathLemmas.{reaches_then, one_arrow}
use Rattle.cfi_flow.proofs.SpreadLemmas.{same_tag}

-- ---- chains

snoc_of : (R : (slot address : ℕ) → Type 0) (more s t s' t' : ℕ) → ChainOf R more s t' → R s' t' → R s' t
    → ChainOf R (suc more) s t
snoc_of R zero s t s' t' c old new = (t', s', c, old, new)
snoc_of R (suc more) s t s' t' c old new =
    (c.0, c.1, c.2, c.3, snoc_of R more c.1 t s' t' c.4 old new)

-- a chain goes on by a slot that its end shares
pub snoc : (R : (slot address : ℕ) → Type 0) (s t s' t' : ℕ) → Chain R s t' → R s' t' → R s' t → Chain R s t
snoc R s t s' t' c old new = record { more = suc c.more; chain = snoc_of R c.more s t s' t' c.chain old new }

-- ---- edges between

pub between_is : (slot target : Option ℕ) (s t : ℕ) → Contains (between slot target) (edge_of s t)
    → (slot ≡ Some s) × (target ≡ Some t)
between_is (Some a) (Some b) s t h =
    let e = member_of_one (edge_of a b) (edge_of s t) h in
    (ap (λ x. Some x.branch) e, ap (λ x. Some x.target) e)
between_is (Some a) None s t h = absurd (no_member (edge_of s t) h)
between_is None target s t h = absurd (no_member (edge_of s t) h)

pub between_has : (slot target : Option ℕ) (s t : ℕ) → slot ≡ Some s → target ≡ Some t
    → Contains (between slot target) (edge_of s t)
between_has slot target s t e f =
    subst (λ o. Contains (between o target) (edge_of s t)) (sym e)
    (subst (λ o. Contains (between (Some s) o) (edge_of s t)) (sym f) (member_first (edge_of s t) []))

between_one : (slot target : Option ℕ) → length (between slot target) ≤ 1
between_one (Some a) (Some b) = omega arith
between_one (Some a) None = omega arith
between_one None target = omega arith

flat_few : (f : Link → List Edge) → ((link : Link) → length (f link) ≤ 2) → (links : List Link)
    → length (flat_map f links) ≤ 2 * length links
flat_few f few [] = omega arith
flat_few f few (link ∷ links) =
    let l : length (f link ++ flat_map f links) ≡ length (f link) + length (flat_map f links) =
    length-append (f link) (flat_map f links) in
    omega (arith, l, few link, flat_few f few links)

-- ---- the edges of the ways

-- what holds of the addresses and branches of nodes: each comes to its node, and where something comes is one
pub record AreEndsOf (arrows sites returns : List Link) (places slots : List (Option ℕ)) : Type 0 where
  pub place_sound : (k t : ℕ) → tag_of places k ≡ Some t → (origin : ℕ) × Links sites origin t × Reaches arrows origin k
  pub place_whole : (k t origin : ℕ) → Links sites origin t → Reaches arrows origin k → HasTag places k
  pub slot_sound : (k s : ℕ) → tag_of slots k ≡ Some s → (end : ℕ) × Links returns end s × Reaches arrows k end
  pub slot_whole : (k s last : ℕ) → Links returns last s → Reaches arrows k last → HasTag slots k

module _ (arrows sites returns : List Link) (places slots : List (Option ℕ))
    (are : AreEndsOf arrows sites returns places slots) where
  abbrev pub added : List Edge
  added = tied arrows sites returns places slots

  -- what comes back to a node, and gets from another on to a return
  meet : (x y s t : ℕ) → tag_of places x ≡ Some t → Reaches arrows x y → tag_of slots y ≡ Some s
      → ComesBack arrows sites returns s t
  meet x y s t p r q =
      let from = are.place_sound x t p in
      let to = are.slot_sound y s q in
      record {
        node = from.0;
        site = from.1;
        returning = to.0;
        reached = reaches_then arrows from.2.0 from.0 x to.0 from.2.1
            (reaches_then arrows r.0 x y to.0 r.1 to.2);
        back = to.1;
      }

  here : (x : ℕ) → Reaches arrows x x
  here x = (zero, refl)

  own : (link : Link) → link ≡ make_link link.from link.to
  own link = link_is link link.from link.to refl refl

  of_return : (s t : ℕ) → Contains (flat_map (return_edges places) returns) (edge_of s t)
      → ComesBack arrows sites returns s t
  of_return s t h =
      let m = from_flat (return_edges places) returns (edge_of s t) h in
      let e = between_is (Some m.0.to) (tag_of places m.0.from) s t m.2 in
      let from = are.place_sound m.0.from t e.1 in
      record {
        node = from.0;
        site = from.1;
        returning = m.0.from;
        reached = from.2;
        back = subst (λ l. Contains returns l) (link_is m.0 m.0.from s refl (same_tag m.0.to s e.0)) m.1;
      }

  of_site : (s t : ℕ) → Contains (flat_map (site_edges places slots) sites) (edge_of s t)
      → ComesBack arrows sites returns s t
  of_site s t h =
      let m = from_flat (site_edges places slots) sites (edge_of s t) h in
      let k = m.0.from in
      elim (Contains-append_cases (between (tag_of slots k) (Some m.0.to)) (between (tag_of slots k) (tag_of places k))
      (edge_of s t) m.2) [
        | inl a ↦
            let e = between_is (tag_of slots k) (Some m.0.to) s t a in
            let to = are.slot_sound k s e.0 in
            record {
              node = k;
              site = subst (λ l. Contains sites l) (link_is m.0 k t refl (same_tag m.0.to t e.1)) m.1;
              returning = to.0;
              reached = to.2;
              back = to.1;
            }
        | inr a ↦
            let e = between_is (tag_of slots k) (tag_of places k) s t a in meet k k s t e.1 (here k) e.0
      ]

  of_arrow : (s t : ℕ) → Contains (flat_map (arrow_edges places slots) arrows) (edge_of s t)
      → ComesBack arrows sites returns s t
  of_arrow s t h =
      let m = from_flat (arrow_edges places slots) arrows (edge_of s t) h in
      let x = m.0.from in
      let y = m.0.to in
      elim (Contains-append_cases (between (tag_of slots y) (tag_of places x)) (between (tag_of slots y) (tag_of places y))
      (edge_of s t) m.2) [
        | inl a ↦
            let e = between_is (tag_of slots y) (tag_of places x) s t a in
            meet x y s t e.1 (one_arrow arrows x y (subst (λ l. Contains arrows l) (own m.0) m.1)) e.0
        | inr a ↦
            let e = between_is (tag_of slots y) (tag_of places y) s t a in meet y y s t e.1 (here y) e.0
      ]

  pub ways_sound : (s t : ℕ) → IsListed added s t → ComesBack arrows sites returns s t
  ways_sound s t h =
      let r = flat_map (return_edges places) returns in
      let c = flat_map (site_edges places slots) sites in
      elim (Contains-append_cases (r ++ c) (flat_map (arrow_edges places slots) arrows) (edge_of s t) h) [
        | inl a ↦ elim (Contains-append_cases r c (edge_of s t) a) [ inl b ↦ of_return s t b | inr b ↦ of_site s t b ]
        | inr a ↦ of_arrow s t a
      ]

  -- the edges of one link
  return_listed : (k s t : ℕ) → Links returns k s → tag_of places k ≡ Some t → IsListed added s t
  return_listed k s t h p =
      let r = flat_map (return_edges places) returns in
      let c = flat_map (site_edges places slots) sites in
      Contains-append_left (r ++ c) (flat_map (arrow_edges places slots) arrows) (edge_of s t)
      (Contains-append_left r c (edge_of s t)
      (member_flat (return_edges places) returns (make_link k s) (edge_of s t) h
      (between_has (Some s) (tag_of places k) s t refl p)))

  site_in : (link : Link) (s t : ℕ) → Contains sites link → Contains (site_edges places slots link) (edge_of s t)
      → IsListed added s t
  site_in link s t h m =
      let r = flat_map (return_edges places) returns in
      let c = flat_map (site_edges places slots) sites in
      Contains-append_left (r ++ c) (flat_map (arrow_edges places slots) arrows) (edge_of s t)
      (Contains-append_right r c (edge_of s t) (member_flat (site_edges places slots) sites link (edge_of s t) h m))

  site_listed : (k a s : ℕ) → Links sites k a → tag_of slots k ≡ Some s → IsListed added s a
  site_listed k a s h q =
      site_in (make_link k a) s a h
      (Contains-append_left (between (tag_of slots k) (Some a)) (between (tag_of slots k) (tag_of places k)) (edge_of s a)
      (between_has (tag_of slots k) (Some a) s a q refl))

  place_listed : (k a s t : ℕ) → Links sites k a → tag_of slots k ≡ Some s → tag_of places k ≡ Some t
      → IsListed added s t
  place_listed k a s t h q p =
      site_in (make_link k a) s t h
      (Contains-append_right (between (tag_of slots k) (Some a)) (between (tag_of slots k) (tag_of places k)) (edge_of s t)
      (between_has (tag_of slots k) (tag_of places k) s t q p))

  arrow_in : (link : Link) (s t : ℕ) → Contains arrows link → Contains (arrow_edges places slots link) (edge_of s t)
      → IsListed added s t
  arrow_in link s t h m =
      let r = flat_map (return_edges places) returns in
      let c = flat_map (site_edges places slots) sites in
      Contains-append_right (r ++ c) (flat_map (arrow_edges places slots) arrows) (edge_of s t)
      (member_flat (arrow_edges places slots) arrows link (edge_of s t) h m)

  begin_listed : (x y s t : ℕ) → Links arrows x y → tag_of slots y ≡ Some s → tag_of places x ≡ Some t
      → IsListed added s t
  begin_listed x y s t h q p =
      arrow_in (make_link x y) s t h
      (Contains-append_left (between (tag_of slots y) (tag_of places x)) (between (tag_of slots y) (tag_of places y)) (edge_of s t)
      (between_has (tag_of slots y) (tag_of places x) s t q p))

  end_listed : (x y s t : ℕ) → Links arrows x y → tag_of slots y ≡ Some s → tag_of places y ≡ Some t
      → IsListed added s t
  end_listed x y s t h q p =
      arrow_in (make_link x y) s t h
      (Contains-append_right (between (tag_of slots y) (tag_of places x)) (between (tag_of slots y) (tag_of places y)) (edge_of s t)
      (between_has (tag_of slots y) (tag_of places y) s t q p))

  -- from a branch back along a path to the address of the node at which it begins
  chain_along : (steps x last s t : ℕ) → IsPath arrows steps x last → Links returns last s → tag_of places x ≡ Some t
      → Chain (IsListed added) s t
  chain_along zero x last s t e h p =
      record { more = 0; chain = return_listed last s t h (subst (λ k. tag_of places k ≡ Some t) e p) }
  chain_along (suc steps) x last s t w h p =
      let y = w.0 in
      let from = are.place_sound x t p in
      let place = are.place_whole y t from.0 from.1
      (reaches_then arrows from.2.0 from.0 x y from.2.1 (one_arrow arrows x y w.1)) in
      let slot = are.slot_whole y s last h (steps, w.2) in
      snoc (IsListed added) s t slot.0 place.0 (chain_along steps y last s place.0 w.2 h place.1)
      (end_listed x y slot.0 place.0 w.1 slot.1 place.1) (begin_listed x y slot.0 t w.1 slot.1 p)

  ways_whole : (s t : ℕ) → ComesBack arrows sites returns s t → Chain (IsListed added) s t
  ways_whole s t b =
      let k = b.node in
      let place = are.place_whole k t k b.site (here k) in
      let slot = are.slot_whole k s b.returning b.back b.reached in
      snoc (IsListed added) s t slot.0 place.0
      (chain_along b.reached.0 k b.returning s place.0 b.reached.1 b.back place.1)
      (place_listed k t slot.0 place.0 b.site slot.1 place.1) (site_listed k t slot.0 b.site slot.1)

  two : (a b c d : Option ℕ) → length (between a b ++ between c d) ≤ 2
  two a b c d =
      let l : length (between a b ++ between c d) ≡ length (between a b) + length (between c d) =
      length-append (between a b) (between c d) in
      omega (arith, l, between_one a b, between_one c d)

  ways_few : length added ≤ 2 * (length arrows + length sites + length returns)
  ways_few =
      let r = flat_map (return_edges places) returns in
      let c = flat_map (site_edges places slots) sites in
      let a = flat_map (arrow_edges places slots) arrows in
      let one : length ((r ++ c) ++ a) ≡ length (r ++ c) + length a = length-append (r ++ c) a in
      let other : length (r ++ c) ≡ length r + length c = length-append r c in
      let rs : length r ≤ 2 * length returns = flat_few (return_edges places) (λ link.
      let n : length (between (Some link.to) (tag_of places link.from)) ≤ 1 =
      between_one (Some link.to) (tag_of places link.from) in omega (arith, n)) returns in
      let cs : length c ≤ 2 * length sites = flat_few (site_edges places slots) (λ link.
      two (tag_of slots link.from) (Some link.to) (tag_of slots link.from) (tag_of places link.from)) sites in
      let arr : length a ≤ 2 * length arrows = flat_few (arrow_edges places slots) (λ link.
      two (tag_of slots link.to) (tag_of places link.from) (tag_of slots link.to) (tag_of places link.to)) arrows in
      omega (arith, one, other, rs, cs, arr)

  pub ways_by : AreWays arrows sites returns added
  ways_by = record { sound = ways_sound; whole = ways_whole; few = ways_few }
