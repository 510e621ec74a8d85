-- Edges that tie ways, with further links: each is one of those before, or one of what is touched.
use Rattle.std.proofs.Common.{◌≡◌, ◌⊎◌, ℕ, Option, Some, List, ◌++◌, map, inl, inr}
use Rattle.std.specs.List.{Contains, flat_map}
use Rattle.std.proofs.lemmas.List.Elements.{Contains-append_left, Contains-append_right, Contains-append_cases}
use Rattle.cfi_word.specs.declared.lists.Edge.{Edge}
use Rattle.cfi_word.specs.Edge.{edge_of}
use Rattle.cfi_flow.specs.declared.links.Link.{Link}
use Rattle.cfi_flow.specs.Flow.{Links, flipped}
use Rattle.cfi_flow.specs.inner.Spread.{tag_of}
use Rattle.cfi_flow.specs.inner.Tagged.{AreTagged}
use Rattle.cfi_flow.specs.inner.Ways.{between, return_edges, site_edges, arrow_edges, tied}
use Rattle.cfi_flow.proofs.Members.{member_flat, from_flat}
use Rattle.cfi_flow.proofs.RowWayLemmas.{back_path, forth_path}
use Rattle.cfi_flow.proofs.TaggedLemmas.{tagged_whole}
use Rattle.cfi_flow.proofs.WayLemmas.{AreEndsOf, between_is, between_has}

-- ---- the addresses and branches of nodes, from tags

pub ends_by_tags : (arrows sites returns : List Link) (places slots : List (Option ℕ))
    → AreTagged arrows sites places → AreTagged (map flipped arrows) returns slots
    → AreEndsOf arrows sites returns places slots
ends_by_tags arrows sites returns places slots come go = record {
  place_sound = λ k t h. let c = come.sound k t h in (c.origin, c.seed, c.reached);
  place_whole = λ k t origin h r.
      tagged_whole arrows sites places come k t (record { origin = origin; seed = h; reached = r });
  slot_sound = λ k s h.
      let c = go.sound k s h in
      (c.origin, c.seed, back_path arrows c.reached.0 c.origin k c.reached.1);
  slot_whole = λ k s last h r.
      tagged_whole (map flipped arrows) returns slots go k s
      (record { origin = last; seed = h; reached = forth_path arrows r.0 k last r.1 });
}

-- ---- edges of one list that are edges of another

flat_more : (f : Link → List Edge) (some all : List Link) (e : Edge)
    → ((link : Link) → Contains some link → Contains all link)
    → Contains (flat_map f some) e → Contains (flat_map f all) e
flat_more f some all e up h =
    let m = from_flat f some e h in member_flat f all m.0 e (up m.0 m.1) m.2

pub tied_more : (arrows sites returns all_arrows all_sites all_returns : List Link) (places slots : List (Option ℕ))
    → ((link : Link) → Contains arrows link → Contains all_arrows link)
    → ((link : Link) → Contains sites link → Contains all_sites link)
    → ((link : Link) → Contains returns link → Contains all_returns link)
    → (e : Edge) → Contains (tied arrows sites returns places slots) e
    → Contains (tied all_arrows all_sites all_returns places slots) e
tied_more arrows sites returns all_arrows all_sites all_returns places slots on_arrows on_sites on_returns e h =
    let r = flat_map (return_edges places) returns in
    let c = flat_map (site_edges places slots) sites in
    let a = flat_map (arrow_edges places slots) arrows in
    let rs = flat_map (return_edges places) all_returns in
    let cs = flat_map (site_edges places slots) all_sites in
    let every = flat_map (arrow_edges places slots) all_arrows in
    elim (Contains-append_cases (r ++ c) a e h) [
      | inl x ↦ Contains-append_left (rs ++ cs) every e (elim (Contains-append_cases r c e x) [
        | inl y ↦ Contains-append_left rs cs e (flat_more (return_edges places) returns all_returns e on_returns y)
        | inr y ↦ Contains-append_right rs cs e (flat_more (site_edges places slots) sites all_sites e on_sites y)
      ])
      | inr x ↦
          Contains-append_right (rs ++ cs) every e (flat_more (arrow_edges places slots) arrows all_arrows e on_arrows x)
    ]

-- ---- edges that are as before, or are touched

-- the edges of links, of which each is as before where the link is not touched
split : (old new : Link → List Edge) (before more touched : List Link) (e : Edge)
    → ((link : Link) → Contains (before ++ more) link → Contains (new link) e
    → Contains (old link) e ⊎ Contains touched link)
    → ((link : Link) → Contains more link → Contains touched link)
    → Contains (flat_map new (before ++ more)) e
    → Contains (flat_map old before) e ⊎ Contains (flat_map new touched) e
split old new before more touched e same fresh h =
    let m = from_flat new (before ++ more) e h in
    elim (same m.0 m.1 m.2) [
      | inl was ↦ elim (Contains-append_cases before more m.0 m.1) [
        | inl a ↦ inl (member_flat old before m.0 e a was)
        | inr b ↦ inr (member_flat new touched m.0 e (fresh m.0 b) m.2)
      ]
      | inr here ↦ inr (member_flat new touched m.0 e here m.2)
    ]

-- the edge between two is as before where neither is new
between_before : (slot new_slot target new_target : Option ℕ) (s t : ℕ) (Touched : Type 0)
    → (new_slot ≡ Some s → (slot ≡ Some s) ⊎ Touched) → (new_target ≡ Some t → (target ≡ Some t) ⊎ Touched)
    → Contains (between new_slot new_target) (edge_of s t)
    → Contains (between slot target) (edge_of s t) ⊎ Touched
between_before slot new_slot target new_target s t Touched by_slot by_target h =
    let is = between_is new_slot new_target s t h in
    elim (by_slot is.0) [
      | inl a ↦ elim (by_target is.1) [ inl b ↦ inl (between_has slot target s t a b) | inr b ↦ inr b ]
      | inr a ↦ inr a
    ]

-- one of two lists of edges
either_before : (one other new_one new_other : List Edge) (e : Edge) (Touched : Type 0)
    → (Contains new_one e → Contains one e ⊎ Touched) → (Contains new_other e → Contains other e ⊎ Touched)
    → Contains (new_one ++ new_other) e → Contains (one ++ other) e ⊎ Touched
either_before one other new_one new_other e Touched first second h =
    elim (Contains-append_cases new_one new_other e h) [
      | inl a ↦ elim (first a) [ inl b ↦ inl (Contains-append_left one other e b) | inr b ↦ inr b ]
      | inr a ↦ elim (second a) [ inl b ↦ inl (Contains-append_right one other e b) | inr b ↦ inr b ]
    ]

-- what is touched of each list of links: the further ones, and those with a node that is changed
pub record IsTouched (arrows sites returns more_arrows more_sites more_returns : List Link)
    (changes : List Link) (touched_arrows touched_sites touched_returns : List Link) : Type 0 where
  pub arrows_fresh : (link : Link) → Contains more_arrows link → Contains touched_arrows link
  pub sites_fresh : (link : Link) → Contains more_sites link → Contains touched_sites link
  pub returns_fresh : (link : Link) → Contains more_returns link → Contains touched_returns link
  pub arrows_begin : (link : Link) (tag : ℕ) → Contains (arrows ++ more_arrows) link → Links changes link.from tag
      → Contains touched_arrows link
  pub arrows_end : (link : Link) (tag : ℕ) → Contains (arrows ++ more_arrows) link → Links changes link.to tag
      → Contains touched_arrows link
  pub sites_begin : (link : Link) (tag : ℕ) → Contains (sites ++ more_sites) link → Links changes link.from tag
      → Contains touched_sites link
  pub returns_begin : (link : Link) (tag : ℕ) → Contains (returns ++ more_returns) link → Links changes link.from tag
      → Contains touched_returns link

module _ (arrows sites returns more_arrows more_sites more_returns changes : List Link)
    (touched_arrows touched_sites touched_returns : List Link)
    (touched : IsTouched arrows sites returns more_arrows more_sites more_returns changes touched_arrows touched_sites
    touched_returns) (places new_places slots new_slots : List (Option ℕ))
    (fresh_places : (k t : ℕ) → tag_of new_places k ≡ Some t → (tag_of places k ≡ Some t) ⊎ Links changes k t)
    (fresh_slots : (k s : ℕ) → tag_of new_slots k ≡ Some s → (tag_of slots k ≡ Some s) ⊎ Links changes k s)
    (s t : ℕ) where
  of_place : (k : ℕ) (Touched : Type 0) → ((tag : ℕ) → Links changes k tag → Touched)
      → tag_of new_places k ≡ Some t → (tag_of places k ≡ Some t) ⊎ Touched
  of_place k Touched by h = elim (fresh_places k t h) [ inl a ↦ inl a | inr b ↦ inr (by t b) ]

  of_slot : (k : ℕ) (Touched : Type 0) → ((tag : ℕ) → Links changes k tag → Touched)
      → tag_of new_slots k ≡ Some s → (tag_of slots k ≡ Some s) ⊎ Touched
  of_slot k Touched by h = elim (fresh_slots k s h) [ inl a ↦ inl a | inr b ↦ inr (by s b) ]

  of_return : (link : Link) → Contains (returns ++ more_returns) link
      → Contains (return_edges new_places link) (edge_of s t)
      → Contains (return_edges places link) (edge_of s t) ⊎ Contains touched_returns link
  of_return link h =
      between_before (Some link.to) (Some link.to) (tag_of places link.from) (tag_of new_places link.from) s t
      (Contains touched_returns link) (λ e. inl e)
      (of_place link.from (Contains touched_returns link) (λ tag c. touched.returns_begin link tag h c))

  of_site : (link : Link) → Contains (sites ++ more_sites) link
      → Contains (site_edges new_places new_slots link) (edge_of s t)
      → Contains (site_edges places slots link) (edge_of s t) ⊎ Contains touched_sites link
  of_site link h =
      let Here = Contains touched_sites link in
      let k = link.from in
      let by_slot = of_slot k Here (λ tag c. touched.sites_begin link tag h c) in
      either_before (between (tag_of slots k) (Some link.to)) (between (tag_of slots k) (tag_of places k))
      (between (tag_of new_slots k) (Some link.to)) (between (tag_of new_slots k) (tag_of new_places k))
      (edge_of s t) Here
      (between_before (tag_of slots k) (tag_of new_slots k) (Some link.to) (Some link.to) s t Here by_slot (λ e. inl e))
      (between_before (tag_of slots k) (tag_of new_slots k) (tag_of places k) (tag_of new_places k) s t Here by_slot
      (of_place k Here (λ tag c. touched.sites_begin link tag h c)))

  of_arrow : (link : Link) → Contains (arrows ++ more_arrows) link
      → Contains (arrow_edges new_places new_slots link) (edge_of s t)
      → Contains (arrow_edges places slots link) (edge_of s t) ⊎ Contains touched_arrows link
  of_arrow link h =
      let Here = Contains touched_arrows link in
      let x = link.from in
      let y = link.to in
      let by_slot = of_slot y Here (λ tag c. touched.arrows_end link tag h c) in
      either_before (between (tag_of slots y) (tag_of places x)) (between (tag_of slots y) (tag_of places y))
      (between (tag_of new_slots y) (tag_of new_places x)) (between (tag_of new_slots y) (tag_of new_places y))
      (edge_of s t) Here
      (between_before (tag_of slots y) (tag_of new_slots y) (tag_of places x) (tag_of new_places x) s t Here by_slot
      (of_place x Here (λ tag c. touched.arrows_begin link tag h c)))
      (between_before (tag_of slots y) (tag_of new_slots y) (tag_of places y) (tag_of new_places y) s t Here by_slot
      (of_place y Here (λ tag c. touched.arrows_end link tag h c)))

  -- each edge that ties all links ties those before with what they had, or ties what is touched
  pub tied_cases : Contains (tied (arrows ++ more_arrows) (sites ++ more_sites) (returns ++ more_returns) new_places new_slots) (edge_of s t)
      → Contains (tied arrows sites returns places slots) (edge_of s t)
      ⊎ Contains (tied touched_arrows touched_sites touched_returns new_places new_slots) (edge_of s t)
  tied_cases =
      let e = edge_of s t in
      let r = flat_map (return_edges places) returns in
      let c = flat_map (site_edges places slots) sites in
      let a = flat_map (arrow_edges places slots) arrows in
      let new_r = flat_map (return_edges new_places) (returns ++ more_returns) in
      let new_c = flat_map (site_edges new_places new_slots) (sites ++ more_sites) in
      let new_a = flat_map (arrow_edges new_places new_slots) (arrows ++ more_arrows) in
      let tr = flat_map (return_edges new_places) touched_returns in
      let tc = flat_map (site_edges new_places new_slots) touched_sites in
      let ta = flat_map (arrow_edges new_places new_slots) touched_arrows in
      λ h.
      elim (Contains-append_cases (new_r ++ new_c) new_a e h) [
        | inl x ↦ elim (Contains-append_cases new_r new_c e x) [
          | inl y ↦ elim (split (return_edges places) (return_edges new_places) returns more_returns touched_returns e
              of_return touched.returns_fresh y) [
                | inl z ↦ inl (Contains-append_left (r ++ c) a e (Contains-append_left r c e z))
                | inr z ↦ inr (Contains-append_left (tr ++ tc) ta e (Contains-append_left tr tc e z))
              ]
          | inr y ↦ elim (split (site_edges places slots) (site_edges new_places new_slots) sites more_sites
              touched_sites e of_site touched.sites_fresh y) [
                | inl z ↦ inl (Contains-append_left (r ++ c) a e (Contains-append_right r c e z))
                | inr z ↦ inr (Contains-append_left (tr ++ tc) ta e (Contains-append_right tr tc e z))
              ]
        ]
        | inr x ↦ elim (split (arrow_edges places slots) (arrow_edges new_places new_slots) arrows more_arrows
            touched_arrows e of_arrow touched.arrows_fresh x) [
              | inl z ↦ inl (Contains-append_right (r ++ c) a e z)
              | inr z ↦ inr (Contains-append_right (tr ++ tc) ta e z)
            ]
      ]
