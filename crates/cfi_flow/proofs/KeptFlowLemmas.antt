-- Edges of a kept flow span it, and those that are added do with those before.
use Rattle.std.proofs.Common.{◌≡◌, ℕ, List, ◌++◌, length, map, sym, ap, subst, ◌∙◌, append_assoc, inl, inr}
use Rattle.std.proofs.lemmas.List.Elements.{Contains-append_left, Contains-append_right, Contains-append_cases}
use Rattle.cfi_word.specs.declared.lists.Edge.{Edge}
use Rattle.cfi_word.specs.Chain.{Chain}
use Rattle.cfi_word.specs.Edge.{edge_of}
use Rattle.cfi_flow.specs.declared.links.Link.{Link}
use Rattle.cfi_flow.specs.Flow.{Links}
use Rattle.cfi_flow.specs.Fans.{link_edge, IsListed}
use Rattle.cfi_flow.specs.Kept.{Kept, GoesAlong, SpansFlow}
use Rattle.cfi_flow.specs.inner.Tagged.{AreTagged}
use Rattle.cfi_flow.specs.inner.KeptWays.{Ways, edges_of, AreKeptWays, AreLongerWays, AddsLongerWays, kept_of, ComesBackBy, IsOfSome, IsKeptFlow}
use Rattle.cfi_flow.proofs.EdgeLemmas.{link_listed, listed_link, chain_in}
use Rattle.cfi_flow.proofs.KeptWayLemmas.{ends_by_tags}
use Rattle.cfi_flow.proofs.RowLemmas.{make_link}
use Rattle.cfi_flow.proofs.TaggedLemmas.{more_path}
use Rattle.cfi_flow.proofs.WayLemmas.{ways_by}

-- chains of the edges that tie ways join what comes back along them
ways_whole_by : (ways : Ways) → AreKeptWays ways → (s t : ℕ) → ComesBackBy ways s t → Chain (IsListed (edges_of ways)) s t
ways_whole_by ways kept s t b =
    let go = subst (λ ls. AreTagged ls ways.back.seeds ways.back.tags) kept.flipped kept.back.tagged in
    (ways_by ways.forth.arrows ways.forth.seeds ways.back.seeds ways.forth.tags ways.back.tags
    (ends_by_tags ways.forth.arrows ways.forth.seeds ways.back.seeds ways.forth.tags ways.back.tags kept.forth.tagged go)).whole
    s t b

module _ (nodes : ℕ) (pointing returning : Ways) (listed : List Link) (edges : List Edge)
    (is : IsKeptFlow nodes pointing returning listed edges) where
  abbrev kept : Kept
  kept = kept_of nodes pointing returning listed edges

  goes_sound : (s t : ℕ) → IsListed edges s t → GoesAlong kept s t
  goes_sound s t h = elim (is.sound s t h) [
    | inl a ↦ inl a
    | inr a ↦ elim a [
      | inl p ↦ inr (p.node, inl (record { entry = p.site; pointing = p.returning; wider = p.reached; pointer = p.back }))
      | inr r ↦ inr (r.node, inr (record { site = r.site; returning = r.returning; reached = r.reached; back = r.back }))
    ]
  ]

  goes_whole : (s t : ℕ) → GoesAlong kept s t → Chain (IsListed edges) s t
  goes_whole s t g = elim g [
    | inl a ↦ record { more = 0; chain = is.lists s t a }
    | inr a ↦ elim a.1 [
      | inl p ↦
          chain_in (edges_of pointing) edges (λ e h. is.ties_points e.branch e.target h) s t
          (ways_whole_by pointing is.points s t (record {
            node = a.0;
            site = p.entry;
            returning = p.pointing;
            reached = p.wider;
            back = p.pointer;
          }))
      | inr r ↦
          chain_in (edges_of returning) edges (λ e h. is.ties_returns e.branch e.target h) s t
          (ways_whole_by returning is.returns s t (record {
            node = a.0;
            site = r.site;
            returning = r.returning;
            reached = r.reached;
            back = r.back;
          }))
    ]
  ]

  pub kept_spans : SpansFlow (kept_of nodes pointing returning listed edges)
  kept_spans = record { sound = goes_sound; whole = goes_whole }

-- ---- more links

more_links : (before more all : List Link) → all ≡ before ++ more → (a b : ℕ) → Links before a b → Links all a b
more_links before more all is a b h =
    subst (λ ls. Links ls a b) (sym is) (Contains-append_left before more (make_link a b) h)

comes_longer : (old new : Ways) (arrows sites returns : List Link) (added : List Edge)
    → AreLongerWays old arrows sites returns new added → (s t : ℕ) → ComesBackBy old s t → ComesBackBy new s t
comes_longer old new arrows sites returns added longer s t b = record {
  node = b.node;
  site = more_links old.forth.seeds sites new.forth.seeds longer.sites_are b.node t b.site;
  returning = b.returning;
  reached = (
    b.reached.0,
    more_path old.forth.arrows new.forth.arrows
        (more_links old.forth.arrows arrows new.forth.arrows longer.arrows_are) b.reached.0 b.node b.returning b.reached.1,
  );
  back = more_links old.back.seeds returns new.back.seeds longer.returns_are b.returning s b.back;
}

module _ (old_nodes : ℕ) (old_pointing old_returning : Ways) (old_listed : List Link) (old_edges : List Edge)
    (is : IsKeptFlow old_nodes old_pointing old_returning old_listed old_edges) (nodes : ℕ) (pointing returning : Ways)
    (first second edges : List Edge)
    (widenings entries pointers arrows sites returns more all : List Link)
    (points : AreKeptWays pointing) (backs : AreKeptWays returning)
    (point_nodes : length pointing.forth.tags ≡ nodes) (return_nodes : length returning.forth.tags ≡ nodes)
    (all_is : all ≡ old_listed ++ more) (first_is : first ≡ old_edges ++ map link_edge more)
    (by_points : AddsLongerWays old_pointing widenings entries pointers pointing first second)
    (by_returns : AddsLongerWays old_returning arrows sites returns returning second edges) where
  from_first : (s t : ℕ) → IsListed first s t → IsListed edges s t
  from_first s t h =
      subst (λ es. IsListed es s t) (sym by_returns.is)
      (Contains-append_left second by_returns.added (edge_of s t)
      (subst (λ es. IsListed es s t) (sym by_points.is)
      (Contains-append_left first by_points.added (edge_of s t) h)))

  from_old : (s t : ℕ) → IsListed old_edges s t → IsListed edges s t
  from_old s t h =
      from_first s t (subst (λ es. IsListed es s t) (sym first_is)
      (Contains-append_left old_edges (map link_edge more) (edge_of s t) h))

  from_points : (s t : ℕ) → IsListed by_points.added s t → IsListed edges s t
  from_points s t h =
      subst (λ es. IsListed es s t) (sym by_returns.is)
      (Contains-append_left second by_returns.added (edge_of s t)
      (subst (λ es. IsListed es s t) (sym by_points.is)
      (Contains-append_right first by_points.added (edge_of s t) h)))

  of_some : (s t : ℕ) → IsListed edges s t → IsOfSome pointing returning all s t
  of_some s t h =
      elim (Contains-append_cases second by_returns.added (edge_of s t) (subst (λ es. IsListed es s t) by_returns.is h)) [
        | inr a ↦ inr (inr (by_returns.longer.sound s t a))
        | inl a ↦ elim (Contains-append_cases first by_points.added (edge_of s t)
            (subst (λ es. IsListed es s t) by_points.is a)) [
              | inr b ↦ inr (inl (by_points.longer.sound s t b))
              | inl b ↦ elim (Contains-append_cases old_edges (map link_edge more) (edge_of s t)
                  (subst (λ es. IsListed es s t) first_is b)) [
                    | inr c ↦ inl (subst (λ ls. Links ls s t) (sym all_is)
                        (Contains-append_right old_listed more (make_link s t) (listed_link more s t c)))
                    | inl c ↦ elim (is.sound s t c) [
                      | inl d ↦ inl (more_links old_listed more all all_is s t d)
                      | inr d ↦ elim d [
                        | inl e ↦ inr (inl (comes_longer old_pointing pointing widenings entries pointers by_points.added
                            by_points.longer s t e))
                        | inr e ↦ inr (inr (comes_longer old_returning returning arrows sites returns by_returns.added
                            by_returns.longer s t e))
                      ]
                    ]
                  ]
            ]
      ]

  pub flow_longer : IsKeptFlow nodes pointing returning all edges
  flow_longer = record {
    points = points;
    returns = backs;
    point_nodes = point_nodes;
    return_nodes = return_nodes;
    sound = of_some;
    lists = λ s t h.
        elim (Contains-append_cases old_listed more (make_link s t) (subst (λ ls. Links ls s t) all_is h)) [
          | inl a ↦ from_old s t (is.lists s t a)
          | inr a ↦ from_first s t (subst (λ es. IsListed es s t) (sym first_is)
              (Contains-append_right old_edges (map link_edge more) (edge_of s t) (link_listed more s t a)))
        ];
    ties_points = λ s t h. elim (by_points.longer.whole s t h) [
      | inl a ↦ from_old s t (is.ties_points s t a)
      | inr a ↦ from_points s t a
    ];
    ties_returns = λ s t h. elim (by_returns.longer.whole s t h) [
      | inl a ↦ from_old s t (is.ties_returns s t a)
      | inr a ↦ subst (λ es. IsListed es s t) (sym by_returns.is)
          (Contains-append_right second by_returns.added (edge_of s t) a)
    ];
  }

  pub edges_longer : (added : List Edge) × (edges ≡ old_edges ++ added)
  edges_longer = (
    (map link_edge more ++ by_points.added) ++ by_returns.added,
    by_returns.is
        ∙ ap (λ es. es ++ by_returns.added) (by_points.is ∙ ap (λ es. es ++ by_points.added) first_is
        ∙ append_assoc old_edges (map link_edge more) by_points.added)
        ∙ append_assoc old_edges (map link_edge more ++ by_points.added) by_returns.added,
  )
