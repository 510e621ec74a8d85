-- Fresh edges: node by node, and of a flow whose branches and addresses are told once.
use Rattle.std.proofs.Common.{◌≡◌, ℕ, ◌+◌, ◌<◌, ◌⊎◌, List, map, get_or, sym, subst, inl, inr, arith}
use Rattle.std.proofs.lemmas.Bool.{cases_lt}
use Rattle.std.proofs.lemmas.List.Elements.{All-contains, Contains-get_or}
use Rattle.cfi_word.specs.declared.lists.Edge.{Edge}
use Rattle.cfi_word.specs.Edge.{edge_of}
use Rattle.cfi_flow.specs.declared.fan.Fan.{Fan}
use Rattle.cfi_flow.specs.declared.fans.FlowRows.{FlowRows}
use Rattle.cfi_flow.specs.declared.links.Flow.{Flow}
use Rattle.cfi_flow.specs.declared.links.Link.{Link}
use Rattle.cfi_flow.specs.Flow.{Links, PointsAt, ReturnsAt, Goes, BeginBelow, AreBelow, IsSound}
use Rattle.cfi_flow.specs.Fans.{link_edge, IsListed}
use Rattle.cfi_flow.specs.Fresh.{AreAmong, IsPartOf, IsToldOnce, AreOthers, IsFresh}
use Rattle.cfi_flow.specs.inner.FlowRows.{AreFlowRows, IsPointerFan, IsReturnFan}
use Rattle.cfi_flow.specs.inner.Others.{JoinsFresh, AddsOthers, IsFreshAt, AddsFresh}
use Rattle.cfi_flow.proofs.EdgeLemmas.{link_listed, listed_link}
use Rattle.cfi_flow.proofs.FanLemmas.{pointer_sound, pointer_whole, return_sound, return_whole, below_nodes}

-- ---- node by node

pub none_fresh : (known flow : Flow) (old : List Edge) → AddsFresh known flow 0 old old
none_fresh known flow old = record {
  kept = λ slot address h. h;
  whole = λ slot address f. absurd (omega (arith, f.1));
  only = λ slot address h. inl h;
}

-- what a flow names is below a number
record IsSoundWith (nodes : ℕ) (flow : Flow) : Type 0 where
  arrows : AreBelow nodes flow.arrows.items
  sites : BeginBelow nodes flow.sites.items
  returns : BeginBelow nodes flow.returns.items
  pointers : BeginBelow nodes flow.pointers.items
  entries : BeginBelow nodes flow.entries.items
  widenings : AreBelow nodes flow.widenings.items

-- the fans of a node in a flow
pub record HasFans (flow : Flow) (node : ℕ) (points backs : Fan) : Type 0 where
  pub rows : FlowRows
  pub sound : IsSound flow
  pub are : AreFlowRows flow rows
  pub below : node < flow.nodes
  pub pointing : IsPointerFan rows node points
  pub returning : IsReturnFan rows node backs

module _ (known flow : Flow) (node : ℕ) (points backs known_points known_backs : Fan)
    (here : HasFans flow node points backs) (there : HasFans known node known_points known_backs) where
  points_to : (slot address : ℕ) → JoinsFresh points known_points slot address → IsFreshAt known flow node slot address
  points_to slot address j = inl (
    pointer_sound flow here.rows here.sound here.are node here.below points slot address here.pointing j.0,
    λ k. j.1 (pointer_whole known there.rows there.sound there.are node there.below known_points slot address there.pointing k),
  )

  backs_to : (slot address : ℕ) → JoinsFresh backs known_backs slot address → IsFreshAt known flow node slot address
  backs_to slot address j = inr (
    return_sound flow here.rows here.sound here.are node here.below backs slot address here.returning j.0,
    λ k. j.1 (return_whole known there.rows there.sound there.are node there.below known_backs slot address there.returning k),
  )

  from_fresh : (slot address : ℕ) → IsFreshAt known flow node slot address
      → JoinsFresh points known_points slot address ⊎ JoinsFresh backs known_backs slot address
  from_fresh slot address f =
      elim f [
        | inl p ↦ inl (
          pointer_whole flow here.rows here.sound here.are node here.below points slot address here.pointing p.0,
          λ k. p.1 (pointer_sound known there.rows there.sound there.are node there.below known_points slot address there.pointing k),
        )
        | inr r ↦ inr (
          return_whole flow here.rows here.sound here.are node here.below backs slot address here.returning r.0,
          λ k. r.1 (return_sound known there.rows there.sound there.are node there.below known_backs slot address there.returning k),
        )
      ]

  -- the edges of one node more
  pub fresh_more : (old now mid new : List Edge) → AddsFresh known flow node old now
      → AddsOthers now points known_points mid → AddsOthers mid backs known_backs new
      → AddsFresh known flow (node + 1) old new
  fresh_more old now mid new before one two = record {
    kept = λ slot address h. two.kept slot address (one.kept slot address (before.kept slot address h));
    whole = λ slot address f. elim (cases_lt f.0 node) [
      | inl less ↦ two.kept slot address (one.kept slot address (before.whole slot address (f.0, less, f.2)))
      | inr more ↦
          let same : f.0 ≡ node = omega (arith, f.1, more) in
          elim (from_fresh slot address (subst (λ n. IsFreshAt known flow n slot address) same f.2)) [
            | inl p ↦ two.kept slot address (one.whole slot address p)
            | inr r ↦ two.whole slot address r
          ]
    ];
    only = λ slot address h. elim (two.only slot address h) [
      | inl a ↦ elim (one.only slot address a) [
        | inl b ↦ elim (before.only slot address b) [
          | inl c ↦ inl c
          | inr f ↦ inr (f.0, omega (arith, f.1), f.2)
        ]
        | inr p ↦ inr (node, omega arith, points_to slot address p)
      ]
      | inr r ↦ inr (node, omega arith, backs_to slot address r)
    ];
  }

-- ---- of a whole flow

among_below : (count : ℕ) (links others : List Link) → AreAmong links others → AreBelow count others → AreBelow count links
among_below count links others among all = λ k d within.
    let l = get_or links k d in
    All-contains (λ m. (m.from < count) × (m.to < count)) others l all (among l.from l.to (Contains-get_or links k d within))

among_begin : (count : ℕ) (links others : List Link) → AreAmong links others → BeginBelow count others
    → BeginBelow count links
among_begin count links others among all = λ k d within.
    let l = get_or links k d in
    All-contains (λ m. m.from < count) others l all (among l.from l.to (Contains-get_or links k d within))

-- a part of a sound flow is sound
pub part_sound : (known flow : Flow) → IsPartOf known flow → IsSound flow → IsSound known
part_sound known flow part sound =
    let sound_there : IsSoundWith flow.nodes known = record {
      arrows = among_below flow.nodes known.arrows.items flow.arrows.items part.arrows sound.arrows;
      sites = among_begin flow.nodes known.sites.items flow.sites.items part.sites sound.sites;
      returns = among_begin flow.nodes known.returns.items flow.returns.items part.returns sound.returns;
      pointers = among_begin flow.nodes known.pointers.items flow.pointers.items part.pointers sound.pointers;
      entries = among_begin flow.nodes known.entries.items flow.entries.items part.entries sound.entries;
      widenings = among_below flow.nodes known.widenings.items flow.widenings.items part.widenings sound.widenings;
    } in
    let there = subst (λ n. IsSoundWith n known) (sym part.nodes) sound_there in
    record {
      arrows = there.arrows;
      sites = there.sites;
      returns = there.returns;
      pointers = there.pointers;
      entries = there.entries;
      widenings = there.widenings;
    }

module _ (known flow : Flow) (part : IsPartOf known flow) (once : IsToldOnce flow) (slot address : ℕ) where
  listed_new : Links flow.listed.items slot address → (Links known.listed.items slot address → ⊥) → Goes known slot address → ⊥
  listed_new here new goes =
      elim goes [
        | inl l ↦ new l
        | inr by ↦ elim by.1 [
          | inl p ↦ once.points_or_lists p.pointing slot address (part.pointers p.pointing slot p.pointer) here
          | inr r ↦ once.returns_or_lists r.returning slot address (part.returns r.returning slot r.back) here
        ]
      ]

  points_new : (node : ℕ) → PointsAt flow node slot address → (PointsAt known node slot address → ⊥)
      → Goes known slot address → ⊥
  points_new node here new goes =
      elim goes [
        | inl l ↦ once.points_or_lists here.pointing slot address here.pointer (part.listed slot address l)
        | inr by ↦ elim by.1 [
          | inl p ↦
              let same = once.entries by.0 node address (part.entries by.0 address p.entry) here.entry in
              new (subst (λ n. PointsAt known n slot address) same p)
          | inr r ↦
              once.points_or_returns here.pointing r.returning slot here.pointer (part.returns r.returning slot r.back)
        ]
      ]

  returns_new : (node : ℕ) → ReturnsAt flow node slot address → (ReturnsAt known node slot address → ⊥)
      → Goes known slot address → ⊥
  returns_new node here new goes =
      elim goes [
        | inl l ↦ once.returns_or_lists here.returning slot address here.back (part.listed slot address l)
        | inr by ↦ elim by.1 [
          | inl p ↦
              once.points_or_returns p.pointing here.returning slot (part.pointers p.pointing slot p.pointer) here.back
          | inr r ↦
              let same = once.sites by.0 node address (part.sites by.0 address r.site) here.site in
              new (subst (λ n. ReturnsAt known n slot address) same r)
        ]
      ]

module _ (known flow : Flow) (first edges : List Edge) (sound : IsSound flow) (part : IsPartOf known flow)
    (once : IsToldOnce flow)
    (others : AreOthers (map link_edge flow.listed.items) (map link_edge known.listed.items) first)
    (adds : AddsFresh known flow flow.nodes first edges) where
  pub fresh_sound : (slot address : ℕ) → IsListed edges slot address → IsFresh known flow slot address
  fresh_sound slot address h =
      elim (adds.only slot address h) [
        | inl l ↦
            let other = others.sound (edge_of slot address) l in
            let here = listed_link flow.listed.items slot address other.0 in
            record {
              goes = inl here;
              new = listed_new known flow part once slot address here
                  (λ k. other.1 (link_listed known.listed.items slot address k));
            }
        | inr f ↦ elim f.2 [
          | inl p ↦ record {
            goes = inr (f.0, inl p.0);
            new = points_new known flow part once slot address f.0 p.0 p.1;
          }
          | inr r ↦ record {
            goes = inr (f.0, inr r.0);
            new = returns_new known flow part once slot address f.0 r.0 r.1;
          }
        ]
      ]

  pub fresh_whole : (slot address : ℕ) → IsFresh known flow slot address → IsListed edges slot address
  fresh_whole slot address f =
      elim f.goes [
        | inl l ↦
            adds.kept slot address
            (others.whole (edge_of slot address) (link_listed flow.listed.items slot address l)
            (λ k. f.new (inl (listed_link known.listed.items slot address k))))
        | inr by ↦
            let below = below_nodes flow by.0 slot address sound by.1 in
            adds.whole slot address (
              by.0,
              below,
              elim by.1 [
                | inl p ↦ inl (p, λ k. f.new (inr (by.0, inl k)))
                | inr r ↦ inr (r, λ k. f.new (inr (by.0, inr k)))
              ],
            )
      ]
