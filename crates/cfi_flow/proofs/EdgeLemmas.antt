-- Edges of fans.
use Rattle.std.proofs.Common.{◌≡◌, ℕ, zero, suc, ◌+◌, ◌*◌, ◌≤◌, List, ◌++◌, length, map, ap, subst, inl, inr, arith}
use Rattle.std.specs.List.{Contains, flat_map}
use Rattle.std.proofs.lemmas.List.{length-append, length-map}
use Rattle.std.proofs.lemmas.List.Elements.{Contains-append_left, Contains-append_right, Contains-append_cases}
use Rattle.cfi_word.specs.declared.lists.Edge.{Edge}
use Rattle.cfi_word.specs.Chain.{ChainOf, Chain}
use Rattle.cfi_flow.specs.declared.links.Link.{Link}
use Rattle.cfi_flow.specs.declared.links.Flow.{Flow}
use Rattle.cfi_flow.specs.declared.fan.Fan.{Fan}
use Rattle.cfi_flow.specs.Flow.{Links, Goes, IsSound, link_count}
use Rattle.cfi_flow.specs.Fans.{Joins, AreFans, link_edge, all_of, IsListed}
use Rattle.cfi_flow.specs.inner.Ways.{AreWays}
use Rattle.cfi_word.specs.Edge.{edge_of}
use Rattle.cfi_flow.proofs.Members.{member_map, from_map, member_flat, from_flat}
use Rattle.cfi_flow.proofs.RowLemmas.{make_link, link_is}
use Rattle.cfi_flow.proofs.FanLemmas.{below_nodes}

-- ---- listed edges

pub link_listed : (links : List Link) (slot address : ℕ) → Links links slot address
    → IsListed (map link_edge links) slot address
link_listed links slot address h = member_map link_edge links (make_link slot address) h

pub listed_link : (links : List Link) (slot address : ℕ) → IsListed (map link_edge links) slot address
    → Links links slot address
listed_link links slot address h =
    let m = from_map link_edge links (edge_of slot address) h in
    let is : m.0 ≡ make_link slot address =
    link_is m.0 slot address (ap (λ e. e.branch) m.2) (ap (λ e. e.target) m.2) in
    subst (λ l. Contains links l) is m.1

-- ---- all edges of a fan

pub from_edge : (targets : List ℕ) (from slot address : ℕ) → Contains (map (edge_of from) targets) (edge_of slot address)
    → (from ≡ slot) × Contains targets address
from_edge targets from slot address h =
    let m = from_map (edge_of from) targets (edge_of slot address) h in
    (ap (λ e. e.branch) m.2, subst (λ t. Contains targets t) (ap (λ e. e.target) m.2) m.1)

all_joined : (fan : Fan) (slot address : ℕ) → Contains (all_of fan) (edge_of slot address) → Joins fan slot address
all_joined fan slot address h =
    let m = from_flat (λ s. map (edge_of s) fan.targets.items) fan.slots.items (edge_of slot address) h in
    let e = from_edge fan.targets.items m.0 slot address m.2 in
    (subst (λ s. Contains fan.slots.items s) e.0 m.1, e.1)

joined_all : (fan : Fan) (slot address : ℕ) → Joins fan slot address → Contains (all_of fan) (edge_of slot address)
joined_all fan slot address j =
    member_flat (λ s. map (edge_of s) fan.targets.items) fan.slots.items slot (edge_of slot address) j.0
    (member_map (edge_of slot) fan.targets.items address j.1)

-- all edges of the fans of a flow, after the listed ones
pub all_sound : (flow : Flow) (fans : List Fan) → AreFans flow flow.nodes fans → (slot address : ℕ)
    → IsListed (map link_edge flow.listed.items ++ flat_map all_of fans) slot address → Goes flow slot address
all_sound flow fans are slot address h =
    elim (Contains-append_cases (map link_edge flow.listed.items) (flat_map all_of fans) (edge_of slot address) h) [
      | inl a ↦ inl (listed_link flow.listed.items slot address a)
      | inr b ↦
          let m = from_flat all_of fans (edge_of slot address) b in
          inr (are.sound slot address (record { fan = m.0; has = m.1; joins = all_joined m.0 slot address m.2 }))
    ]

pub all_whole : (flow : Flow) (fans : List Fan) → IsSound flow → AreFans flow flow.nodes fans → (slot address : ℕ)
    → Goes flow slot address → IsListed (map link_edge flow.listed.items ++ flat_map all_of fans) slot address
all_whole flow fans sound are slot address g =
    elim g [
      | inl a ↦ Contains-append_left (map link_edge flow.listed.items) (flat_map all_of fans) (edge_of slot address)
          (link_listed flow.listed.items slot address a)
      | inr b ↦
          let j = are.whole slot address b.0 (below_nodes flow b.0 slot address sound b.1) b.1 in
          Contains-append_right (map link_edge flow.listed.items) (flat_map all_of fans) (edge_of slot address)
          (member_flat all_of fans j.fan (edge_of slot address) j.has (joined_all j.fan slot address j.joins))
    ]

-- ---- few edges of a flow

chain_up : (R S : (slot address : ℕ) → Type 0) → ((slot address : ℕ) → R slot address → S slot address)
    → (more slot address : ℕ) → ChainOf R more slot address → ChainOf S more slot address
chain_up R S up zero slot address h = up slot address h
chain_up R S up (suc more) slot address h =
    (h.0, h.1, up slot h.0 h.2, up h.1 h.0 h.3, chain_up R S up more h.1 address h.4)

pub chain_in : (xs ys : List Edge) → ((e : Edge) → Contains xs e → Contains ys e) → (slot address : ℕ)
    → Chain (IsListed xs) slot address → Chain (IsListed ys) slot address
chain_in xs ys kept slot address c = record {
  more = c.more;
  chain = chain_up (IsListed xs) (IsListed ys) (λ s t m. kept (edge_of s t) m) c.more slot address c.chain;
}

-- what is said of slices, said of the lists in them
pub ways_of : (ls arrows ss sites rs returns : List Link) (edges : List Edge) → ls ≡ arrows → ss ≡ sites → rs ≡ returns
    → AreWays ls ss rs edges → AreWays arrows sites returns edges
ways_of ls arrows ss sites rs returns edges e f g w =
    subst (λ xs. AreWays xs sites returns edges) e
    (subst (λ xs. AreWays ls xs returns edges) f (subst (λ xs. AreWays ls ss xs edges) g w))

-- edges of pointers and of returns, behind the listed ones
module _ (flow : Flow) (pointing returning : List Edge)
    (points : AreWays flow.widenings.items flow.entries.items flow.pointers.items pointing)
    (backs : AreWays flow.arrows.items flow.sites.items flow.returns.items returning) where
  abbrev pub listed : List Edge
  listed = map link_edge flow.listed.items

  abbrev pub few : List Edge
  few = (listed ++ pointing) ++ returning

  pub few_sound : (slot address : ℕ) → IsListed few slot address → Goes flow slot address
  few_sound slot address h =
      elim (Contains-append_cases (listed ++ pointing) returning (edge_of slot address) h) [
        | inl a ↦ elim (Contains-append_cases listed pointing (edge_of slot address) a) [
          | inl b ↦ inl (listed_link flow.listed.items slot address b)
          | inr b ↦
              let w = points.sound slot address b in
              inr (w.node, inl (record { entry = w.site; pointing = w.returning; wider = w.reached; pointer = w.back }))
        ]
        | inr a ↦
            let w = backs.sound slot address a in
            inr (w.node, inr (record { site = w.site; returning = w.returning; reached = w.reached; back = w.back }))
      ]

  pub few_whole : (slot address : ℕ) → Goes flow slot address → Chain (IsListed few) slot address
  few_whole slot address g =
      elim g [
        | inl a ↦ record {
          more = 0;
          chain = Contains-append_left (listed ++ pointing) returning (edge_of slot address)
              (Contains-append_left listed pointing (edge_of slot address)
              (link_listed flow.listed.items slot address a));
        }
        | inr b ↦ elim b.1 [
          | inl p ↦
              chain_in pointing few
              (λ e m. Contains-append_left (listed ++ pointing) returning e (Contains-append_right listed pointing e m))
              slot address
              (points.whole slot address (record {
                node = b.0;
                site = p.entry;
                returning = p.pointing;
                reached = p.wider;
                back = p.pointer;
              }))
          | inr r ↦
              chain_in returning few (λ e m. Contains-append_right (listed ++ pointing) returning e m) slot address
              (backs.whole slot address (record {
                node = b.0;
                site = r.site;
                returning = r.returning;
                reached = r.reached;
                back = r.back;
              }))
        ]
      ]

  pub few_length : length few ≤ 2 * link_count flow
  few_length =
      let one : length ((listed ++ pointing) ++ returning) ≡ length (listed ++ pointing) + length returning =
      length-append (listed ++ pointing) returning in
      let other : length (listed ++ pointing) ≡ length listed + length pointing = length-append listed pointing in
      let own : length listed ≡ length flow.listed.items = length-map flow.listed.items link_edge in
      omega (arith, one, other, own, points.few, backs.few)
