-- What the fans of a node join, and the fans of one node more.
use Rattle.std.proofs.Common.{◌≡◌, ℕ, zero, suc, ◌+◌, ◌<◌, ◌⊎◌, List, [], ◌∷◌, ◌++◌, length, get_or, sym, subst, inl, inr, arith, All}
use Rattle.std.specs.List.{Contains}
use Rattle.std.proofs.lemmas.Bool.{cases_lt}
use Rattle.std.proofs.lemmas.List.Elements.{All-contains, All-from_get_or, recursion_from_All, Contains-get_or, Contains-append_left, Contains-push, Contains-push_cases}
use Rattle.cfi_flow.specs.declared.links.Link.{Link}
use Rattle.cfi_flow.specs.declared.links.Flow.{Flow}
use Rattle.cfi_flow.specs.declared.fan.Fan.{Fan}
use Rattle.cfi_flow.specs.declared.fans.FlowRows.{FlowRows}
use Rattle.cfi_flow.specs.Rows.{AreRows}
use Rattle.cfi_flow.specs.inner.Reach.{IsWalk}
use Rattle.cfi_flow.specs.Flow.{Links, IsPath, Reaches, PointsAt, ReturnsAt, GoesBy, IsSound, AreBelow, BeginBelow}
use Rattle.cfi_flow.specs.Fans.{Joins, JoinsOne, AreFans}
use Rattle.cfi_flow.specs.inner.FlowRows.{flow_row, AreFlowRows, AreInside, HaveNodes, IsFan, IsPointerFan, IsReturnFan}
use Rattle.cfi_flow.proofs.Members.{no_member, member_flat, from_flat}
use Rattle.cfi_flow.proofs.RowLemmas.{from_row, to_row}

-- a member of a row is a link
pub row_link : (count : ℕ) (links : List Link) (rows : List (List ℕ)) (k end : ℕ) → AreRows count links rows → k < count
    → Contains (flow_row rows k) end → Links links k end
row_link count links rows k end r h m = from_row k links end (subst (λ ys. Contains ys end) (r.row k h) m)

-- a link is a member of its row
link_row : (count : ℕ) (links : List Link) (rows : List (List ℕ)) (k end : ℕ) → AreRows count links rows → k < count
    → Links links k end → Contains (flow_row rows k) end
link_row count links rows k end r h m = subst (λ ys. Contains ys end) (sym (r.row k h)) (to_row k links end m)

pub begins : (count : ℕ) (links : List Link) (a b : ℕ) → BeginBelow count links → Links links a b → a < count
begins count links a b all h = All-contains (λ link. link.from < count) links (record { from = a; to = b }) all h

pub ends : (count : ℕ) (links : List Link) (a b : ℕ) → AreBelow count links → Links links a b → b < count
ends count links a b all h =
    let both = All-contains (λ link. (link.from < count) × (link.to < count)) links (record { from = a; to = b }) all h in
    both.1

pub starts : (count : ℕ) (links : List Link) (a b : ℕ) → AreBelow count links → Links links a b → a < count
starts count links a b all h =
    let both = All-contains (λ link. (link.from < count) × (link.to < count)) links (record { from = a; to = b }) all h in
    both.0

row_inside : (count : ℕ) (links : List Link) (rows : List (List ℕ)) → AreBelow count links → AreRows count links rows
    → (i : ℕ) → i < length rows → All (λ k. k < length rows) (flow_row rows i)
row_inside count links rows all r i h =
    let within : i < count = omega (arith, h, r.len) in
    All-from_get_or (λ k. k < length rows) (flow_row rows i) 0 (λ j lt.
    let end = get_or (flow_row rows i) j 0 in
    let low : end < count =
    ends count links i end all (row_link count links rows i end r within (Contains-get_or (flow_row rows i) j 0 lt)) in
    omega (arith, low, r.len))

-- rows of links between nodes lead to others of them
pub are_inside : (count : ℕ) (links : List Link) (rows : List (List ℕ)) → AreBelow count links → AreRows count links rows
    → AreInside rows
are_inside count links rows all r =
    recursion_from_All (All (λ k. k < length rows)) rows
    (All-from_get_or (All (λ k. k < length rows)) rows [] (λ i h. row_inside count links rows all r i h))

-- rows of a sound flow have its nodes
pub rows_have_nodes : (flow : Flow) (rows : FlowRows) → IsSound flow → AreFlowRows flow rows
    → HaveNodes flow.nodes rows
rows_have_nodes flow rows s r = record {
  arrows = r.arrows.len;
  sites = r.sites.len;
  returns = r.returns.len;
  pointers = r.pointers.len;
  entries = r.entries.len;
  widenings = r.widenings.len;
  arrows_inside = are_inside flow.nodes flow.arrows.items rows.arrows s.arrows r.arrows;
  widenings_inside = are_inside flow.nodes flow.widenings.items rows.widenings s.widenings r.widenings;
}

-- a walk along rows is a path along arrows
pub walk_path : (count : ℕ) (links : List Link) (rows : List (List ℕ)) → AreBelow count links → AreRows count links rows
    → (steps a b : ℕ) → a < count → IsWalk rows steps a b → IsPath links steps a b
walk_path count links rows all r zero a b h w = w
walk_path count links rows all r (suc steps) a b h w =
    let link = row_link count links rows a w.0 r h w.1 in
    (w.0, link, walk_path count links rows all r steps w.0 b (ends count links a w.0 all link) w.2)

pub path_walk : (count : ℕ) (links : List Link) (rows : List (List ℕ)) → AreBelow count links → AreRows count links rows
    → (steps a b : ℕ) → IsPath links steps a b → IsWalk rows steps a b
path_walk count links rows all r zero a b w = w
path_walk count links rows all r (suc steps) a b w = (
  w.0,
  link_row count links rows a w.0 r (starts count links a w.0 all w.1) w.1,
  path_walk count links rows all r steps w.0 b w.2,
)

-- ---- the fans of a node

some_member : (xs : List ℕ) (x : ℕ) → Contains xs x → 0 < length xs
some_member xs x h = omega (arith, h.1)

-- links of a node, and of what it reaches along others
pub record Meets (along branches addresses : List Link) (node slot address : ℕ) : Type 0 where
  pub here : Links addresses node address
  pub there : ℕ
  pub reached : Reaches along node there
  pub branch : Links branches there slot

module _ (count : ℕ) (along branches addresses : List Link) (paths slots ends : List (List ℕ))
    (all : AreBelow count along) (path_rows : AreRows count along paths) (slot_rows : AreRows count branches slots)
    (end_rows : AreRows count addresses ends) (node : ℕ) (h : node < count) (fan : Fan)
    (f : IsFan paths slots ends node fan) (slot address : ℕ) where
  fan_sound : Joins fan slot address → Meets along branches addresses node slot address
  fan_sound j =
      let from = from_flat (flow_row slots) f.order slot (subst (λ ys. Contains ys slot) f.slots j.0) in
      let reach = f.reached (some_member fan.targets.items address j.1) in
      let within : from.0 < count = omega (arith, reach.within from.0 from.1, path_rows.len) in
      let walk = reach.sound from.0 from.1 in
      record {
        here = row_link count addresses ends node address end_rows h (subst (λ ys. Contains ys address) f.targets j.1);
        there = from.0;
        reached = (walk.0, walk_path count along paths all path_rows walk.0 node from.0 h walk.1);
        branch = row_link count branches slots from.0 slot slot_rows within from.2;
      }

  fan_whole : BeginBelow count branches → Meets along branches addresses node slot address → Joins fan slot address
  fan_whole begin m =
      let here : Contains fan.targets.items address =
      subst (λ ys. Contains ys address) (sym f.targets) (link_row count addresses ends node address end_rows h m.here) in
      let reach = f.reached (some_member fan.targets.items address here) in
      let in_order : Contains f.order m.there =
      reach.whole m.there m.reached.0 (path_walk count along paths all path_rows m.reached.0 node m.there m.reached.1) in
      let below : m.there < count = begins count branches m.there slot begin m.branch in (
        subst (λ ys. Contains ys slot) (sym f.slots)
            (member_flat (flow_row slots) f.order m.there slot in_order
            (link_row count branches slots m.there slot slot_rows below m.branch)),
        here,
      )

module _ (flow : Flow) (rows : FlowRows) (s : IsSound flow) (r : AreFlowRows flow rows) (node : ℕ)
    (h : node < flow.nodes) (fan : Fan) (slot address : ℕ) where
  pub pointer_sound : IsPointerFan rows node fan → Joins fan slot address → PointsAt flow node slot address
  pointer_sound f j =
      let m = fan_sound flow.nodes flow.widenings.items flow.pointers.items flow.entries.items rows.widenings
      rows.pointers rows.entries s.widenings r.widenings r.pointers r.entries node h fan f slot address j in
      record { entry = m.here; pointing = m.there; wider = m.reached; pointer = m.branch }

  pub pointer_whole : IsPointerFan rows node fan → PointsAt flow node slot address → Joins fan slot address
  pointer_whole f p =
      fan_whole flow.nodes flow.widenings.items flow.pointers.items flow.entries.items rows.widenings
      rows.pointers rows.entries s.widenings r.widenings r.pointers r.entries node h fan f slot address s.pointers
      (record { here = p.entry; there = p.pointing; reached = p.wider; branch = p.pointer })

  pub return_sound : IsReturnFan rows node fan → Joins fan slot address → ReturnsAt flow node slot address
  return_sound f j =
      let m = fan_sound flow.nodes flow.arrows.items flow.returns.items flow.sites.items rows.arrows
      rows.returns rows.sites s.arrows r.arrows r.returns r.sites node h fan f slot address j in
      record { site = m.here; returning = m.there; reached = m.reached; back = m.branch }

  pub return_whole : IsReturnFan rows node fan → ReturnsAt flow node slot address → Joins fan slot address
  return_whole f p =
      fan_whole flow.nodes flow.arrows.items flow.returns.items flow.sites.items rows.arrows
      rows.returns rows.sites s.arrows r.arrows r.returns r.sites node h fan f slot address s.returns
      (record { here = p.site; there = p.returning; reached = p.reached; branch = p.back })

-- ---- the fans of the nodes below a count

pub no_fans : (flow : Flow) → AreFans flow 0 []
no_fans flow = record {
  sound = λ slot address j. absurd (no_member j.fan j.has);
  whole = λ slot address node h. absurd (omega (arith, h));
}

joins_more : (fans : List Fan) (fan : Fan) (slot address : ℕ) → JoinsOne fans slot address
    → JoinsOne (fans ++ fan ∷ []) slot address
joins_more fans fan slot address j =
    record { fan = j.fan; has = Contains-append_left fans (fan ∷ []) j.fan j.has; joins = j.joins }

joins_last : (fans : List Fan) (fan : Fan) (slot address : ℕ) → Joins fan slot address
    → JoinsOne (fans ++ fan ∷ []) slot address
joins_last fans fan slot address j = record { fan = fan; has = Contains-push fans fan; joins = j }

joins_cases : (fans : List Fan) (fan : Fan) (slot address : ℕ) → JoinsOne (fans ++ fan ∷ []) slot address
    → JoinsOne fans slot address ⊎ Joins fan slot address
joins_cases fans fan slot address j =
    elim (Contains-push_cases fans fan j.fan j.has) [
      | inl a ↦ inl (record { fan = j.fan; has = a; joins = j.joins })
      | inr e ↦ inr (subst (λ f. Joins f slot address) (sym e) j.joins)
    ]

this_node : (flow : Flow) (rows : FlowRows) (node : ℕ) (fans : List Fan) (p r : Fan) → IsSound flow
    → AreFlowRows flow rows → node < flow.nodes → IsPointerFan rows node p → IsReturnFan rows node r
    → (slot address : ℕ) → GoesBy flow node slot address → JoinsOne ((fans ++ p ∷ []) ++ r ∷ []) slot address
this_node flow rows node fans p r s are h pointers returns slot address g =
    elim g [
      | inl a ↦ joins_more (fans ++ p ∷ []) r slot address
          (joins_last fans p slot address (pointer_whole flow rows s are node h p slot address pointers a))
      | inr a ↦ joins_last (fans ++ p ∷ []) r slot address (return_whole flow rows s are node h r slot address returns a)
    ]

pub more_fans : (flow : Flow) (rows : FlowRows) (node : ℕ) (fans : List Fan) (p r : Fan) → IsSound flow
    → AreFlowRows flow rows → node < flow.nodes → AreFans flow node fans → IsPointerFan rows node p
    → IsReturnFan rows node r → AreFans flow (node + 1) ((fans ++ p ∷ []) ++ r ∷ [])
more_fans flow rows node fans p r s are h before pointers returns = record {
  sound = λ slot address j. elim (joins_cases (fans ++ p ∷ []) r slot address j) [
    | inl k ↦ elim (joins_cases fans p slot address k) [
      | inl a ↦ before.sound slot address a
      | inr a ↦ (node, inl (pointer_sound flow rows s are node h p slot address pointers a))
    ]
    | inr a ↦ (node, inr (return_sound flow rows s are node h r slot address returns a))
  ];
  whole = λ slot address n below g. elim (cases_lt n node) [
    | inl less ↦
        joins_more (fans ++ p ∷ []) r slot address (joins_more fans p slot address (before.whole slot address n less g))
    | inr more ↦
        let same : n ≡ node = omega (arith, below, more) in
        this_node flow rows node fans p r s are h pointers returns slot address
        (subst (λ k. GoesBy flow k slot address) same g)
  ];
}

-- control goes by nodes that are there
pub below_nodes : (flow : Flow) (node slot address : ℕ) → IsSound flow → GoesBy flow node slot address
    → node < flow.nodes
below_nodes flow node slot address s g =
    elim g [
      | inl p ↦ begins flow.nodes flow.entries.items node address s.entries p.entry
      | inr r ↦ begins flow.nodes flow.sites.items node address s.sites r.site
    ]
