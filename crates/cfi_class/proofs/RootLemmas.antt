-- What the roots of a kept forest stand for: an old class's least number, or the least slot of a new class.
use Rattle.std.proofs.Common.{◌≡◌, ◌⊎◌, ◌↔◌, ℕ, ◌+◌, ◌-◌, ◌/◌, ◌<◌, ◌≤◌, Bool, List, length, get_or, sym, ap, subst, ◌∙◌, inl, inr, arith}
use Rattle.std.specs.List.{Contains}
use Rattle.std.proofs.lemmas.Bool.{cases_lt}
use Rattle.std.proofs.lemmas.List.Elements.{Contains-get_or}
use Rattle.cfi_word.specs.declared.ids.TheConstants.{FIELD_MAX}
use Rattle.cfi_class.specs.Labels.{IsUsed, IsClass}
use Rattle.cfi_class.specs.declared.nodes.TheConstants.{CLASSES}
use Rattle.cfi_class.specs.inner.Forest.{root_of}
use Rattle.cfi_class.specs.inner.Linked.{End, Linked, IsEnd, IsForestBy}
use Rattle.cfi_class.specs.inner.Linked.End.{Slot, Address}
use Rattle.cfi_class.specs.inner.Linked.Linked.{same, to_address, to_slot}
use Rattle.cfi_class.specs.inner.Nodes.{kept_node, node_count}
use Rattle.cfi_class.specs.inner.Numbering.{IsMarked}
use Rattle.cfi_class.specs.inner.Renumbering.{number_at, IsLive, OpensClass, IsFresh, AreRenumbered, AreWordsRenumbered}
use Rattle.cfi_class.proofs.ForestLemmas.{root_of-low, root_of-root_of}
use Rattle.cfi_class.proofs.LabelledLemmas.{IsLiveEnd, end_label, IsLabelled, IsAlone}
use Rattle.cfi_class.proofs.NodesLemmas.{slot_node-low}
use Rattle.cfi_class.proofs.RenumberingLemmas.{number_at-low, number_at-high}

-- numbers from the roots of a forest of all edges, where old ones gave the nodes
pub record AreRenewed (old joins : (slot address : ℕ) → Type 0) (tary bary parents : List ℕ) (used taken : List Bool)
    (numbers words : List ℕ) : Type 0 where
  pub forest : IsForestBy (kept_node tary bary) (node_count tary bary) joins (length bary) (length tary) parents
  pub cases : (one : End) → IsEnd (length bary) (length tary) one
      → IsLabelled tary bary old one ⊎ IsAlone tary bary old one
  pub low : (one : End) → IsEnd (length bary) (length tary) one → kept_node tary bary one < node_count tary bary
  pub label : (slot address : ℕ) → old slot address → get_or bary slot 0 ≡ get_or tary (address / 4) 0
  pub grown : (slot address : ℕ) → old slot address → joins slot address
  pub within : (slot address : ℕ) → joins slot address
      → IsEnd (length bary) (length tary) (Slot slot) × IsEnd (length bary) (length tary) (Address address)
  pub marked : (slot : ℕ) → IsMarked used slot → IsUsed joins slot
  pub edge_marked : (slot : ℕ) → IsUsed joins slot → IsUsed old slot ⊎ IsMarked used slot
  pub held : (number : ℕ) → IsMarked taken number ↔ Contains bary number
  pub few : length bary + length bary < FIELD_MAX
  pub len : length numbers ≡ length bary
  pub each_slot : AreRenumbered parents bary used taken numbers
  pub each_word : AreWordsRenumbered parents tary numbers words

-- an end that leads to one where an edge is has an edge too
pub live_from : {joins : (slot address : ℕ) → Type 0} {one other : End} → Linked joins one other
    → IsLiveEnd joins other → IsLiveEnd joins one
live_from same live = live
live_from (to_address edge way) live = (_, edge)
live_from (to_slot edge way) live = (_, edge)

pub live_grown : (old joins : (slot address : ℕ) → Type 0)
    → ((slot address : ℕ) → old slot address → joins slot address) → (one : End) → IsLiveEnd old one
    → IsLiveEnd joins one
live_grown old joins grown (Slot slot) (address, edge) = (address, grown slot address edge)
live_grown old joins grown (Address address) (slot, edge) = (slot, grown slot address edge)

module _ (old joins : (slot address : ℕ) → Type 0) (tary bary parents : List ℕ) (used taken : List Bool)
    (numbers words : List ℕ) (are : AreRenewed old joins tary bary parents used taken numbers words) where
  -- the root of an end
  abbrev pub root : (one : End) → ℕ
  root one = root_of parents (kept_node tary bary one)

  pub root_low : (one : End) → IsEnd (length bary) (length tary) one → root one ≤ kept_node tary bary one
  root_low one is =
      let len = are.forest.len in
      root_of-low parents (kept_node tary bary one) are.forest.forest (omega (arith, are.low one is))

  pub slot_root_low : (slot : ℕ) → slot < length bary → root (Slot slot) ≤ CLASSES + slot
  slot_root_low slot lower =
      let low = root_low (Slot slot) lower in
      let node = slot_node-low bary slot in
      omega arith

  -- an end with an edge has a class number or a slot as its root
  pub root_below : (one : End) → IsEnd (length bary) (length tary) one → IsLiveEnd joins one
      → root one < CLASSES + length bary
  root_below (Slot slot) is live = let low = slot_root_low slot is in omega arith
  root_below (Address address) is (slot, edge) =
      let lower = (are.within slot address edge).0 in
      let low = slot_root_low slot lower in
      let joined = are.forest.joined slot address edge in
      omega arith

  -- the root is the number of an end that is linked
  pub record IsOldRoot (one : End) (at : ℕ) : Type 0 where
    pub top : End
    pub is_top : IsEnd (length bary) (length tary) top
    pub labelled : IsLabelled tary bary old top
    pub number : end_label tary bary top ≡ at
    pub linked : Linked joins top one

  -- the root is the node of a slot without a number that is linked
  pub record IsNewRoot (one : End) (at : ℕ) : Type 0 where
    pub slot : ℕ
    pub lower : slot < length bary
    pub is : at ≡ CLASSES + slot
    pub opens : OpensClass parents bary used slot
    pub linked : Linked joins (Slot slot) one

  new_root : (one top : End) → IsEnd (length bary) (length tary) top → IsAlone tary bary old top
      → kept_node tary bary top ≡ root one → root top ≡ root one → root one < CLASSES + length bary
      → Linked joins top one → IsLiveEnd joins top → IsNewRoot one (root one)
  new_root one (Address address) is_top alone node top_root low linked live =
      let is = alone.node in absurd (omega arith)
  new_root one (Slot slot) is_top alone node top_root low linked live =
      let is = alone.node in
      let marked : IsLive bary used slot = elim (are.edge_marked slot live) [
        | inl before ↦ absurd (alone.idle before)
        | inr mark ↦ inr mark
      ] in
      record {
        slot = slot;
        lower = is_top;
        is = sym node ∙ is;
        opens = (marked, omega arith);
        linked = linked;
      }

  pub root_view : (one : End) → IsEnd (length bary) (length tary) one → IsLiveEnd joins one
      → IsOldRoot one (root one) ⊎ IsNewRoot one (root one)
  root_view one is live =
      let top = are.forest.topped one is in
      let len = are.forest.len in
      let top_root : root top.0 ≡ root one = ap (root_of parents) top.2
      ∙ root_of-root_of parents (kept_node tary bary one) are.forest.forest (omega (arith, are.low one is)) in
      let linked : Linked joins top.0 one = are.forest.linked top.0 one top.1 is top_root in
      elim (are.cases top.0 top.1) [
        | inl labelled ↦ inl (record {
          top = top.0;
          is_top = top.1;
          labelled = labelled;
          number = sym labelled.node ∙ top.2;
          linked = linked;
        })
        | inr alone ↦ inr (new_root one top.0 top.1 alone top.2 top_root (root_below one is live) linked
            (live_from linked live))
      ]

  -- ---- the numbers of roots

  pub old_class : (one : End) (at : ℕ) → IsOldRoot one at → IsClass at
  old_class one at view = subst IsClass view.number view.labelled.class

  pub old_number : (one : End) (at : ℕ) → IsOldRoot one at → number_at numbers at ≡ at
  old_number one at view =
      let class = old_class one at view in
      let most = class.most in
      number_at-low numbers at (omega arith)

  pub new_number : (one : End) (at : ℕ) → (view : IsNewRoot one at) → number_at numbers at ≡ get_or numbers view.slot 0
  new_number one at view =
      let is = view.is in
      let place : at - CLASSES ≡ view.slot = omega arith in
      number_at-high numbers at (omega arith) ∙ ap (λ n. get_or numbers n 0) place

  pub new_fresh : (one : End) (at : ℕ) → (view : IsNewRoot one at)
      → IsFresh parents bary used taken numbers view.slot (get_or numbers view.slot 0)
  new_fresh one at view =
      let len = are.len in
      let lower = view.lower in
      are.each_slot.fresh view.slot (omega arith) view.opens

  pub class_at : (one : End) → IsEnd (length bary) (length tary) one → IsLiveEnd joins one
      → IsClass (number_at numbers (root one))
  class_at one is live =
      elim (root_view one is live) [
        | inl view ↦ subst IsClass (sym (old_number one (root one) view)) (old_class one (root one) view)
        | inr view ↦
            let fresh = new_fresh one (root one) view in
            let most = fresh.most in
            let lower = view.lower in
            let few = are.few in
            subst IsClass (sym (new_number one (root one) view)) (record { least = fresh.least; most = omega arith })
      ]

  -- an old number is taken
  pub label_taken : (top : End) → IsEnd (length bary) (length tary) top → IsLabelled tary bary old top
      → IsMarked taken (end_label tary bary top)
  label_taken (Slot slot) is labelled = (are.held (get_or bary slot 0)).1 (Contains-get_or bary slot 0 is)
  label_taken (Address address) is labelled =
      let edge = labelled.live in
      let lower = (are.within edge.0 address (are.grown edge.0 address edge.1)).0 in
      subst (IsMarked taken) (are.label edge.0 address edge.1)
      ((are.held (get_or bary edge.0 0)).1 (Contains-get_or bary edge.0 0 lower))

  old_is_not_new : (one other : End) (at here : ℕ) → IsOldRoot one at → IsNewRoot other here
      → number_at numbers at ≡ number_at numbers here → ⊥
  old_is_not_new one other at here view fresh equal =
      (new_fresh other here fresh).free
      (subst (IsMarked taken)
      (view.number ∙ sym (old_number one at view) ∙ equal ∙ new_number other here fresh)
      (label_taken view.top view.is_top view.labelled))

  new_apart : (one other : End) (at here : ℕ) → (view : IsNewRoot one at) → (fresh : IsNewRoot other here)
      → number_at numbers at ≡ number_at numbers here → view.slot < fresh.slot → ⊥
  new_apart one other at here view fresh equal lower =
      let len = are.len in
      let within = fresh.lower in
      let rises = are.each_slot.rises view.slot fresh.slot lower (omega arith) view.opens fresh.opens in
      let left = new_number one at view in
      let right = new_number other here fresh in
      omega arith

  new_alike : (one other : End) (at here : ℕ) → IsNewRoot one at → IsNewRoot other here
      → number_at numbers at ≡ number_at numbers here → at ≡ here
  new_alike one other at here view fresh equal =
      let is = view.is in
      let is_other = fresh.is in
      elim (cases_lt view.slot fresh.slot) [
        | inl lower ↦ absurd (new_apart one other at here view fresh equal lower)
        | inr high ↦ elim (cases_lt fresh.slot view.slot) [
          | inl higher ↦ absurd (new_apart other one here at fresh view (sym equal) higher)
          | inr low ↦ omega arith
        ]
      ]

  -- classes of one number have one root
  pub apart : (one other : End) → IsEnd (length bary) (length tary) one → IsEnd (length bary) (length tary) other
      → IsLiveEnd joins one → IsLiveEnd joins other
      → number_at numbers (root one) ≡ number_at numbers (root other) → root one ≡ root other
  apart one other is_one is_other live_one live_other equal =
      elim (root_view one is_one live_one) [
        | inl view ↦ elim (root_view other is_other live_other) [
          | inl other_view ↦ sym (old_number one (root one) view) ∙ equal
              ∙ old_number other (root other) other_view
          | inr fresh ↦ absurd (old_is_not_new one other (root one) (root other) view fresh equal)
        ]
        | inr fresh ↦ elim (root_view other is_other live_other) [
          | inl other_view ↦
              absurd (old_is_not_new other one (root other) (root one) other_view fresh (sym equal))
          | inr other_fresh ↦ new_alike one other (root one) (root other) fresh other_fresh equal
        ]
      ]
