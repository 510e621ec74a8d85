-- Numbers from the roots of a kept forest are labels of all edges.
use Rattle.std.proofs.Common.{◌≡◌, ◌↔◌, ℕ, ◌+◌, ◌-◌, ◌*◌, ◌/◌, ◌<◌, ◌≤◌, Bool, false, List, length, get_or, sym, ap, subst, ◌∙◌, inl, inr, arith}
use Rattle.std.proofs.lemmas.Bool.{cases_lt, cases_Bool, false≢true}
use Rattle.std.proofs.lemmas.List.{get_or_past}
use Rattle.cfi_word.specs.declared.ids.TheConstants.{FIELD_MAX}
use Rattle.cfi_word.specs.Chain.{Chain}
use Rattle.cfi_class.specs.Labels.{IsReached, IsUsed, IsClass, IsClassWhere, AreNumbers}
use Rattle.cfi_class.specs.declared.nodes.TheConstants.{CLASSES}
use Rattle.cfi_class.specs.inner.Forest.{root_of}
use Rattle.cfi_class.specs.inner.Linked.{End, Linked, IsEnd}
use Rattle.cfi_class.specs.inner.Linked.End.{Slot, Address}
use Rattle.cfi_class.specs.inner.Nodes.{word_node, kept_node}
use Rattle.cfi_class.specs.inner.Renumbering.{number_at, IsLive}
use Rattle.cfi_class.proofs.ForestLemmas.{root_of-root_of}
use Rattle.cfi_class.proofs.JoinedLemmas.{chain_root, chain_from_roots}
use Rattle.cfi_class.proofs.LabelledLemmas.{IsAlone}
use Rattle.cfi_class.proofs.LinkedLemmas.{Linked-back, last_edge}
use Rattle.cfi_class.proofs.NodesLemmas.{slot_node-class}
use Rattle.cfi_class.proofs.RenumberingLemmas.{number_at-high}
use Rattle.cfi_class.proofs.RootLemmas.{AreRenewed, live_from, live_grown, slot_root_low, root_below, class_at, apart}

module _ (old joins : (slot address : ℕ) → Type 0) (tary bary parents : List ℕ) (used taken : List Bool)
    (numbers words : List ℕ) (are : AreRenewed old joins tary bary parents used taken numbers words) where
  slot_live : (slot : ℕ) → slot < length bary → IsUsed joins slot → IsLive bary used slot
  slot_live slot lower edge =
      elim (are.edge_marked slot edge) [
        | inl before ↦ elim (are.cases (Slot slot) lower) [
          | inl labelled ↦ inl labelled.class.most
          | inr alone ↦ absurd (alone.idle before)
        ]
        | inr marked ↦ inr marked
      ]

  -- a slot with an edge has the number of its root
  pub slot_number : (slot : ℕ) → slot < length bary → IsUsed joins slot
      → get_or numbers slot 0 ≡ number_at numbers (root_of parents (kept_node tary bary (Slot slot)))
  slot_number slot lower edge =
      let len = are.len in
      elim (cases_lt (root_of parents (kept_node tary bary (Slot slot))) (CLASSES + slot)) [
        | inl low ↦ are.each_slot.known slot (omega arith) (slot_live slot lower edge) low
        | inr high ↦
            let most = slot_root_low old joins tary bary parents used taken numbers words are slot lower in
            let place : root_of parents (kept_node tary bary (Slot slot)) - CLASSES ≡ slot = omega arith in
            sym (number_at-high numbers _ (omega arith) ∙ ap (λ n. get_or numbers n 0) place)
      ]

  -- and so has a code word
  pub word_number : (word : ℕ) → word < length tary
      → get_or words word 0 ≡ number_at numbers (root_of parents (kept_node tary bary (Address (4 * word))))
  word_number word there =
      let at : word ≡ 4 * word / 4 = omega arith in
      are.each_word.each word there
      ∙ ap (λ n. number_at numbers (root_of parents (word_node tary n word))) are.len
      ∙ ap (λ n. number_at numbers (root_of parents (word_node tary (length bary) n))) at

  word_end : (word : ℕ) → word < length tary → IsEnd (length bary) (length tary) (Address (4 * word))
  word_end word there = (omega arith, omega arith)

  reached_from_top : (top : End) (address : ℕ) → IsEnd (length bary) (length tary) top
      → kept_node tary bary top < CLASSES + length bary → Linked joins top (Address address)
      → IsReached joins address
  reached_from_top (Slot slot) address is low linked =
      elim (last_edge joins linked) [
        | inl is ↦ absurd cc
        | inr reached ↦ reached
      ]
  reached_from_top (Address other) address is low linked =
      elim (are.cases (Address other) is) [
        | inl labelled ↦
            live_from (Linked-back joins linked) (live_grown old joins are.grown (Address other) labelled.live)
        | inr alone ↦ let node = alone.node in absurd (omega arith)
      ]

  -- an address whose root is a class number or a slot is reached
  reached_from_root : (address : ℕ) → IsEnd (length bary) (length tary) (Address address)
      → root_of parents (kept_node tary bary (Address address)) < CLASSES + length bary → IsReached joins address
  reached_from_root address is low =
      let top = are.forest.topped (Address address) is in
      let len = are.forest.len in
      let top_root : root_of parents (kept_node tary bary top.0)
      ≡ root_of parents (kept_node tary bary (Address address)) = ap (root_of parents) top.2
      ∙ root_of-root_of parents (kept_node tary bary (Address address)) are.forest.forest
      (omega (arith, are.low (Address address) is)) in
      let node = top.2 in
      reached_from_top top.0 address top.1 (omega arith)
      (are.forest.linked top.0 (Address address) top.1 is top_root)

  target_label : (word : ℕ) → word < length tary → IsClassWhere (IsReached joins (4 * word)) 0 (get_or words word 0)
  target_label word there =
      let is = word_end word there in
      let number = word_number word there in
      elim (cases_lt (root_of parents (kept_node tary bary (Address (4 * word)))) (CLASSES + length bary)) [
        | inl low ↦
            let reached = reached_from_root (4 * word) is low in
            inl (
              reached,
              subst IsClass (sym number)
                  (class_at old joins tary bary parents used taken numbers words are (Address (4 * word)) is reached),
            )
        | inr high ↦
            let len = are.len in
            inr (
              λ reached.
                  let low = root_below old joins tary bary parents used taken numbers words are (Address (4 * word)) is
                  reached in
                  omega arith,
              number ∙ number_at-high numbers _ (omega arith)
                  ∙ get_or_past numbers (root_of parents (kept_node tary bary (Address (4 * word))) - CLASSES) 0
                  (omega arith),
            )
      ]

  without_number : (slot : ℕ) → IsAlone tary bary old (Slot slot) → FIELD_MAX ≤ get_or bary slot 0
  without_number slot alone =
      elim (cases_lt (get_or bary slot 0) FIELD_MAX) [
        | inl lower ↦
            let node = alone.node in
            let is = slot_node-class bary slot lower in
            absurd (omega arith)
        | inr higher ↦ higher
      ]

  used_label : (slot : ℕ) → slot < length bary → IsUsed joins slot → IsClass (get_or numbers slot 0)
  used_label slot lower edge =
      subst IsClass (sym (slot_number slot lower edge))
      (class_at old joins tary bary parents used taken numbers words are (Slot slot) lower edge)

  pub branch_label : (slot : ℕ) → slot < length bary
      → IsClassWhere (IsUsed joins slot) FIELD_MAX (get_or numbers slot 0)
  branch_label slot lower =
      elim (are.cases (Slot slot) lower) [
        | inl labelled ↦
            let edge = live_grown old joins are.grown (Slot slot) labelled.live in
            inl (edge, used_label slot lower edge)
        | inr alone ↦ elim (cases_Bool (get_or used slot false)) [
          | inl marked ↦ inl (are.marked slot marked, used_label slot lower (are.marked slot marked))
          | inr unmarked ↦
              let len = are.len in
              inr (
                λ edge. elim (are.edge_marked slot edge) [
                  | inl before ↦ alone.idle before
                  | inr marked ↦ false≢true (sym unmarked ∙ marked)
                ],
                are.each_slot.idle slot (omega arith) (without_number slot alone, unmarked),
              )
        ]
      ]

  class_label : (slot word : ℕ) → slot < length bary → word < length tary → IsUsed joins slot
      → IsReached joins (4 * word) → (get_or numbers slot 0 ≡ get_or words word 0) ↔ Chain joins slot (4 * word)
  class_label slot word lower there edge reached =
      let is = word_end word there in
      let left = slot_number slot lower edge in
      let right = word_number word there in (
        λ equal. chain_from_roots joins (length bary) (length tary) parents are.forest slot (4 * word) lower is
            (apart old joins tary bary parents used taken numbers words are (Slot slot) (Address (4 * word)) lower is
            edge reached (sym left ∙ equal ∙ right)),
        λ chain. left ∙ ap (number_at numbers)
            (chain_root joins (length bary) (length tary) parents are.forest chain.more slot (4 * word) chain.chain)
            ∙ sym right,
      )

  pub are_labels : AreNumbers joins (length bary) (length tary) words numbers
  are_labels = record {
    words = are.each_word.len;
    slots = are.len;
    targets = target_label;
    branches = branch_label;
    classes = class_label;
  }
