-- Ends that edges use have class numbers as their nodes, one number where they are linked; each other end is alone.
use Rattle.std.proofs.Common.{◌≡◌, ◌⊎◌, ℕ, ◌+◌, ◌*◌, ◌/◌, ◌%◌, ◌<◌, List, length, get_or, sym, subst, ◌∙◌, inl, inr, arith}
use Rattle.cfi_word.specs.declared.lists.Edge.{Edge}
use Rattle.cfi_word.specs.Chain.{Chain}
use Rattle.cfi_class.specs.Labels.{HasEdge, IsReached, IsUsed, IsClass}
use Rattle.cfi_class.specs.declared.nodes.TheConstants.{CLASSES}
use Rattle.cfi_class.specs.inner.Linked.{End, Linked, IsEnd, end_node}
use Rattle.cfi_class.specs.inner.Linked.End.{Slot, Address}
use Rattle.cfi_class.specs.inner.Linked.Linked.{to_slot, same}
use Rattle.cfi_class.specs.inner.Nodes.{kept_node, node_count, HaveNumbers}
use Rattle.cfi_class.proofs.JoinedLemmas.{edge_within}
use Rattle.cfi_class.proofs.LinkedLemmas.{Linked-append, Linked-from_chain}
use Rattle.cfi_class.proofs.NodesLemmas.{slot_node-class, slot_node-none, word_node-class, word_node-none}
use Rattle.cfi_class.proofs.SweepLemmas.{node_of-one, node_of-within}

-- an edge begins or ends here
abbrev pub IsLiveEnd : (joins : (slot address : ℕ) → Type 0) → End → Type 0
IsLiveEnd joins (Slot slot) = IsUsed joins slot
IsLiveEnd joins (Address address) = IsReached joins address

-- the number of an end
abbrev pub end_label : (tary bary : List ℕ) → End → ℕ
end_label tary bary (Slot slot) = get_or bary slot 0
end_label tary bary (Address address) = get_or tary (address / 4) 0

-- an end with a class number
pub record IsLabelled (tary bary : List ℕ) (joins : (slot address : ℕ) → Type 0) (one : End) : Type 0 where
  pub live : IsLiveEnd joins one
  pub class : IsClass (end_label tary bary one)
  pub node : kept_node tary bary one ≡ end_label tary bary one

-- an end without one
pub record IsAlone (tary bary : List ℕ) (joins : (slot address : ℕ) → Type 0) (one : End) : Type 0 where
  pub idle : IsLiveEnd joins one → ⊥
  pub node : kept_node tary bary one ≡ CLASSES + end_node (length bary) one

-- the address of a code word
pub word_address : (address words : ℕ) → (address % 4 ≡ 0) × (address < 4 * words)
    → (4 * (address / 4) ≡ address) × (address / 4 < words)
word_address address words is =
    let whole : address % 4 ≡ 0 = is.0 in
    let low : address < 4 * words = is.1 in
    (omega arith, omega arith)

module _ (tary bary : List ℕ) (edges : List Edge) (old : HaveNumbers tary bary edges) where
  pub node_cases : (one : End) → IsEnd (length bary) (length tary) one
      → IsLabelled tary bary (HasEdge edges) one ⊎ IsAlone tary bary (HasEdge edges) one
  node_cases (Slot slot) is =
      elim (old.numbers.branches slot is) [
        | inl class ↦ inl (record {
          live = class.0;
          class = class.1;
          node = slot_node-class bary slot class.1.most;
        })
        | inr none ↦
            let is_none = none.1 in
            inr (record { idle = none.0; node = slot_node-none bary slot (omega arith) })
      ]
  node_cases (Address address) is =
      let at = word_address address (length tary) is in
      elim (old.numbers.targets (address / 4) at.1) [
        | inl class ↦ inl (record {
          live = subst (IsReached (HasEdge edges)) at.0 class.0;
          class = class.1;
          node = word_node-class tary (length bary) (address / 4) class.1.least;
        })
        | inr none ↦
            let node = word_node-none tary (length bary) (address / 4) none.1 in
            inr (record {
              idle = λ reached. none.0 (subst (IsReached (HasEdge edges)) (sym at.0) reached);
              node = omega arith;
            })
      ]

  -- both ends of an edge have one number
  pub edge_label : (slot address : ℕ) → HasEdge edges slot address
      → get_or bary slot 0 ≡ get_or tary (address / 4) 0
  edge_label slot address edge =
      let is = edge_within edges (length bary) (length tary) old.within slot address edge in
      let at = word_address address (length tary) (is.whole, is.target) in
      let moved : HasEdge edges slot (4 * (address / 4)) = subst (HasEdge edges slot) (sym at.0) edge in
      (old.numbers.classes slot (address / 4) is.branch at.1 (address, edge) (slot, moved)).1
      (record { more = 0; chain = moved })

  edge_ends : (slot address : ℕ) → HasEdge edges slot address
      → IsEnd (length bary) (length tary) (Slot slot) × IsEnd (length bary) (length tary) (Address address)
  edge_ends slot address edge =
      let is = edge_within edges (length bary) (length tary) old.within slot address edge in
      (is.branch, (is.whole, is.target))

  slot_to_address : (slot address : ℕ) → slot < length bary → IsEnd (length bary) (length tary) (Address address)
      → IsUsed (HasEdge edges) slot → IsReached (HasEdge edges) address
      → get_or bary slot 0 ≡ get_or tary (address / 4) 0 → Linked (HasEdge edges) (Slot slot) (Address address)
  slot_to_address slot address lower is used reached equal =
      let at = word_address address (length tary) is in
      let chain : Chain (HasEdge edges) slot (4 * (address / 4)) =
      (old.numbers.classes slot (address / 4) lower at.1 used
      (subst (IsReached (HasEdge edges)) (sym at.0) reached)).0 equal in
      subst (λ n. Linked (HasEdge edges) (Slot slot) (Address n)) at.0
      (Linked-from_chain (HasEdge edges) chain.more chain.chain)

  slot_linked : (slot : ℕ) (other : End) → slot < length bary → IsEnd (length bary) (length tary) other
      → IsUsed (HasEdge edges) slot → IsLiveEnd (HasEdge edges) other
      → get_or bary slot 0 ≡ end_label tary bary other → Linked (HasEdge edges) (Slot slot) other
  slot_linked slot (Address address) lower is used live equal =
      slot_to_address slot address lower is used live equal
  slot_linked slot (Slot other) lower is used (address, edge) equal =
      Linked-append (HasEdge edges)
      (slot_to_address slot address lower (edge_ends other address edge).1 used (other, edge)
      (equal ∙ edge_label other address edge))
      (to_slot edge same)

  -- ends of one number are linked
  label_linked : (one other : End) → IsEnd (length bary) (length tary) one → IsEnd (length bary) (length tary) other
      → IsLiveEnd (HasEdge edges) one → IsLiveEnd (HasEdge edges) other
      → end_label tary bary one ≡ end_label tary bary other → Linked (HasEdge edges) one other
  label_linked (Slot slot) other is_one is_other used live equal =
      slot_linked slot other is_one is_other used live equal
  label_linked (Address address) other is_one is_other (slot, edge) live equal =
      to_slot edge
      (slot_linked slot other (edge_ends slot address edge).0 is_other (address, edge) live
      (edge_label slot address edge ∙ equal))

  -- ends of one node are linked
  pub node_linked : (one other : End) → IsEnd (length bary) (length tary) one
      → IsEnd (length bary) (length tary) other → kept_node tary bary one ≡ kept_node tary bary other
      → Linked (HasEdge edges) one other
  node_linked one other is_one is_other equal =
      elim (node_cases one is_one) [
        | inl first ↦ elim (node_cases other is_other) [
          | inl second ↦ label_linked one other is_one is_other first.live second.live
              (sym first.node ∙ equal ∙ second.node)
          | inr second ↦
              let most = first.class.most in
              let first_node = first.node in
              let second_node = second.node in
              absurd (omega arith)
        ]
        | inr first ↦ elim (node_cases other is_other) [
          | inl second ↦
              let most = second.class.most in
              let first_node = first.node in
              let second_node = second.node in
              absurd (omega arith)
          | inr second ↦
              let first_node = first.node in
              let second_node = second.node in
              subst (Linked (HasEdge edges) one)
              (node_of-one (length bary) (length tary) one other is_one is_other (omega arith)) same
        ]
      ]

  pub node-within : (one : End) → IsEnd (length bary) (length tary) one
      → kept_node tary bary one < node_count tary bary
  node-within one is =
      elim (node_cases one is) [
        | inl labelled ↦
            let most = labelled.class.most in
            let node = labelled.node in
            omega arith
        | inr alone ↦
            let within = node_of-within (length bary) (length tary) one is in
            let node = alone.node in
            omega arith
      ]
