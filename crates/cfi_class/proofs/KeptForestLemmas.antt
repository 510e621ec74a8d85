-- The forest of classes that are there, and of one further edge after the other.
use Rattle.std.proofs.Common.{◌≡◌, ◌⊎◌, ℕ, ◌+◌, ◌/◌, ◌<◌, List, ◌++◌, length, All, sym, ap, ◌∙◌, inl, inr, arith}
use Rattle.std.proofs.lemmas.List.Elements.{Contains-append_left, Contains-append_right, Contains-append_cases}
use Rattle.cfi_word.specs.declared.lists.Edge.{Edge}
use Rattle.cfi_class.specs.Labels.{HasEdge, IsEdgeWithin}
use Rattle.cfi_class.specs.inner.Forest.{IsForest, root_of, joined_root}
use Rattle.cfi_class.specs.inner.Linked.{IsForestBy}
use Rattle.cfi_class.specs.inner.Linked.End.{Slot, Address}
use Rattle.cfi_class.specs.inner.Nodes.{slot_node, word_node, kept_node, node_count, HaveNumbers}
use Rattle.cfi_class.proofs.EdgeLemmas.{HasFirst, edge_at, HasFirst-before, HasFirst-here, HasFirst-cases, HasFirst-within, edge_at-within}
use Rattle.cfi_class.proofs.JoinedLemmas.{edge_within}
use Rattle.cfi_class.proofs.LabelledLemmas.{node_cases, edge_label, node_linked, node-within}
use Rattle.cfi_class.proofs.LinkedLemmas.{Linked-map}
use Rattle.cfi_class.proofs.SweepLemmas.{AddsEdge, step_forest}

-- an edge of the list, or one of so many further ones
abbrev pub HasFirstOf : (edges fresh : List Edge) → (count slot address : ℕ) → Type 0
HasFirstOf edges fresh count slot address = HasEdge edges slot address ⊎ HasFirst fresh count slot address

-- the forest of these
abbrev pub IsForestAt : (tary bary : List ℕ) → (edges fresh : List Edge) → (count : ℕ) → (parents : List ℕ) → Type 0
IsForestAt tary bary edges fresh count parents =
    IsForestBy (kept_node tary bary) (node_count tary bary) (HasFirstOf edges fresh count) (length bary) (length tary)
    parents

module _ (tary bary : List ℕ) (edges fresh : List Edge) (old : HaveNumbers tary bary edges) where
  label_node : (slot address : ℕ) → HasEdge edges slot address
      → kept_node tary bary (Slot slot) ≡ kept_node tary bary (Address address)
  label_node slot address edge =
      let is = edge_within edges (length bary) (length tary) old.within slot address edge in
      elim (node_cases tary bary edges old (Slot slot) is.branch) [
        | inl left ↦ elim (node_cases tary bary edges old (Address address) (is.whole, is.target)) [
          | inl right ↦ left.node ∙ edge_label tary bary edges old slot address edge ∙ sym right.node
          | inr alone ↦ absurd (alone.idle (slot, edge))
        ]
        | inr alone ↦ absurd (alone.idle (address, edge))
      ]

  pub no_fresh : (parents : List ℕ) → IsForest parents → length parents ≡ node_count tary bary
      → ((node : ℕ) → node < node_count tary bary → root_of parents node ≡ node)
      → IsForestAt tary bary edges fresh 0 parents
  no_fresh parents forest len roots = record {
    forest = forest;
    len = len;
    joined = λ slot address edge. elim edge [
      | inl before ↦ ap (root_of parents) (label_node slot address before)
      | inr first ↦ absurd (omega (arith, first.1))
    ];
    linked = λ one other is_one is_other equal.
        Linked-map (HasEdge edges) (HasFirstOf edges fresh 0) (λ slot address edge. inl edge)
        (node_linked tary bary edges old one other is_one is_other
        (sym (roots _ (node-within tary bary edges old one is_one)) ∙ equal
        ∙ roots _ (node-within tary bary edges old other is_other)));
    topped = λ one is. (one, is, sym (roots _ (node-within tary bary edges old one is)));
  }

  module _ (within : All (IsEdgeWithin (length bary) (length tary)) fresh) (count : ℕ) (there : count < length fresh)
    where
      adds_fresh : AddsEdge (HasFirstOf edges fresh count) (HasFirstOf edges fresh (count + 1)) (length bary)
          (length tary) (edge_at fresh count).branch (edge_at fresh count).target
      adds_fresh =
          let here = edge_at-within fresh (length bary) (length tary) within count there in
          record {
            is_slot = here.branch;
            is_address = (here.whole, here.target);
            kept = λ slot address edge. elim edge [
              | inl before ↦ inl before
              | inr first ↦ inr (HasFirst-before fresh count there slot address first)
            ];
            here = inr (HasFirst-here fresh count there);
            cases = λ slot address edge. elim edge [
              | inl before ↦ inl (inl before)
              | inr first ↦ elim (HasFirst-cases fresh count there slot address first) [
                | inl before ↦ inl (inr before)
                | inr is ↦ inr (sym (ap (λ edge. edge.branch) is), sym (ap (λ edge. edge.target) is))
              ]
            ];
            within = λ slot address edge. elim edge [
              | inl before ↦
                  let is = edge_within edges (length bary) (length tary) old.within slot address before in
                  (is.branch, (is.whole, is.target))
              | inr first ↦
                  let is = HasFirst-within fresh (length bary) (length tary) within (count + 1) slot address
                  (omega arith) first in
                  (is.branch, (is.whole, is.target))
            ];
          }

      -- the forest after one further edge
      pub one_more_fresh : (before after : List ℕ) → IsForestAt tary bary edges fresh count before → IsForest after
          → length after ≡ length before
          → ((node : ℕ) → node < length before → root_of after node
          ≡ joined_root (root_of before (slot_node bary (edge_at fresh count).branch))
          (root_of before (word_node tary (length bary) ((edge_at fresh count).target / 4))) (root_of before node))
          → IsForestAt tary bary edges fresh (count + 1) after
      one_more_fresh before after forest is_forest len roots =
          step_forest (kept_node tary bary) (node_count tary bary) (HasFirstOf edges fresh count)
          (HasFirstOf edges fresh (count + 1)) (length bary) (length tary) _ _ (node-within tary bary edges old)
          adds_fresh before after forest is_forest len roots

  -- the forest after all of them
  pub all_fresh : (parents : List ℕ) → IsForestAt tary bary edges fresh (length fresh) parents
      → IsForestBy (kept_node tary bary) (node_count tary bary) (HasEdge (edges ++ fresh)) (length bary) (length tary)
      parents
  all_fresh parents forest = record {
    forest = forest.forest;
    len = forest.len;
    joined = λ slot address edge.
        forest.joined slot address (Contains-append_cases edges fresh _ edge);
    linked = λ one other is_one is_other equal.
        Linked-map (HasFirstOf edges fresh (length fresh)) (HasEdge (edges ++ fresh))
        (λ slot address edge. elim edge [
          | inl before ↦ Contains-append_left edges fresh _ before
          | inr first ↦ Contains-append_right edges fresh _ first
        ])
        (forest.linked one other is_one is_other equal);
    topped = forest.topped;
  }
