-- A forest keeps the trees of what is linked, one more edge at a time; and so do the marks of slots that have edges.
use Rattle.std.proofs.Common.{◌≡◌, ◌⊎◌, ℕ, ◌+◌, ◌*◌, ◌/◌, ◌%◌, ◌<◌, Bool, true, false, List, length, get_or, set, All, sym, ap, subst, ◌∙◌, inl, inr, arith}
use Rattle.std.proofs.lemmas.Bool.{cases_eq}
use Rattle.std.proofs.lemmas.List.{length-set, get_or-set_same, get_or-set_other}
use Rattle.cfi_word.specs.declared.lists.Edge.{Edge}
use Rattle.cfi_class.specs.Labels.{IsEdgeWithin, IsUsed}
use Rattle.cfi_class.specs.inner.Forest.{IsForest, root_of, joined_root}
use Rattle.cfi_class.specs.inner.Linked.{End, Linked, IsEnd, end_node, IsNodeOfEnd, IsForestBy, IsForestOf}
use Rattle.cfi_class.specs.inner.Linked.End.{Slot, Address}
use Rattle.cfi_class.specs.inner.Linked.Linked.{same, to_address, to_slot}
use Rattle.cfi_class.specs.inner.Numbering.{IsMarked, MarksUsed}
use Rattle.cfi_class.proofs.JoinLemmas.{joined_root-one, joined_root-two, joined_root-cases, joined_root-kept}
use Rattle.cfi_class.proofs.LinkedLemmas.{Linked-append, Linked-map}
use Rattle.cfi_class.proofs.EdgeLemmas.{HasFirst, edge_at, HasFirst-before, HasFirst-here, HasFirst-cases, HasFirst-within, edge_at-within}

-- ---- at first

-- ends of one node are one end
pub node_of-one : (slots code_words : ℕ) (one other : End) → IsEnd slots code_words one → IsEnd slots code_words other
    → end_node slots one ≡ end_node slots other → one ≡ other
node_of-one slots code_words (Slot one) (Slot other) is_one is_other is = ap Slot is
node_of-one slots code_words (Slot one) (Address other) is_one is_other is = absurd (omega arith)
node_of-one slots code_words (Address one) (Slot other) is_one is_other is = absurd (omega arith)
node_of-one slots code_words (Address one) (Address other) is_one is_other is =
    let aligned : one % 4 ≡ 0 = is_one.0 in
    let aligned' : other % 4 ≡ 0 = is_other.0 in
    let equal : one ≡ other = omega arith in ap Address equal

pub node_of-within : (slots code_words : ℕ) (one : End) → IsEnd slots code_words one
    → end_node slots one < slots + code_words
node_of-within slots code_words (Slot slot) is = omega arith
node_of-within slots code_words (Address address) is =
    let within : address < 4 * code_words = is.1 in omega arith

pub no_edges : (edges : List Edge) (slots code_words : ℕ) (parents : List ℕ) → IsForest parents
    → length parents ≡ slots + code_words
    → ((node : ℕ) → node < slots + code_words → root_of parents node ≡ node)
    → IsForestOf (HasFirst edges 0) slots code_words parents
no_edges edges slots code_words parents forest len roots = record {
  forest = forest;
  len = len;
  joined = λ slot address (place, lower, is). absurd (omega arith);
  linked = λ one other is_one is_other equal.
      let is : one ≡ other = node_of-one slots code_words one other is_one is_other
      (sym (roots _ (node_of-within slots code_words one is_one)) ∙ equal
      ∙ roots _ (node_of-within slots code_words other is_other)) in
      subst (Linked (HasFirst edges 0) one) is same;
  topped = λ one is. (one, is, sym (roots _ (node_of-within slots code_words one is)));
}

-- ---- one more edge

-- the step over relations: what holds of the edges so far, and of one more
pub record AddsEdge (old new : (slot address : ℕ) → Type 0) (slots code_words slot address : ℕ) : Type 0 where
  pub is_slot : IsEnd slots code_words (Slot slot)
  pub is_address : IsEnd slots code_words (Address address)
  pub kept : (other_slot other_address : ℕ) → old other_slot other_address → new other_slot other_address
  pub here : new slot address
  pub cases : (other_slot other_address : ℕ) → new other_slot other_address
      → old other_slot other_address ⊎ ((other_slot ≡ slot) × (other_address ≡ address))
  pub within : (other_slot other_address : ℕ) → new other_slot other_address
      → IsEnd slots code_words (Slot other_slot) × IsEnd slots code_words (Address other_address)

module _ (node : End → ℕ) (nodes : ℕ) (old new : (slot address : ℕ) → Type 0) (slots code_words slot address : ℕ)
    (node-within : (one : End) → IsEnd slots code_words one → node one < nodes)
    (adds : AddsEdge old new slots code_words slot address) (before after : List ℕ)
    (forest : IsForestBy node nodes old slots code_words before) (is_forest : IsForest after)
    (len : length after ≡ length before)
    (roots : (other : ℕ) → other < length before → root_of after other
    ≡ joined_root (root_of before (node (Slot slot))) (root_of before (node (Address address))) (root_of before other))
  where
    end_root : (one : End) → IsEnd slots code_words one → root_of after (node one)
        ≡ joined_root (root_of before (node (Slot slot))) (root_of before (node (Address address)))
        (root_of before (node one))
    end_root one is =
        let within = node-within one is in
        let before_len = forest.len in
        roots (node one) (omega arith)

    step_joined : (other_slot other_address : ℕ) → new other_slot other_address
        → root_of after (node (Slot other_slot)) ≡ root_of after (node (Address other_address))
    step_joined other_slot other_address edge =
        let ends = adds.within other_slot other_address edge in
        let left = end_root (Slot other_slot) ends.0 in
        let right = end_root (Address other_address) ends.1 in
        let from = root_of before (node (Slot slot)) in
        let to = root_of before (node (Address address)) in
        elim (adds.cases other_slot other_address edge) [
          | inl earlier ↦ left ∙ ap (joined_root from to) (forest.joined other_slot other_address earlier) ∙ sym right
          | inr here ↦ left
              ∙ ap (λ n. joined_root from to (root_of before (node (Slot n)))) here.0
              ∙ joined_root-one from to ∙ sym (joined_root-two from to)
              ∙ ap (λ n. joined_root from to (root_of before (node (Address n)))) (sym here.1)
              ∙ sym right
        ]

    step_linked : (one other : End) → IsEnd slots code_words one → IsEnd slots code_words other
        → root_of after (node one) ≡ root_of after (node other) → Linked new one other
    step_linked one other is_one is_other equal =
        elim (joined_root-cases (root_of before (node (Slot slot))) (root_of before (node (Address address)))
        (root_of before (node one)) (root_of before (node other))
        (sym (end_root one is_one) ∙ equal ∙ end_root other is_other)) [
          | inl together ↦ Linked-map old new adds.kept (forest.linked one other is_one is_other together)
          | inr apart ↦ elim apart [
            | inl along ↦ Linked-append new
                (Linked-map old new adds.kept (forest.linked one (Slot slot) is_one adds.is_slot along.0))
                (to_address adds.here
                (Linked-map old new adds.kept
                (forest.linked (Address address) other adds.is_address is_other (sym along.1))))
            | inr back ↦ Linked-append new
                (Linked-map old new adds.kept (forest.linked one (Address address) is_one adds.is_address back.0))
                (to_slot adds.here
                (Linked-map old new adds.kept (forest.linked (Slot slot) other adds.is_slot is_other (sym back.1))))
          ]
        ]

    step_topped : (one : End) → IsEnd slots code_words one
        → IsNodeOfEnd slots code_words node (root_of after (node one))
    step_topped one is =
        subst (IsNodeOfEnd slots code_words node) (sym (end_root one is))
        (joined_root-kept (IsNodeOfEnd slots code_words node) _ _ _ (forest.topped (Slot slot) adds.is_slot)
        (forest.topped (Address address) adds.is_address) (forest.topped one is))

    pub step_forest : IsForestBy node nodes new slots code_words after
    step_forest = record {
      forest = is_forest;
      len = len ∙ forest.len;
      joined = step_joined;
      linked = step_linked;
      topped = step_topped;
    }

module _ (edges : List Edge) (slots code_words : ℕ) (within : All (IsEdgeWithin slots code_words) edges) (count : ℕ)
    (there : count < length edges) where
  adds_edge : AddsEdge (HasFirst edges count) (HasFirst edges (count + 1)) slots code_words
      (edge_at edges count).branch (edge_at edges count).target
  adds_edge =
      let here = edge_at-within edges slots code_words within count there in
      record {
        is_slot = here.branch;
        is_address = (here.whole, here.target);
        kept = HasFirst-before edges count there;
        here = HasFirst-here edges count there;
        cases = λ slot address first. elim (HasFirst-cases edges count there slot address first) [
          | inl before ↦ inl before
          | inr is ↦ inr (sym (ap (λ edge. edge.branch) is), sym (ap (λ edge. edge.target) is))
        ];
        within = λ slot address first.
            let is = HasFirst-within edges slots code_words within (count + 1) slot address (omega arith) first in
            (is.branch, (is.whole, is.target));
      }

  -- the forest after one more edge
  pub one_more_edge : (before after : List ℕ) → IsForestOf (HasFirst edges count) slots code_words before
      → IsForest after → length after ≡ length before
      → ((node : ℕ) → node < length before → root_of after node
      ≡ joined_root (root_of before (edge_at edges count).branch)
      (root_of before (slots + (edge_at edges count).target / 4)) (root_of before node))
      → IsForestOf (HasFirst edges (count + 1)) slots code_words after
  one_more_edge before after forest is_forest len roots =
      step_forest (end_node slots) (slots + code_words) (HasFirst edges count) (HasFirst edges (count + 1)) slots
      code_words _ _ (node_of-within slots code_words) adds_edge before after forest is_forest len roots

-- ---- marks

module _ (edges : List Edge) (slots code_words : ℕ) (within : All (IsEdgeWithin slots code_words) edges) (count : ℕ)
    (there : count < length edges) (marks : List Bool) (old : MarksUsed (HasFirst edges count) slots marks) where
  branch_within : (edge_at edges count).branch < length marks
  branch_within =
      let here = edge_at-within edges slots code_words within count there in
      let len = old.len in
      omega (arith, here.branch)

  mark_here : (slot : ℕ) → slot ≡ (edge_at edges count).branch
      → IsMarked (set marks (edge_at edges count).branch true) slot
  mark_here slot is =
      ap (λ n. get_or (set marks (edge_at edges count).branch true) n false) is
      ∙ get_or-set_same marks (edge_at edges count).branch true false branch_within

  mark_elsewhere : (slot : ℕ) → (slot ≡ (edge_at edges count).branch → ⊥)
      → get_or (set marks (edge_at edges count).branch true) slot false ≡ get_or marks slot false
  mark_elsewhere slot differs = get_or-set_other marks (edge_at edges count).branch slot true false differs

  mark_kept : (slot : ℕ) → IsMarked marks slot → IsMarked (set marks (edge_at edges count).branch true) slot
  mark_kept slot is =
      elim (cases_eq slot (edge_at edges count).branch) [
        | inl here ↦ mark_here slot here
        | inr differs ↦ mark_elsewhere slot differs ∙ is
      ]

  mark_only : (slot : ℕ) → IsMarked (set marks (edge_at edges count).branch true) slot
      → IsUsed (HasFirst edges (count + 1)) slot
  mark_only slot is =
      elim (cases_eq slot (edge_at edges count).branch) [
        | inl here ↦ subst (IsUsed (HasFirst edges (count + 1))) (sym here) (_, HasFirst-here edges count there)
        | inr differs ↦
            let used = old.only slot (sym (mark_elsewhere slot differs) ∙ is) in
            (used.0, HasFirst-before edges count there slot used.0 used.1)
      ]

  -- the marks after one more edge
  pub one_more_mark : MarksUsed (HasFirst edges (count + 1)) slots (set marks (edge_at edges count).branch true)
  one_more_mark = record {
    len = length-set marks (edge_at edges count).branch true ∙ old.len;
    marked = λ slot address first. elim (HasFirst-cases edges count there slot address first) [
      | inl before ↦ mark_kept slot (old.marked slot address before)
      | inr is ↦ mark_here slot (sym (ap (λ edge. edge.branch) is))
    ];
    only = mark_only;
  }
