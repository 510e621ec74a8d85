-- Numbers that follow the trees of a forest of edges are the labels of these edges.
use Rattle.std.proofs.Common.{◌≡◌, ◌↔◌, ℕ, ◌+◌, ◌*◌, ◌/◌, ◌%◌, ◌<◌, ◌≤◌, Bool, false, List, length, get_or, sym, ap, subst, ◌∙◌, inl, inr, arith}
use Rattle.std.proofs.lemmas.Bool.{cases_lt, cases_Bool, false≢true}
use Rattle.std.proofs.lemmas.List.{get_or_past}
use Rattle.cfi_word.specs.declared.ids.TheConstants.{FIELD_MAX}
use Rattle.cfi_word.specs.Chain.{Chain}
use Rattle.cfi_class.specs.inner.Forest.{HasSameRoots, root_of}
use Rattle.cfi_class.specs.Labels.{IsReached, IsUsed, IsClass, IsClassWhere, AreNumbers, AreOrderedBySlot}
use Rattle.cfi_class.specs.inner.Linked.{Linked, end_node, IsForestOf}
use Rattle.cfi_class.specs.inner.Linked.End.{Slot, Address}
use Rattle.cfi_class.specs.inner.Numbering.{IsMarked, MarksUsed, AreSlotNumbers, AreWordNumbers}
use Rattle.cfi_class.proofs.ForestLemmas.{root_of-low, root_of-root_of}
use Rattle.cfi_class.proofs.LinkedLemmas.{first_edge, last_edge}
use Rattle.cfi_class.proofs.JoinedLemmas.{chain_root, chain_from_roots}

slot_of : {one other : ℕ} → Slot one ≡ Slot other → one ≡ other
slot_of is = cc

module _ (joins : (slot address : ℕ) → Type 0) (slots code_words : ℕ) (parents : List ℕ)
    (forest : IsForestOf joins slots code_words parents) (marks : List Bool) (used : MarksUsed joins slots marks) where
  marked_within : (slot : ℕ) → IsMarked marks slot → slot < slots
  marked_within slot marked =
      elim (cases_lt slot slots) [
        | inl lower ↦ lower
        | inr higher ↦
            let len = used.len in
            absurd (false≢true (sym (get_or_past marks slot false (omega arith)) ∙ marked))
      ]

  -- the root of a slot with an edge has one too
  pub root_marked : (slot : ℕ) → IsMarked marks slot → IsMarked marks (root_of parents slot)
  root_marked slot marked =
      let within = marked_within slot marked in
      let len = forest.len in
      let low = root_of-low parents slot forest.forest (omega arith) in
      elim (first_edge joins (forest.linked (Slot (root_of parents slot)) (Slot slot) (omega arith) within
      (root_of-root_of parents slot forest.forest (omega arith)))) [
        | inl itself ↦ subst (IsMarked marks) (sym (slot_of itself)) marked
        | inr edge ↦ used.marked (root_of parents slot) edge.0 edge.1
      ]

  -- ---- code words

  -- a code word's node
  word_node : (word : ℕ) → end_node slots (Address (4 * word)) ≡ slots + word
  word_node word = let quarter : 4 * word / 4 ≡ word = omega arith in ap (λ n. slots + n) quarter

  word_joined : (slot word : ℕ) → joins slot (4 * word) → root_of parents slot ≡ root_of parents (slots + word)
  word_joined slot word edge = forest.joined slot (4 * word) edge ∙ ap (root_of parents) (word_node word)

  module _ (inside : (slot address : ℕ) → joins slot address → slot < slots) (word : ℕ) (there : word < code_words)
    where
      -- a code word that is reached has a slot as its root
      root_from_reached : IsReached joins (4 * word) → root_of parents (slots + word) < slots
      root_from_reached (slot, edge) =
          let len = forest.len in
          let within = inside slot (4 * word) edge in
          let same = word_joined slot word edge in
          let low = root_of-low parents slot forest.forest (omega arith) in
          omega arith

      root_linked : root_of parents (slots + word) < slots
          → Linked joins (Slot (root_of parents (slots + word))) (Address (4 * word))
      root_linked lower =
          let len = forest.len in
          let aligned : 4 * word % 4 ≡ 0 = omega arith in
          forest.linked (Slot (root_of parents (slots + word))) (Address (4 * word)) lower (aligned, omega arith)
          (root_of-root_of parents (slots + word) forest.forest (omega arith)
          ∙ ap (root_of parents) (sym (word_node word)))

      reached_from_root : root_of parents (slots + word) < slots → IsReached joins (4 * word)
      reached_from_root lower =
          elim (last_edge joins (root_linked lower)) [
            | inl is ↦ absurd cc
            | inr reached ↦ reached
          ]

      word_root_marked : root_of parents (slots + word) < slots → IsMarked marks (root_of parents (slots + word))
      word_root_marked lower =
          elim (first_edge joins (root_linked lower)) [
            | inl is ↦ absurd cc
            | inr edge ↦ used.marked (root_of parents (slots + word)) edge.0 edge.1
          ]

      -- a slot and a code word of one root are joined by a chain, and no others
      chain_from_root : (slot : ℕ) → slot < slots → root_of parents slot ≡ root_of parents (slots + word)
          → Chain joins slot (4 * word)
      chain_from_root slot within equal =
          let aligned : 4 * word % 4 ≡ 0 = omega arith in
          chain_from_roots joins slots code_words parents forest slot (4 * word) within (aligned, omega arith)
          (equal ∙ ap (root_of parents) (sym (word_node word)))

      root_from_chain : (slot : ℕ) → Chain joins slot (4 * word)
          → root_of parents slot ≡ root_of parents (slots + word)
      root_from_chain slot chain =
          chain_root joins slots code_words parents forest chain.more slot (4 * word) chain.chain
          ∙ ap (root_of parents) (word_node word)

-- ---- the labels

module _ (joins : (slot address : ℕ) → Type 0) (slots code_words : ℕ) (parents : List ℕ)
    (forest : IsForestOf joins slots code_words parents) (marks : List Bool) (used : MarksUsed joins slots marks)
    (inside : (slot address : ℕ) → joins slot address → slot < slots) (after : List ℕ)
    (roots : HasSameRoots parents after) (numbers tary : List ℕ)
    (slot_numbers : AreSlotNumbers parents marks numbers)
    (word_numbers : AreWordNumbers after numbers code_words tary) where
  numbers_len : length numbers ≡ slots
  numbers_len = slot_numbers.len ∙ used.len

  tary_at : (word : ℕ) → word < code_words → get_or tary word 0 ≡ get_or numbers (root_of parents (slots + word)) 0
  tary_at word there =
      let len = forest.len in
      word_numbers.root word there
      ∙ ap (λ n. get_or numbers (root_of after (n + word)) 0) numbers_len
      ∙ ap (λ n. get_or numbers n 0) (roots (slots + word) (omega arith))

  target_label : (word : ℕ) → word < code_words → IsClassWhere (IsReached joins (4 * word)) 0 (get_or tary word 0)
  target_label word there =
      elim (cases_lt (root_of parents (slots + word)) slots) [
        | inl lower ↦ inl (
          reached_from_root joins slots code_words parents forest marks used inside word there lower,
          subst IsClass (sym (tary_at word there)) (slot_numbers.class (root_of parents (slots + word))
              (word_root_marked joins slots code_words parents forest marks used inside word there lower)),
        )
        | inr higher ↦
            let len = numbers_len in
            inr (
              λ reached.
                  let lower = root_from_reached joins slots code_words parents forest marks used inside word there
                  reached in omega arith,
              tary_at word there ∙ get_or_past numbers (root_of parents (slots + word)) 0 (omega arith),
            )
      ]

  branch_label : (slot : ℕ) → slot < slots → IsClassWhere (IsUsed joins slot) FIELD_MAX (get_or numbers slot 0)
  branch_label slot there =
      elim (cases_Bool (get_or marks slot false)) [
        | inl marked ↦ inl (used.only slot marked, slot_numbers.class slot marked)
        | inr unmarked ↦
            let len = used.len in
            inr (
              λ edge. absurd (false≢true (sym unmarked ∙ used.marked slot edge.0 edge.1)),
              slot_numbers.idle slot (omega arith) unmarked,
            )
      ]

  class_label : (slot word : ℕ) → slot < slots → word < code_words → IsUsed joins slot
      → IsReached joins (4 * word) → (get_or numbers slot 0 ≡ get_or tary word 0) ↔ Chain joins slot (4 * word)
  class_label slot word within there edge reached =
      let lower = inside slot edge.0 edge.1 in
      let len = forest.len in
      let root_lower = root_from_reached joins slots code_words parents forest marks used inside word there reached in
      let top = root_of-root_of parents (slots + word) forest.forest (omega arith) in
      let alike = slot_numbers.same slot (root_of parents (slots + word)) (used.marked slot edge.0 edge.1)
      (word_root_marked joins slots code_words parents forest marks used inside word there root_lower) in (
        λ equal. chain_from_root joins slots code_words parents forest marks used inside word there slot lower
            (alike.0 (equal ∙ tary_at word there) ∙ top),
        λ chain. alike.1 (root_from_chain joins slots code_words parents forest marks used inside word there slot chain
            ∙ sym top)
            ∙ sym (tary_at word there),
      )

  pub are_numbers : AreNumbers joins slots code_words tary numbers
  are_numbers = record {
    words = word_numbers.len;
    slots = numbers_len;
    targets = target_label;
    branches = branch_label;
    classes = class_label;
  }

  pub in_order : AreOrderedBySlot joins numbers
  in_order slot number edge some low =
      let earlier = slot_numbers.order slot number (used.marked slot edge.0 edge.1) some low in
      (earlier.0, earlier.1, used.only earlier.0 earlier.2, earlier.3)

-- ---- slots of a table past those that have numbers

-- the numbers of slots, with the one for no edge up to the last slot of the table
pub record FillsUp (slots all : ℕ) (numbers bary : List ℕ) : Type 0 where
  pub len : length bary ≡ all
  pub kept : (slot : ℕ) → slot < slots → get_or bary slot 0 ≡ get_or numbers slot 0
  pub filled : (slot : ℕ) → slots ≤ slot → slot < all → get_or bary slot 0 ≡ FIELD_MAX

module _ (joins : (slot address : ℕ) → Type 0) (slots all code_words : ℕ) (tary numbers bary : List ℕ)
    (inside : (slot address : ℕ) → joins slot address → slot < slots)
    (are : AreNumbers joins slots code_words tary numbers) (fills : FillsUp slots all numbers bary) where
  filled_branch : (slot : ℕ) → slot < all → IsClassWhere (IsUsed joins slot) FIELD_MAX (get_or bary slot 0)
  filled_branch slot there =
      elim (cases_lt slot slots) [
        | inl lower ↦ subst (IsClassWhere (IsUsed joins slot) FIELD_MAX) (sym (fills.kept slot lower))
            (are.branches slot lower)
        | inr higher ↦ inr (
          λ edge. let lower = inside slot edge.0 edge.1 in omega arith,
          fills.filled slot higher there,
        )
      ]

  pub filled_up : AreNumbers joins all code_words tary bary
  filled_up = record {
    words = are.words;
    slots = fills.len;
    targets = are.targets;
    branches = filled_branch;
    classes = λ slot word within there edge reached.
        let lower = inside slot edge.0 edge.1 in
        subst (λ n. (n ≡ get_or tary word 0) ↔ Chain joins slot (4 * word)) (sym (fills.kept slot lower))
        (are.classes slot word lower there edge reached);
  }

  pub filled_in_order : AreOrderedBySlot joins numbers → AreOrderedBySlot joins bary
  filled_in_order order slot number edge some low =
      let lower = inside slot edge.0 edge.1 in
      let earlier = order slot number edge some (subst (λ n. number ≤ n) (fills.kept slot lower) low) in
      let within : earlier.0 < slots = omega (arith, earlier.1, lower) in
      (earlier.0, earlier.1, earlier.2, fills.kept earlier.0 within ∙ earlier.3)
