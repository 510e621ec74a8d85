-- The labels that a kept forest gives are those of the edges before and of the further ones, with the numbers kept.
use Rattle.std.proofs.Common.{◌≡◌, ◌⊎◌, ℕ, ◌+◌, ◌*◌, ◌/◌, ◌<◌, Bool, List, ◌++◌, length, All, sym, ap, subst, ◌∙◌, inl, inr, arith}
use Rattle.std.proofs.lemmas.List.Elements.{Contains-append_left, Contains-append_right, Contains-append_cases, All-append}
use Rattle.cfi_word.specs.declared.ids.TheConstants.{FIELD_MAX}
use Rattle.cfi_word.specs.declared.lists.Edge.{Edge}
use Rattle.cfi_word.specs.declared.lists.Labels.{Labels}
use Rattle.cfi_word.specs.Table.{IsSize, slots_of}
use Rattle.cfi_class.specs.Kept.{AreLabelsOf, AreKept}
use Rattle.cfi_class.specs.Labels.{HasEdge, IsEdgeWithin, CanBeLabelled, AreNumbers, AreLabels}
use Rattle.cfi_class.specs.inner.Forest.{HasSameRoots}
use Rattle.cfi_class.specs.inner.Linked.{IsEnd}
use Rattle.cfi_class.specs.inner.Linked.End.{Slot, Address}
use Rattle.cfi_class.specs.inner.Nodes.{word_node, HaveNumbers, IsKeptForest}
use Rattle.cfi_class.specs.inner.Numbering.{MarksUsed}
use Rattle.cfi_class.specs.inner.Renumbering.{number_at, AreRenumbered, AreWordsRenumbered}
use Rattle.cfi_class.specs.inner.Taken.{MarksTaken}
use Rattle.cfi_class.proofs.JoinedLemmas.{edge_within}
use Rattle.cfi_class.proofs.KeptLemmas.{least_kept, least_fresh}
use Rattle.cfi_class.proofs.LabelledLemmas.{node_cases, edge_label, node-within}
use Rattle.cfi_class.proofs.RenewedLemmas.{are_labels}
use Rattle.cfi_class.proofs.RootLemmas.{AreRenewed}

-- labels of a table fit: each slot could have a number of its own, before and after
pub slots_fit : (code_words : ℕ) → IsSize code_words → slots_of code_words + slots_of code_words < FIELD_MAX
slots_fit code_words size = let most = size.most in omega arith

-- edges of the first slots of a table are within the table
all_within : (edges : List Edge) (slots code_words : ℕ) → CanBeLabelled edges slots code_words
    → All (IsEdgeWithin (slots_of code_words) code_words) edges
all_within edges slots code_words can place edge there =
    let at = can.within place edge there in
    let room = can.room in
    record { branch = omega (arith, at.branch); whole = at.whole; target = at.target }

-- what the calls have made
pub record IsExtension (before : Labels) (fresh : List Edge) (slots : ℕ) (parents after : List ℕ)
    (used taken : List Bool) (new : Labels) : Type 0 where
  pub size : IsSize (length before.tary)
  pub can : CanBeLabelled fresh slots (length before.tary)
  pub forest : IsKeptForest before.tary before.bary fresh parents
  pub same : HasSameRoots parents after
  pub marks : MarksUsed (HasEdge fresh) slots used
  pub held : MarksTaken before.bary taken
  pub len : length new.bary ≡ length before.bary
  pub each_slot : AreRenumbered parents before.bary used taken new.bary
  pub each_word : AreWordsRenumbered after before.tary new.bary new.tary

-- labels of edges of the first slots of a table
pub labels_of_label : (edges : List Edge) (slots code_words : ℕ) (labels : Labels)
    → CanBeLabelled edges slots code_words → AreLabels (HasEdge edges) code_words labels.tary labels.bary
    → AreLabelsOf edges labels
labels_of_label edges slots code_words labels can are =
    let words : length labels.tary ≡ code_words = are.words in
    record {
      within = subst (λ n. All (IsEdgeWithin (slots_of n) n) edges) (sym words)
          (all_within edges slots code_words can);
      each = subst (λ n. AreNumbers (HasEdge edges) (slots_of n) n labels.tary labels.bary) (sym words) are;
    }

-- the edges of labels of a table have the numbers
pub have_numbers : (edges : List Edge) (labels : Labels) → AreLabelsOf edges labels
    → HaveNumbers labels.tary labels.bary edges
have_numbers edges labels are =
    let slots = are.each.slots in record {
      within = subst (λ n. All (IsEdgeWithin n (length labels.tary)) edges) (sym slots) are.within;
      numbers = subst (λ n. AreNumbers (HasEdge edges) n (length labels.tary) labels.tary labels.bary) (sym slots)
          are.each;
    }

module _ (before : Labels) (fresh : List Edge) (slots : ℕ) (parents after : List ℕ) (used taken : List Bool)
    (new : Labels) (is : IsExtension before fresh slots parents after used taken new) (edges : List Edge)
    (are : AreLabelsOf edges before) where
  have : HaveNumbers before.tary before.bary edges
  have = have_numbers edges before are

  words_before : AreWordsRenumbered parents before.tary new.bary new.tary
  words_before = record {
    len = is.each_word.len;
    each = λ word there.
        let at : 4 * word / 4 ≡ word = omega arith in
        let low = node-within before.tary before.bary edges have (Address (4 * word)) (omega arith, omega arith) in
        let forest = is.forest edges have in
        let len = forest.len in
        let same : word_node before.tary (length before.bary) (4 * word / 4)
        ≡ word_node before.tary (length new.bary) word =
        ap (word_node before.tary (length before.bary)) at
        ∙ ap (λ n. word_node before.tary n word) (sym is.len) in
        is.each_word.each word there
        ∙ ap (number_at new.bary) (is.same _ (omega arith));
  }

  edge_cases : (slot address : ℕ) → HasEdge (edges ++ fresh) slot address
      → HasEdge edges slot address ⊎ HasEdge fresh slot address
  edge_cases slot address edge = Contains-append_cases edges fresh _ edge

  ends : (slot address : ℕ) → HasEdge (edges ++ fresh) slot address
      → IsEnd (length before.bary) (length before.tary) (Slot slot)
      × IsEnd (length before.bary) (length before.tary) (Address address)
  ends slot address edge =
      elim (edge_cases slot address edge) [
        | inl old ↦
            let at = edge_within edges (length before.bary) (length before.tary) have.within slot address old in
            (at.branch, (at.whole, at.target))
        | inr further ↦
            let at = edge_within fresh slots (length before.tary) is.can.within slot address further in
            let room = is.can.room in
            let all = are.each.slots in
            (omega (arith, at.branch), (at.whole, at.target))
      ]

  renewed : AreRenewed (HasEdge edges) (HasEdge (edges ++ fresh)) before.tary before.bary parents used taken new.bary
      new.tary
  renewed = record {
    forest = is.forest edges have;
    cases = node_cases before.tary before.bary edges have;
    low = node-within before.tary before.bary edges have;
    label = edge_label before.tary before.bary edges have;
    grown = λ slot address edge. Contains-append_left edges fresh _ edge;
    within = ends;
    marked = λ slot mark.
        let edge = is.marks.only slot mark in
        (edge.0, Contains-append_right edges fresh _ edge.1);
    edge_marked = λ slot (address, edge). elim (edge_cases slot address edge) [
      | inl old ↦ inl (address, old)
      | inr further ↦ inr (is.marks.marked slot address further)
    ];
    held = is.held.marked;
    few =
        let all = are.each.slots in
        let fit = slots_fit (length before.tary) is.size in
        omega arith;
    len = is.len;
    each_slot = is.each_slot;
    each_word = words_before;
  }

  -- the new labels are those of all edges
  labels_of_all : AreLabelsOf (edges ++ fresh) new
  labels_of_all =
      let words : length new.tary ≡ length before.tary = is.each_word.len in
      let each : AreNumbers (HasEdge (edges ++ fresh)) (slots_of (length before.tary)) (length before.tary) new.tary
      new.bary = subst (λ n. AreNumbers (HasEdge (edges ++ fresh)) n (length before.tary) new.tary new.bary)
      are.each.slots
      (are_labels (HasEdge edges) (HasEdge (edges ++ fresh)) before.tary before.bary parents used taken new.bary
      new.tary renewed) in
      record {
        within = subst (λ n. All (IsEdgeWithin (slots_of n) n) (edges ++ fresh)) (sym words)
            (All-append (IsEdgeWithin (slots_of (length before.tary)) (length before.tary)) edges fresh are.within
            (all_within fresh slots (length before.tary) is.can));
        each = subst (λ n. AreNumbers (HasEdge (edges ++ fresh)) (slots_of n) n new.tary new.bary) (sym words) each;
      }

  -- the numbers are kept
  pub extended : AreKept (edges ++ fresh) before new
  extended = record {
    size = is.each_word.len;
    labels = labels_of_all;
    kept = least_kept (HasEdge edges) (HasEdge (edges ++ fresh)) before parents used taken new.bary new.tary renewed;
    fresh = least_fresh (HasEdge edges) (HasEdge (edges ++ fresh)) before parents used taken new.bary new.tary renewed;
  }
