-- Only one labelling keeps the old numbers.
use Rattle.std.proofs.Common.{◌≡◌, ℕ, zero, suc, ◌*◌, ◌/◌, ◌<◌, List, length, get_or, sym, ap, subst, ◌∙◌, inl, inr, arith}
use Rattle.std.proofs.lemmas.Bool.{cases_eq}
use Rattle.std.proofs.lemmas.List.{ext_get_or}
use Rattle.cfi_word.specs.declared.lists.Edge.{Edge}
use Rattle.cfi_word.specs.declared.lists.Labels.{Labels}
use Rattle.cfi_word.specs.Chain.{Chain}
use Rattle.cfi_word.specs.Table.{slots_of}
use Rattle.cfi_class.specs.Kept.{ShareClass, HasNumberIn, IsFirstOfNew, AreLabelsOf, AreKept}
use Rattle.cfi_class.specs.Labels.{HasEdge, IsReached, IsUsed}
use Rattle.cfi_class.proofs.JoinedLemmas.{chain_within, first_of_chain, last_of_chain}
use Rattle.cfi_class.proofs.LabelledLemmas.{word_address}

module _ (edges : List Edge) (labels : Labels) (are : AreLabelsOf edges labels) where
  -- a slot has the number of each address that a chain joins it with
  number_of_chain : (slot address : ℕ) → Chain (HasEdge edges) slot address
      → get_or labels.bary slot 0 ≡ get_or labels.tary (address / 4) 0
  number_of_chain slot address chain =
      let is = chain_within edges (slots_of (length labels.tary)) (length labels.tary) are.within slot address chain in
      let at = word_address address (length labels.tary) (is.whole, is.target) in
      let reached = last_of_chain (HasEdge edges) chain.more slot address chain.chain in
      (are.each.classes slot (address / 4) is.branch at.1
      (first_of_chain (HasEdge edges) chain.more slot address chain.chain)
      (subst (IsReached (HasEdge edges)) (sym at.0) reached)).1
      (subst (Chain (HasEdge edges) slot) (sym at.0) chain)

  number_shared : (slot other : ℕ) → ShareClass (HasEdge edges) slot other
      → get_or labels.bary slot 0 ≡ get_or labels.bary other 0
  number_shared slot other share =
      number_of_chain slot share.0 share.1 ∙ sym (number_of_chain other share.0 share.2)

module _ (edges : List Edge) (old one other : Labels) (first : AreKept edges old one)
    (second : AreKept edges old other) where
  size : length one.tary ≡ length other.tary
  size = first.size ∙ sym second.size

  -- a class that had numbers has one number
  kept_once : (slot number : ℕ) → HasNumberIn (HasEdge edges) old slot number
      → get_or one.bary slot 0 ≡ get_or other.bary slot 0
  kept_once slot number has =
      let left = first.kept slot number has in
      let right = second.kept slot number has in
      let low = left.least (get_or other.bary slot 0) right.holds in
      let high = right.least (get_or one.bary slot 0) left.holds in
      omega arith

  shared_once : (slot earlier : ℕ) → ShareClass (HasEdge edges) slot earlier
      → get_or one.bary earlier 0 ≡ get_or other.bary earlier 0
      → get_or one.bary slot 0 ≡ get_or other.bary slot 0
  shared_once slot earlier share equal =
      number_shared edges one first.labels slot earlier share ∙ equal
      ∙ sym (number_shared edges other second.labels slot earlier share)

  module _ (slot : ℕ)
      (before : (earlier : ℕ) → earlier < slot → get_or one.bary earlier 0 ≡ get_or other.bary earlier 0) where
    fresh_once : IsFirstOfNew (HasEdge edges) old slot → get_or one.bary slot 0 ≡ get_or other.bary slot 0
    fresh_once new =
        let left = first.fresh slot new in
        let right = second.fresh slot new in
        let low = left.least (get_or other.bary slot 0) (record {
          least = right.holds.least;
          unused = right.holds.unused;
          untaken = λ earlier lower is. right.holds.untaken earlier lower (sym (before earlier lower) ∙ is);
        }) in
        let high = right.least (get_or one.bary slot 0) (record {
          least = left.holds.least;
          unused = left.holds.unused;
          untaken = λ earlier lower is. left.holds.untaken earlier lower (before earlier lower ∙ is);
        }) in
        omega arith

    used_once : IsUsed (HasEdge edges) slot → get_or one.bary slot 0 ≡ get_or other.bary slot 0
    used_once used =
        elim (cases_eq (get_or one.bary slot 0) (get_or other.bary slot 0)) [
          | inl same ↦ same
          | inr differ ↦ fresh_once (record {
            used = used;
            new = λ number has. differ (kept_once slot number has);
            first = λ earlier lower share. differ (shared_once slot earlier share (before earlier lower));
          })
        ]

    slot_once : slot < slots_of (length one.tary) → get_or one.bary slot 0 ≡ get_or other.bary slot 0
    slot_once within =
        elim (first.labels.each.branches slot within) [
          | inl class ↦ used_once class.0
          | inr none ↦ elim (second.labels.each.branches slot (subst (λ n. slot < slots_of n) size within)) [
            | inl class ↦ used_once class.0
            | inr none_other ↦ none.1 ∙ sym none_other.1
          ]
        ]

  slots_once : (bound slot : ℕ) → slot < bound → slot < slots_of (length one.tary)
      → get_or one.bary slot 0 ≡ get_or other.bary slot 0
  slots_once zero slot low within = absurd (omega arith)
  slots_once (suc bound) slot low within =
      slot_once slot (λ earlier lower. slots_once bound earlier (omega arith) (omega arith)) within

  reached_once : (word : ℕ) → IsReached (HasEdge edges) (4 * word)
      → get_or one.tary word 0 ≡ get_or other.tary word 0
  reached_once word (slot, edge) =
      let chain : Chain (HasEdge edges) slot (4 * word) = record { more = 0; chain = edge } in
      let is = chain_within edges (slots_of (length one.tary)) (length one.tary) first.labels.within slot (4 * word)
      chain in
      let at : 4 * word / 4 ≡ word = omega arith in
      ap (λ n. get_or one.tary n 0) (sym at)
      ∙ sym (number_of_chain edges one first.labels slot (4 * word) chain)
      ∙ slots_once (suc slot) slot (omega arith) is.branch
      ∙ number_of_chain edges other second.labels slot (4 * word) chain
      ∙ ap (λ n. get_or other.tary n 0) at

  word_once : (word : ℕ) → word < length one.tary → get_or one.tary word 0 ≡ get_or other.tary word 0
  word_once word within =
      elim (first.labels.each.targets word within) [
        | inl class ↦ reached_once word class.0
        | inr none ↦ elim (second.labels.each.targets word (subst (λ n. word < n) size within)) [
          | inl class ↦ reached_once word class.0
          | inr none_other ↦ none.1 ∙ sym none_other.1
        ]
      ]

  pub labels_once : one ≡ other
  labels_once =
      let slots : length one.bary ≡ slots_of (length one.tary) = first.labels.each.slots in
      let all : length one.bary ≡ length other.bary = slots ∙ ap slots_of size ∙ sym second.labels.each.slots in
      let bary : one.bary ≡ other.bary = ext_get_or 0 one.bary other.bary all
      (λ slot there. slots_once (suc slot) slot (omega arith) (omega arith)) in
      let tary : one.tary ≡ other.tary = ext_get_or 0 one.tary other.tary size word_once in
      ap (λ list. record { tary = list; bary = one.bary }) tary
      ∙ ap (λ list. record { tary = other.tary; bary = list }) bary
