-- What spans a relation has its chains, its slots and its addresses, and so its labels.
use Rattle.std.proofs.Common.{◌↔◌, ℕ, zero, suc, ◌*◌, List, get_or, inl, inr}
use Rattle.cfi_word.specs.Chain.{ChainOf, Chain}
use Rattle.cfi_word.specs.Table.{slots_of}
use Rattle.cfi_class.specs.Labels.{IsReached, IsUsed, IsClassWhere, AreNumbers, AreOrderedBySlot, AreLabels}
use Rattle.cfi_class.specs.inner.Linked.{End, Linked}
use Rattle.cfi_class.specs.inner.Linked.End.{Slot, Address}
use Rattle.cfi_class.specs.inner.Linked.Linked.{same, to_address, to_slot}
use Rattle.cfi_class.proofs.LinkedLemmas.{Linked-append, chain_from_Linked}
use Rattle.cfi_class.proofs.JoinedLemmas.{first_of_chain, last_of_chain}
use Rattle.cfi_policy.specs.Spans.{Spans}

-- a chain is a way, there and back
linked_from_chain : (joins : (slot address : ℕ) → Type 0) (more slot address : ℕ) → ChainOf joins more slot address
    → Linked joins (Slot slot) (Address address)
linked_from_chain joins zero slot address edge = to_address edge same
linked_from_chain joins (suc more) slot address (shared, other, edge, back, rest) =
    to_address edge (to_slot back (linked_from_chain joins more other address rest))

Linked-reverse : (joins : (slot address : ℕ) → Type 0) {one other : End} → Linked joins one other
    → Linked joins other one
Linked-reverse joins same = same
Linked-reverse joins (to_address edge way) = Linked-append joins (Linked-reverse joins way) (to_slot edge same)
Linked-reverse joins (to_slot edge way) = Linked-append joins (Linked-reverse joins way) (to_address edge same)

-- slots that have an address in common have all
pub joined_alike : (joins : (slot address : ℕ) → Type 0) (one other shared : ℕ) → Chain joins one shared
    → Chain joins other shared → (address : ℕ) → Chain joins one address ↔ Chain joins other address
joined_alike joins one other shared mine theirs address =
    let from_one = linked_from_chain joins mine.more one shared mine.chain in
    let from_other = linked_from_chain joins theirs.more other shared theirs.chain in (
      λ chain.
          let way = chain_from_Linked joins (Linked-append joins from_other (Linked-append joins
          (Linked-reverse joins from_one) (linked_from_chain joins chain.more one address chain.chain))) in
          record { more = way.0; chain = way.1 },
      λ chain.
          let way = chain_from_Linked joins (Linked-append joins from_one (Linked-append joins
          (Linked-reverse joins from_other) (linked_from_chain joins chain.more other address chain.chain))) in
          record { more = way.0; chain = way.1 },
    )

module _ (few many : (slot address : ℕ) → Type 0) (spans : Spans few many) where
  wider : (more slot address : ℕ) → ChainOf few more slot address → ChainOf many more slot address
  wider zero slot address edge = spans.sound slot address edge
  wider (suc more) slot address (shared, other, edge, back, rest) = (
    shared,
    other,
    spans.sound slot shared edge,
    spans.sound other shared back,
    wider more other address rest,
  )

  linked_by_few : (slot address : ℕ) → many slot address → Linked few (Slot slot) (Address address)
  linked_by_few slot address edge =
      let chain = spans.whole slot address edge in linked_from_chain few chain.more slot address chain.chain

  narrower : (more slot address : ℕ) → ChainOf many more slot address → Linked few (Slot slot) (Address address)
  narrower zero slot address edge = linked_by_few slot address edge
  narrower (suc more) slot address (shared, other, edge, back, rest) =
      Linked-append few (linked_by_few slot shared edge)
      (Linked-append few (Linked-reverse few (linked_by_few other shared back)) (narrower more other address rest))

  -- the chains of the one are those of the other
  pub same_chains : (slot address : ℕ) → Chain few slot address ↔ Chain many slot address
  same_chains slot address = (
    λ chain. record { more = chain.more; chain = wider chain.more slot address chain.chain },
    λ chain.
        let way = chain_from_Linked few (narrower chain.more slot address chain.chain) in
        record { more = way.0; chain = way.1 },
  )

  pub same_used : (slot : ℕ) → IsUsed few slot ↔ IsUsed many slot
  same_used slot = (
    λ edge. (edge.0, spans.sound slot edge.0 edge.1),
    λ edge.
        let chain = spans.whole slot edge.0 edge.1 in
        first_of_chain few chain.more slot edge.0 chain.chain,
  )

  pub same_reached : (address : ℕ) → IsReached few address ↔ IsReached many address
  same_reached address = (
    λ edge. (edge.0, spans.sound edge.0 address edge.1),
    λ edge.
        let chain = spans.whole edge.0 address edge.1 in
        last_of_chain few chain.more edge.0 address chain.chain,
  )

  class_where : (Few Many : Type 0) (other number : ℕ) → Few ↔ Many → IsClassWhere Few other number
      → IsClassWhere Many other number
  class_where Few Many other number both is =
      elim is [
        | inl class ↦ inl (both.0 class.0, class.1)
        | inr none ↦ inr (λ many. none.0 (both.1 many), none.1)
      ]

  -- the numbers of the few edges are those of the many
  pub spanned_numbers : (count code_words : ℕ) (tary bary : List ℕ) → AreNumbers few count code_words tary bary
      → AreNumbers many count code_words tary bary
  spanned_numbers count code_words tary bary labels = record {
    words = labels.words;
    slots = labels.slots;
    targets = λ word within. class_where (IsReached few (4 * word)) (IsReached many (4 * word)) 0 (get_or tary word 0)
        (same_reached (4 * word)) (labels.targets word within);
    branches = λ slot within. class_where (IsUsed few slot) (IsUsed many slot) _ (get_or bary slot 0)
        (same_used slot) (labels.branches slot within);
    classes = λ slot word slot_within word_within used reached.
        let both = labels.classes slot word slot_within word_within ((same_used slot).1 used)
        ((same_reached (4 * word)).1 reached) in
        let chains = same_chains slot (4 * word) in
        (λ equal. chains.0 (both.0 equal), λ chain. both.1 (chains.1 chain));
  }

  -- and so are those of a table
  pub spanned_labels : (code_words : ℕ) (tary bary : List ℕ) → AreLabels few code_words tary bary
      → AreLabels many code_words tary bary
  spanned_labels code_words = spanned_numbers (slots_of code_words) code_words

  pub spanned_order : (bary : List ℕ) → AreOrderedBySlot few bary → AreOrderedBySlot many bary
  spanned_order bary order slot number used some low =
      let earlier = order slot number ((same_used slot).1 used) some low in
      (earlier.0, earlier.1, (same_used earlier.0).0 earlier.2, earlier.3)
