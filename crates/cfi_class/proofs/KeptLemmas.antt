-- Numbers from the roots of a kept forest: old classes keep their least one, and new ones take the least that is left.
use Rattle.std.proofs.Common.{◌≡◌, ℕ, ◌+◌, ◌*◌, ◌/◌, ◌<◌, ◌≤◌, Bool, List, length, get_or, sym, ap, subst, ◌∙◌, inl, inr, arith}
use Rattle.std.proofs.lemmas.Bool.{cases_lt}
use Rattle.std.proofs.lemmas.List.{get_or_default}
use Rattle.cfi_word.specs.declared.lists.Labels.{Labels}
use Rattle.cfi_word.specs.Chain.{Chain}
use Rattle.cfi_class.specs.Kept.{IsInUse, ShareClass, HasNumberIn, IsFirstOfNew, IsLeft, IsLeastOf}
use Rattle.cfi_class.specs.Labels.{IsUsed, IsClass}
use Rattle.cfi_class.specs.declared.nodes.TheConstants.{CLASSES}
use Rattle.cfi_class.specs.inner.Forest.{root_of}
use Rattle.cfi_class.specs.inner.Linked.{End, Linked, IsEnd}
use Rattle.cfi_class.specs.inner.Linked.End.{Slot, Address}
use Rattle.cfi_class.specs.inner.Linked.Linked.{same, to_address}
use Rattle.cfi_class.specs.inner.Nodes.{slot_node, kept_node}
use Rattle.cfi_class.specs.inner.Numbering.{IsMarked}
use Rattle.cfi_class.specs.inner.Renumbering.{IsFresh}
use Rattle.cfi_class.proofs.JoinedLemmas.{chain_root, first_of_chain, last_of_chain}
use Rattle.cfi_class.proofs.LabelledLemmas.{end_label, IsLabelled, word_address}
use Rattle.cfi_class.proofs.LinkedLemmas.{Linked-append, Linked-back, chain_from_Linked}
use Rattle.cfi_class.proofs.NodesLemmas.{slot_node-class, word_node-class}
use Rattle.cfi_class.proofs.RenewedLemmas.{slot_number, branch_label}
use Rattle.cfi_class.proofs.RootLemmas.{AreRenewed, live_grown, root_low, slot_root_low, IsOldRoot, IsNewRoot, root_view, old_number, new_fresh, label_taken, apart}

module _ (old joins : (slot address : ℕ) → Type 0) (before : Labels) (parents : List ℕ) (used taken : List Bool)
    (numbers words : List ℕ)
    (are : AreRenewed old joins before.tary before.bary parents used taken numbers words) where
  -- the root of a slot
  abbrev at_slot : (slot : ℕ) → ℕ
  at_slot slot = root_of parents (slot_node before.bary slot)

  chain_of : (slot address : ℕ) → Linked joins (Slot slot) (Address address) → Chain joins slot address
  chain_of slot address linked =
      let way = chain_from_Linked joins linked in
      record { more = way.0; chain = way.1 }

  used_of_chain : (slot address : ℕ) → Chain joins slot address → IsUsed joins slot
  used_of_chain slot address chain = first_of_chain joins chain.more slot address chain.chain

  end_of_chain : (slot address : ℕ) → Chain joins slot address
      → IsEnd (length before.bary) (length before.tary) (Address address)
  end_of_chain slot address chain =
      let last = last_of_chain joins chain.more slot address chain.chain in
      (are.within last.0 address last.1).1

  slot_of_chain : (slot address : ℕ) → Chain joins slot address → slot < length before.bary
  slot_of_chain slot address chain =
      let edge = used_of_chain slot address chain in
      (are.within slot edge.0 edge.1).0

  root_of_chain : (slot address : ℕ) → Chain joins slot address
      → at_slot slot ≡ root_of parents (kept_node before.tary before.bary (Address address))
  root_of_chain slot address chain =
      chain_root joins (length before.bary) (length before.tary) parents are.forest chain.more slot address chain.chain

  used_of_number : (slot number : ℕ) → HasNumberIn joins before slot number → IsUsed joins slot
  used_of_number slot number (class, inl (word, chain, is)) = used_of_chain slot (4 * word) chain
  used_of_number slot number (class, inr (other, share, is)) = used_of_chain slot share.0 share.1

  -- the root is no greater than a number that the class had
  root_of_number : (slot number : ℕ) → HasNumberIn joins before slot number → at_slot slot ≤ number
  root_of_number slot number (class, inl (word, chain, is)) =
      let least = class.least in
      let at : 4 * word / 4 ≡ word = omega arith in
      let has : get_or before.tary (4 * word / 4) 0 ≡ number = ap (λ n. get_or before.tary n 0) at ∙ is in
      let node = word_node-class before.tary (length before.bary) (4 * word / 4) (omega arith) in
      let low = root_low old joins before.tary before.bary parents used taken numbers words are (Address (4 * word))
      (end_of_chain slot (4 * word) chain) in
      let joined = root_of_chain slot (4 * word) chain in
      omega arith
  root_of_number slot number (class, inr (other, share, is)) =
      let most = class.most in
      let node = slot_node-class before.bary other (omega arith) in
      let low = root_low old joins before.tary before.bary parents used taken numbers words are (Slot other)
      (slot_of_chain other share.0 share.2) in
      let joined = root_of_chain slot share.0 share.1 in
      let back = root_of_chain other share.0 share.2 in
      omega arith

  top_number : (top : End) (slot number : ℕ) → IsEnd (length before.bary) (length before.tary) top
      → IsLabelled before.tary before.bary old top → end_label before.tary before.bary top ≡ number
      → Linked joins top (Slot slot) → HasNumberIn joins before slot number
  top_number (Address address) slot number is_top labelled is linked =
      let at = word_address address (length before.tary) is_top in (
        subst IsClass is labelled.class,
        inl (
          address / 4,
          subst (Chain joins slot) (sym at.0) (chain_of slot address (Linked-back joins linked)),
          is,
        ),
      )
  top_number (Slot other) slot number is_top labelled is linked =
      let edge = live_grown old joins are.grown (Slot other) labelled.live in (
        subst IsClass is labelled.class,
        inr (
          other,
          (
            edge.0,
            chain_of slot edge.0 (Linked-append joins (Linked-back joins linked) (to_address edge.1 same)),
            record { more = 0; chain = edge.1 },
          ),
          is,
        ),
      )

  -- where the root is a number, the class had it
  number_of_root : (slot : ℕ)
      → IsOldRoot old joins before.tary before.bary parents used taken numbers words are (Slot slot) (at_slot slot)
      → HasNumberIn joins before slot (at_slot slot)
  number_of_root slot view =
      top_number view.top slot (at_slot slot) view.is_top view.labelled view.number view.linked

  -- a class that had numbers keeps the least
  pub least_kept : (slot number : ℕ) → HasNumberIn joins before slot number
      → IsLeastOf (HasNumberIn joins before slot) (get_or numbers slot 0)
  least_kept slot number has =
      let edge = used_of_number slot number has in
      let lower = (are.within slot edge.0 edge.1).0 in
      elim (root_view old joins before.tary before.bary parents used taken numbers words are (Slot slot) lower edge) [
        | inl view ↦
            let is : get_or numbers slot 0 ≡ at_slot slot =
            slot_number old joins before.tary before.bary parents used taken numbers words are slot lower edge
            ∙ old_number old joins before.tary before.bary parents used taken numbers words are (Slot slot) _ view in
            subst (IsLeastOf (HasNumberIn joins before slot)) (sym is)
            (record { holds = number_of_root slot view; least = λ other. root_of_number slot other })
        | inr view ↦
            let is = view.is in
            let low = root_of_number slot number has in
            absurd (omega (arith, has.0.most))
      ]

  -- ---- new classes

  taken_in_use : (number : ℕ) → IsInUse before number → IsMarked taken number
  taken_in_use number (class, inr held) = (are.held number).1 held
  taken_in_use number (class, inl (word, there, is)) =
      let end : IsEnd (length before.bary) (length before.tary) (Address (4 * word)) = (omega arith, omega arith) in
      let at : 4 * word / 4 ≡ word = omega arith in
      let has : get_or before.tary (4 * word / 4) 0 ≡ number = ap (λ n. get_or before.tary n 0) at
      ∙ get_or_default before.tary word 0 number there ∙ is in
      elim (are.cases (Address (4 * word)) end) [
        | inl labelled ↦ subst (IsMarked taken) has
            (label_taken old joins before.tary before.bary parents used taken numbers words are (Address (4 * word)) end
            labelled)
        | inr alone ↦
            let least = class.least in
            let most = class.most in
            let node = word_node-class before.tary (length before.bary) (4 * word / 4) (omega arith) in
            let own = alone.node in
            absurd (omega arith)
      ]

  share_of_link : (earlier slot : ℕ) → IsUsed joins slot → Linked joins (Slot earlier) (Slot slot)
      → ShareClass joins slot earlier
  share_of_link earlier slot (address, edge) linked = (
    address,
    record { more = 0; chain = edge },
    chain_of earlier address (Linked-append joins linked (to_address edge same)),
  )

  -- the root of the first slot of a new class is its own node
  own_root : (slot : ℕ) → IsFirstOfNew joins before slot → slot < length before.bary
      → (view : IsNewRoot old joins before.tary before.bary parents used taken numbers words are (Slot slot)
      (at_slot slot)) → view.slot ≡ slot
  own_root slot first lower view =
      let is = view.is in
      let low = slot_root_low old joins before.tary before.bary parents used taken numbers words are slot lower in
      elim (cases_lt view.slot slot) [
        | inl earlier ↦ absurd (first.first view.slot earlier (share_of_link view.slot slot first.used view.linked))
        | inr higher ↦ omega arith
      ]

  module _ (slot : ℕ) (first : IsFirstOfNew joins before slot) (lower : slot < length before.bary)
      (own : at_slot slot ≡ CLASSES + slot)
      (fresh : IsFresh parents before.bary used taken numbers slot (get_or numbers slot 0)) where
    untaken : (earlier : ℕ) → earlier < slot → get_or numbers earlier 0 ≡ get_or numbers slot 0 → ⊥
    untaken earlier below equal =
        let within : earlier < length before.bary = omega arith in
        elim (branch_label old joins before.tary before.bary parents used taken numbers words are earlier within) [
          | inl class ↦
              let number_of = slot_number old joins before.tary before.bary parents used taken numbers words are in
              let root = apart old joins before.tary before.bary parents used taken numbers words are (Slot earlier)
              (Slot slot) within lower class.0 first.used
              (sym (number_of earlier within class.0) ∙ equal ∙ number_of slot lower first.used) in
              let low = slot_root_low old joins before.tary before.bary parents used taken numbers words are earlier
              within in
              omega arith
          | inr none ↦
              let is = none.1 in
              let most = fresh.most in
              let few = are.few in
              omega arith
        ]

    is_left : IsLeft before (record { tary = words; bary = numbers }) slot (get_or numbers slot 0)
    is_left = record {
      least = fresh.least;
      unused = λ in_use. fresh.free (taken_in_use (get_or numbers slot 0) in_use);
      untaken = untaken;
    }

    least_left : (other : ℕ) → IsLeft before (record { tary = words; bary = numbers }) slot other
        → get_or numbers slot 0 ≤ other
    least_left other left =
        let most = fresh.most in
        let few = are.few in
        elim (cases_lt other (get_or numbers slot 0)) [
          | inl below ↦ elim (fresh.lower other left.least below) [
            | inl marked ↦ absurd (left.unused
                (record { least = left.least; most = omega arith }, inr ((are.held other).0 marked)))
            | inr given ↦ absurd (left.untaken given.0 given.1 given.3)
          ]
          | inr above ↦ above
        ]

  -- the first slot of a new class has the least number that is left
  pub least_fresh : (slot : ℕ) → IsFirstOfNew joins before slot
      → IsLeastOf (IsLeft before (record { tary = words; bary = numbers }) slot) (get_or numbers slot 0)
  least_fresh slot first =
      let edge = first.used in
      let lower = (are.within slot edge.0 edge.1).0 in
      elim (root_view old joins before.tary before.bary parents used taken numbers words are (Slot slot) lower edge) [
        | inl view ↦ absurd (first.new (at_slot slot) (number_of_root slot view))
        | inr view ↦
            let own = own_root slot first lower view in
            let fresh = subst (λ n. IsFresh parents before.bary used taken numbers n (get_or numbers n 0)) own
            (new_fresh old joins before.tary before.bary parents used taken numbers words are (Slot slot) _ view) in
            let is = view.is ∙ ap (λ n. CLASSES + n) own in
            record {
              holds = is_left slot first lower is fresh;
              least = least_left slot first lower is fresh;
            }
      ]
