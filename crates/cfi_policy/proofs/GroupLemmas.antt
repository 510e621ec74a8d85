-- The group of a class is a group of the modules: what an edge leaves or reaches has a class number.
use Rattle.std.proofs.Common.{◌≡◌, ◌↔◌, ◌∙◌, ℕ, ◌+◌, ◌*◌, ◌/◌, ◌<◌, ◌≤◌, List, get_or, sym, subst, inl, inr, arith}
use Rattle.std.specs.List.{Contains}
use Rattle.cfi_word.specs.declared.sizes.TheConstants.{SLOTS}
use Rattle.cfi_word.specs.declared.ids.TheConstants.{FIELD_MAX}
use Rattle.cfi_word.specs.declared.limits.TheConstants.{MAX_CODE_WORDS}
use Rattle.cfi_aux.specs.declared.placed.Placed.{Placed}
use Rattle.cfi_class.specs.Labels.{IsUsed, IsReached, IsClass, AreNumbers}
use Rattle.cfi_class.proofs.JoinedLemmas.{first_of_chain, last_of_chain}
use Rattle.cfi_graph.specs.Shaped.{AreApart}
use Rattle.cfi_graph.specs.Direct.{DirectEdge, Allowed}
use Rattle.cfi_graph.proofs.EndLemmas.{has_ends}
use Rattle.cfi_policy.specs.declared.group.Group.{Group}
use Rattle.cfi_policy.specs.inner.ByClass.{IsClassGroup}
use Rattle.cfi_policy.specs.Group.{IsBranch, GoAlike, IsGroup}

module _ (ms : List Placed) (apart : AreApart ms) (tary bary : List ℕ)
    (are : AreNumbers (DirectEdge ms) SLOTS (MAX_CODE_WORDS + 1) tary bary) where
  -- ---- slots and addresses of the policy

  used_branch : (slot : ℕ) → IsUsed (DirectEdge ms) slot → IsBranch ms slot
  used_branch slot (address, edge) =
      let ends = has_ends ms apart slot address edge in
      record { owner = ends.owner; placed = ends.placed; number = ends.number; below = ends.below; is = ends.is }

  pub used_low : (slot : ℕ) → IsUsed (DirectEdge ms) slot → slot < SLOTS
  used_low slot (address, edge) = (has_ends ms apart slot address edge).low

  pub allowed_used : (slot address : ℕ) → Allowed ms slot address → IsUsed (DirectEdge ms) slot
  allowed_used slot address chain = first_of_chain (DirectEdge ms) chain.more slot address chain.chain

  allowed_reached : (slot address : ℕ) → Allowed ms slot address → IsReached (DirectEdge ms) address
  allowed_reached slot address chain = last_of_chain (DirectEdge ms) chain.more slot address chain.chain

  -- the word of an address that is reached
  reached_word : (address : ℕ) → IsReached (DirectEdge ms) address
      → (word : ℕ) × (word < MAX_CODE_WORDS + 1) × (address ≡ 4 * word)
  reached_word address (slot, edge) =
      let end = (has_ends ms apart slot address edge).end in
      let whole = end.whole in
      let within = end.within in
      (address / 4, omega arith, omega arith)

  -- a slot with an edge has a class
  pub used_class : (slot : ℕ) → IsUsed (DirectEdge ms) slot → IsClass (get_or bary slot 0)
  used_class slot used =
      elim (are.branches slot (used_low slot used)) [ inl class ↦ class.1 | inr none ↦ absurd (none.0 used) ]

  -- a slot with a class has an edge
  pub class_used : (slot : ℕ) → slot < SLOTS → get_or bary slot 0 < FIELD_MAX → IsUsed (DirectEdge ms) slot
  class_used slot below low =
      elim (are.branches slot below) [ inl class ↦ class.0 | inr none ↦ absurd (omega (arith, none.1)) ]

  -- a code word with a class is reached
  class_reached : (word : ℕ) → word < MAX_CODE_WORDS + 1 → 1 ≤ get_or tary word 0
      → IsReached (DirectEdge ms) (4 * word)
  class_reached word below some =
      elim (are.targets word below) [ inl class ↦ class.0 | inr none ↦ absurd (omega (arith, none.1)) ]

  -- the policy lets a slot with an edge go to the code words of its class
  allowed_by_class : (slot word : ℕ) → IsUsed (DirectEdge ms) slot → word < MAX_CODE_WORDS + 1
      → get_or tary word 0 ≡ get_or bary slot 0 → Allowed ms slot (4 * word)
  allowed_by_class slot word used below same =
      let class = used_class slot used in
      let least = class.least in
      let reached = class_reached word below (omega arith) in
      (are.classes slot word (used_low slot used) below used reached).0 (sym same)

  class_by_allowed : (slot word : ℕ) → Allowed ms slot (4 * word) → word < MAX_CODE_WORDS + 1
      → get_or tary word 0 ≡ get_or bary slot 0
  class_by_allowed slot word chain below =
      let used = allowed_used slot (4 * word) chain in
      let reached = allowed_reached slot (4 * word) chain in
      sym ((are.classes slot word (used_low slot used) below used reached).1 chain)

  -- ---- the group of one class

  module _ (number : ℕ) (some : 1 ≤ number) (low : number < FIELD_MAX) (group : Group)
      (is : IsClassGroup tary bary number group) where
    pub member_number : (slot : ℕ) → Contains group.branches slot
        → IsUsed (DirectEdge ms) slot × (get_or bary slot 0 ≡ number)
    member_number slot has =
        let member = (is.branches.are slot).0 has in
        let at : member.0 ≡ slot = omega (arith, member.3) in
        let is_number : get_or bary slot 0 ≡ number = subst (λ n. get_or bary n 0 ≡ number) at member.2 in
        (class_used slot (omega (arith, member.1, are.slots, at)) (omega (arith, is_number)), is_number)

    pub number_member : (slot : ℕ) → IsUsed (DirectEdge ms) slot → get_or bary slot 0 ≡ number
        → Contains group.branches slot
    number_member slot used has =
        let below = used_low slot used in
        (is.branches.are slot).1 (slot, omega (arith, below, are.slots), has, omega arith)

    -- its addresses are those to which the policy lets each of its branches go
    pub class_targets : (slot : ℕ) → Contains group.branches slot
        → (address : ℕ) → Contains group.targets address ↔ Allowed ms slot address
    class_targets slot has address =
        let own = member_number slot has in (
          λ target.
              let member = (is.targets.are address).0 target in
              subst (Allowed ms slot) (sym member.3)
              (allowed_by_class slot member.0 own.0 (omega (arith, member.1, are.words)) (member.2 ∙ sym own.1)),
          λ chain.
              let word = reached_word address (allowed_reached slot address chain) in
              let there = subst (Allowed ms slot) word.2 chain in
              (is.targets.are address).1
              (word.0, omega (arith, word.1, are.words), class_by_allowed slot word.0 there word.1 ∙ own.1, word.2),
        )

    -- its branches are those that go alike
    class_alike : (slot : ℕ) → Contains group.branches slot
        → (other : ℕ) → Contains group.branches other ↔ (IsBranch ms other × GoAlike ms slot other)
    class_alike slot has other =
        let own = member_number slot has in (
          λ member.
              let used = (member_number other member).0 in (
                used_branch other used,
                λ address. (
                  λ chain. (class_targets other member address).0 ((class_targets slot has address).1 chain),
                  λ chain. (class_targets slot has address).0 ((class_targets other member address).1 chain),
                ),
              ),
          λ both.
              let edge = own.0 in
              let chain : Allowed ms slot edge.0 = record { more = 0; chain = edge.1 } in
              let theirs = (both.1 edge.0).0 chain in
              let used = allowed_used other edge.0 theirs in
              let word = reached_word edge.0 (slot, edge.1) in
              number_member other used
              (sym (class_by_allowed other word.0 (subst (Allowed ms other) word.2 theirs) word.1)
              ∙ class_by_allowed slot word.0 (subst (Allowed ms slot) word.2 chain) word.1 ∙ own.1),
        )

    pub class_group : (first : ℕ) → Contains group.branches first → IsGroup ms group
    class_group first has = record {
      some = omega (arith, has.1);
      own = λ slot member. record { targets = class_targets slot member; branches = class_alike slot member };
      branches = is.branches.order;
      targets = is.targets.order;
    }
