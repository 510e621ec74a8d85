-- The groups of the classes, in order, and then that of the branches without one, are the groups of the modules.
use Rattle.std.proofs.Common.{◌≡◌, ◌↔◌, ◌⊎◌, ◌∙◌, ℕ, zero, suc, ◌+◌, ◌-◌, ◌<◌, ◌≤◌, List, [], ◌∷◌, ◌++◌, length, get_or, refl, sym, ap, subst, inl, inr, arith}
use Rattle.std.specs.Prelude.{All}
use Rattle.std.specs.List.{Contains, AllPairs}
use Rattle.std.proofs.lemmas.List.{get_or_default}
use Rattle.std.proofs.lemmas.List.Elements.{Contains-get_or, All-contains, All-push, Contains-append_left, Contains-append_right}
use Rattle.std.proofs.lemmas.List.Quantifiers.{all_pairs_push}
use Rattle.cfi_word.specs.declared.sizes.TheConstants.{SLOTS}
use Rattle.cfi_word.specs.declared.ids.TheConstants.{FIELD_MAX}
use Rattle.cfi_word.specs.declared.limits.TheConstants.{MAX_CODE_WORDS}
use Rattle.cfi_aux.specs.declared.placed.Placed.{Placed}
use Rattle.cfi_class.specs.Labels.{IsUsed, AreNumbers, AreOrderedBySlot}
use Rattle.cfi_flow.proofs.Members.{member_first, no_member}
use Rattle.cfi_graph.specs.Shaped.{IsShaped, AreApart}
use Rattle.cfi_graph.specs.Direct.{DirectEdge, Allowed}
use Rattle.cfi_policy.specs.declared.group.Group.{Group}
use Rattle.cfi_policy.specs.inner.ByClass.{AreClassGroups}
use Rattle.cfi_policy.specs.Group.{IsBranch, GoAlike, IsGroupOf, IsGroup, GroupPrecedes, AreGroups}
use Rattle.cfi_policy.specs.inner.Idle.{AreIdle}
use Rattle.cfi_policy.proofs.GroupLemmas.{allowed_used, used_low, used_class, class_used, member_number, number_member, class_targets, class_group}
use Rattle.cfi_policy.proofs.IdleLemmas.{branch_low}

-- the first number of a list in order is its least
first_least : (xs : List ℕ) → AllPairs ◌<◌ xs → (x : ℕ) → Contains xs x → get_or xs 0 0 ≤ x
first_least xs rises x (zero, within, is) =
    let same : get_or xs 0 0 ≡ x = get_or_default xs 0 0 x within ∙ is in omega (arith, same)
first_least xs rises x (suc k, within, is) =
    let less = rises 0 (suc k) 0 (omega arith) within in
    let same : get_or xs (suc k) 0 ≡ x = get_or_default xs (suc k) 0 x within ∙ is in
    omega (arith, less, same)

first_contained : (xs : List ℕ) → 0 < length xs → Contains xs (get_or xs 0 0)
first_contained xs some = (0, some, get_or_default xs 0 (get_or xs 0 0) 0 some)

-- branches that may go nowhere
abbrev pub idle_group : List ℕ → Group
idle_group idle = record { branches = idle; targets = [] }

module _ (ms : List Placed) (apart : AreApart ms) (tary bary : List ℕ)
    (are : AreNumbers (DirectEdge ms) SLOTS (MAX_CODE_WORDS + 1) tary bary)
    (rises : AreOrderedBySlot (DirectEdge ms) bary) (groups : List Group) (classes : AreClassGroups tary bary groups) where
  -- ---- the groups of the classes

  low_number : (k : ℕ) → k < length groups → k + 1 < FIELD_MAX
  low_number k within = let low = classes.count.low in omega (arith, low, within)

  -- some slot of each class, which is no later than any of a class at least as high
  class_slot : (k : ℕ) → k < length groups → (slot : ℕ) → IsUsed (DirectEdge ms) slot → k + 1 ≤ get_or bary slot 0
      → (earlier : ℕ) × (earlier ≤ slot) × IsUsed (DirectEdge ms) earlier × (get_or bary earlier 0 ≡ k + 1)
  class_slot k within slot used low = rises slot (k + 1) used (omega arith) low

  some_slot : (k : ℕ) → k < length groups
      → (slot : ℕ) × IsUsed (DirectEdge ms) slot × (get_or bary slot 0 ≡ k + 1)
  some_slot k within =
      let low = classes.count.low in
      let top = classes.count.some (omega arith) in
      let used = class_used ms apart tary bary are top.0 (omega (arith, top.1, are.slots))
      (omega (arith, top.2, low)) in
      let slot = class_slot k within top.0 used (omega (arith, top.2, within)) in
      (slot.0, slot.2, slot.3)

  some_member : (k : ℕ) (d : Group) → k < length groups
      → (slot : ℕ) × IsUsed (DirectEdge ms) slot × Contains (get_or groups k d).branches slot
  some_member k d within =
      let slot = some_slot k within in (
        slot.0,
        slot.1,
        number_member ms apart tary bary are (k + 1) (omega arith) (low_number k within) (get_or groups k d)
            (classes.each k d within) slot.0 slot.1 slot.2,
      )

  each_class : All (IsGroup ms) groups
  each_class k d within =
      let member = some_member k d within in
      class_group ms apart tary bary are (k + 1) (omega arith) (low_number k within) (get_or groups k d)
      (classes.each k d within) member.0 member.2

  class_goes : (k : ℕ) (d : Group) → k < length groups → 0 < length (get_or groups k d).targets
  class_goes k d within =
      let member = some_member k d within in
      let edge = member.1 in
      let target = (class_targets ms apart tary bary are (k + 1) (omega arith) (low_number k within) (get_or groups k d)
      (classes.each k d within) member.0 member.2 edge.0).1 (record { more = 0; chain = edge.1 }) in
      omega (arith, target.1)

  class_order : AllPairs GroupPrecedes groups
  class_order i j d less within =
      let earlier_within : i < length groups = omega (arith, less, within) in
      let one = get_or groups i d in
      let other = get_or groups j d in
      let one_is = classes.each i d earlier_within in
      let other_is = classes.each j d within in
      let least = get_or other.branches 0 0 in
      let has = first_contained other.branches (each_class j d within).some in
      let own = member_number ms apart tary bary are (j + 1) (omega arith) (low_number j within) other other_is
      least has in
      let earlier = class_slot i earlier_within least own.0 (omega (arith, own.1, less)) in
      let member = number_member ms apart tary bary are (i + 1) (omega arith) (low_number i earlier_within) one one_is
      earlier.0 earlier.2 earlier.3 in
      let first = first_least one.branches (each_class i d earlier_within).branches earlier.0 member in
      let apart_from : earlier.0 ≡ least → ⊥ = λ same.
      let equal : get_or bary earlier.0 0 ≡ get_or bary least 0 = ap (λ n. get_or bary n 0) same in
      omega (arith, equal, earlier.3, own.1, less) in
      record {
        goes = class_goes i d earlier_within;
        later = inr (omega (arith, first, earlier.1, apart_from));
      }

  class_whole : (slot : ℕ) → IsUsed (DirectEdge ms) slot
      → (group : Group) × Contains groups group × Contains group.branches slot
  class_whole slot used =
      let class = used_class ms apart tary bary are slot used in
      let least = class.least in
      let low = class.most in
      let number = get_or bary slot 0 in
      let below = used_low ms apart tary bary are slot used in
      let most : number ≤ length groups = classes.count.most slot (omega (arith, are.slots, below)) low in
      let k = number - 1 in
      let within : k < length groups = omega (arith, least, most) in
      let none : Group = idle_group [] in
      let is : k + 1 ≡ number = omega (arith, least) in (
        get_or groups k none,
        Contains-get_or groups k none within,
        number_member ms apart tary bary are (k + 1) (omega arith) (low_number k within) (get_or groups k none)
            (classes.each k none within) slot used (sym is),
      )

  -- ---- branches without a class

  module _ (idle : List ℕ) (no_class : AreIdle ms bary idle) where
    idle_unused : (slot : ℕ) → get_or bary slot 0 ≡ FIELD_MAX → IsUsed (DirectEdge ms) slot → ⊥
    idle_unused slot none used =
        let class = used_class ms apart tary bary are slot used in omega (arith, class.most, none)

    idle_stays : (slot : ℕ) → get_or bary slot 0 ≡ FIELD_MAX → (address : ℕ) → Allowed ms slot address → ⊥
    idle_stays slot none address chain =
        idle_unused slot none (allowed_used ms apart tary bary are slot address chain)

    branch_within : (slot : ℕ) → IsBranch ms slot → slot < SLOTS
    branch_within slot b =
        let shaped : IsShaped b.owner = All-contains IsShaped ms b.owner apart.shaped b.placed in
        let low = branch_low b.owner shaped b.number b.below in
        omega (arith, low, b.is)

    -- a branch has an edge, or no class
    used_or_idle : (slot : ℕ) → IsBranch ms slot → IsUsed (DirectEdge ms) slot ⊎ Contains idle slot
    used_or_idle slot b =
        elim (are.branches slot (branch_within slot b)) [
          | inl class ↦ inl class.0
          | inr none ↦ inr ((no_class.are slot).1 (b, none.1))
        ]

    idle_alike : (slot other : ℕ) → Contains idle slot
        → Contains idle other ↔ (IsBranch ms other × GoAlike ms slot other)
    idle_alike slot other has =
        let own = (no_class.are slot).0 has in (
          λ member.
              let theirs = (no_class.are other).0 member in (
                theirs.0,
                λ address. (
                  λ chain. absurd (idle_stays slot own.1 address chain),
                  λ chain. absurd (idle_stays other theirs.1 address chain),
                ),
              ),
          λ both. elim (used_or_idle other both.0) [
            | inl edge ↦ absurd (idle_stays slot own.1 edge.0
                ((both.1 edge.0).1 (record { more = 0; chain = edge.1 })))
            | inr member ↦ member
          ],
        )

    idle_own : (slot : ℕ) → Contains idle slot → IsGroupOf ms slot (idle_group idle)
    idle_own slot has = record {
      targets = λ address. (
        λ target. absurd (no_member address target),
        λ chain. absurd (idle_stays slot ((no_class.are slot).0 has).1 address chain),
      );
      branches = λ other. idle_alike slot other has;
    }

    idle_is : 0 < length idle → IsGroup ms (idle_group idle)
    idle_is some = record {
      some = some;
      own = idle_own;
      branches = no_class.order;
      targets = λ i j d less within. absurd (omega (arith, within));
    }

    -- no branch is without a class
    pub groups_of_classes : idle ≡ [] → AreGroups ms groups
    groups_of_classes none = record {
      each = each_class;
      whole = λ slot b. elim (used_or_idle slot b) [
        | inl used ↦ class_whole slot used
        | inr has ↦ absurd (no_member slot (subst (λ list. Contains list slot) none has))
      ];
      order = class_order;
    }

    -- some branch is
    pub groups_and_idle : 0 < length idle → AreGroups ms (groups ++ idle_group idle ∷ [])
    groups_and_idle some = record {
      each = All-push (IsGroup ms) groups (idle_group idle) each_class (idle_is some);
      whole = λ slot b. elim (used_or_idle slot b) [
        | inl used ↦
            let found = class_whole slot used in
            (found.0, Contains-append_left groups (idle_group idle ∷ []) found.0 found.1, found.2)
        | inr has ↦ (
          idle_group idle,
          Contains-append_right groups (idle_group idle ∷ []) (idle_group idle) (member_first (idle_group idle) []),
          has,
        )
      ];
      order = all_pairs_push GroupPrecedes groups (idle_group idle) class_order
          (λ k d within. record { goes = class_goes k d within; later = inl refl });
    }
