-- The groups of modules are determined by their branches and addresses.
use Rattle.std.proofs.Common.{◌≡◌, ◌↔◌, ◌∙◌, ℕ, suc, ◌<◌, List, [], ◌∷◌, length, get_or, refl, sym, ap, subst, inl, inr, arith}
use Rattle.std.specs.List.{Contains, AllPairs}
use Rattle.std.proofs.lemmas.List.{get_or_default}
use Rattle.std.proofs.lemmas.List.Elements.{All-contains}
use Rattle.cfi_aux.specs.declared.placed.Placed.{Placed}
use Rattle.cfi_flow.proofs.Members.{member_first, member_later, no_member, member_cases}
use Rattle.cfi_graph.specs.Direct.{DirectEdge, Allowed}
use Rattle.cfi_graph.specs.Reading.{HaveGraph}
use Rattle.cfi_graph.proofs.EndLemmas.{has_ends}
use Rattle.cfi_policy.specs.declared.group.Group.{Group}
use Rattle.cfi_policy.specs.Group.{IsBranch, GoAlike, IsGroup, GroupPrecedes, AreGroups}
use Rattle.cfi_policy.proofs.SpansLemmas.{joined_alike}

-- ---- two lists in one strict order that have the same members are one

module _ {X : Type 0} (R : X → X → Type 0) (strict : (x y : X) → R x y → R y x → ⊥) where
  first_before : (x : X) (xs : List X) → AllPairs R (x ∷ xs) → (y : X) → Contains xs y → R x y
  first_before x xs order y (k, within, is) =
      subst (R x) is (order 0 (suc k) y (omega arith) (omega (arith, within)))

  rest_order : (x : X) (xs : List X) → AllPairs R (x ∷ xs) → AllPairs R xs
  rest_order x xs order = λ i j d less within. order (suc i) (suc j) d (omega (arith, less)) (omega (arith, within))

  same_first : (x y : X) (xs ys : List X) → AllPairs R (x ∷ xs) → AllPairs R (y ∷ ys) → Contains (y ∷ ys) x
      → Contains (x ∷ xs) y → x ≡ y
  same_first x y xs ys one other here there =
      elim (member_cases y ys x here) [
        | inl is ↦ sym is
        | inr later ↦ elim (member_cases x xs y there) [
          | inl is ↦ is
          | inr after ↦ absurd (strict x y (first_before x xs one y after) (first_before y ys other x later))
        ]
      ]

  rest_members : (x : X) (xs ys : List X) → AllPairs R (x ∷ xs) → ((z : X) → Contains (x ∷ xs) z → Contains (x ∷ ys) z)
      → (z : X) → Contains xs z → Contains ys z
  rest_members x xs ys order all z has =
      elim (member_cases x ys z (all z (member_later x xs z has))) [
        | inl is ↦
            let before : R x z = first_before x xs order z has in
            absurd (strict x z before (subst (λ w. R w x) is (subst (R x) (sym is) before)))
        | inr later ↦ later
      ]

  pub same_members : (xs ys : List X) → AllPairs R xs → AllPairs R ys → ((z : X) → Contains xs z ↔ Contains ys z)
      → xs ≡ ys
  same_members [] [] one other both = refl
  same_members [] (y ∷ ys) one other both = absurd (no_member y ((both y).1 (member_first y ys)))
  same_members (x ∷ xs) [] one other both = absurd (no_member x ((both x).0 (member_first x xs)))
  same_members (x ∷ xs) (y ∷ ys) one other both =
      let is : x ≡ y = same_first x y xs ys one other ((both x).0 (member_first x xs))
      ((both y).1 (member_first y ys)) in
      let other_at : AllPairs R (x ∷ ys) = subst (λ z. AllPairs R (z ∷ ys)) (sym is) other in
      let both_at : (z : X) → Contains (x ∷ xs) z ↔ Contains (x ∷ ys) z =
      subst (λ w. (z : X) → Contains (x ∷ xs) z ↔ Contains (w ∷ ys) z) (sym is) both in
      let rest : xs ≡ ys = same_members xs ys (rest_order x xs one) (rest_order x ys other_at) (λ z. (
        rest_members x xs ys one (λ w. (both_at w).0) z,
        rest_members x ys xs other_at (λ w. (both_at w).1) z,
      )) in
      ap (λ z. z ∷ xs) is ∙ ap (λ zs. y ∷ zs) rest

-- ---- groups

less_strict : (m n : ℕ) → m < n → n < m → ⊥
less_strict m n less more = omega (arith, less, more)

no_targets : (group : Group) → 0 < length group.targets → group.targets ≡ [] → ⊥
no_targets group some none =
    let len : length group.targets ≡ 0 = ap length none in omega (arith, some, len)

precedes_strict : (one other : Group) → GroupPrecedes one other → GroupPrecedes other one → ⊥
precedes_strict one other before after =
    elim before.later [
      | inl none ↦ no_targets other after.goes none
      | inr less ↦ elim after.later [
        | inl none ↦ no_targets one before.goes none
        | inr more ↦ omega (arith, less, more)
      ]
    ]

module _ (ms : List Placed) where
  -- two groups of one branch are one
  pub same_group : (slot : ℕ) (one other : Group) → IsGroup ms one → IsGroup ms other → Contains one.branches slot
      → Contains other.branches slot → one ≡ other
  same_group slot one other one_is other_is in_one in_other =
      let own = one_is.own slot in_one in
      let theirs = other_is.own slot in_other in
      let branches : one.branches ≡ other.branches =
      same_members ◌<◌ less_strict one.branches other.branches one_is.branches other_is.branches (λ z. (
        λ has. (theirs.branches z).1 ((own.branches z).0 has),
        λ has. (own.branches z).1 ((theirs.branches z).0 has),
      )) in
      let targets : one.targets ≡ other.targets =
      same_members ◌<◌ less_strict one.targets other.targets one_is.targets other_is.targets (λ z. (
        λ has. (theirs.targets z).1 ((own.targets z).0 has),
        λ has. (own.targets z).1 ((theirs.targets z).0 has),
      )) in
      ap (λ b. record one { branches = b }) branches ∙ ap (λ t. record other { targets = t }) targets

  -- a group of the one list is one of the other
  group_there : (one other : List Group) → AreGroups ms one → AreGroups ms other → (group : Group) → Contains one group
      → Contains other group
  group_there one other one_are other_are group has =
      let is : IsGroup ms group = All-contains (IsGroup ms) one group one_are.each has in
      let slot = get_or group.branches 0 0 in
      let first : Contains group.branches slot = (0, is.some, get_or_default group.branches 0 slot 0 is.some) in
      let branch : IsBranch ms slot = (((is.own slot first).branches slot).0 first).0 in
      let found = other_are.whole slot branch in
      let found_is : IsGroup ms found.0 = All-contains (IsGroup ms) other found.0 other_are.each found.1 in
      subst (Contains other) (same_group slot found.0 group found_is is found.2 first) found.1

  pub same_groups : (one other : List Group) → AreGroups ms one → AreGroups ms other → one ≡ other
  same_groups one other one_are other_are =
      same_members GroupPrecedes precedes_strict one other one_are.order other_are.order
      (λ group. (group_there one other one_are other_are group, group_there other one other_are one_are group))

  module _ (groups : List Group) (are : AreGroups ms groups) where
    pub group_joins : (group : Group) (slot address : ℕ) → Contains groups group → Contains group.branches slot
        → Contains group.targets address → Allowed ms slot address
    group_joins group slot address has branch target =
        let is : IsGroup ms group = All-contains (IsGroup ms) groups group are.each has in
        ((is.own slot branch).targets address).0 target

    -- groups that share an address are one
    pub group_shares : (one other : Group) (address : ℕ) → Contains groups one → Contains groups other
        → Contains one.targets address → Contains other.targets address → one ≡ other
    group_shares one other address in_one in_other one_has other_has =
        let one_is : IsGroup ms one = All-contains (IsGroup ms) groups one are.each in_one in
        let other_is : IsGroup ms other = All-contains (IsGroup ms) groups other are.each in_other in
        let slot = get_or one.branches 0 0 in
        let first : Contains one.branches slot = (0, one_is.some, get_or_default one.branches 0 slot 0 one_is.some) in
        let last = get_or other.branches 0 0 in
        let last_has : Contains other.branches last =
        (0, other_is.some, get_or_default other.branches 0 last 0 other_is.some) in
        let own = ((one_is.own slot first).targets address).0 one_has in
        let theirs = ((other_is.own last last_has).targets address).0 other_has in
        let branch = (((one_is.own slot first).branches slot).0 first).0 in
        let alike : GoAlike ms last slot = joined_alike (DirectEdge ms) last slot address theirs own in
        same_group slot one other one_is other_is first (((other_is.own last last_has).branches slot).1 (branch, alike))

    pub group_reached : HaveGraph ms → (slot address : ℕ) → DirectEdge ms slot address
        → (group : Group) × Contains groups group × Contains group.targets address
    group_reached graph slot address edge =
        let ends = has_ends ms graph.apart slot address edge in
        let branch : IsBranch ms slot = record {
          owner = ends.owner;
          placed = ends.placed;
          number = ends.number;
          below = ends.below;
          is = ends.is;
        } in
        let found = are.whole slot branch in
        let is : IsGroup ms found.0 = All-contains (IsGroup ms) groups found.0 are.each found.1 in
        let chain : Allowed ms slot address = record { more = 0; chain = edge } in
        (found.0, found.1, ((is.own slot found.2).targets address).1 chain)
