-- Branches without a class, one more branch and one more module at a time.
use Rattle.std.proofs.Common.{◌≡◌, ◌⊎◌, ◌∙◌, ℕ, zero, suc, ◌+◌, ◌<◌, List, [], ◌∷◌, ◌++◌, length, take, get_or, Option, Some, None, sym, ap, subst, inl, inr, arith}
use Rattle.std.specs.Prelude.{slice_get, All}
use Rattle.std.specs.List.{Contains, AllByRecursion, cons_option}
use Rattle.std.proofs.lemmas.Bool.{cases_lt}
use Rattle.std.proofs.lemmas.Option.{none-some, same_Some}
use Rattle.std.proofs.lemmas.List.{length-take, get_or-take, get_or_default}
use Rattle.std.proofs.lemmas.List.Elements.{Contains-append_left, Contains-append_right, Contains-append_cases, Contains-get_or, All-contains}
use Rattle.std.proofs.lemmas.List.Quantifiers.{all_pairs_push}
use Rattle.cfi_word.specs.declared.sizes.TheConstants.{SLOTS}
use Rattle.cfi_unit.specs.declared.unit.Unit.{Unit as CodeUnit}
use Rattle.cfi_unit.specs.declared.unit.Unit.TheVariants as units
use Rattle.cfi_unit.specs.Unit.{IsUnit}
use Rattle.cfi_word.specs.declared.ids.TheConstants.{FIELD_MAX}
use Rattle.cfi_aux.specs.declared.placed.Placed.{Placed}
use Rattle.cfi_flow.proofs.Members.{member_first, member_of_one}
use Rattle.cfi_graph.specs.Shaped.{slot_of, slots_of, IsShaped, IsBefore, AreApart}
use Rattle.cfi_policy.specs.Group.{IsBranch}
use Rattle.cfi_policy.specs.inner.Idle.{IsIdleAmong, AddsIdle, AreIdle}

-- ---- slots of shaped modules are those of a table

unit_low : (unit : CodeUnit) → IsUnit unit → (slot : ℕ) → slot_of unit ≡ Some slot → slot < SLOTS
unit_low (units.Plain insn) fits slot is = absurd (none-some slot is)
unit_low (units.Load kind rd rs1 imm) fits slot is = absurd (none-some slot is)
unit_low (units.Store kind rs1 rs2 imm) fits slot is = absurd (none-some slot is)
unit_low (units.Branch cond rs1 rs2 off) fits slot is = absurd (none-some slot is)
unit_low (units.Jump link off) fits slot is = absurd (none-some slot is)
unit_low units.Service fits slot is = absurd (none-some slot is)
unit_low (units.Check link rs1 imm own) fits slot is = subst (λ n. n < SLOTS) (same_Some own slot is) fits.2

cons_low : (first : Option ℕ) (rest : List ℕ) → ((slot : ℕ) → first ≡ Some slot → slot < SLOTS)
    → ((k slot : ℕ) → slice_get rest k ≡ Some slot → slot < SLOTS)
    → (k slot : ℕ) → slice_get (cons_option first rest) k ≡ Some slot → slot < SLOTS
cons_low None rest here later k slot is = later k slot is
cons_low (Some own) rest here later zero slot is = here slot is
cons_low (Some own) rest here later (suc k) slot is = later k slot is

slots_low : (code : List CodeUnit) → AllByRecursion IsUnit code → (k slot : ℕ) → slice_get (slots_of code) k ≡ Some slot
    → slot < SLOTS
slots_low [] fit k slot is = absurd (none-some slot is)
slots_low (unit ∷ code) fit k slot is =
    cons_low (slot_of unit) (slots_of code) (unit_low unit fit.0) (slots_low code fit.1) k slot is

pub branch_low : (m : Placed) → IsShaped m → (number : ℕ) → number < length m.branches → m.slot_base + number < SLOTS
branch_low m (code, shape) number below =
    slots_low code shape.units.fit number (m.slot_base + number) (shape.slots number below)

-- ---- one more branch

last_or : (number count : ℕ) → number < count + 1 → (number < count) ⊎ (number ≡ count)
last_or number count below =
    elim (cases_lt number count) [ inl lower ↦ inl lower | inr higher ↦ inr (omega arith) ]

idle_more : (base count : ℕ) (bary : List ℕ) (slot : ℕ) → IsIdleAmong base count bary slot
    → IsIdleAmong base (count + 1) bary slot
idle_more base count bary slot (number, below, is, none) = (number, omega (arith, below), is, none)

module _ (base count : ℕ) (bary old new : List ℕ) (adds : AddsIdle base count bary old new) where
  -- a branch with a class
  pub branch_passed : (get_or bary (base + count) 0 ≡ FIELD_MAX → ⊥) → AddsIdle base (count + 1) bary old new
  branch_passed class = record {
    are = λ slot. (
      λ has. elim ((adds.are slot).0 has) [
        | inl was ↦ inl was
        | inr idle ↦ inr (idle_more base count bary slot idle)
      ],
      λ either. elim either [
        | inl was ↦ (adds.are slot).1 (inl was)
        | inr idle ↦ elim (last_or idle.0 count idle.1) [
          | inl lower ↦ (adds.are slot).1 (inr (idle.0, lower, idle.2, idle.3))
          | inr last ↦
              let at : slot ≡ base + count = idle.2 ∙ ap (λ n. base + n) last in
              absurd (class (subst (λ s. get_or bary s 0 ≡ FIELD_MAX) at idle.3))
        ]
      ],
    );
    order = adds.order;
  }

  module _ (none : get_or bary (base + count) 0 ≡ FIELD_MAX) where
    here : Contains (new ++ (base + count) ∷ []) (base + count)
    here = Contains-append_right new ((base + count) ∷ []) (base + count) (member_first (base + count) [])

    pushed_from : (slot : ℕ) → Contains (new ++ (base + count) ∷ []) slot
        → Contains old slot ⊎ IsIdleAmong base (count + 1) bary slot
    pushed_from slot has =
        elim (Contains-append_cases new ((base + count) ∷ []) slot has) [
          | inl was ↦ elim ((adds.are slot).0 was) [
            | inl old_one ↦ inl old_one
            | inr idle ↦ inr (idle_more base count bary slot idle)
          ]
          | inr last ↦
              let is : base + count ≡ slot = member_of_one (base + count) slot last in
              inr (count, omega arith, sym is, subst (λ s. get_or bary s 0 ≡ FIELD_MAX) is none)
        ]

    pushed_to : (slot : ℕ) → Contains old slot ⊎ IsIdleAmong base (count + 1) bary slot
        → Contains (new ++ (base + count) ∷ []) slot
    pushed_to slot either =
        elim either [
          | inl was ↦ Contains-append_left new ((base + count) ∷ []) slot ((adds.are slot).1 (inl was))
          | inr idle ↦ elim (last_or idle.0 count idle.1) [
            | inl lower ↦ Contains-append_left new ((base + count) ∷ []) slot
                ((adds.are slot).1 (inr (idle.0, lower, idle.2, idle.3)))
            | inr last ↦
                let at : base + count ≡ slot = ap (λ n. base + n) (sym last) ∙ sym idle.2 in
                subst (Contains (new ++ (base + count) ∷ [])) at here
          ]
        ]

    pushed_lower : All (λ slot. slot < base) old → (k d : ℕ) → k < length new → get_or new k d < base + count
    pushed_lower low k d within =
        let slot = get_or new k d in
        elim ((adds.are slot).0 (Contains-get_or new k d within)) [
          | inl was ↦
              let below : slot < base = All-contains (λ s. s < base) old slot low was in
              omega (arith, below)
          | inr idle ↦ omega (arith, idle.1, idle.2)
        ]

    -- a branch without one
    pub branch_added : AddsIdle base (count + 1) bary old (new ++ (base + count) ∷ [])
    branch_added = record {
      are = λ slot. (pushed_from slot, pushed_to slot);
      order = λ low rises.
          all_pairs_push ◌<◌ new (base + count) (adds.order low rises) (pushed_lower low);
    }

-- ---- one more module

branch_more : (ms : List Placed) (m : Placed) (slot : ℕ) → IsBranch ms slot → IsBranch (ms ++ m ∷ []) slot
branch_more ms m slot b = record {
  owner = b.owner;
  placed = Contains-append_left ms (m ∷ []) b.owner b.placed;
  number = b.number;
  below = b.below;
  is = b.is;
}

branch_last : (ms : List Placed) (m : Placed) (number slot : ℕ) → number < length m.branches
    → slot ≡ m.slot_base + number → IsBranch (ms ++ m ∷ []) slot
branch_last ms m number slot below is = record {
  owner = m;
  placed = Contains-append_right ms (m ∷ []) m (member_first m []);
  number = number;
  below = below;
  is = is;
}

module _ (ms : List Placed) (m : Placed) (bary old new : List ℕ) (before : AreIdle ms bary old)
    (adds : AddsIdle m.slot_base (length m.branches) bary old new)
    (apart : All (λ earlier. IsBefore earlier m) ms) where
  idle_from : (slot : ℕ) → Contains new slot → IsBranch (ms ++ m ∷ []) slot × (get_or bary slot 0 ≡ FIELD_MAX)
  idle_from slot has =
      elim ((adds.are slot).0 has) [
        | inl was ↦
            let both = (before.are slot).0 was in
            (branch_more ms m slot both.0, both.1)
        | inr idle ↦ (branch_last ms m idle.0 slot idle.1 idle.2, idle.3)
      ]

  idle_to : (slot : ℕ) → IsBranch (ms ++ m ∷ []) slot × (get_or bary slot 0 ≡ FIELD_MAX) → Contains new slot
  idle_to slot (b, none) =
      elim (Contains-append_cases ms (m ∷ []) b.owner b.placed) [
        | inl earlier ↦
            let was : IsBranch ms slot = record {
              owner = b.owner;
              placed = earlier;
              number = b.number;
              below = b.below;
              is = b.is;
            } in
            (adds.are slot).1 (inl ((before.are slot).1 (was, none)))
        | inr last ↦
            let same : m ≡ b.owner = member_of_one m b.owner last in
            let below : b.number < length m.branches =
            subst (λ o. b.number < length o.branches) (sym same) b.below in
            let is : slot ≡ m.slot_base + b.number = b.is ∙ ap (λ o. o.slot_base + b.number) (sym same) in
            (adds.are slot).1 (inr (b.number, below, is, none))
      ]

  -- all earlier slots are below the module's
  earlier_low : All (λ slot. slot < m.slot_base) old
  earlier_low k d within =
      let slot = get_or old k d in
      let b = ((before.are slot).0 (Contains-get_or old k d within)).0 in
      let ends : IsBefore b.owner m = All-contains (λ earlier. IsBefore earlier m) ms b.owner apart b.placed in
      omega (arith, ends.slots, b.below, b.is)

  pub one_module_idle : AreIdle (ms ++ m ∷ []) bary new
  one_module_idle = record {
    are = λ slot. (idle_from slot, idle_to slot);
    order = adds.order earlier_low before.order;
  }

-- the modules before one are apart from it
pub before_one : (ms : List Placed) → AreApart ms → (number : ℕ) (d : Placed) → number < length ms
    → All (λ earlier. IsBefore earlier (get_or ms number d)) (take number ms)
before_one ms apart number d there k e within =
    let len = length-take number ms in
    let lower : k < number = omega (arith, within, len) in
    subst (λ m. IsBefore m (get_or ms number d)) (sym (get_or-take number ms k e lower))
    (subst (λ m. IsBefore (get_or ms k e) m) (get_or_default ms number e d there) (apart.order k number e lower there))
