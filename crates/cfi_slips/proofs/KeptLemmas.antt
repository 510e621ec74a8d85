-- Changes of the views that keep the rule.
use Rattle.std.proofs.Common.{◌≡◌, ◌≢◌, ◌⊎◌, ⊎_elim, inl, inr, ℕ, zero, suc, List, [], ◌∷◌, ◌++◌, length, slice_set, refl, sym, ap, subst, ◌∙◌}
use mathlib.Core.Option.{some, some-injective, some-ne-none}
use lib.ListN.{get_elem?}
use Rattle.atomic_table.proofs.Lists.{at_longer, at_set, set_else}
use Rattle.cfi_slips.specs.Rule.{HeldFits, IsOut, KeepsSlips}
use Rattle.cfi_slips.specs.Stubs.{idle_view, opened_sheet, opened_view, stubs_of}
use Rattle.cfi_slips.specs.declared.view.SlipView.{SlipView}
use Rattle.cfi_slips.specs.declared.view.StubsView.{StubsView}
use Rattle.cfi_slips.specs.declared.view.View.{View}
use Rattle.cfi_slips.specs.declared.view.View.TheVariants.{Stubs, Slip, Spent}

pub set_there : {A : Type 0} (xs : List A) (i : ℕ) (a b : A) → get_elem? xs i ≡ some a
    → get_elem? (slice_set xs i b) i ≡ some b
set_there [] i a b e = absurd (some-ne-none a (sym e))
set_there (x ∷ xs) zero a b e = refl
set_there (x ∷ xs) (suc i) a b e = set_there xs i a b e

-- an item at the end of a list, or one of those before
at_end : {A : Type 0} (xs : List A) (a : A) (i : ℕ) (b : A) → get_elem? (xs ++ a ∷ []) i ≡ some b
    → (get_elem? xs i ≡ some b) ⊎ ((i ≡ length xs) × (a ≡ b))
at_end [] a zero b e = inr (refl, some-injective a b e)
at_end [] a (suc i) b e = absurd (some-ne-none b (sym e))
at_end (x ∷ xs) a zero b e = inl e
at_end (x ∷ xs) a (suc i) b e = ⊎_elim (λ was. inl was) (λ last. inr (ap suc last.0, last.1)) (at_end xs a i b e)

-- the seat 0 has the view of the stubs
pub the_stubs : (views : List View) (r : KeepsSlips views) (u : StubsView) → get_elem? views 0 ≡ some (Stubs u)
    → r.stubs ≡ u
the_stubs views r u at = ap stubs_of (some-injective _ _ (sym r.first ∙ at))

pub same_slip : (p q : SlipView) → Slip p ≡ Slip q → p ≡ q
same_slip p q e = cc

pub stubs_are_no_slip : (u : StubsView) (p : SlipView) → Stubs u ≢ Slip p
stubs_are_no_slip u p e = absurd (cc)

pub spent_is_no_slip : (p : SlipView) → Spent ≢ Slip p
spent_is_no_slip p e = absurd (cc)

-- where no slip's view was set, a slip is there that was there
pub old_slip : (views : List View) (seat other : ℕ) (new : View) (p : SlipView) → ((q : SlipView) → new ≢ Slip q)
    → get_elem? (slice_set views seat new) other ≡ some (Slip p) → get_elem? views other ≡ some (Slip p)
old_slip views seat other new p none at = ⊎_elim
    (λ (here : (other ≡ seat) × (new ≡ Slip p)). absurd (none p here.1))
    (λ (else : (other ≢ seat) × (get_elem? views other ≡ some (Slip p))). else.1)
    (at_set views seat other new (Slip p) at)

-- ---- the view of the stubs changes

unfoldable pub stubs_change : (views : List View) (r : KeepsSlips views) (new : StubsView) → HeldFits new new.held
    → ((seat : ℕ) (p : SlipView) → get_elem? views seat ≡ some (Slip p) → IsOut r.stubs p → IsOut new p)
    → KeepsSlips (slice_set views 0 (Stubs new))
stubs_change views r new held each = record {
  stubs = new;
  first = set_there views 0 (Stubs r.stubs) (Stubs new) r.first;
  held = held;
  slips = λ seat p at. (let w = was seat p at in each seat p w (r.slips seat p w));
  alone = λ one other p q a b same. r.alone one other p q (was one p a) (was other q b) same;
}
  where
    was : (seat : ℕ) (p : SlipView) → get_elem? (slice_set views 0 (Stubs new)) seat ≡ some (Slip p)
        → get_elem? views seat ≡ some (Slip p)
    was seat p at = old_slip views 0 seat (Stubs new) p (stubs_are_no_slip new) at

-- ---- seats that come and go

-- a slip's seat is used no more
unfoldable pub spends : (views : List View) (r : KeepsSlips views) (seat : ℕ) → seat ≢ 0
    → KeepsSlips (slice_set views seat Spent)
spends views r seat apart = record {
  stubs = r.stubs;
  first = set_else views seat 0 Spent (λ e. apart (sym e)) ∙ r.first;
  held = r.held;
  slips = λ other p there. r.slips other p (was other p there);
  alone = λ one other p q a b same. r.alone one other p q (was one p a) (was other q b) same;
}
  where
    was : (other : ℕ) (p : SlipView) → get_elem? (slice_set views seat Spent) other ≡ some (Slip p)
        → get_elem? views other ≡ some (Slip p)
    was other p there = old_slip views seat other Spent p spent_is_no_slip there

-- a seat comes that is not used
pub spent_comes : (views : List View) → KeepsSlips views → KeepsSlips (views ++ Spent ∷ [])
spent_comes views r = record {
  stubs = r.stubs;
  first = at_longer views (Spent ∷ []) 0 (Stubs r.stubs) r.first;
  held = r.held;
  slips = λ seat p at. r.slips seat p (was seat p at);
  alone = λ one other p q a b same. r.alone one other p q (was one p a) (was other q b) same;
}
  where
    was : (seat : ℕ) (p : SlipView) → get_elem? (views ++ Spent ∷ []) seat ≡ some (Slip p)
        → get_elem? views seat ≡ some (Slip p)
    was seat p at = ⊎_elim (λ (old : get_elem? views seat ≡ some (Slip p)). old)
        (λ (last : (seat ≡ length views) × (Spent ≡ Slip p)). absurd (spent_is_no_slip p last.1))
        (at_end views Spent seat (Slip p) at)

-- a slip's seat comes, whose guest has no other
pub slip_comes : (views : List View) (r : KeepsSlips views) (new : SlipView) → IsOut r.stubs new
    → ((seat : ℕ) (p : SlipView) → get_elem? views seat ≡ some (Slip p) → p.guest ≢ new.guest)
    → KeepsSlips (views ++ Slip new ∷ [])
slip_comes views r new out else = record {
  stubs = r.stubs;
  first = at_longer views (Slip new ∷ []) 0 (Stubs r.stubs) r.first;
  held = r.held;
  slips = λ seat p at. ⊎_elim (λ (old : get_elem? views seat ≡ some (Slip p)). r.slips seat p old)
      (λ (last : (seat ≡ length views) × (Slip new ≡ Slip p)). subst (IsOut r.stubs) (same_slip new p last.1) out)
      (at_end views (Slip new) seat (Slip p) at);
  alone = λ one other p q a b same. ⊎_elim
      (λ (old : get_elem? views one ≡ some (Slip p)). ⊎_elim
      (λ (too : get_elem? views other ≡ some (Slip q)). r.alone one other p q old too same)
      (λ (last : (other ≡ length views) × (Slip new ≡ Slip q)).
      absurd (else one p old (same ∙ sym (ap (λ z. z.guest) (same_slip new q last.1)))))
      (at_end views (Slip new) other (Slip q) b))
      (λ (last : (one ≡ length views) × (Slip new ≡ Slip p)). ⊎_elim
      (λ (old : get_elem? views other ≡ some (Slip q)).
      absurd (else other q old (sym same ∙ sym (ap (λ z. z.guest) (same_slip new p last.1)))))
      (λ (too : (other ≡ length views) × (Slip new ≡ Slip q)). last.0 ∙ sym too.0)
      (at_end views (Slip new) other (Slip q) b))
      (at_end views (Slip new) one (Slip p) a);
}

-- ---- the opening

no_slip_there : (u : StubsView) (seat : ℕ) (p : SlipView) → get_elem? (Stubs u ∷ []) seat ≡ some (Slip p) → ⊥
no_slip_there u zero p at = stubs_are_no_slip u p (some-injective _ _ at)
no_slip_there u (suc seat) p at = some-ne-none (Slip p) (sym at)

pub opening_kept : KeepsSlips (opened_view ∷ [])
opening_kept = record {
  stubs = idle_view opened_sheet;
  first = refl;
  held = tt;
  slips = λ seat p at. absurd (no_slip_there (idle_view opened_sheet) seat p at);
  alone = λ one other p q a b same. absurd (no_slip_there (idle_view opened_sheet) one p a);
}
