-- The steps of slips and stubs keep the rule.
use Rattle.std.proofs.Common.{◌≡◌, ◌≢◌, ⊎_elim, ℕ, zero, suc, ◌<◌, Bool, true, false, List, [], ◌∷◌, ◌++◌, length, slice_set, Option, Some, None, refl, sym, ap, subst, ◌∙◌}
use Rattle.std.proofs.lemmas.List.{append-nil, get_or-set_other, get_or-set_same}
use mathlib.Core.Option.{some, none}
use lib.ListN.{get_elem?}
use Rattle.atomic_table.specs.Table.{Allows, Joins, Splits, State, keeps, step}
use Rattle.atomic_table.proofs.Lists.{at_set, set_again, set_else}
use Rattle.cfi_plan.specs.declared.journal.Entry.{Entry}
use Rattle.cfi_slips.specs.Lines.{AreOf, lines_of}
use Rattle.cfi_slips.specs.Rule.{AgreesWith, HeldFits, IsElse, KeepsSlips}
use Rattle.cfi_slips.specs.Stubs.{held_by, is_out, slip_by, stubs_of}
use Rattle.cfi_slips.specs.inner.Steps.{Issues, Seated, Takes, issuing, left_view, seat_view, taking, telling, told_view}
use Rattle.cfi_slips.specs.declared.view.SlipView.{SlipView}
use Rattle.cfi_slips.specs.declared.view.StubsView.{StubsView}
use Rattle.cfi_slips.specs.declared.view.View.{View}
use Rattle.cfi_slips.specs.declared.view.View.TheVariants.{Stubs, Slip, Spent}
use Rattle.cfi_slips.proofs.KeptLemmas.{old_slip, slip_comes, spends, spent_comes, spent_is_no_slip, stubs_are_no_slip, stubs_change, the_stubs}
use Rattle.cfi_slips.proofs.LineLemmas.{lines_append}

-- the rule, of a state
abbrev pub Holds : State (Unit {0}) View → Type 0
Holds s = KeepsSlips s.views

-- ---- what is known of a slip

-- while another goes out or comes back
out_else : (u : StubsView) (guest : ℕ) (b : Bool) (held : Option SlipView) (p : SlipView) → p.guest ≢ guest
    → AgreesWith u p → AgreesWith (record u { out = slice_set u.out guest b; held = held }) p
out_else u guest b held p apart a = record {
  out = get_or-set_other u.out guest p.guest b false apart ∙ a.out;
  says = a.says;
}

-- while lines are told in another guest's name
told_else : (u : StubsView) (more : List Entry) (held : Option SlipView) (p : SlipView) → lines_of p.guest more ≡ []
    → AgreesWith u p → AgreesWith (record u { told = u.told ++ more; held = held }) p
told_else u more held p away a = record {
  out = a.out;
  says = sym (lines_append p.guest u.told more ∙ (ap (λ l. lines_of p.guest u.told ++ l) away
      ∙ (append-nil (lines_of p.guest u.told) ∙ sym a.says)));
}

-- a slip that is not held is another's
apart_of : (h : Option SlipView) (p q : SlipView) → h ≡ Some p → IsElse h q.guest → q.guest ≢ p.guest
apart_of h p q is else same = subst (λ z. IsElse z q.guest) is else (sym same)

-- ---- a slip goes out

issue_at : (views : List View) (r : KeepsSlips views) (u : StubsView) (guest : ℕ) → r.stubs ≡ u → guest < length u.out
    → is_out u.out guest ≡ false → KeepsSlips (slice_set views 0 (Stubs (issuing guest u)))
issue_at views r u guest e few free =
    stubs_change views r (issuing guest u)
    (record { out = get_or-set_same u.out guest true false few; says = refl })
    (λ seat p at o.
    (let a : AgreesWith u p = subst (λ v. AgreesWith v p) e o.agrees in
    let apart : p.guest ≢ guest = (λ same. both (is_out u.out guest) free (ap (is_out u.out) (sym same) ∙ a.out)) in
    record {
      agrees = out_else u guest true (Some (slip_by guest u.told)) p apart a;
      apart = λ same. apart (sym same);
    }))
  where
    both : (b : Bool) → b ≡ false → b ≡ true → ⊥
    both b x y = absurd (cc)

pub issue_allowed : (slots id i word : ℕ) (me : Seated) (u : StubsView) → id ≡ 0 → me ≡ (Stubs u, [])
    → word < length u.out → is_out u.out word ≡ false
    → Allows Holds slots id me i (λ _. word) (λ _. Issues (step slots i word 0 none) me word)
issue_allowed slots id i word me u zeroth is few free s r homes at bound =
    let here : get_elem? s.views 0 ≡ some (Stubs u) =
    ap (get_elem? s.views) (sym zeroth) ∙ (at ∙ ap (λ (z : Seated). some z.0) is) in
    let e = the_stubs s.views r u here in (
      Stubs (issuing word u),
      keeps,
      tt,
      subst (λ z. KeepsSlips (slice_set s.views z (Stubs (issuing word u)))) (sym zeroth)
          (issue_at s.views r u word e few free),
      ap (λ (v : StubsView). (Stubs (issuing word v), me.1)) (sym (ap (λ (z : Seated). stubs_of z.0) is)),
    )

-- ---- the slip that is held gets a seat

leave_at : (u : StubsView) (p : SlipView) → u.held ≡ Some p
    → Splits Holds 0 (Stubs u) (Stubs (record u { held = None })) (Slip p)
unfolding stubs_change
leave_at u p is_held s r at =
    let e = the_stubs s.views r u at in
    let v : StubsView = r.stubs in
    let is : v.held ≡ Some p = ap (λ z. z.held) e ∙ is_held in
    let fits : AgreesWith v p = subst (HeldFits v) is r.held in
    let new : StubsView = record v { held = None } in
    let kept = stubs_change s.views r new tt
    (λ seat q there o. record { agrees = record { out = o.agrees.out; says = o.agrees.says }; apart = tt }) in
    subst (λ z. KeepsSlips (slice_set s.views 0 (Stubs (record z { held = None })) ++ Slip p ∷ [])) e
    (slip_comes (slice_set s.views 0 (Stubs new)) kept p
    (record { agrees = record { out = fits.out; says = fits.says }; apart = tt })
    (λ seat q there. apart_of v.held p q is
    (r.slips seat q (old_slip s.views 0 seat (Stubs new) q (stubs_are_no_slip new) there)).apart))

pub leave_splits : (id : ℕ) (view : View) (u : StubsView) (p : SlipView) → id ≡ 0 → view ≡ Stubs u → u.held ≡ Some p
    → Splits Holds id view (left_view view) (seat_view view)
leave_splits id view u p zeroth is is_held =
    subst (λ (z : ℕ × View). Splits Holds z.0 z.1 (left_view z.1) (seat_view z.1)) (λ j. (sym zeroth j, sym is j))
    (subst (λ h. Splits Holds 0 (Stubs u) (Stubs (record u { held = None })) (Slip (held_by h))) (sym is_held)
    (leave_at u p is_held))

-- ---- a seat for no one

pub vacate_splits : (id : ℕ) (view : View) → Splits Holds id view view Spent
vacate_splits id view s r at =
    subst (λ views. KeepsSlips (views ++ Spent ∷ [])) (sym (set_again s.views id view at)) (spent_comes s.views r)

-- ---- a slip gives up its seat, and lines are told

set_swap : {A : Type 0} (xs : List A) (i j : ℕ) (a b : A) → i ≢ j
    → slice_set (slice_set xs i a) j b ≡ slice_set (slice_set xs j b) i a
set_swap [] i j a b apart = refl
set_swap (x ∷ xs) zero zero a b apart = absurd (apart refl)
set_swap (x ∷ xs) zero (suc j) a b apart = refl
set_swap (x ∷ xs) (suc i) zero a b apart = refl
set_swap (x ∷ xs) (suc i) (suc j) a b apart = ap (λ l. x ∷ l) (set_swap xs i j a b (λ e. apart (ap suc e)))

tell_at : (more : List Entry) (u : StubsView) (other : ℕ) (p : SlipView) → u.held ≡ None → AreOf p.guest more
    → Joins Holds 0 (Stubs u) other (Slip p) (Stubs (telling more u p)) Spent
unfolding spends
tell_at more u other p free of s r at apart there =
    let e = the_stubs s.views r u at in
    let v : StubsView = r.stubs in
    let here : get_elem? s.views other ≡ some (Slip p) =
    sym (set_else s.views 0 other (Stubs (telling more u p)) apart) ∙ there in
    let fits : AgreesWith v p = (r.slips other p here).agrees in
    let spent : List View = slice_set s.views other Spent in
    let new : StubsView = telling more v p in
    let kept = stubs_change spent (spends s.views r other apart) new
    (record {
      out = fits.out;
      says = ap (λ l. l ++ lines_of p.guest more) fits.says ∙ sym (lines_append p.guest v.told more);
    })
    (λ seat q at_seat o.
    (let was : get_elem? s.views seat ≡ some (Slip q) = old_slip s.views other seat Spent q spent_is_no_slip at_seat in
    let else : q.guest ≢ p.guest = (λ same. not_spent seat q at_seat (r.alone seat other q p was here same)) in
    record { agrees = told_else v more new.held q (of q.guest else) o.agrees; apart = λ same. else (sym same) })) in
    subst KeepsSlips (set_swap s.views other 0 Spent (Stubs (telling more u p)) apart)
    (subst (λ z. KeepsSlips (slice_set spent 0 (Stubs (telling more z p)))) e kept)
  where
    -- the seat that was given up is no slip's
    not_spent : (seat : ℕ) (q : SlipView) → get_elem? (slice_set s.views other Spent) seat ≡ some (Slip q)
        → seat ≢ other
    not_spent seat q z same = ⊎_elim
        (λ (gone : (seat ≡ other) × (Spent ≡ Slip q)). spent_is_no_slip q gone.1)
        (λ (else : (seat ≢ other) × (get_elem? s.views seat ≡ some (Slip q))). else.0 same)
        (at_set s.views other seat Spent (Slip q) z)

pub tell_joins : (more : List Entry) (id other : ℕ) (view gone : View) (u : StubsView) (p : SlipView) → id ≡ 0
    → view ≡ Stubs u → gone ≡ Slip p → u.held ≡ None → AreOf p.guest more
    → Joins Holds id view other gone (told_view more view gone) Spent
tell_joins more id other view gone u p zeroth is gone_is free of =
    subst (λ (z : ℕ × View × View). Joins Holds z.0 z.1 other z.2 (told_view more z.1 z.2) Spent)
    (λ j. (sym zeroth j, sym is j, sym gone_is j)) (tell_at more u other p free of)

-- ---- the slip that is held is out no more

take_at : (views : List View) (r : KeepsSlips views) (u : StubsView) (p : SlipView) → r.stubs ≡ u → u.held ≡ Some p
    → KeepsSlips (slice_set views 0 (Stubs (record u { out = slice_set u.out p.guest false; held = None })))
take_at views r u p e is_held =
    stubs_change views r (record u { out = slice_set u.out p.guest false; held = None }) tt
    (λ seat q at o. record {
      agrees = out_else u p.guest false None q
          (apart_of r.stubs.held p q (ap (λ z. z.held) e ∙ is_held) o.apart)
          (subst (λ v. AgreesWith v q) e o.agrees);
      apart = tt;
    })

pub take_allowed : (slots id i : ℕ) (me : Seated) (u : StubsView) (p : SlipView) → id ≡ 0 → me ≡ (Stubs u, [])
    → u.held ≡ Some p → Allows Holds slots id me i (λ n. n) (Takes (step slots i 0 0 none) me)
take_allowed slots id i me u p zeroth is is_held s r homes at bound =
    let here : get_elem? s.views 0 ≡ some (Stubs u) =
    ap (get_elem? s.views) (sym zeroth) ∙ (at ∙ ap (λ (z : Seated). some z.0) is) in
    let e = the_stubs s.views r u here in
    let fits : AgreesWith r.stubs p = subst (HeldFits r.stubs) (ap (λ z. z.held) e ∙ is_held) r.held in
    let says : p.lines ≡ lines_of p.guest u.told = fits.says ∙ ap (λ z. lines_of p.guest z.told) e in (
      Stubs (taking u),
      keeps,
      tt,
      subst (λ z. KeepsSlips (slice_set s.views z (Stubs (taking u)))) (sym zeroth)
          (subst (λ h. KeepsSlips (slice_set s.views 0
          (Stubs (record u { out = slice_set u.out (held_by h).guest false; held = None })))) (sym is_held)
          (take_at s.views r u p e is_held)),
      record {
        is = ap (λ (v : StubsView). (Stubs (taking v), me.1)) (sym (ap (λ (z : Seated). stubs_of z.0) is));
        says = subst (λ (z : Seated). (held_by (stubs_of z.0).held).lines
            ≡ lines_of (held_by (stubs_of z.0).held).guest (stubs_of z.0).told) (sym is)
            (subst (λ h. (held_by h).lines ≡ lines_of (held_by h).guest u.told) (sym is_held) says);
      },
    )
