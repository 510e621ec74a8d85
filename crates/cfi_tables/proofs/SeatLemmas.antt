-- Seats that come and go keep the rule.
use Rattle.std.proofs.Common.{◌≡◌, ◌≢◌, ⊎_elim, ℕ, zero, suc, List, [], ◌∷◌, ◌++◌, slice_set, Some, None, refl, sym, ap, subst, ◌∙◌}
use mathlib.Core.Option.{some}
use lib.ListN.{get_elem?}
use Rattle.atomic_table.specs.Table.{Joins, Splits}
use Rattle.atomic_table.proofs.Lists.{at_set, set_again, set_else}
use Rattle.cfi_tables.specs.Key.{Key}
use Rattle.cfi_tables.specs.Rule.{HeldFits, IsElse, IsHeldOut, KeepsRule}
use Rattle.cfi_tables.specs.Views.{held_by}
use Rattle.cfi_tables.specs.inner.Steps.{left_view, returned_view, seat_view}
use Rattle.cfi_tables.specs.declared.view.KeeperView.{KeeperView}
use Rattle.cfi_tables.specs.declared.view.PassView.{PassView}
use Rattle.cfi_tables.specs.declared.view.View.{View}
use Rattle.cfi_tables.specs.declared.view.View.TheVariants.{Keeper, Pass, Spent}
use Rattle.cfi_tables.proofs.KeptLemmas.{Shared, keeper_changes, keeper_is_no_pass, old_pass, pass_comes, spends, spent_comes, the_keeper, with}
use Rattle.cfi_tables.proofs.HoldLemmas.{registered_same}

-- ---- the pass that is held gets a seat

leave_at : (k : Key) (u : KeeperView) (p : PassView) → u.held ≡ Some p
    → Splits (KeepsRule k) 0 (Keeper u) (Keeper (record u { held = None })) (Pass p)
unfolding keeper_changes
leave_at k u p is_held s r at =
    let e = the_keeper k s r u at in
    let v : KeeperView = r.keeper in
    let fits : IsHeldOut k s.words v p = subst (HeldFits k s.words v) (ap (λ z. z.held) e ∙ is_held) r.held in
    let apart : (guest : ℕ) → IsElse v.held guest → p.guest ≢ guest =
    (λ guest else. subst (λ h. IsElse h guest) (ap (λ z. z.held) e ∙ is_held) else) in
    let new : KeeperView = record v { held = None } in
    let kept = keeper_changes k s r s.words new r.tables r.many r.shows
    (record {
      out_many = r.quiets.out_many;
      quiets_many = r.quiets.quiets_many;
      later = r.quiets.later;
      away = r.quiets.away;
      tells = r.quiets.tells;
    }) r.code tt
    (λ seat q there o. record {
      registered = registered_same k v v.out v.quiets None q o.registered o.registered.out o.registered.heard;
      published = o.published;
      apart = tt;
    }) in
    subst (λ z. KeepsRule k (with s s.words (slice_set s.views 0 (Keeper (record z { held = None })) ++ Pass p ∷ []))) e
    (pass_comes k (with s s.words (slice_set s.views 0 (Keeper new))) kept p
    (record {
      registered = registered_same k v v.out v.quiets None p fits.registered fits.registered.out fits.registered.heard;
      published = fits.published;
      apart = tt;
    })
    (λ seat q there same.
    apart q.guest (r.apart seat q (old_pass s.views 0 seat (Keeper new) q (keeper_is_no_pass new) there)) (sym same)))

pub leave_splits : (k key : Key) (id : ℕ) (view : View) (u : KeeperView) (p : PassView) → key ≡ k → id ≡ 0
    → view ≡ Keeper u → u.held ≡ Some p → Splits (KeepsRule key) id view (left_view view) (seat_view view)
leave_splits k key id view u p same zeroth is is_held =
    subst (λ (z : Key × ℕ × View). Splits (KeepsRule z.0) z.1 z.2 (left_view z.2) (seat_view z.2))
    (λ j. (sym same j, sym zeroth j, sym is j))
    (subst (λ h. Splits (KeepsRule k) 0 (Keeper u) (Keeper (record u { held = None })) (Pass (held_by h))) (sym is_held)
    (leave_at k u p is_held))

-- ---- a seat for no one

pub vacate_splits : (k key : Key) (id : ℕ) (view : View) → key ≡ k → Splits (KeepsRule key) id view view Spent
vacate_splits k key id view same =
    subst (λ z. Splits (KeepsRule z) id view view Spent) (sym same)
    (λ s r at. subst (λ views. KeepsRule k (with s s.words (views ++ Spent ∷ []))) (sym (set_again s.views id view at))
    (spent_comes k s r))

-- ---- a pass gives up its seat

set_swap : {A : Type 0} (xs : List A) (i j : ℕ) (a b : A) → i ≢ j
    → slice_set (slice_set xs i a) j b ≡ slice_set (slice_set xs j b) i a
set_swap [] i j a b apart = refl
set_swap (x ∷ xs) zero zero a b apart = absurd (apart refl)
set_swap (x ∷ xs) zero (suc j) a b apart = refl
set_swap (x ∷ xs) (suc i) zero a b apart = refl
set_swap (x ∷ xs) (suc i) (suc j) a b apart = ap (λ l. x ∷ l) (set_swap xs i j a b (λ e. apart (ap suc e)))

return_at : (k : Key) (u : KeeperView) (other : ℕ) (p : PassView) → u.held ≡ None
    → Joins (KeepsRule k) 0 (Keeper u) other (Pass p) (Keeper (record u { held = Some p })) Spent
unfolding spends
return_at k u other p free s r at apart there =
    let e = the_keeper k s r u at in
    let v : KeeperView = r.keeper in
    let here : get_elem? s.views other ≡ some (Pass p) =
    sym (set_else s.views 0 other (Keeper (record u { held = Some p })) apart) ∙ there in
    let new : KeeperView = record v { held = Some p } in
    let spent : Shared = with s s.words (slice_set s.views other Spent) in
    let left = spends k s r other apart in
    let registered = r.seats other (Pass p) here in
    let was : (seat : ℕ) (q : PassView) → get_elem? (slice_set s.views other Spent) seat ≡ some (Pass q)
    → get_elem? s.views seat ≡ some (Pass q) = λ seat q z. old_pass s.views other seat Spent q spent_is_no_pass z in
    let kept = keeper_changes k spent left s.words new r.tables r.many r.shows
    (record {
      out_many = r.quiets.out_many;
      quiets_many = r.quiets.quiets_many;
      later = r.quiets.later;
      away = r.quiets.away;
      tells = r.quiets.tells;
    }) r.code
    (record {
      registered = registered_same k v v.out v.quiets (Some p) p registered registered.out registered.heard;
      published = r.published other p here;
    })
    (λ seat q at_seat o. record {
      registered = registered_same k v v.out v.quiets (Some p) q o.registered o.registered.out o.registered.heard;
      published = o.published;
      apart = λ same. not_spent seat q at_seat (r.alone seat other q p (was seat q at_seat) here (sym same));
    }) in
    subst (λ views. KeepsRule k (with s s.words views))
    (set_swap s.views other 0 Spent (Keeper (record u { held = Some p })) apart)
    (subst (λ z. KeepsRule k
    (with s s.words (slice_set (slice_set s.views other Spent) 0 (Keeper (record z { held = Some p }))))) e kept)
  where
    spent_is_no_pass : (q : PassView) → Spent ≢ Pass q
    spent_is_no_pass q e = absurd (cc)

    -- the seat that was given up is no pass's
    not_spent : (seat : ℕ) (q : PassView) → get_elem? (slice_set s.views other Spent) seat ≡ some (Pass q)
        → seat ≢ other
    not_spent seat q z same = ⊎_elim
        (λ (gone : (seat ≡ other) × (Spent ≡ Pass q)). spent_is_no_pass q gone.1)
        (λ (else : (seat ≢ other) × (get_elem? s.views seat ≡ some (Pass q))). else.0 same)
        (at_set s.views other seat Spent (Pass q) z)

pub return_joins : (k key : Key) (id other : ℕ) (view gone : View) (u : KeeperView) (p : PassView) → key ≡ k → id ≡ 0
    → view ≡ Keeper u → gone ≡ Pass p → u.held ≡ None
    → Joins (KeepsRule key) id view other gone (returned_view view gone) Spent
return_joins k key id other view gone u p same zeroth is gone_is free =
    subst (λ (z : Key × ℕ × View × View). Joins (KeepsRule z.0) z.1 z.2 other z.3 (returned_view z.2 z.3) Spent)
    (λ j. (sym same j, sym zeroth j, sym is j, sym gone_is j)) (return_at k u other p free)
