-- The steps by which the keeper holds a pass, and lets go of it, at its seat.
use Rattle.std.proofs.Common.{◌≡◌, ℕ, ◌+◌, ◌-◌, ◌<◌, ◌≤◌, false, List, [], length, slice_index, slice_set, Some, None, sym, ap, subst, ◌∙◌, arith}
use Rattle.std.proofs.lemmas.List.{set-get_or}
use mathlib.Core.Option.{none}
use Rattle.atomic_table.specs.Table.{Allows, step}
use Rattle.cfi_word.specs.declared.limits.TheConstants.{GUESTS}
use Rattle.cfi_word.specs.Rank.{stores_of}
use Rattle.cfi_word.specs.Table.{quiet_word}
use Rattle.cfi_model.specs.Tables.{IsTables}
use Rattle.cfi_tables.specs.Key.{Key}
use Rattle.cfi_tables.specs.Keeping.{heard_as, is_out}
use Rattle.cfi_tables.specs.Rule.{AgreesWith, HeldFits, IsHeldOut, KeepsRule, ShowQuiets, ShowTables}
use Rattle.cfi_tables.specs.Views.{held_by, keeper_of, keeping_of, noted, tables_of}
use Rattle.cfi_tables.specs.inner.Steps.{Clears, IsHeard, Registers, Seated, Tells, cleared, registered, told}
use Rattle.cfi_tables.specs.declared.view.KeeperView.{KeeperView}
use Rattle.cfi_tables.specs.declared.view.PassView.{PassView}
use Rattle.cfi_tables.specs.declared.view.View.TheVariants.{Keeper}
use Rattle.cfi_tables.proofs.KeptLemmas.{IsNext}
use Rattle.cfi_tables.proofs.StepLemmas.{keeper_moves}
use Rattle.cfi_tables.proofs.HoldLemmas.{clear_next, register_next, tell_next}

-- ---- the steps at the keeper's seat

pub back : (guest : ℕ) → quiet_word guest - 1 ≡ guest
back guest = omega arith

pub register_allowed : (k key : Key) (slots id i word guest : ℕ) (me : Seated) (u : KeeperView) → key ≡ k → id ≡ 0
    → me ≡ (Keeper u, []) → u.stored ≡ stores_of k.code_words → u.tested ≡ 0 → guest < GUESTS
    → is_out u.out guest ≡ false → i ≡ quiet_word guest → word ≡ k.first + length u.entries
    → Allows (KeepsRule key) slots id me i (λ _. word) (λ _. Registers k (step slots i word 0 none) me word)
register_allowed k key slots id i word guest me u same zeroth is idle untested few free word_at word_is =
    subst (λ j. Allows (KeepsRule key) slots id me j (λ _. word) (λ _. Registers k (step slots j word 0 none) me word))
    (sym word_at)
    (keeper_moves k key slots id (quiet_word guest) (λ _. word) me u
    (λ _. Registers k (step slots (quiet_word guest) word 0 none) me word) same zeroth is
    (λ s r e. (
      registered k guest u,
      subst (λ v. IsNext k s.words v (slice_set s.words (quiet_word guest) word) (registered k guest u)) (sym e)
          (register_next k s.words u (subst (λ v. IsTables (tables_of k v)) e r.tables) r.many
          (subst (ShowTables k s.words) e r.shows) (subst (ShowQuiets k s.words) e r.quiets) r.code idle untested guest
          word
          few free word_is),
      ap (λ g. (Keeper (registered k g u), [])) (sym (back guest))
          ∙ sym (ap (λ (z : Seated). (Keeper (registered k (quiet_word guest - 1) (keeper_of z.0)), z.1)) is),
    )))

-- a fact of the pass that the keeper holds
held_at : (k : Key) (words : List ℕ) (u v : KeeperView) (p : PassView) → v ≡ u → u.held ≡ Some p
    → HeldFits k words v v.held → IsHeldOut k words u p
held_at k words u v p same is fits =
    subst (HeldFits k words u) is (subst (λ z. HeldFits k words z z.held) same fits)

pub tell_allowed : (k key : Key) (slots id : ℕ) (me : Seated) (u : KeeperView) (p : PassView) → key ≡ k → id ≡ 0
    → me ≡ (Keeper u, []) → u.stored ≡ stores_of k.code_words → u.held ≡ Some p
    → Allows (KeepsRule key) slots id me 0 (λ n. n) (Tells k (step slots 0 0 0 none) me)
tell_allowed k key slots id me u p same zeroth is idle is_held =
    keeper_moves k key slots id 0 (λ n. n) me u (Tells k (step slots 0 0 0 none) me) same zeroth is
    (λ s r e.
    (let held = held_at k s.words u r.keeper p e is_held r.held in
    let next = tell_next k s.words u (subst (λ v. IsTables (tables_of k v)) e r.tables) r.many
    (subst (ShowTables k s.words) e r.shows) (subst (ShowQuiets k s.words) e r.quiets) r.code idle p held is_held in (
      told k u,
      subst (λ v. IsNext k s.words v (slice_set s.words 0 (slice_index s.words 0)) (told k u)) (sym e)
          (subst (λ words. IsNext k s.words u words (told k u)) (sym (set-get_or s.words 0 0))
          (subst (λ h. IsNext k s.words u s.words (record u {
            quiets = heard_as (held_by h).guest ((held_by h).quiet + 1) u.quiets;
            held = Some (noted k (keeping_of u) (held_by h));
          })) (sym is_held) next)),
      record {
        is = sym (ap (λ (z : Seated). (Keeper (told k (keeper_of z.0)), z.1)) is);
        agrees = subst (λ (z : Seated). AgreesWith k (keeper_of z.0).entries (keeper_of z.0).refusals
            (held_by (keeper_of z.0).held).sight) (sym is)
            (subst (λ h. AgreesWith k u.entries u.refusals (held_by h).sight) (sym is_held)
            held.registered.seen.agrees);
        heard = subst (λ (z : Seated). IsHeard (keeper_of z.0)) (sym is)
            (subst (λ h. slice_index u.quiets.heard (held_by h).guest ≤ (held_by h).quiet + 1) (sym is_held)
            held.registered.heard);
      },
    )))

pub clear_allowed : (k key : Key) (slots id i : ℕ) (me : Seated) (u : KeeperView) (p : PassView) → key ≡ k → id ≡ 0
    → me ≡ (Keeper u, []) → u.stored ≡ stores_of k.code_words → u.held ≡ Some p → i ≡ quiet_word p.guest
    → Allows (KeepsRule key) slots id me i (λ _. 0) (λ _. Clears k (step slots i 0 0 none) me 0)
clear_allowed k key slots id i me u p same zeroth is idle is_held word_at =
    subst (λ j. Allows (KeepsRule key) slots id me j (λ _. 0) (λ _. Clears k (step slots j 0 0 none) me 0))
    (sym word_at)
    (keeper_moves k key slots id (quiet_word p.guest) (λ _. 0) me u
    (λ _. Clears k (step slots (quiet_word p.guest) 0 0 none) me 0) same zeroth is
    (λ s r e.
    (let held = held_at k s.words u r.keeper p e is_held r.held in
    let next = clear_next k s.words u (subst (λ v. IsTables (tables_of k v)) e r.tables) r.many
    (subst (ShowTables k s.words) e r.shows) (subst (ShowQuiets k s.words) e r.quiets) r.code idle p held is_held in (
      cleared u,
      subst (λ v. IsNext k s.words v (slice_set s.words (quiet_word p.guest) 0) (cleared u)) (sym e)
          (subst (λ h. IsNext k s.words u (slice_set s.words (quiet_word p.guest) 0)
          (record u {
            out = slice_set u.out (held_by h).guest false;
            quiets = heard_as (held_by h).guest 0 u.quiets;
            held = None;
          })) (sym is_held) next),
      record {
        is = sym (ap (λ (z : Seated). (Keeper (cleared (keeper_of z.0)), z.1)) is);
        agrees = subst (λ (z : Seated). AgreesWith k (keeper_of z.0).entries (keeper_of z.0).refusals
            (held_by (keeper_of z.0).held).sight) (sym is)
            (subst (λ h. AgreesWith k u.entries u.refusals (held_by h).sight) (sym is_held)
            held.registered.seen.agrees);
        heard = subst (λ (z : Seated). IsHeard (keeper_of z.0)) (sym is)
            (subst (λ h. slice_index u.quiets.heard (held_by h).guest ≤ (held_by h).quiet + 1) (sym is_held)
            held.registered.heard);
      },
    ))))
