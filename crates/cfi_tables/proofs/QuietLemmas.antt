-- QUIET words of guests that are parked, and of guests that are not.
use Rattle.std.proofs.Common.{◌≡◌, ◌≢◌, ℕ, zero, suc, ◌+◌, ◌-◌, ◌==◌, ◌<◌, ◌≤◌, Bool, true, false, cond, refl, sym, ap, subst, ◌∙◌, arith}
use Rattle.std.proofs.lemmas.Bool.{eqb-true, eqb-false, ne_eqb, true≢false}
use Rattle.cfi_model.specs.declared.quiet.Quiet.TheVariants.{Parked, Published}
use Rattle.cfi_model.specs.declared.quiet.TheConstants.{PARKED}
use Rattle.cfi_model.specs.Quiet.{admits, quiet_in, quiet_word_of}
use Rattle.cfi_model.specs.Tables.{IsTables}
use Rattle.cfi_model.specs.Words.{epoch_in_force, is_stored}
use Rattle.cfi_model.proofs.TableLemmas.{force_epoch, number_within}
use Rattle.cfi_word.specs.declared.limits.TheConstants.{MAX_EPOCH}
use Rattle.cfi_word.specs.Table.{Epoch}
use Rattle.cfi_tables.specs.Key.{Key}
use Rattle.cfi_tables.specs.Keeping.{heard_in}
use Rattle.cfi_tables.specs.Rule.{IsRegistered}
use Rattle.cfi_tables.specs.Views.{tables_of, word_of_pass}
use Rattle.cfi_tables.specs.declared.view.KeeperView.{KeeperView}
use Rattle.cfi_tables.specs.declared.view.PassView.{PassView}

-- ---- what a word tells

-- a word tells what it is
pub told_back : (word : ℕ) → word ≡ quiet_word_of (quiet_in word)
told_back zero = refl
told_back (suc epoch) = by (suc epoch == PARKED) refl
  where
    by : (is : Bool) → (suc epoch == PARKED) ≡ is
        → suc epoch ≡ quiet_word_of (cond is Parked (Published epoch))
    by true e = eqb-true (suc epoch) PARKED e
    by false e = omega arith

-- one that does not admit an update tells an epoch
pub told_some : (versions epoch word : ℕ) → admits versions epoch (quiet_in word) ≡ false
    → (word ≡ word - 1 + 1) × (admits versions epoch (Published (word - 1)) ≡ false)
told_some versions epoch zero spent = absurd (true≢false spent)
told_some versions epoch (suc quiet) spent = by (suc quiet == PARKED) refl
  where
    same : quiet ≡ suc quiet - 1
    same = omega arith

    by : (is : Bool) → (suc quiet == PARKED) ≡ is
        → (suc quiet ≡ suc quiet - 1 + 1) × (admits versions epoch (Published (suc quiet - 1)) ≡ false)
    by true e =
        absurd (true≢false
        (ap (λ (b : Bool). admits versions epoch (cond b Parked (Published quiet))) (sym e) ∙ spent))
    by false e = (
      omega arith,
      subst (λ (q : ℕ). admits versions epoch (Published q) ≡ false) same
          (ap (λ (b : Bool). admits versions epoch (cond b Parked (Published quiet))) (sym e) ∙ spent),
    )

-- and a word that tells an epoch admits what this admits
pub told_admits : (versions epoch quiet : ℕ) → suc quiet < PARKED → admits versions epoch (quiet_in (suc quiet)) ≡ true
    → admits versions epoch (Published quiet) ≡ true
told_admits versions epoch quiet less ok =
    ap (λ (b : Bool). admits versions epoch (cond b Parked (Published quiet)))
    (sym (ne_eqb (suc quiet) PARKED (λ e. omega (arith, e, less)))) ∙ ok

-- ---- what is known of a guest, once its word was loaded

pub heard_of_word : (P : ℕ → Type 0) (word before : ℕ) → P before → (word ≢ PARKED → P word)
    → P (heard_in word before)
heard_of_word P word before old new = by (word == PARKED) refl
  where
    by : (is : Bool) → (word == PARKED) ≡ is → P (cond is before word)
    by true e = old
    by false e = new (eqb-false word PARKED e)

-- ---- the word of a pass's guest

pub word_inside : (p : PassView) → p.parked ≡ true → word_of_pass p ≡ PARKED
word_inside p inside = ap (λ (b : Bool). cond b PARKED (p.quiet + 1)) inside

pub word_outside : (p : PassView) → p.parked ≡ false → word_of_pass p ≡ p.quiet + 1
word_outside p outside = ap (λ (b : Bool). cond b PARKED (p.quiet + 1)) outside

-- it is the parked number, or tells the epoch
pub word_either : (p : PassView) (P : ℕ → Type 0) → P PARKED → (p.parked ≡ false → P (p.quiet + 1))
    → P (word_of_pass p)
word_either p P inside outside = by p.parked refl
  where
    by : (is : Bool) → p.parked ≡ is → P (cond is PARKED (p.quiet + 1))
    by true e = inside
    by false e = outside e

pub word_some : (p : PassView) → word_of_pass p ≢ 0
word_some p = word_either p (λ n. n ≢ 0) (λ e. omega (arith, e)) (λ outside e. omega (arith, e))

-- no epoch is so great that its word is the parked number
pub force_most : (k : Key) (u : KeeperView) → IsTables (tables_of k u) → epoch_in_force (tables_of k u) ≤ MAX_EPOCH
force_most k u is =
    omega (
      arith,
      force_epoch (tables_of k u) is,
      number_within (tables_of k u) is (is_stored (tables_of k u) Epoch),
      is.epochs_fit,
    )

pub quiet_small : (k : Key) (u : KeeperView) → IsTables (tables_of k u) → (p : PassView) → IsRegistered k u p
    → p.quiet + 1 < PARKED
quiet_small k u is p r = omega (arith, r.published, r.seen.latest, force_most k u is)

-- and so the guest's word is not below that of what it has published
pub word_least : (p : PassView) → p.quiet + 1 < PARKED → p.quiet + 1 ≤ word_of_pass p
word_least p small = word_either p (λ n. p.quiet + 1 ≤ n) (omega (arith, small)) (λ outside. omega arith)
