-- Which policy is in force while a check tries.
use Rattle.std.proofs.Common.{◌≡◌, ℕ, ◌-◌, ◌<◌, sym, ap, ◌∙◌, arith}
use Rattle.cfi_word.specs.Table.{Tary, Bary}
use Rattle.cfi_word.specs.Word.{epoch_in}
use Rattle.cfi_model.specs.InForce.{in_force, history_of}
use Rattle.cfi_model.specs.TableMoments.{IsInForce}
use Rattle.cfi_model.specs.Words.{Tables, entry_at, epoch_in_force, policy_in_force, word_at}
use Rattle.cfi_model.proofs.InForceLemmas.{force_rises, bary_epoch, tary_epoch, force_within}
use Rattle.cfi_model.proofs.TableLemmas.{force_epoch, force_policy}
use Rattle.cfi_model_law.specs.Force.{AreMoments}

module _ (early mid late : Tables) (are : AreMoments early mid late) (epoch slot index : ℕ)
    (inside : index < late.code_words) (bary : epoch_in (word_at early (Bary slot)) ≡ epoch)
    (tary : epoch_in (word_at late (Tary index)) ≡ epoch) where
  epoch_is : epoch_in_force mid ≡ epoch
  epoch_is =
      let known = (bary_epoch early are.early_is slot).0 in
      let latest = (tary_epoch late are.late_is index inside).0 in
      let first = force_rises early mid are.early_is are.mid_is are.first in
      let then = force_rises mid late are.mid_is are.late_is are.then in
      omega (arith, known, latest, first, then, bary, tary)

  number_is : in_force mid ≡ epoch - late.first
  number_is = omega (arith, force_epoch mid are.mid_is, epoch_is, are.then.first)

  policy_is : policy_in_force mid ≡ (history_of late).policy epoch
  policy_is =
      let same = are.then.entries (in_force mid) (force_within mid are.mid_is) in
      force_policy mid are.mid_is ∙ ap (λ e. e.policy) (sym same)
      ∙ ap (λ n. (entry_at late n).policy) number_is

  pub held : IsInForce mid epoch ((history_of late).policy epoch)
  held = record { epoch_is = epoch_is; policy_is = policy_is }
