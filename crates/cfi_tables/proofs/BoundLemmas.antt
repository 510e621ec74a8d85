-- The bounds on a pass that is not parked.
use Rattle.std.proofs.Common.{◌≢◌, ℕ, ◌+◌, ◌-◌, ◌*◌, ◌<◌, ◌≤◌, nat_lt, cond, length, Some, arith}
use Rattle.std.proofs.lemmas.Bool.Decides.{nat_tests}
use Rattle.cfi_word.specs.Table.{Epoch, Bary}
use Rattle.cfi_model.specs.Tables.{IsTables}
use Rattle.cfi_model.specs.Words.{epoch_in_force, is_stored, next_epoch, number_at}
use Rattle.cfi_model.proofs.TableLemmas.{force_epoch, number_within}
use Rattle.cfi_tables.specs.Fair.{kept_of}
use Rattle.cfi_tables.specs.Key.{Key}
use Rattle.cfi_tables.specs.Rule.{IsBounded}
use Rattle.cfi_tables.specs.Views.{tables_of}
use Rattle.cfi_tables.specs.declared.view.KeeperView.{KeeperView}
use Rattle.cfi_tables.specs.declared.view.PassView.{PassView}

-- where the Bary words are not of earlier epochs than before, and no update has come too far above the floor
pub bounded_stays : (k : Key) (old new : KeeperView) (p : PassView) (b : IsBounded k old p)
    → ((slot : ℕ) → number_at (tables_of k old) (Bary slot) ≤ number_at (tables_of k new) (Bary slot))
    → next_epoch (tables_of k new) ≤ b.floor + k.versions
    → (p.guest < new.tested → next_epoch (tables_of k new) + 1 ≤ b.floor + k.versions)
    → IsBounded k new p
bounded_stays k old new p b up newest next = record {
  floor = b.floor;
  published = b.published;
  stored = λ slot inside. omega (arith, b.stored slot inside, up slot);
  kept = λ word e. (let kept = b.kept word e in record { least = kept.least; most = kept.most });
  newest = newest;
  next = next;
}

-- each word is of the newest entry or of the one before
number_least : (n r s : ℕ) → n - 2 ≤ cond (nat_lt r s) (n - 1) (n - 2)
number_least n r s = grind (arith, nat_tests)

-- with no Bary word kept, what is or was in force may have been published: the floor is the epoch before the newest
pub bounded_now : (k : Key) (u : KeeperView) → IsTables (tables_of k u) → (p : PassView)
    → p.quiet ≤ epoch_in_force (tables_of k u) → ((word : ℕ) → kept_of k p.sight.accesses ≢ Some word)
    → IsBounded k u p
bounded_now k u is p quiet bare =
    let n : ℕ = length u.entries in
    let force = force_epoch (tables_of k u) is in
    let within = number_within (tables_of k u) is (is_stored (tables_of k u) Epoch) in
    record {
      floor = k.first + (n - 2);
      published = omega (arith, quiet, force, within);
      stored = λ slot inside. omega (arith, number_least n (2 * k.code_words + 1 + slot) u.stored);
      kept = λ word e. absurd (bare word e);
      newest = omega (arith, is.versions_least);
      next = λ tested. omega (arith, is.versions_least);
    }
