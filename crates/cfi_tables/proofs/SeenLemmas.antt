-- What was seen stays true.
use Rattle.std.proofs.Common.{ℕ, ◌<◌, ◌≤◌, List, arith}
use mathlib.Core.List.{IsPrefix}
use Rattle.cfi_word.specs.Table.{Code}
use Rattle.cfi_model.specs.declared.history.Entry.{Entry}
use Rattle.cfi_model.specs.declared.history.Refusal.{Refusal}
use Rattle.cfi_model.specs.InForce.{GoesOn}
use Rattle.cfi_model.specs.Tables.{IsTables}
use Rattle.cfi_model.specs.TableMoments.{IsBy, moment_of}
use Rattle.cfi_model.specs.Words.{epoch_in_force, number_at}
use Rattle.cfi_model.proofs.InForceLemmas.{force_rises}
use Rattle.cfi_model.proofs.TableMomentLemmas.{by_trans}
use Rattle.cfi_tables.specs.Key.{Key}
use Rattle.cfi_tables.specs.Rule.{AgreesWith, IsSeen}
use Rattle.cfi_tables.specs.Views.{last_moment, tables_of}
use Rattle.cfi_tables.specs.declared.view.KeeperView.{KeeperView}
use Rattle.cfi_tables.specs.declared.view.Sight.{Sight}
use Rattle.cfi_tables.proofs.NowLemmas.{all_timed_more}
use Rattle.cfi_tables.proofs.Prefixes.{prefix_trans}

-- what the updater makes of the tables leaves true what was seen
pub record IsLater (k : Key) (old new : KeeperView) : Type 0 where
  pub tables : IsTables (tables_of k old)
  pub next : IsTables (tables_of k new)
  pub begins : IsPrefix old.entries new.entries
  pub refused : IsPrefix old.refusals new.refusals
  pub on : GoesOn (tables_of k old) (tables_of k new)
  pub moment : IsBy (moment_of (tables_of k old)) (moment_of (tables_of k new))
  pub code : (index : ℕ) → index < k.code_words
      → number_at (tables_of k old) (Code index) ≤ number_at (tables_of k new) (Code index)

pub agrees_on : (k : Key) (old new : List Entry) (before after : List Refusal) → IsPrefix old new
    → IsPrefix before after → (sight : Sight) → AgreesWith k old before sight → AgreesWith k new after sight
agrees_on k old new before after begins refused sight a = record {
  begins = prefix_trans sight.entries old new a.begins begins;
  refused = prefix_trans sight.refusals before after a.refused refused;
  timed = all_timed_more k old new begins sight.accesses a.timed;
  fair = a.fair;
}

module _ (k : Key) (old new : KeeperView) (later : IsLater k old new) where
  pub rises : epoch_in_force (tables_of k old) ≤ epoch_in_force (tables_of k new)
  rises = force_rises (tables_of k old) (tables_of k new) later.tables later.next later.on

  pub seen_stays : (sight : Sight) → IsSeen k old sight → IsSeen k new sight
  seen_stays sight seen = record {
    agrees = agrees_on k old.entries new.entries old.refusals new.refusals later.begins later.refused sight seen.agrees;
    on = record {
      had = prefix_trans sight.had old.entries new.entries seen.on.had later.begins;
      now = by_trans (last_moment k sight) (moment_of (tables_of k old)) (moment_of (tables_of k new)) seen.on.now
          later.moment;
      loads = seen.on.loads;
    };
    least = seen.least;
    latest = omega (arith, seen.latest, rises);
    code = λ index inside. omega (arith, seen.code index inside, later.code index inside);
  }
