-- The history of a ledger's tables is that of its course.
use Rattle.std.proofs.Common.{◌≡◌, ℕ, ◌+◌, ◌-◌, List, [], length, slice_index_or, refl, sym, ap, subst, ◌∙◌, arith}
use Rattle.cfi_aux.specs.declared.modules.Module.{Module}
use Rattle.cfi_loader.specs.Ledger.{Ledger, IsLedger}
use Rattle.cfi_ledger.specs.Policies.{IsEntryOf}
use Rattle.cfi_ledger.proofs.EntryLemmas.{loaded_all}
use Rattle.cfi_ledger.proofs.PolicyLemmas.{policies_below}
use Rattle.cfi_model.specs.declared.history.Entry.{Entry as TableEntry}
use Rattle.cfi_model.specs.History.{History, IsEpoch}
use Rattle.cfi_model.specs.Words.{no_entry}
use Rattle.cfi_guest_part.specs.Ran.{IsHistoryOf}
use Rattle.cfi_plan.specs.declared.plan.Plan.{Plan}
use Rattle.cfi_policy.specs.Code.{IsCodeOf}
use Rattle.cfi_runner.proofs.OpenedLemmas.{all_sight}
use Rattle.cfi_runner.proofs.SeenLemmas.{seen_history}
use Rattle.cfi_valid.specs.Journal.{members_of}
use Rattle.cfi_tables.specs.Key.{Key}
use Rattle.cfi_tables.specs.Views.{sight_of}
use Rattle.cfi_valid.specs.FromLaw.{HasPolicies}
use Rattle.cfi_valid.specs.Loaded.{LoadedModule, loaded_by, placed_modules}
use Rattle.cfi_guest_run.specs.Ending.{code_by, history_by, tables_by}

-- the number of the last entry
last_number : (first len : ℕ) → first + (len - 1) - first ≡ len - 1
last_number first len = omega arith

module _ (k : Key) (plan : Plan) (modules : List Module) (l : Ledger) (is : IsLedger k plan modules l) where
  abbrev h : History
  h = history_by k l

  abbrev loaded : List LoadedModule
  loaded = l.course.end.loaded

  abbrev entry_of : (number : ℕ) → TableEntry
  entry_of number = slice_index_or l.keeping.entries number no_entry

  entry_there : (epoch : ℕ) → IsEpoch h epoch → IsEntryOf l.course (entry_of (epoch - k.first))
  entry_there epoch known =
      is.told.images (epoch - k.first) no_entry (omega (arith, known.least, known.most, is.told.tables.some))

  policies : HasPolicies l.course.plan.code_words (members_of l.course.end) h
  policies = record {
    modules = λ epoch known. (entry_there epoch known).is.modules;
    images = λ epoch known. (entry_there epoch known).is.image;
  }

  -- the last entry has the code of all
  last_code : IsCodeOf (placed_modules loaded) l.course.plan.code_words
      (entry_of (length l.keeping.entries - 1)).image.code
  last_code =
      let last = is.told.images (length l.keeping.entries - 1) no_entry (omega (arith, is.told.tables.some)) in
      let all : loaded_by (entry_of (length l.keeping.entries - 1)).policy loaded ≡ loaded =
      ap (λ (n : ℕ). loaded_by n loaded) (sym is.told.policy)
      ∙ loaded_all l.course.end.policy loaded (policies_below l.course.plan l.course.end is.policies) in
      subst
      (λ (ls : List LoadedModule). IsCodeOf (placed_modules ls) l.course.plan.code_words
      (entry_of (length l.keeping.entries - 1)).image.code) all last.is.image.1.code

  -- the code in force is that of the last entry's image
  code_many : length (code_by k l) ≡ k.code_words
  code_many =
      let last = length l.keeping.entries - 1 in
      ap (λ (n : ℕ). length (entry_of n).image.code) (last_number k.first (length l.keeping.entries))
      ∙ (is.told.tables.closed last (omega (arith, is.told.tables.some))).1.classes.code_length

  pub history_is : IsHistoryOf l.course (tables_by k l) h (code_by k l)
  history_is = record {
    tables = is.told.tables;
    of_tables = record { code_words = code_many; first = refl; policy = λ epoch. refl };
    known = seen_history k (sight_of k l.keeping []) (all_sight k l.keeping [] is.told.tables);
    is_code = subst
        (λ (n : ℕ). IsCodeOf (placed_modules loaded) l.course.plan.code_words (entry_of n).image.code)
        (sym (last_number k.first (length l.keeping.entries))) last_code;
    policies = policies;
    first = is.tables_are.first;
    force = omega (arith, is.told.epoch, is.told.tables.some);
    ahead = omega (arith, is.told.tables.some);
    versions = is.tables_are.versions;
  }
