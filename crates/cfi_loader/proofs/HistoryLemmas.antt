-- The tables of a ledger have the images of its policies, and a course goes on with each call.
use Rattle.std.proofs.Common.{ℕ, ◌-◌, [], ◌∷◌, refl, arith}
use Rattle.cfi_aux.specs.declared.modules.Module.{Module}
use Rattle.std.specs.Prelude.{List}
use Rattle.cfi_model.specs.History.{IsEpoch}
use Rattle.cfi_model.specs.InForce.{history_of}
use Rattle.cfi_model.specs.Words.{Tables, entry_at, no_entry}
use Rattle.cfi_plan.specs.declared.journal.Entry.{Entry}
use Rattle.cfi_plan.specs.declared.plan.Plan.{Plan}
use Rattle.cfi_tables.specs.Key.{Key}
use Rattle.cfi_tables.specs.Views.{idle_tables}
use Rattle.cfi_tables.proofs.TablesLemmas.{force_newest}
use Rattle.cfi_valid.specs.FromLaw.{HasPolicies}
use Rattle.cfi_valid.specs.Growth.{Continues}
use Rattle.cfi_valid.specs.Journal.{members_of}
use Rattle.cfi_loader.specs.Ledger.{Ledger, IsLedger}
use Rattle.cfi_ledger.specs.Policies.{IsEntryOf}
use Rattle.cfi_loader.specs.Told.{HasTold}

module _ (k : Key) (plan : Plan) (modules : List Module) (l : Ledger) (is : IsLedger k plan modules l) where
  abbrev t : Tables
  t = idle_tables k l.keeping

  entry_there : (epoch : ℕ) → IsEpoch (history_of t) epoch → IsEntryOf l.course (entry_at t (epoch - k.first))
  entry_there epoch known =
      is.told.images (epoch - k.first) no_entry
      (omega (arith, known.least, known.most, force_newest t refl, is.told.tables.some))

  pub have_policies : HasPolicies l.course.plan.code_words (members_of l.course.end) (history_of t)
  have_policies = record {
    modules = λ epoch known. (entry_there epoch known).is.modules;
    images = λ epoch known. (entry_there epoch known).is.image;
  }

pub goes_on : (k : Key) (entry : Entry) (old new : Ledger) → HasTold k entry old new → Continues old.course new.course
goes_on k entry old new told = record {
  plan = told.course.plan_is;
  modules = told.course.modules_are;
  more = entry ∷ [];
  journal = told.course.journal_is;
  leads = (new.course.end, told.course.leads, refl);
}
