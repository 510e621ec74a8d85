-- The loads of a pass are fair: a Tary word with the version of the Bary word that is kept has its epoch.
use Rattle.std.specs.Prelude.{ℕ, Option, None, List}
use Rattle.cfi_model.specs.declared.history.Access.{Access}
use Rattle.cfi_model.specs.Accesses.{kept_after}
use Rattle.cfi_model.specs.History.{History}
use Rattle.cfi_model.specs.InForce.{history_of}
use Rattle.cfi_tables.specs.Key.{Key}
use Rattle.cfi_tables.specs.Keeping.{opened_keeping}
use Rattle.cfi_tables.specs.Views.{idle_tables}

-- the history of an opening; of the history fairness has the number of versions alone
abbrev pub history_at : Key → History
history_at k = history_of (idle_tables k (opened_keeping k))

-- the Bary word that is kept after all of a pass's accesses
abbrev pub kept_of : Key → List Access → Option ℕ
kept_of k accesses = kept_after k.code_words None accesses
