use Rattle.std.specs.Prelude.{◌≡◌, List}
use Rattle.cfi_ledger.specs.Roster.{loaded_in_roster}
use Rattle.cfi_valid.specs.Loaded.{LoadedModule}
use Rattle.cfi_judge.specs.inner.Meets.{HasLive}
use Rattle.cfi_judge.proofs.RowLemmas.{IsRowTo}
use Rattle.cfi_judge.proofs.rows.row_of.Given as goal

-- the modules so far have their meetings, and the roster is as it was
abbrev pub invariant-loop-number : goal.invariant-loop-number
invariant-loop-number l = record {
  same : l.roster ≡ l.fn.roster;
  row : (live : List LoadedModule) → HasLive l.fn.roster live
      → IsRowTo l.fn.roster.code_words l.modules (loaded_in_roster l.fn.roster) live l.number l.row.items;
}
