use Rattle.std.proofs.Common.{◌++◌, ◌∷◌, [], drop, ap, sym, ◌∙◌}
use Rattle.cfi_plan.specs.declared.journal.Entry.{Entry}
use Rattle.cfi_plan.specs.declared.journal.Who.{Who}
use Rattle.cfi_ledger.specs.Calls.{calls_after}
use Rattle.cfi_ledger.specs.Journal.{Minutes}
use Rattle.cfi_ledger.proofs.CallLemmas.{left_next}
use Rattle.cfi_ledger.proofs.journal.Journal.tell.Goals as goal

-- the call that was due was made
pub returns-in-Script : goal.returns-in-Script
returns-in-Script c =
    let entry : Entry = record { who = c.args.who; what = c.args.what } in
    record {
      lines_are =
          c.push_reserved.ensures.items ∙ ap (λ (m : Minutes). m.lines ++ entry ∷ []) c.self.view_is;
      left_are =
          left_next c.self.inside.calls.items c.self.inside.made
          ∙ ap (λ (m : Minutes). drop 1 m.left) c.self.view_is
          ∙ ap (λ (w : Who). calls_after w c.args.self.now.left) (sym c.in-Script.is);
    }
