-- A ledger stays one with a line more.
use Rattle.std.proofs.Common.{◌≡◌, ◌++◌, List, [], ◌∷◌, refl, sym, ap, subst, ◌∙◌}
use Rattle.cfi_aux.specs.declared.modules.Module.{Module}
use Rattle.cfi_plan.specs.declared.journal.Entry.{Entry}
use Rattle.cfi_plan.specs.declared.journal.JournalLine.{JournalLine}
use Rattle.cfi_plan.specs.declared.journal.Who.{Who}
use Rattle.cfi_plan.specs.declared.journal.Who.TheVariants.{Script, Guest}
use Rattle.cfi_plan.specs.declared.plan.Plan.{Plan}
use Rattle.cfi_tables.specs.Key.{Key}
use Rattle.cfi_valid.specs.Course.{Course}
use Rattle.cfi_valid.specs.Growth.{IsLater}
use Rattle.cfi_valid.specs.Journal.{IsJournal}
use Rattle.cfi_valid.specs.Script.{Call, call_of, made_by_script, script_calls}
use Rattle.cfi_valid.proofs.GrowthLemmas.{along_later}
use Rattle.cfi_valid.proofs.JournalLemmas.{along_more}
use Rattle.cfi_ledger.specs.Calls.{calls_after}
use Rattle.cfi_loader.specs.Ledger.{Ledger, IsLedger, TellsOf}
use Rattle.cfi_ledger.specs.Policies.{HavePolicies}
use Rattle.cfi_ledger.specs.Entries.{HaveEntries}
use Rattle.cfi_ledger.specs.Plans.{CanStart}
use Rattle.cfi_loader.specs.Plans.{AreTablesOf}
use Rattle.cfi_ledger.specs.Journal.{asked_by}
use Rattle.cfi_loader.specs.Told.{GoesOnBy, MayAskFor, HasTold}
use Rattle.cfi_loader.proofs.JournalLemmas.{IsNext, script_more}
use Rattle.cfi_ledger.proofs.PolicyLemmas.{entries_stay}

module _ (entry : Entry) (old new : Course) (goes : GoesOnBy entry old new) where
  -- the state is a later one
  pub goes_later : IsLater old.end new.end
  goes_later = along_later old.plan old.modules old.end new.end (entry ∷ []) (new.end, goes.leads, refl)

  -- the journal is one
  course_more : IsJournal old.plan old.modules old.journal old.end → IsJournal new.plan new.modules new.journal new.end
  course_more is =
      let more : IsJournal old.plan old.modules (old.journal ++ entry ∷ []) new.end = record {
        opening = is.opening;
        opens = is.opens;
        leads = along_more old.plan old.modules is.opening old.journal entry old.end new.end is.leads goes.leads;
      } in
      subst (λ (p : Plan). IsJournal p new.modules new.journal new.end) (sym goes.plan_is)
      (subst (λ (ms : List Module). IsJournal old.plan ms new.journal new.end) (sym goes.modules_are)
      (subst (λ (lines : List Entry). IsJournal old.plan old.modules lines new.end) (sym goes.journal_is) more))

  can_start_more : CanStart old.plan old.modules → CanStart new.plan new.modules
  can_start_more can =
      subst (λ (p : Plan). CanStart p new.modules) (sym goes.plan_is)
      (subst (λ (ms : List Module). CanStart old.plan ms) (sym goes.modules_are) can)

next_of : (l : Ledger) (who : Who) (call : Call) → MayAskFor l who call → IsNext who l.left call
next_of l Script call asks = asks
next_of l (Guest number) call asks = tt

pub ledger_more : (k : Key) (plan : Plan) (modules : List Module) (who : Who) (what : JournalLine) (old new : Ledger)
    → IsLedger k plan modules old → MayAskFor old who (call_of what) → HasTold k (asked_by who what) old new
    → HavePolicies old.course.plan new.course.end → TellsOf k new.course new.keeping → IsLedger k plan modules new
ledger_more k plan modules who what old new is asks told policies tells =
    let entry = asked_by who what in
    let goes = told.course in
    let script : made_by_script (old.course.journal ++ entry ∷ []) ++ calls_after who old.left
    ≡ script_calls old.course.plan.script =
    script_more old.course.journal who what old.left (script_calls old.course.plan.script)
    (next_of old who (call_of what) asks) is.script in
    record {
      plan_is = goes.plan_is ∙ is.plan_is;
      modules_are = goes.modules_are ∙ is.modules_are;
      can_start = can_start_more entry old.course new.course goes is.can_start;
      tables_are = subst (λ (p : Plan). AreTablesOf p k) (sym goes.plan_is) is.tables_are;
      course = course_more entry old.course new.course goes is.course;
      policies = subst (λ (p : Plan). HavePolicies p new.course.end) (sym goes.plan_is) policies;
      entries = subst (λ (p : Plan). HaveEntries p new.course.end.loaded) (sym goes.plan_is)
          (entries_stay old.course.plan old.course.end new.course.end
          (goes_later entry old.course new.course goes) is.entries);
      told = tells;
      script =
          ap (λ (lines : List Entry). made_by_script lines ++ new.left) goes.journal_is
          ∙ ap (λ (calls : List Call). made_by_script (old.course.journal ++ entry ∷ []) ++ calls) told.left
          ∙ script
          ∙ ap (λ (p : Plan). script_calls p.script) (sym goes.plan_is);
    }
