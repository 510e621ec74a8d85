use Rattle.std.proofs.Common.{◌∙◌, Some, sym, ap}
use Rattle.cfi_ledger.specs.Calls.{call_due}
use Rattle.cfi_engine.proofs.ScriptLemmas.{due_known}
use Rattle.cfi_valid.specs.Script.{Load, Retire}
use Rattle.cfi_engine.proofs.script.make_next.Goals as goal

pub make_load-requires-clause-known : goal.make_load-requires-clause-known
make_load-requires-clause-known g c =
    due_known g.N.TableName.key g.N.LoaderName.plan g.N.LoaderName.modules c.args.loader.now
    (Load c.in-Some-Load.number) c.in-Some-Load.ensures.law
    (sym c.in-Some-Load.ensures.next ∙ ap (λ d. Some (call_due d)) c.in-Some-Load.field-0-is)

pub make_retirement-requires-clause-known : goal.make_retirement-requires-clause-known
make_retirement-requires-clause-known g c =
    due_known g.N.TableName.key g.N.LoaderName.plan g.N.LoaderName.modules c.args.loader.now
    (Retire c.in-Some-Retire.number) c.in-Some-Retire.ensures.law
    (sym c.in-Some-Retire.ensures.next ∙ ap (λ d. Some (call_due d)) c.in-Some-Retire.field-0-is)
