use Rattle.cfi_engine.proofs.ScriptLemmas.{retire_makes}
use Rattle.cfi_engine.proofs.script.make_retirement.Goals as goal

pub returns : goal.returns
returns g c =
    retire_makes g.N.TableName.key c.args.number c.args.loader.now c.retire.new.self c.retire.result c.retire.ensures.ok
    c.retire.ensures.fault
