use Rattle.cfi_engine.proofs.ScriptLemmas.{load_makes}
use Rattle.cfi_engine.proofs.script.make_load.Goals as goal

pub returns : goal.returns
returns g c =
    load_makes g.N.TableName.key c.args.number c.args.loader.now c.load.new.self c.load.result c.load.ensures.ok
    c.load.ensures.fault
