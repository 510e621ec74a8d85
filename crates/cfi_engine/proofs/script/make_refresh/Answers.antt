use Rattle.cfi_engine.proofs.ScriptLemmas.{refresh_makes}
use Rattle.cfi_engine.proofs.script.make_refresh.Goals as goal

pub returns : goal.returns
returns g c =
    refresh_makes g.N.TableName.key c.args.loader.now c.refresh.new.self c.refresh.result c.refresh.ensures.ok
    c.refresh.ensures.fault
