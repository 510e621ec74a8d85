use Rattle.cfi_top.proofs.ReadyLemmas.{run_answered}
use Rattle.cfi_top.proofs.program.finish.Goals as goal

-- what the run comes to was delivered
pub returns-in-Ok : goal.returns-in-Ok
returns-in-Ok g c = record {
  ends = λ words before later is.
      c.told.ensures.ends words before later
      (run_answered words before _ c.args.ready c.in-Ok.answer is c.in-Ok.ensures);
}
