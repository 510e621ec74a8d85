use Rattle.cfi_guest_run.proofs.PointLemmas.{runner_point}
use Rattle.cfi_guest_run.proofs.RunLemmas.{runner_paused}
use Rattle.cfi_guest_run.proofs.SeesLemmas.{runner_on}
use Rattle.cfi_guest_run.proofs.ServeLemmas.{runner_served}
use Rattle.cfi_guest_run.proofs.laws.runners_go_on.Goals as goal

pub returns-clause-sights : goal.returns-clause-sights
returns-clause-sights c = λ k plan modules p q r on is outside was. record {
  ledger = was.ledger;
  is = runner_on k plan modules p q r on is was.ledger was.is;
  outside = outside;
}

pub returns-clause-runs : goal.returns-clause-runs
returns-clause-runs c = λ k plan modules p q old new pause can run was.
    runner_paused k plan modules p q old new pause can run was.ledger was.is

pub returns-clause-services : goal.returns-clause-services
returns-clause-services c = λ k plan modules q n r number asked on l m at settled later reply may due log.
    runner_served k plan modules q n r number asked on l m at settled later reply may due log

pub returns-clause-points : goal.returns-clause-points
returns-clause-points c = λ k plan modules p q r l ended idle epoch quiet.
    runner_point k plan modules p q r l ended idle epoch quiet
