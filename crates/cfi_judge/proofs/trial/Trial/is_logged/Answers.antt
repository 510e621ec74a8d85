use Rattle.cfi_judge.proofs.trial.Trial.is_logged.Goals as goal

-- the other parts hold
pub returns : goal.returns
returns c =
    let risen = c.log_rises.ensures.0 c.if-not-log_rises.false in (
      λ yes. record {
        rises = risen.rises;
        most = risen.most;
        opens = c.log_opens.ensures.0 c.if-not-log_opens.false;
        causes = c.has_causes.ensures.0 yes;
      },
      λ logged. c.has_causes.ensures.1 logged.causes,
    )
