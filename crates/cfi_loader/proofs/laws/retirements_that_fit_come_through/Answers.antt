use Rattle.cfi_loader.proofs.FitLemmas.{retirement_through}
use Rattle.cfi_loader.proofs.laws.retirements_that_fit_come_through.Goals as goal

pub returns : goal.returns
returns c = λ k plan modules who line number old new is told call fits.
    retirement_through old.course is.policies.once line number new.course.end told.course.leads.1 call fits
