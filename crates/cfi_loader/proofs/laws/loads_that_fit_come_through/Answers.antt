use Rattle.cfi_loader.proofs.FitLemmas.{through, has_version}
use Rattle.cfi_loader.proofs.laws.loads_that_fit_come_through.Goals as goal

pub returns-clause-through : goal.returns-clause-through
returns-clause-through c = λ k who line number old new told call fits.
    through old.course line number new.course.end told.course.leads.1 call fits

pub returns-clause-versions : goal.returns-clause-versions
returns-clause-versions c = λ k who line old new told few.
    has_version old.course line new.course.end told.course.leads.1 few
