use Rattle.cfi_judge.proofs.CourseLemmas.{starts_stay}
use Rattle.cfi_judge.proofs.laws.starts_stay.Goals as goal

pub returns : goal.returns
returns c = starts_stay
