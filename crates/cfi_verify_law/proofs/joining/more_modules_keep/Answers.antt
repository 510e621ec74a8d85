use Rattle.cfi_modules.proofs.GrowthLemmas.{code_kept}
use Rattle.cfi_verify_law.proofs.StayLemmas.{starts_stay}
use Rattle.cfi_verify_law.proofs.joining.more_modules_keep.Goals as goal

pub returns-clause-words : goal.returns-clause-words
returns-clause-words c = λ code_words n ms live later a b of_a of_b word there.
    code_kept code_words n ms a.code b.code of_a.1.code of_b.1.code word there

pub returns-clause-starts : goal.returns-clause-starts
returns-clause-starts c = λ code_words n ms live later a b loaded of_a of_b address start.
    starts_stay code_words n ms loaded live later a b of_a of_b address start
