use Rattle.std.proofs.Common.{Some, ap, ◌∙◌}
use Rattle.std.proofs.lemmas.Option.{slice_get-get_or}
use Rattle.cfi_unit.specs.declared.log.Log.{Log}
use Rattle.cfi_unit.specs.declared.log.Log.TheVariants.{Pick}
use Rattle.cfi_judge.specs.inner.Trial.{course_in}
use Rattle.cfi_judge.proofs.CauseLemmas.{cause_told}
use Rattle.cfi_judge.proofs.trial.Trial.has_cause.Goals as goal

pub returns-in-Cause : goal.returns-in-Cause
returns-in-Cause c =
    let log = c.args.of.now.log.now in
    cause_told (course_in c.args.self.now) c.args.of.now.guest log c.args.at c.in-Cause.module c.in-Cause.cause
    (slice_get-get_or log c.args.at (Pick 0 0) c.requires.within ∙ ap (λ (e : Log). Some e) c.in-Cause.is)
    c.is_caused.result (c.is_caused.ensures c.args.at c.requires.span)
