use Rattle.std.proofs.Common.{length, ap, arith}
use Rattle.std.proofs.lemmas.Grind.{common_steps}
use Rattle.rv_asm.proofs.CountLemmas.{name_more}
use Rattle.rv_asm.proofs.survey.add_names.Goals as goal

pub loop-added-preserved : goal.loop-added-preserved
loop-added-preserved c =
    let more = name_more c.loop-added.names c.as_str.result.now in
    let made = ap (λ t. length t) c.in_ok-mention.ensures.ok in
    (grind (arith, common_steps), grind (arith, common_steps))
