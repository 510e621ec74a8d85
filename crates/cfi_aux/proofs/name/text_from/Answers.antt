use Rattle.std.proofs.Common.{◌∙◌}
use Rattle.cfi_aux.proofs.Text.{text_good, text_bad}
use Rattle.cfi_aux.proofs.name.text_from.Goals as goal

pub returns-in_ok-text-in-Ok : goal.returns-in_ok-text-in-Ok
returns-in_ok-text-in-Ok c =
    text_good c.args.number c.args.length c.args.bytes.now c.split_at.result.0.now c.split_at.result.1.now
    c.from_string.result c.if-bytes-length.false c.split_at.ensures.front c.split_at.ensures.back
    c.in-Ok.ensures.cases.1 (c.from_string.ensures ∙ c.in_ok-text-in-Ok.ensures.ok ∙ c.in-Ok.ensures.cases.0)

pub returns-in-Err : goal.returns-in-Err
returns-in-Err c =
    text_bad c.args.number c.args.length c.args.bytes.now c.split_at.result.0.now c.if-bytes-length.false
    c.split_at.ensures.front c.in-Err.ensures.cases.0
