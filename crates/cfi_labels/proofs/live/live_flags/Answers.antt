use Rattle.std.proofs.Common.{◌∙◌, List, map, ap, arith}
use Rattle.std.proofs.lemmas.List.{take_all}
use Rattle.cfi_plan.specs.declared.journal.ModuleLine.{ModuleLine}
use Rattle.cfi_labels.proofs.LiveLemmas.{flags_of_lines}
use Rattle.cfi_labels.specs.Live.{is_live_line}
use Rattle.cfi_labels.proofs.live.live_flags.Goals as goal

-- the lines are those of all modules
pub returns-clause-flags : goal.returns-clause-flags
returns-clause-flags c =
    let r = c.args.roster.now in
    let lines : List ModuleLine = c.lines-lines.result.now in
    c.loop-line.invariant
    ∙ ap (map (is_live_line c.args.policy r.retired))
    (take_all c.loop-line.line-index lines (omega arith) ∙ c.lines-lines.ensures.value)
    ∙ flags_of_lines r c.lines-lines.ensures.many c.args.policy
