use Rattle.std.proofs.Common.{◌≡◌, map, take}
use Rattle.cfi_labels.specs.Live.{is_live_line}
use Rattle.cfi_labels.proofs.live.live_flags.Given as goal

abbrev pub invariant-loop-line : goal.invariant-loop-line
invariant-loop-line l = l.flags.items ≡ map (is_live_line l.policy l.roster.retired) (take l.line-index l.lines)
