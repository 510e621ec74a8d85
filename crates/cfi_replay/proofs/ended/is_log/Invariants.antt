use Rattle.std.specs.Prelude.{◌≡◌, take}
use Rattle.cfi_replay.proofs.ended.is_log.Given as goal

-- the entries so far are the same
abbrev pub invariant-loop-number : goal.invariant-loop-number
invariant-loop-number l = take l.number l.entries ≡ take l.number l.others
