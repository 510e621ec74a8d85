use Rattle.std.proofs.Common.{◌≡◌, ◌-◌}
use Rattle.cfi_aux.specs.Fault.{zeroes_at}
use Rattle.cfi_aux.proofs.name.after_zeroes.Given as goal

-- what is left gives what all gives
abbrev pub invariant-loop : goal.invariant-loop
invariant-loop l = zeroes_at l.number (l.count - l.counter) l.rest ≡ zeroes_at l.number l.count l.bytes
