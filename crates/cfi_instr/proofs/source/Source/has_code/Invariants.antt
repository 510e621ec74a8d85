use Rattle.std.proofs.Common.{◌≡◌, ◌-◌, ◌/◌}
use Rattle.std.specs.List.{list_any, range_with_len}
use Rattle.cfi_instr.specs.inner.Functions.{has_code, is_code}
use Rattle.cfi_instr.proofs.source.Source.has_code.Given as goal

abbrev pub invariant-loop-w : goal.invariant-loop-w
invariant-loop-w l = has_code l.self l.a l.b ≡ list_any (is_code l.self) (range_with_len l.w (l.b / 4 - l.w))
