use Rattle.std.proofs.Common.{◌≡◌}
use Rattle.elf_read.specs.Relocation.{is_unknown_at, relas_before, IsNoRela}
use Rattle.elf_read.proofs.rela.check_kinds.Given as goal

abbrev pub invariant-loop-s : goal.invariant-loop-s
invariant-loop-s l = (l.before ≡ relas_before l.table l.s) × IsNoRela l.table (is_unknown_at l.table) l.s
