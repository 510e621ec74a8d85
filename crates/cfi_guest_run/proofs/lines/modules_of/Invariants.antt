use Rattle.std.proofs.Common.{◌≡◌, take}
use Rattle.std.specs.List.{AllByRecursion}
use Rattle.cfi_guest_run.specs.inner.Lines.{HasModuleFields}
use Rattle.cfi_guest_run.proofs.lines.modules_of.Given as goal

-- the lines so far are copied
abbrev pub invariant-loop-line : goal.invariant-loop-line
invariant-loop-line l = record {
  same : l.copy.items ≡ take l.line-index l.lines;
  fields : AllByRecursion HasModuleFields l.copy.items;
}
