use Rattle.std.proofs.Common.{◌≡◌, ◌++◌, map, drop}
use Rattle.std.specs.List.{enumerate_from}
use Rattle.cfi_import.specs.Stubs.{stub_kind}
use Rattle.cfi_import.proofs.records.push_branches.Given as goal

-- what was added and what the names that are left give
abbrev pub invariant-loop-place : goal.invariant-loop-place
invariant-loop-place l =
    l.out.items ++ map (stub_kind l.start) (enumerate_from l.place (drop l.place l.names))
    ≡ l.fn.out.items ++ map (stub_kind l.start) (enumerate_from 0 l.names)
