use Rattle.std.proofs.Common.{◌≡◌, map, take}
use Rattle.cfi_request.proofs.names.files_of.Given as goal

-- the files of the modules so far are named
abbrev pub invariant-loop-one : goal.invariant-loop-one
invariant-loop-one l = l.names.items ≡ map (λ one. one.file) (take l.one-index l.modules)
