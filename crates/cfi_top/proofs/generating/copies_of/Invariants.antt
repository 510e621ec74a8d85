use Rattle.std.proofs.Common.{◌≡◌, take}
use Rattle.cfi_top.proofs.generating.copies_of.Given as goal

-- the files so far are copied
abbrev pub invariant-loop-file : goal.invariant-loop-file
invariant-loop-file l = l.copies.items ≡ take l.file-index l.files
