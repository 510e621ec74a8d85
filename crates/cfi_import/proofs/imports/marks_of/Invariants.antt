use Rattle.std.proofs.Common.{◌≡◌, drop, fold}
use Rattle.cfi_import.specs.inner.Found.{marked, marks_of}
use Rattle.cfi_import.proofs.imports.marks_of.Given as goal

-- the marks so far and the relocations that are left make all marks
abbrev pub invariant-loop-reloc : goal.invariant-loop-reloc
invariant-loop-reloc l =
    fold marked l.marks.items (drop l.reloc-index l.relocs) ≡ marks_of l.count l.relocs
