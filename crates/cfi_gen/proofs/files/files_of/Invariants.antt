use Rattle.std.proofs.Common.{◌≡◌, All, length, take}
use Rattle.cfi_commands.specs.Modules.{IsShortFile}
use Rattle.cfi_gen.specs.Generated.{AreMadeFiles}
use Rattle.cfi_gen.proofs.files.files_of.Given as goal

-- the modules so far have these files
abbrev pub invariant-loop-one : goal.invariant-loop-one
invariant-loop-one l = record {
  made : AreMadeFiles l.count (take l.one-index l.drawn) l.files.items;
  many : length l.files.items ≡ l.one-index;
  short : All IsShortFile l.files.items;
}
