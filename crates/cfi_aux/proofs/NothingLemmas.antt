-- The object that has nothing breaks no rule.
use Rattle.std.proofs.Common.{[], None, refl, arith}
use Rattle.std.proofs.lemmas.List.Elements.{All-from_recursion}
use Rattle.elf_read.specs.declared.object.Object.{Object}
use Rattle.elf_read.specs.Sound.{IsSoundSymbol, IsSoundReloc, IsSoundObject}

abbrev pub nothing : Object
nothing = record { text = []; static_data = []; symbols = []; relocs = []; types = None; records = None }

pub nothing_is_sound : IsSoundObject nothing
nothing_is_sound = record {
  words = refl;
  symbols = All-from_recursion (IsSoundSymbol nothing) [] tt;
  definitions = λ i j d lt within. absurd (omega arith);
  relocs = All-from_recursion (IsSoundReloc nothing) [] tt;
}
