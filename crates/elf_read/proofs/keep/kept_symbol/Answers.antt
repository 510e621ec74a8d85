-- A good symbol has a name.
use Rattle.std.proofs.Common.{◌∙◌}
use Rattle.elf_read.proofs.KeepLemmas.{sound_symbol}
use Rattle.elf_read.proofs.keep.kept_symbol.Goals as goal

pub unwrap-name-requires : goal.unwrap-name-requires
unwrap-name-requires c =
    let named = (sound_symbol c.args.table.now c.args.k c.requires.sound c.requires.within).name in
    c.name.ensures.cases ∙ named
