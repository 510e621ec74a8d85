use Rattle.std.proofs.Common.{sym, subst}
use Rattle.cfi_type_table.specs.Spelling.{AreTypes}
use Rattle.cfi_made_law.proofs.InstrLemmas.{object-sound}
use Rattle.cfi_made_law.proofs.laws.instrumented_are_sound.Goals as goal

pub returns : goal.returns
returns c source out sound made = record {
  object_sound = object-sound source out made sound.object_sound;
  table = subst AreTypes (sym made.types) sound.table;
}
