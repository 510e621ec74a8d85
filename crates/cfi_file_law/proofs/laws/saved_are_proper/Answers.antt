use Rattle.std.proofs.Common.{subst}
use Rattle.cfi_aux.specs.declared.modules.Module.{Module}
use Rattle.cfi_place.specs.Placed.{IsPlaced}
use Rattle.cfi_made_law.specs.Order.{module_of_file}
use Rattle.cfi_file_law.proofs.ProperLemmas.{one-module, some-word, proper}
use Rattle.cfi_file_law.proofs.laws.saved_are_proper.Goals as goal

pub returns : goal.returns
returns c bytes file room names placed at loaded =
    let saved = at.saved in
    let read = c.instrumented_are_read.ensures bytes file at.are saved at.short in
    let same = one-module file at.m (module_of_file saved.out) at.read read in
    proper saved.unplaced saved.out room names placed saved.made
    (some-word c.what_is_read_is_sound.ensures bytes saved.unplaced saved.is at.some) read at.fits
    (subst (λ (m : Module). IsPlaced m room names placed) same at.stands) loaded
