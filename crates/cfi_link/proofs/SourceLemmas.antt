-- Two modules that tests link.
use Rattle.std.proofs.Common.{◌<◌, ◌^◌, [], ◌∷◌, length, arith}
use Rattle.std.specs.Prelude.{All}
use Rattle.std.proofs.lemmas.List.Elements.{All-nil, All-cons}
use Rattle.cfi_aux.specs.Records.{CanBeWritten}
use Rattle.cfi_aux.specs.Sound.{IsSoundModule}
use Rattle.cfi_aux.specs.declared.modules.Module.{Module}
use Rattle.cfi_link.specs.Linked.{AreModules}

-- what holds of both holds of each
pub all_two : (P : Module → Type 0) (one two : Module) → P one → P two → All P (one ∷ two ∷ [])
all_two P one two first second = All-cons P one (two ∷ []) first (All-cons P two [] second (All-nil P))

pub two_modules : (one two : Module) → IsSoundModule one → IsSoundModule two
    → length one.object.text < 2 ^ 32 → length two.object.text < 2 ^ 32
    → CanBeWritten one.records → CanBeWritten two.records → AreModules (one ∷ two ∷ [])
two_modules one two sound sound' text text' written written' = record {
  count = omega arith;
  sound = all_two IsSoundModule one two sound sound';
  texts = all_two (λ m. length m.object.text < 2 ^ 32) one two text text';
  written = all_two (λ m. CanBeWritten m.records) one two written written';
}
