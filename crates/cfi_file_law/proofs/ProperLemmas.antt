-- The module of a file that was saved of an instrumented one is proper at its place.
use Rattle.std.proofs.Common.{◌≡◌, ◌≢◌, ℕ, ◌≤◌, List, [], length, refl, ap, subst, inl, inr, arith}
use Rattle.std.proofs.lemmas.Bool.{cases_lt}
use Rattle.std.proofs.lemmas.List.{nil_from_length}
use Rattle.elf_read.specs.declared.object.Object.{Object}
use Rattle.elf_read.proofs.FaultLemmas.{one_object}
use Rattle.cfi_aux.specs.Modules.{IsModuleOf}
use Rattle.cfi_aux.specs.declared.modules.Module.{Module}
use Rattle.cfi_aux.specs.declared.placed.Placed.{Placed}
use Rattle.cfi_commands.proofs.ReadingLemmas.{one_module}
use Rattle.cfi_instr.specs.Output.{IsInstrumented}
use Rattle.cfi_instr_law.specs.Proper.{IsProper}
use Rattle.cfi_instr_law.proofs.ProperLemmas.{instrumented-like}
use Rattle.cfi_instr_law.proofs.TypedLemmas.{typed}
use Rattle.cfi_place.specs.declared.room.Room.{Room}
use Rattle.cfi_place.specs.Names.{Names}
use Rattle.cfi_place.specs.Placed.{IsRoom, IsPlaced}
use Rattle.cfi_commands.specs.Reading.{IsModuleFile}
use Rattle.cfi_made_law.specs.Order.{module_of_file}
use Rattle.cfi_made_law.proofs.OrderLemmas.{all-by_area}
use Rattle.cfi_made_law.proofs.SourceLemmas.{ReadIsSound}

-- a file is one module at most
pub one-module : (bytes : List ℕ) (a b : Module) → IsModuleFile bytes a → IsModuleFile bytes b → a ≡ b
one-module bytes a b one other =
    let same : one.object ≡ other.object = one_object bytes one.object other.object one.is.kept other.is.kept in
    one_module other.object a b (subst (λ (o : Object). IsModuleOf o a) same one.whole) other.whole

-- a text that is not empty has a word
pub some-word : ReadIsSound → (bytes : List ℕ) (m : Module) → IsModuleFile bytes m → m.object.text ≢ []
    → 4 ≤ length m.object.text
some-word sound bytes m is some =
    let object = is.object in
    let same : length m.object.text ≡ length object.text = ap (λ (o : Object). length o.text) is.whole.object_kept in
    let whole = (sound bytes object is.is).words in
    elim (cases_lt 0 (length m.object.text)) [
      | inl more ↦ omega (arith, same, whole, more)
      | inr none ↦ absurd (some (nil_from_length m.object.text (omega (arith, none))))
    ]

pub proper : (source out : Module) (room : Room) (names : Names) (placed : Placed) → IsInstrumented source out
    → 4 ≤ length source.object.text → {file : List ℕ} → IsModuleFile file (module_of_file out) → IsRoom room
    → IsPlaced (module_of_file out) room names placed → (loaded : List Placed) → IsProper placed loaded
proper source out room names placed made some read fits stands loaded =
    instrumented-like source out (module_of_file out) room names placed made
    (record { text = refl; relocs = λ P all. all-by_area P out.object.relocs all; records = refl }) some
    (typed read.object (module_of_file out) read.whole) fits stands loaded
