-- An input that is valid: `run a`, where the file `a` is a bare one, which puts one `H`.
use Rattle.std.proofs.Common.{◌≡◌, ℕ, zero, suc, ◌%◌, List, [], ◌∷◌, length, Some, inl, inr, refl, sym, subst, arith}
use Rattle.std.specs.Prelude.{◌≢◌, codes}
use Rattle.cfi_aux.specs.declared.modules.Module.{Module}
use Rattle.cfi_aux.specs.declared.placed.Placed.{Placed}
use Rattle.cfi_bare.specs.declared.fault.BareFault.TheVariants.{Length, Memory}
use Rattle.cfi_io.specs.Files.{Files}
use Rattle.std.proofs.lemmas.List.Elements.{All-nil, All-cons}
use Rattle.cfi_commands.specs.declared.refusal.Refusal.{Refusal}
use Rattle.cfi_commands.specs.declared.refusal.Refusal.TheVariants.{Bare, Elf, Aux, Instr, Asm, Link, Import, Plan, Place, Verify, Entry, Sim, Report, Judge}
use Rattle.cfi_valid.specs.Opening.{IsFirstUnjoined, IsFirstLost}
use Rattle.cfi_request.specs.declared.command.Command.TheVariants.{Run}
use Rattle.cfi_request.specs.Reading.{IsShort}
use Rattle.cfi_request.proofs.CommandLemmas.{all_of_one}
use Rattle.cfi_plan.specs.Bare.{bare_plan}
use Rattle.cfi_modules.specs.declared.fault.JoinFault.{JoinFault}
use Rattle.cfi_modules.specs.declared.fault.JoinFault.TheVariants as joins
use Rattle.cfi_modules.specs.Order.{Joins, IsJoinFault}
use Rattle.cfi_modules.proofs.OrderLemmas.{joins_or_refused}
use Rattle.cfi_valid.specs.Example.{hello_bytes, hello_module}
use Rattle.cfi_valid.proofs.example.ExampleLemmas.{hello_placed, is_placed, verified}
use Rattle.cfi_word.specs.declared.limits.TheConstants.{MAX_CODE_WORDS}
use Rattle.cfi_top.specs.Outcome.{Refuses}
use Rattle.cfi_top.specs.Running.{RefusesBareFile}
use Rattle.cfi_top.specs.Top.{IsValid}

-- each name has this file
abbrev files : Files
files name = Some hello_bytes

-- ---- its module joins

joined : Joins MAX_CODE_WORDS [] [] hello_module hello_placed
joined = record { behind = is_placed; verified = verified }

none : (placed : List Placed) → length placed ≡ 0 → placed ≡ []
none [] count = refl
none (p ∷ placed) count = absurd (omega (arith, count))

unjoined : (number : ℕ) (fault : JoinFault) → fault ≢ joins.Memory
    → IsFirstUnjoined bare_plan (hello_module ∷ []) number fault → ⊥
unjoined zero fault some first =
    let here = first.is in
    let same : hello_module ≡ first.unplaced = cc in
    let before : first.before ≡ [] = none first.before first.order.count in
    some (joins_or_refused MAX_CODE_WORDS [] [] hello_module hello_placed fault joined
    (subst (λ (ms : List Placed). IsJoinFault MAX_CODE_WORDS ms ms hello_module fault) before
    (subst (λ (m : Module). IsJoinFault MAX_CODE_WORDS first.before first.before m fault) (sym same) first.why)))
unjoined (suc number) fault some first = let here = first.line_is in absurd (cc)

lost : (guest : ℕ) → IsFirstLost bare_plan (hello_module ∷ []) guest → ⊥
lost guest first = first.lost (64, refl)

-- ---- nothing refuses it

bare_unrefused : (name : List ℕ) (refusal : Refusal) → ¬ RefusesBareFile (codes "a") hello_bytes name refusal
bare_unrefused name (Bare (Length count)) refuses =
    refuses.1.1 (subst (λ (n : ℕ). n % 4 ≡ 0) refuses.1.0 refl)
bare_unrefused name (Bare Memory) refuses = refuses.2 refl
bare_unrefused name (Place fault) refuses =
    let same = refuses.1.is in
    let first = refuses.2 in
    unjoined first.number (joins.Place fault) (λ e. absurd (cc))
    (subst (λ (m : Module). IsFirstUnjoined bare_plan (m ∷ []) first.number (joins.Place fault)) same first.stands)
bare_unrefused name (Verify fault) refuses =
    let same = refuses.1.is in
    let first = refuses.2 in
    unjoined first.number (joins.Verify fault) (λ e. absurd (cc))
    (subst (λ (m : Module). IsFirstUnjoined bare_plan (m ∷ []) first.number (joins.Verify fault)) same first.stands)
bare_unrefused name (Entry guest) refuses =
    lost guest (subst (λ (m : Module). IsFirstLost bare_plan (m ∷ []) guest) refuses.1.is refuses.2.1)
bare_unrefused name (Elf fault) refuses = refuses.2
bare_unrefused name (Aux fault) refuses = refuses.2
bare_unrefused name (Instr fault) refuses = refuses.2
bare_unrefused name (Asm fault) refuses = refuses.2
bare_unrefused name (Link fault) refuses = refuses.2
bare_unrefused name (Import fault) refuses = refuses.2
bare_unrefused name (Plan fault) refuses = refuses.2
bare_unrefused name (Sim line) refuses = refuses.2
bare_unrefused name (Report line) refuses = refuses.2
bare_unrefused name (Judge part) refuses = refuses.2

unrefused : (name : List ℕ) (refusal : Refusal) → ¬ Refuses (Run (codes "a")) (hello_bytes ∷ []) [] name refusal
unrefused name refusal (inl refuses) = let begins = refuses.0 in absurd (cc)
unrefused name refusal (inr refuses) = bare_unrefused name refusal refuses.1

pub valid : IsValid (codes "run" ∷ codes "a" ∷ []) files
valid = record {
  command = Run (codes "a");
  fits = record { spelled = refl; operands = all_of_one (codes "a") (λ e. absurd (omega (arith, e))); number = tt };
  files = hello_bytes ∷ [];
  inputs = record { held = refl; short = All-cons IsShort hello_bytes [] (omega arith) (All-nil IsShort) };
  more = [];
  others = record { held = refl; short = All-nil IsShort };
  unrefused = unrefused;
}
