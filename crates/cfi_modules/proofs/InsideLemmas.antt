-- Units that stay inside: where a list ends in a unit that does not go on, each unit of it leads to others of it.
use Rattle.std.proofs.Common.{◌≡◌, ◌≢◌, ℕ, ◌+◌, ◌-◌, ◌*◌, ◌<◌, ℤ, pos, negsuc, Bool, not, true, false, List, length, Some, refl, ap, sym, subst, ◌∙◌, ⊎_elim, arith}
use Rattle.std.specs.List.{slice_get}
use Rattle.std.proofs.lemmas.Bool.{cases_eq, false≢true}
use Rattle.std.proofs.lemmas.Option.{slice_get_within, get_or_from_slice_get}
use Rattle.cfi_unit.specs.declared.unit.Unit.{Unit as CodeUnit}
use Rattle.cfi_unit.specs.declared.unit.Unit.TheVariants as units
use Rattle.cfi_unit.specs.Unit.{size_of}
use Rattle.cfi_unit.specs.Spots.{place_of}
use Rattle.cfi_word.specs.declared.map.TheConstants.{FIRST_BASE}
use Rattle.cfi_model.specs.Closed.{StandsIn, IsStartOf, LeadsToStart, ReturnsToStart, StaysInside}
use Rattle.cfi_verify.specs.Functions.{may_be_last}
use Rattle.cfi_verify.specs.Target.{LeadsTo}
use Rattle.cfi_modules.proofs.EndLemmas.{place_next}
use Rattle.cfi_modules.proofs.TrimmedLemmas.{EndsUnlinked}

-- an offset does not depend on where the module stands
pub leads_from : (base at : ℕ) (off : ℤ) (to : ℕ) → LeadsTo at off to → LeadsTo (base + at) off (base + to)
leads_from base at (pos n) to leads = omega (arith, leads)
leads_from base at (negsuc n) to leads = omega (arith, leads)

-- what has to be known of a unit besides
abbrev pub LeadsInside : (body : List CodeUnit) → (slots address : ℕ) → CodeUnit → Type 0
LeadsInside body slots address (units.Branch cond rs1 rs2 off) = LeadsToStart body address off
LeadsInside body slots address (units.Jump link off) = LeadsToStart body address off
LeadsInside body slots address (units.Check link rs1 imm slot) = slot < slots
LeadsInside body slots address unit = Unit {0}

module _ (body : List CodeUnit) (ends : EndsUnlinked body) where
  -- a unit that control can leave at its end is not the last
  not_last : (number : ℕ) (unit : CodeUnit) → slice_get body number ≡ Some unit → may_be_last unit ≡ false
      → number + 1 < length body
  not_last number unit here goes_on =
      let within : number < length body = slice_get_within body number unit here in
      ⊎_elim
      (λ (last : number ≡ length body - 1).
      let there : slice_get body number ≡ Some ends.0 = ap (slice_get body) last ∙ ends.1 in
      let same : unit ≡ ends.0 = cc in
      absurd (false≢true (sym goes_on ∙ ap may_be_last same ∙ ends.2)))
      (λ (other : number ≢ length body - 1). omega arith)
      (cases_eq number (length body - 1))

  -- the address after such a unit is a start
  next_start : (address : ℕ) (unit : CodeUnit) → StandsIn body address unit → may_be_last unit ≡ false
      → IsStartOf body (address + 4 * size_of unit)
  next_start address unit stands goes_on =
      let within = slice_get_within body stands.0 unit stands.1 in
      let at : address ≡ 4 * (FIRST_BASE + place_of body stands.0) = stands.2 in (
        stands.0 + 1,
        not_last stands.0 unit stands.1 goes_on,
        omega (
          arith,
          at,
          place_next body stands.0 unit within,
          ap size_of (get_or_from_slice_get body stands.0 unit unit stands.1),
        ),
      )

  -- after a unit that links control goes on
  returns : (address size : ℕ) (unit : CodeUnit) (link : Bool) → StandsIn body address unit
      → may_be_last unit ≡ not link → size ≡ 4 * size_of unit → ReturnsToStart body link (address + size)
  returns address size unit true stands goes_on whole =
      subst (λ n. IsStartOf body (address + n)) (sym whole) (next_start address unit stands goes_on)
  returns address size unit false stands goes_on whole = tt

  pub stays_inside : (slots address : ℕ) (unit : CodeUnit) → StandsIn body address unit
      → LeadsInside body slots address unit → StaysInside body slots address unit
  stays_inside slots address (units.Plain insn) stands leads = next_start address (units.Plain insn) stands refl
  stays_inside slots address (units.Load kind rd rs1 imm) stands leads =
      next_start address (units.Load kind rd rs1 imm) stands refl
  stays_inside slots address (units.Store kind rs1 rs2 imm) stands leads =
      next_start address (units.Store kind rs1 rs2 imm) stands refl
  stays_inside slots address (units.Branch cond rs1 rs2 off) stands leads =
      (next_start address (units.Branch cond rs1 rs2 off) stands refl, leads)
  stays_inside slots address (units.Jump link off) stands leads =
      (returns address 4 (units.Jump link off) link stands refl refl, leads)
  stays_inside slots address (units.Check link rs1 imm slot) stands leads =
      (returns address 56 (units.Check link rs1 imm slot) link stands refl refl, leads)
  stays_inside slots address units.Service stands leads = next_start address units.Service stands refl
