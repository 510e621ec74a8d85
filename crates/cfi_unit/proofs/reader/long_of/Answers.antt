use Rattle.std.proofs.Common.{◌≡◌, Some, None, subst, FitsSigned}
use Rattle.std.specs.Int.{w32}
use Rattle.std.proofs.lemmas.Int.{to_z-of_z}
use Rattle.cfi_unit.specs.declared.unit.Unit.TheVariants as units
use Rattle.cfi_unit.specs.Unit.{IsLong, size_of}
use Rattle.cfi_unit.specs.Code.{BeginsAt}
use Rattle.cfi_unit.proofs.reader.long_of.Goals as goal

-- the words begin no unit of this register and immediate
pub returns-in_err-unit-clause-only : goal.returns-in_err-unit-clause-only
returns-in_err-unit-clause-only c =
    let rs1 = c.args.rs1 in
    let imm = c.args.imm in
    let words = c.args.words.now in
    let fits : FitsSigned w32 c.args.imm = c.ranges.imm in
    let load = simp to_z-of_z at c.unit_of.ensures.load in
    let store = simp to_z-of_z at c.unit_of.ensures.store in
    let check = simp to_z-of_z at c.in_err-unit.ensures.only in
    λ unit. elim unit as (λ u. IsLong u rs1 imm → BeginsAt words 0 u → c.from_residual.result ≡ Some (u, size_of u)) [
      | units.Load kind rd r i ↦ λ long begins.
          let begun = subst (λ x. BeginsAt words 0 (units.Load kind rd rs1 x)) long.1
          (subst (λ x. BeginsAt words 0 (units.Load kind rd x i)) long.0 begins) in
          absurd (c.in_default.not-Some _ (load kind rd begun))
      | units.Store kind r rs2 i ↦ λ long begins.
          let begun = subst (λ x. BeginsAt words 0 (units.Store kind rs1 rs2 x)) long.1
          (subst (λ x. BeginsAt words 0 (units.Store kind x rs2 i)) long.0 begins) in
          absurd (c.in_default.not-Some _ (store kind rs2 begun))
      | units.Check link r i slot ↦ λ long begins.
          let begun = subst (λ x. BeginsAt words 0 (units.Check link rs1 x slot)) long.1
          (subst (λ x. BeginsAt words 0 (units.Check link x i slot)) long.0 begins) in
          let none : None ≡ Some (units.Check link rs1 imm slot) = check link slot begun in
          absurd (cc)
      | _ ↦ λ long begins. absurd long
    ]
