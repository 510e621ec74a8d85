-- The sixth word of the access is the instruction that was decoded.
use Rattle.std.proofs.Common.{◌≡◌, Some, None, pos, arith, FitsSigned}
use Rattle.std.specs.Int.{w32}
use Rattle.std.proofs.lemmas.Int.{to_z-of_z}
use Rattle.rv_insn.specs.declared.insn.Insn.TheVariants as insns
use Rattle.cfi_unit.specs.declared.unit.Unit.TheVariants as units
use Rattle.cfi_unit.proofs.CodeLemmas.{BeginsAt-word}
use Rattle.cfi_unit.proofs.masked.unit_of.Goals as goal

pub returns-in_err-access-clause-load : goal.returns-in_err-access-clause-load
returns-in_err-access-clause-load c = λ kind rd begins.
    let unit = units.Load kind rd c.args.rs1 c.args.imm in
    let sixth = BeginsAt-word c.args.words.now 0 unit begins 5 insns.Ecall (omega arith) in
    let none : None ≡ Some (insns.Load kind rd 31 (pos 0)) = c.in_err-access.ensures.only _ sixth in
    absurd (cc)

pub returns-in_err-access-clause-store : goal.returns-in_err-access-clause-store
returns-in_err-access-clause-store c = λ kind rs2 begins.
    let unit = units.Store kind c.args.rs1 rs2 c.args.imm in
    let sixth = BeginsAt-word c.args.words.now 0 unit begins 5 insns.Ecall (omega arith) in
    let none : None ≡ Some (insns.Store kind 31 rs2 (pos 0)) = c.in_err-access.ensures.only _ sixth in
    absurd (cc)

pub returns-in_err-unit-clause-load : goal.returns-in_err-unit-clause-load
returns-in_err-unit-clause-load c = λ kind rd begins.
    let unit = units.Load kind rd c.args.rs1 c.args.imm in
    let sixth = BeginsAt-word c.args.words.now 0 unit begins 5 insns.Ecall (omega arith) in
    let fits : FitsSigned w32 c.args.imm = c.ranges.imm in
    let read : Some c.in_ok-access.access ≡ Some (insns.Load kind rd 31 (pos 0)) = c.in_ok-access.ensures.only _ sixth
    in
    let none = simp to_z-of_z at (c.in_err-unit.ensures.load kind rd begins.fits.0 (cc)) in
    absurd (cc)

pub returns-in_err-unit-clause-store : goal.returns-in_err-unit-clause-store
returns-in_err-unit-clause-store c = λ kind rs2 begins.
    let unit = units.Store kind c.args.rs1 rs2 c.args.imm in
    let sixth = BeginsAt-word c.args.words.now 0 unit begins 5 insns.Ecall (omega arith) in
    let fits : FitsSigned w32 c.args.imm = c.ranges.imm in
    let read : Some c.in_ok-access.access ≡ Some (insns.Store kind 31 rs2 (pos 0)) = c.in_ok-access.ensures.only _
    sixth in
    let none = simp to_z-of_z at (c.in_err-unit.ensures.store kind rs2 begins.fits.1 (cc)) in
    absurd (cc)
