-- The first instruction of a unit that begins at the place is the one that was decoded.
use Rattle.std.proofs.Common.{◌≡◌, inl, inr, Some, None, ap, sym, subst, ◌∙◌, ◌-◌, length, take, drop, length-drop, rules, FitsSigned}
use Rattle.std.specs.Int.{w32}
use Rattle.std.proofs.lemmas.Int.{to_z-of_z}
use Rattle.rv_insn.specs.declared.insn.Insn.TheVariants as insns
use Rattle.rv_insn.specs.declared.insn.ImmOp.TheVariants.{Addi}
use Rattle.cfi_unit.specs.Unit.{size_of}
use Rattle.std.proofs.Math.Seq.{take-length}
use Rattle.cfi_unit.specs.Code.{BeginsAt}
use Rattle.cfi_unit.proofs.UnitLemmas.{first_insn, long_from, long_or_short}
use Rattle.cfi_unit.proofs.CodeLemmas.{BeginsAt-first}
use Rattle.cfi_unit.proofs.reader.next_unit.Goals as goal

pub returns-in_err-insn-clause-only : goal.returns-in_err-insn-clause-only
returns-in_err-insn-clause-only c = λ unit begins.
    let first = BeginsAt-first c.args.words.now c.args.at unit begins in
    let none : None ≡ Some (first_insn unit) = c.in_err-insn.ensures.only (first_insn unit) first in
    absurd (cc)

pub returns-in-Some-clause-only : goal.returns-in-Some-clause-only
returns-in-Some-clause-only c = λ unit begins.
    let first = BeginsAt-first c.args.words.now c.args.at unit begins in
    let read : Some c.in_ok-insn.insn ≡ Some (first_insn unit) = c.in_ok-insn.ensures.only (first_insn unit) first in
    let fits : FitsSigned w32 c.in-Some.imm = search rules in
    let placed = c.in-Some.ensures.some.1 in
    let head : first_insn unit ≡ insns.OpImm Addi 31 c.in-Some.rs1 c.in-Some.imm = cc in
    let long = long_from unit c.in-Some.rs1 c.in-Some.imm begins.fits head in
    let only = simp to_z-of_z at c.long_of.ensures.only in
    let rest = drop c.args.at c.args.words.now in
    let whole : rest ≡ take (length c.args.words.now - c.args.at) rest =
    sym (take-length rest) ∙ ap (λ n. take n rest) (length-drop c.args.at c.args.words.now) in
    only unit long (subst (λ ws. BeginsAt ws 0 unit) whole begins)

pub returns-in_err-single_of-clause-only : goal.returns-in_err-single_of-clause-only
returns-in_err-single_of-clause-only c = λ unit begins.
    let first = BeginsAt-first c.args.words.now c.args.at unit begins in
    let read : Some c.in_ok-insn.insn ≡ Some (first_insn unit) = c.in_ok-insn.ensures.only (first_insn unit) first in
    elim (long_or_short unit begins.fits) [
      | inl l ↦ absurd (c.in_default.not-Some (l.0, l.1) (c.place_of.ensures.only l.0 l.1 l.2 (cc)))
      | inr s ↦ (let none : None ≡ Some unit = c.in_err-single_of.ensures.only unit begins.fits (cc) in absurd (cc))
    ]

pub returns-clause-only : goal.returns-clause-only
returns-clause-only c = λ unit begins.
    let first = BeginsAt-first c.args.words.now c.args.at unit begins in
    let read : Some c.in_ok-insn.insn ≡ Some (first_insn unit) = c.in_ok-insn.ensures.only (first_insn unit) first in
    elim (long_or_short unit begins.fits) [
      | inl l ↦ absurd (c.in_default.not-Some (l.0, l.1) (c.place_of.ensures.only l.0 l.1 l.2 (cc)))
      | inr s ↦
          (let same : Some c.in_ok-single_of.field-0 ≡ Some unit = c.in_ok-single_of.ensures.only unit begins.fits
          (cc) in
          let size : size_of unit ≡ 1 = ap length s in
          cc)
    ]
