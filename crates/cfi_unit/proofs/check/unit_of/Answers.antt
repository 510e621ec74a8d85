-- Words 3, 4 and 13 of the check give its slot and whether it links.
use Rattle.std.proofs.Common.{◌≡◌, ◌∙◌, ap, sym, arith, length, take, FitsSigned, IsTrue}
use Rattle.std.specs.Int.{w32}
use Rattle.std.proofs.lemmas.Int.{to_z-of_z}
use Rattle.rv_insn.specs.declared.insn.Insn.TheVariants as insns
use Rattle.cfi_unit.specs.declared.unit.Unit.TheVariants as units
use Rattle.cfi_unit.specs.Unit.{words_of}
use Rattle.cfi_unit.proofs.CodeLemmas.{BeginsAt-word}
use Rattle.cfi_unit.proofs.check.unit_of.Goals as goal
use Rattle.cfi_word.specs.declared.sizes.TheConstants.{SLOTS}

pub returns-then-slot-ge-SLOTS-clause-only : goal.returns-then-slot-ge-SLOTS-clause-only
returns-then-slot-ge-SLOTS-clause-only c = λ link slot begins.
    let unit = units.Check link c.args.rs1 c.args.imm slot in
    let high = BeginsAt-word c.args.words.now 0 unit begins 3 insns.Ecall (omega arith) in
    let low = BeginsAt-word c.args.words.now 0 unit begins 4 insns.Ecall (omega arith) in
    let read : c.slot_of-slot.result ≡ slot = c.slot_of-slot.ensures slot begins.fits.2 high.spelled low.spelled in
    absurd (omega (arith, begins.fits.2))

pub returns-else-begins_with-clause-only : goal.returns-else-begins_with-clause-only
returns-else-begins_with-clause-only c = λ link slot begins.
    let rs1 = c.args.rs1 in
    let imm = c.args.imm in
    let unit = units.Check link rs1 imm slot in
    let high = BeginsAt-word c.args.words.now 0 unit begins 3 insns.Ecall (omega arith) in
    let low = BeginsAt-word c.args.words.now 0 unit begins 4 insns.Ecall (omega arith) in
    let last = BeginsAt-word c.args.words.now 0 unit begins 13 insns.Ecall (omega arith) in
    let read : c.slot_of-slot.result ≡ slot = c.slot_of-slot.ensures slot begins.fits.2 high.spelled low.spelled in
    let linked : c.link_of-link.result ≡ link = c.link_of-link.ensures link last.spelled in
    let fits : FitsSigned w32 imm = c.ranges.imm in
    let words = simp to_z-of_z at c.words_by.ensures in
    let spelled : c.words_by.result ≡ words_of unit =
    words ∙ ap (λ l. words_of (units.Check l rs1 imm c.slot_of-slot.result)) linked
    ∙ ap (λ s. words_of (units.Check link rs1 imm s)) read in
    let begun : take (length c.words_by.result) c.args.words.now ≡ c.words_by.result =
    ap (λ ws. take (length ws) c.args.words.now) spelled ∙ begins.spelled ∙ sym spelled in
    let held : IsTrue c.begins_with.result = c.begins_with.ensures.1 begun in
    absurd (cc)
