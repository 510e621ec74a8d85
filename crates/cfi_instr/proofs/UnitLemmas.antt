-- Which units have a spelling.
use Rattle.std.proofs.Common.{◌≡◌, ℕ, ◌+◌, ◌-◌, ◌*◌, ◌%◌, ◌^◌, ◌<◌, ◌≤◌, ◌||◌, ℤ, Bool, true, false, leb, refl, sym, ◌∙◌, inl, inr, ⊎_elim, arith}
use Rattle.std.proofs.lemmas.Bool.{cases_Bool, cases_lt, false≢true, leb-true, le-leb}
use Rattle.rv_insn.specs.declared.insn.Insn.{Insn}
use Rattle.rv_insn.specs.declared.insn.Insn.TheVariants as insns
use Rattle.rv_insn.specs.Word.{IsSigned, IsEven}
use Rattle.rv_insn.specs.Insn.{InRange}
use Rattle.cfi_word.specs.declared.sizes.TheConstants.{SLOTS}
use Rattle.cfi_unit.specs.Unit.{IsFree, IsUnit}
use Rattle.cfi_unit.specs.Free.{is_reserved, names_reserved}
use Rattle.cfi_instr.specs.inner.Insns.{is_trap}
use Rattle.cfi_instr.specs.Insns.{is_branch}
use Rattle.cfi_instr.specs.Units.{distance, unit_of, over}

free-of : (r : ℕ) → is_reserved r ≡ false → IsFree r
free-of r h = ⊎_elim
    (λ (below : r < 28). below)
    (λ (above : 28 ≤ r). absurd (false≢true (sym h ∙ le-leb 28 r above)))
    (cases_lt r 28)

neither : (a b : Bool) → (a || b) ≡ false → (a ≡ false) × (b ≡ false)
neither false b h = (refl, h)
neither true b h = absurd (false≢true (sym h))

-- the displacement that an instruction gets
abbrev pub FitsOff : Insn → ℤ → Type 0
FitsOff (insns.Branch cond rs1 rs2 was) off = IsSigned (2 ^ 12) off × IsEven off
FitsOff (insns.Jal rd was) off = IsSigned (2 ^ 20) off × IsEven off
FitsOff insn off = Unit {0}

-- an instruction that a module may have
pub record IsReady (insn : Insn) : Type 0 where
  pub range : InRange insn
  pub free : names_reserved insn ≡ false
  pub quiet : is_trap insn ≡ false

pub unit-fits : (insn : Insn) (number : ℕ) (off : ℤ) → IsReady insn → number < SLOTS → FitsOff insn off
    → IsUnit (unit_of number off insn)
unit-fits (insns.Lui rd imm) number off is few fits = (free-of rd is.free, is.range.1)
unit-fits (insns.Auipc rd imm) number off is few fits = (free-of rd is.free, is.range.1)
unit-fits (insns.Jal rd was) number off is few fits = fits
unit-fits (insns.Jalr rd rs1 imm) number off is few fits =
    (free-of rs1 (neither (is_reserved rd) (is_reserved rs1) is.free).1, is.range.2, few)
unit-fits (insns.Branch cond rs1 rs2 was) number off is few fits =
    let free = neither (is_reserved rs1) (is_reserved rs2) is.free in
    (free-of rs1 free.0, free-of rs2 free.1, fits.0, fits.1)
unit-fits (insns.Load kind rd rs1 imm) number off is few fits =
    let free = neither (is_reserved rd) (is_reserved rs1) is.free in
    (free-of rd free.0, free-of rs1 free.1, is.range.2)
unit-fits (insns.Store kind rs1 rs2 imm) number off is few fits =
    let free = neither (is_reserved rs1) (is_reserved rs2) is.free in
    (free-of rs1 free.0, free-of rs2 free.1, is.range.2)
unit-fits (insns.OpImm op rd rs1 imm) number off is few fits =
    let free = neither (is_reserved rd) (is_reserved rs1) is.free in
    (free-of rd free.0, free-of rs1 free.1, is.range.2)
unit-fits (insns.Op op rd rs1 rs2) number off is few fits =
    let free = neither (is_reserved rd || is_reserved rs1) (is_reserved rs2) is.free in
    let two = neither (is_reserved rd) (is_reserved rs1) free.0 in
    (free-of rd two.0, free-of rs1 two.1, free-of rs2 free.1)
unit-fits (insns.Fence fields) number off is few fits = is.range
unit-fits insns.Ecall number off is few fits = tt
unit-fits insns.Ebreak number off is few fits = absurd (false≢true (sym is.quiet))

-- the inverse branch, by 8
pub over-fits : (insn : Insn) → IsReady insn → is_branch insn ≡ true → IsUnit (over insn)
over-fits (insns.Branch cond rs1 rs2 was) is h =
    let free = neither (is_reserved rs1) (is_reserved rs2) is.free in
    let small : 8 < 2 ^ 12 = omega arith in
    (free-of rs1 free.0, free-of rs2 free.1, small, refl)
over-fits insn is h = absurd (false≢true h)

-- ---- displacements

past : (a b h : ℕ) → leb a b ≡ false → a ≤ b + h → a - b - 1 < h
past a b h is le = ⊎_elim
    (λ (below : b < a). omega arith)
    (λ (above : a ≤ b). absurd (false≢true (sym is ∙ le-leb a b above)))
    (cases_lt b a)

odd : (a b u v : ℕ) → leb a b ≡ false → a ≡ 4 * u → b ≡ 4 * v → (a - b - 1) % 2 ≡ 1
odd a b u v is fours fives = ⊎_elim
    (λ (below : b < a). omega arith)
    (λ (above : a ≤ b). absurd (false≢true (sym is ∙ le-leb a b above)))
    (cases_lt b a)

pub signed-distance : (half from to : ℕ) → to < from + half → from ≤ to + half → IsSigned half (distance from to)
signed-distance half from to on back = elim (cases_Bool (leb from to)) [
  | inl after ↦ let le = leb-true from to after in rw after (omega arith)
  | inr before ↦ rw before (past from to half before back)
]

pub even-distance : (from to x y : ℕ) → from ≡ 4 * x → to ≡ 4 * y → IsEven (distance from to)
even-distance from to x y f t = elim (cases_Bool (leb from to)) [
  | inl after ↦ let le = leb-true from to after in rw after (omega arith)
  | inr before ↦ rw before (odd from to x y before f t)
]
