-- A unit is determined by its first words.
use Rattle.std.proofs.Common.{◌≡◌, ℕ, ◌+◌, ◌-◌, ◌*◌, ◌/◌, ◌%◌, ◌^◌, ◌<◌, ◌⊎◌, inl, inr, zero, suc, ℤ, pos, Bool, true, false, cond, eqb, ltb, List, [], ◌∷◌, ◌++◌, get_or, Option, Some, None, refl, ap, subst, ◌∙◌, arith}
use Rattle.std.specs.List.{AllByRecursion}
use Rattle.std.proofs.lemmas.Bool.{ne_eqb, cases_lt, lt-ltb, le-ltb}
use Rattle.rv_insn.specs.declared.insn.Insn.{Insn}
use Rattle.rv_insn.specs.declared.insn.Insn.TheVariants as insns
use Rattle.rv_insn.specs.declared.insn.ImmOp.TheVariants.{Addi}
use Rattle.rv_insn.specs.Word.{IsSigned, low_bits}
use Rattle.rv_insn.specs.Insn.{InRange}
use Rattle.cfi_word.specs.declared.sizes.TheConstants.{SLOTS}
use Rattle.cfi_word.specs.declared.map.TheConstants.{BARY}
use Rattle.cfi_unit.specs.declared.unit.Unit.{Unit as CodeUnit}
use Rattle.cfi_unit.specs.declared.unit.Unit.TheVariants as units
use Rattle.cfi_unit.specs.Unit.{IsFree, IsPlain, IsUnit, IsLong, masked, check, insns_of, words_of, size_of, link_register, bary_address}
use Rattle.rv_insn.specs.Fields.{high_of, low_of}
use Rattle.cfi_unit.proofs.SlotLemmas.{signed-range, signed-bits}
use Rattle.cfi_unit.proofs.InsnLemmas.{insns_at, insns_at-append}

-- what the instructions of a check hold
abbrev high_in : Insn → ℕ
high_in (insns.Lui rd imm) = imm
high_in insn = 0

abbrev low_in : Insn → ℕ
low_in (insns.Load kind rd rs1 imm) = low_bits (2 ^ 12) imm
low_in insn = 0

abbrev link_in : Insn → Bool
link_in (insns.Jalr rd rs1 imm) = ltb 0 rd
link_in insn = false

abbrev slot_in : (high low : ℕ) → ℕ
slot_in high low = (2 ^ 12 * high + low - cond (ltb low (2 ^ 11)) 0 (2 ^ 12) - BARY) / 4

-- the unit that instructions can begin: an access or a check where the first writes x31
abbrev long_of : (rs1 : ℕ) → ℤ → (sixth : Insn) → List Insn → CodeUnit
long_of rs1 imm (insns.Load kind rd base off) is = units.Load kind rd rs1 imm
long_of rs1 imm (insns.Store kind base rs2 off) is = units.Store kind rs1 rs2 imm
long_of rs1 imm sixth is = units.Check (link_in (get_or is 13 insns.Ecall)) rs1 imm
    (slot_in (high_in (get_or is 3 insns.Ecall)) (low_in (get_or is 4 insns.Ecall)))

abbrev jump_at : ℕ → CodeUnit → CodeUnit → CodeUnit
jump_at zero plain linking = plain
jump_at (suc n) plain linking = linking

abbrev first_of : Insn → List Insn → CodeUnit
first_of (insns.OpImm op rd rs1 imm) is =
    cond (eqb rd 31) (long_of rs1 imm (get_or is 5 insns.Ecall) is) (units.Plain (insns.OpImm op rd rs1 imm))
first_of (insns.Branch cond rs1 rs2 off) is = units.Branch cond rs1 rs2 off
first_of (insns.Jal rd off) is = jump_at rd (units.Jump false off) (units.Jump true off)
first_of insns.Ecall is = units.Service
first_of insn is = units.Plain insn

abbrev pub unit_of : List Insn → Option CodeUnit
unit_of [] = None
unit_of (insn ∷ rest) = Some (first_of insn (insn ∷ rest))

-- the unit that words can begin
abbrev pub unit_at : List ℕ → Option CodeUnit
unit_at words = unit_of (insns_at words)

-- the guess is right where a unit begins
plain-first_of : (insn : Insn) (is : List Insn) → IsPlain insn → first_of insn is ≡ units.Plain insn
plain-first_of (insns.Lui rd imm) is plain = refl
plain-first_of (insns.Auipc rd imm) is plain = refl
plain-first_of (insns.OpImm op rd rs1 imm) is plain =
    ap (λ b. cond b (long_of rs1 imm (get_or is 5 insns.Ecall) is) (units.Plain (insns.OpImm op rd rs1 imm)))
    (ne_eqb rd 31 (λ e. omega arith))
plain-first_of (insns.Op op rd rs1 rs2) is plain = refl
plain-first_of (insns.Fence fields) is plain = refl
plain-first_of insn is plain = absurd plain

slot_in-is : (slot low : ℕ) → slot < SLOTS → low ≡ bary_address slot % 2 ^ 12
    → slot_in (high_of (bary_address slot)) low ≡ slot
slot_in-is slot low within e =
    elim (cases_lt low 2048) [
      | inl lt ↦ rw (lt-ltb low 2048 lt) (omega (arith, within, e))
      | inr ge ↦ rw (le-ltb low 2048 ge) (omega (arith, within, e))
    ]

check-first_of : (link : Bool) (rs1 : ℕ) (imm : ℤ) (slot : ℕ) (rest : List Insn) → slot < SLOTS
    → ltb 0 (link_register link) ≡ link → unit_of (check link rs1 imm slot ++ rest) ≡ Some (units.Check link rs1 imm slot)
check-first_of link rs1 imm slot rest within e =
    let low = signed-bits (2 ^ 11) (bary_address slot % 2 ^ 12) (omega arith) in
    ap (λ l. Some (units.Check l rs1 imm (slot_in (high_of (bary_address slot))
    (low_bits (2 ^ 12) (low_of (bary_address slot))))))
    e
    ∙ ap (λ s. Some (units.Check link rs1 imm s)) (slot_in-is slot (low_bits (2 ^ 12) (low_of (bary_address slot)))
    within low)

pub unit_of-insns_of : (unit : CodeUnit) (rest : List Insn) → IsUnit unit → unit_of (insns_of unit ++ rest) ≡ Some unit
unit_of-insns_of (units.Plain insn) rest fits = ap (λ u. Some u) (plain-first_of insn (insn ∷ rest) fits)
unit_of-insns_of (units.Load kind rd rs1 imm) rest fits = refl
unit_of-insns_of (units.Store kind rs1 rs2 imm) rest fits = refl
unit_of-insns_of (units.Branch cond rs1 rs2 off) rest fits = refl
unit_of-insns_of (units.Jump true off) rest fits = refl
unit_of-insns_of (units.Jump false off) rest fits = refl
unit_of-insns_of (units.Check true rs1 imm slot) rest fits = check-first_of true rs1 imm slot rest fits.2 refl
unit_of-insns_of (units.Check false rs1 imm slot) rest fits = check-first_of false rs1 imm slot rest fits.2 refl
unit_of-insns_of units.Service rest fits = refl

-- the instructions of a unit are in range
plain-range : (insn : Insn) → IsPlain insn → InRange insn
plain-range (insns.Lui rd imm) plain = (omega arith, omega arith)
plain-range (insns.Auipc rd imm) plain = (omega arith, omega arith)
plain-range (insns.OpImm op rd rs1 imm) plain = (omega arith, omega arith, plain.2)
plain-range (insns.Op op rd rs1 rs2) plain = (omega arith, omega arith, omega arith)
plain-range (insns.Fence fields) plain = plain
plain-range insn plain = absurd plain

masked-range : (rs1 : ℕ) (imm : ℤ) (access : Insn) → IsFree rs1 → IsSigned (2 ^ 11) imm → InRange access →
    AllByRecursion InRange (masked rs1 imm access)
masked-range rs1 imm access free short range = (
  (omega arith, omega arith, short),
  (
    (omega arith, omega arith, omega arith),
    (
      (omega arith, omega arith, omega arith),
      (
        (omega arith, omega arith),
        ((omega arith, omega arith, omega arith), (range, tt)),
      ),
    ),
  ),
)

link_register_fits : (link : Bool) → link_register link < 32
link_register_fits true = omega arith
link_register_fits false = omega arith

check-range : (link : Bool) (rs1 : ℕ) (imm : ℤ) (slot : ℕ) → IsFree rs1 → IsSigned (2 ^ 11) imm → slot < SLOTS →
    AllByRecursion InRange (check link rs1 imm slot)
check-range link rs1 imm slot free short within =
    let low = signed-range (2 ^ 11) (bary_address slot % 2 ^ 12) (omega arith) in (
      (omega arith, omega arith, short),
      (
        (omega arith, omega arith, omega arith),
        (
          (omega arith, omega arith, omega arith, omega arith),
          (
            (omega arith, omega arith),
            (
              (omega arith, omega arith, low),
              (
                (omega arith, omega arith),
                (
                  (omega arith, omega arith, omega arith),
                  (
                    (omega arith, omega arith, omega arith),
                    (
                      (omega arith, omega arith, omega arith, omega arith),
                      (
                        (omega arith, omega arith, omega arith),
                        (
                          (omega arith, omega arith, omega arith),
                          (
                            (omega arith, omega arith, omega arith, omega arith),
                            (tt, ((link_register_fits link, omega arith, omega arith), tt)),
                          ),
                        ),
                      ),
                    ),
                  ),
                ),
              ),
            ),
          ),
        ),
      ),
    )

pub IsUnit-range : (unit : CodeUnit) → IsUnit unit → AllByRecursion InRange (insns_of unit)
IsUnit-range (units.Plain insn) fits = (plain-range insn fits, tt)
IsUnit-range (units.Load kind rd rs1 imm) fits =
    masked-range rs1 imm (insns.Load kind rd 31 (pos 0)) fits.1 fits.2 (omega arith, omega arith, omega arith)
IsUnit-range (units.Store kind rs1 rs2 imm) fits =
    masked-range rs1 imm (insns.Store kind 31 rs2 (pos 0)) fits.0 fits.2 (omega arith, omega arith, omega arith)
IsUnit-range (units.Branch cond rs1 rs2 off) fits = ((omega arith, omega arith, fits.2, fits.3), tt)
IsUnit-range (units.Jump true off) fits = ((omega arith, fits.0, fits.1), tt)
IsUnit-range (units.Jump false off) fits = ((omega arith, fits.0, fits.1), tt)
IsUnit-range (units.Check link rs1 imm slot) fits = check-range link rs1 imm slot fits.0 fits.1 fits.2
IsUnit-range units.Service fits = (tt, tt)

-- the unit is read again from its words, whatever follows
pub unit_at-append : (unit : CodeUnit) (words : List ℕ) → IsUnit unit → unit_at (words_of unit ++ words) ≡ Some unit
unit_at-append unit words fits =
    ap unit_of (insns_at-append (insns_of unit) words (IsUnit-range unit fits))
    ∙ unit_of-insns_of unit (insns_at words) fits

-- each unit has a word
pub size_pos : (unit : CodeUnit) → 0 < size_of unit
size_pos (units.Plain insn) = omega arith
size_pos (units.Load kind rd rs1 imm) = omega arith
size_pos (units.Store kind rs1 rs2 imm) = omega arith
size_pos (units.Branch cond rs1 rs2 off) = omega arith
size_pos (units.Jump link off) = omega arith
size_pos (units.Check link rs1 imm slot) = omega arith
size_pos units.Service = omega arith

-- the first instruction of a unit
abbrev pub first_insn : CodeUnit → Insn
first_insn unit = get_or (insns_of unit) 0 insns.Ecall

-- a unit that begins with a write of x31 has several words
pub long_from : (unit : CodeUnit) (rs1 : ℕ) (imm : ℤ) → IsUnit unit → first_insn unit ≡ insns.OpImm Addi 31 rs1 imm →
    IsLong unit rs1 imm
long_from (units.Plain insn) rs1 imm fits e =
    let plain : IsPlain (insns.OpImm Addi 31 rs1 imm) = subst IsPlain e fits in
    absurd (omega (arith, plain.0))
long_from (units.Load kind rd r i) rs1 imm fits e = ((cc), (cc))
long_from (units.Store kind r rs2 i) rs1 imm fits e = ((cc), (cc))
long_from (units.Branch cond r rs2 off) rs1 imm fits e = absurd (cc)
long_from (units.Jump link off) rs1 imm fits e = absurd (cc)
long_from (units.Check link r i slot) rs1 imm fits e = ((cc), (cc))
long_from units.Service rs1 imm fits e = absurd (cc)

-- a unit begins so, or is one instruction
pub long_or_short : (unit : CodeUnit) → IsUnit unit →
    ((rs1 : ℕ) × (imm : ℤ) × IsFree rs1 × (first_insn unit ≡ insns.OpImm Addi 31 rs1 imm)) ⊎
    (insns_of unit ≡ first_insn unit ∷ [])
long_or_short (units.Plain insn) fits = inr refl
long_or_short (units.Load kind rd r i) fits = inl (r, i, fits.1, refl)
long_or_short (units.Store kind r rs2 i) fits = inl (r, i, fits.0, refl)
long_or_short (units.Branch cond r rs2 off) fits = inr refl
long_or_short (units.Jump link off) fits = inr refl
long_or_short (units.Check link r i slot) fits = inl (r, i, fits.0, refl)
long_or_short units.Service fits = inr refl
