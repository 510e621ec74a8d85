-- What a masked access's instructions make of a raw state, one after the other.
use Rattle.std.proofs.Common.{◌≡◌, ℕ, ◌+◌, ◌*◌, ◌%◌, ◌^◌, ◌<◌, ℤ, pos, Option, None, refl, ◌∙◌, ap, arith, bit_or}
use Rattle.std.specs.Int.Bits.{bit_and, and_shifted}
use Rattle.std.proofs.lemmas.Nat.{or_disjoint, and_comm}
use Rattle.rv_insn.specs.declared.insn.Insn.TheVariants as insns
use Rattle.rv_insn.specs.declared.insn.ImmOp.TheVariants.{Addi, Slli, Srli}
use Rattle.rv_insn.specs.declared.insn.Op.TheVariants.{Or}
use Rattle.cfi_model.specs.State.{State, register, displaced}
use Rattle.cfi_model.specs.Begin.{begin_as}
use Rattle.cfi_model.proofs.InnerLemmas.{inner, same_inner, reg-free}

-- x31 is the sum of a register and an immediate
pub aims : (p : State) (pc steps x28 x29 x30 x31 : ℕ) (bary tary : Option ℕ) (rs1 : ℕ) (imm : ℤ) → rs1 < 28
    → pc + 4 < 2 ^ 32
    → begin_as (insns.OpImm Addi 31 rs1 imm) (inner p p.units pc steps x28 x29 x30 x31 bary tary None)
    ≡ inner p p.units (pc + 4) (steps + 1) x28 x29 x30 (displaced (register p rs1) imm) bary tary None
aims p pc steps x28 x29 x30 x31 bary tary rs1 imm free small =
    let value = reg-free p p.units pc steps x28 x29 x30 x31 bary tary None rs1 free in
    same_inner p _ _ _ _ _ _ _ _ _ _ _ _ _ _ bary tary None
    (omega arith) (omega arith) refl refl refl refl (ap (λ v. displaced v imm) value)

-- x31 loses the bits above the lowest 20
pub shifts : (p : State) (pc steps x28 x29 x30 x31 : ℕ) (bary tary : Option ℕ) → pc + 4 < 2 ^ 32
    → begin_as (insns.OpImm Slli 31 31 (pos 12)) (inner p p.units pc steps x28 x29 x30 x31 bary tary None)
    ≡ inner p p.units (pc + 4) (steps + 1) x28 x29 x30 (x31 * 2 ^ 12 % 2 ^ 32) bary tary None
shifts p pc steps x28 x29 x30 x31 bary tary small =
    same_inner p _ _ _ _ _ _ _ _ _ _ _ _ _ _ bary tary None (omega arith) (omega arith) refl refl refl refl refl

pub cuts : (p : State) (pc steps x28 x29 x30 x31 : ℕ) (bary tary : Option ℕ) → pc + 4 < 2 ^ 32
    → begin_as (insns.OpImm Srli 31 31 (pos 12))
    (inner p p.units pc steps x28 x29 x30 (x31 * 2 ^ 12 % 2 ^ 32) bary tary None)
    ≡ inner p p.units (pc + 4) (steps + 1) x28 x29 x30 (x31 % 2 ^ 20) bary tary None
cuts p pc steps x28 x29 x30 x31 bary tary small =
    same_inner p _ _ _ _ _ _ _ _ _ _ _ _ _ _ bary tary None
    (omega arith) (omega arith) refl refl refl refl (omega arith)

pub bases : (p : State) (pc steps x28 x29 x30 x31 : ℕ) (bary tary : Option ℕ) → pc + 4 < 2 ^ 32
    → begin_as (insns.Lui 30 0x40000) (inner p p.units pc steps x28 x29 x30 x31 bary tary None)
    ≡ inner p p.units (pc + 4) (steps + 1) x28 x29 0x40000000 x31 bary tary None
bases p pc steps x28 x29 x30 x31 bary tary small =
    same_inner p _ _ _ _ _ _ _ _ _ _ _ _ _ _ bary tary None (omega arith) (omega arith) refl refl refl refl refl

-- an offset in private data and its first address have no bit in common
apart : (x : ℕ) → x < 2 ^ 20 → bit_or x 0x40000000 ≡ 0x40000000 + x
apart x h =
    let none : bit_and x (1024 * 2 ^ 20) ≡ 0 = and_comm x (1024 * 2 ^ 20) ∙ and_shifted 1024 20 x h in
    or_disjoint x 0x40000000 none ∙ omega arith

pub merges : (p : State) (pc steps x28 x29 x31 : ℕ) (bary tary : Option ℕ) → pc + 4 < 2 ^ 32 → x31 < 2 ^ 20
    → begin_as (insns.Op Or 31 31 30) (inner p p.units pc steps x28 x29 0x40000000 x31 bary tary None)
    ≡ inner p p.units (pc + 4) (steps + 1) x28 x29 0x40000000 (0x40000000 + x31) bary tary None
merges p pc steps x28 x29 x31 bary tary small low =
    same_inner p _ _ _ _ _ _ _ _ _ _ _ _ _ _ bary tary None
    (omega arith) (omega arith) refl refl refl refl (apart x31 low)
