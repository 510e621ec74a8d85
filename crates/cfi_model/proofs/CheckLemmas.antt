-- What a check's instructions make of a raw state, one after the other.
use Rattle.std.proofs.Common.{◌≡◌, ◌≢◌, ℕ, ◌+◌, ◌-◌, ◌*◌, ◌/◌, ◌%◌, ◌^◌, ◌<◌, ◌==◌, ℤ, pos, negsuc, not, true, false, cond, Option, Some, None, refl, ◌∙◌, ap, arith, rules, bit_xor, inl, inr}
use Rattle.std.proofs.lemmas.Bool.Decides.{nat_tests}
use Rattle.std.proofs.lemmas.Bool.{cases_lt, lt-ltb, le-ltb}
use Rattle.rv_insn.specs.declared.insn.Insn.TheVariants as insns
use Rattle.rv_insn.specs.declared.insn.ImmOp.TheVariants.{Slli, Srli}
use Rattle.rv_insn.specs.declared.insn.Op.TheVariants.{Add, Xor}
use Rattle.rv_insn.specs.declared.insn.Cond.TheVariants.{Beq, Bne}
use Rattle.rv_insn.specs.declared.insn.LoadKind.TheVariants.{Lw}
use Rattle.cfi_word.specs.declared.sizes.TheConstants.{SLOTS}
use Rattle.cfi_unit.specs.Unit.{high_insn, low_insn, bary_address}
use Rattle.rv_insn.specs.Fields.{high_of, low_of}
use Rattle.cfi_unit.specs.declared.log.Stop.TheVariants as stops
use Rattle.cfi_model.specs.declared.act.Wait.TheVariants as waits
use Rattle.cfi_model.specs.State.{State, register, displaced}
use Rattle.cfi_model.specs.Raw.{Raw}
use Rattle.cfi_model.specs.Begin.{TaryId, BaryId, begin_as, area_of, load_at, stopped, waiting}
use Rattle.cfi_model.proofs.InnerLemmas.{inner, same_inner}

-- x30 is the part of x31 that lies past the code
pub splits : (p : State) (pc steps x28 x29 x30 x31 : ℕ) (bary tary : Option ℕ) → pc + 4 < 2 ^ 32
    → begin_as (insns.OpImm Srli 30 31 (pos 18)) (inner p p.units pc steps x28 x29 x30 x31 bary tary None)
    ≡ inner p p.units (pc + 4) (steps + 1) x28 x29 (x31 / 2 ^ 18) x31 bary tary None
splits p pc steps x28 x29 x30 x31 bary tary small =
    same_inner p _ _ _ _ _ _ _ _ _ _ _ _ _ _ bary tary None (omega arith) (omega arith) refl refl refl refl refl

-- a branch on x30 goes to its target where x30 is not 0
pub far : (p : State) (pc steps x28 x29 x30 x31 : ℕ) (bary tary : Option ℕ) (off : ℤ) → register p 0 ≡ 0 → x30 ≢ 0
    → begin_as (insns.Branch Bne 30 0 off) (inner p p.units pc steps x28 x29 x30 x31 bary tary None)
    ≡ inner p p.units (displaced pc off) (steps + 1) x28 x29 x30 x31 bary tary None
far p pc steps x28 x29 x30 x31 bary tary off zero_is some =
    let test : (x30 == 0) ≡ false = search (rules, arith) in
    let same : (x30 == register p 0) ≡ false = ap (λ z. x30 == z) zero_is ∙ test in
    same_inner p _ _ _ _ _ _ _ _ _ _ _ _ _ _ bary tary None
    (omega arith) (ap (λ b. cond (not b) (displaced pc off) ((pc + 4) % 2 ^ 32)) same) refl refl refl refl refl

pub near : (p : State) (pc steps x28 x29 x30 x31 : ℕ) (bary tary : Option ℕ) (off : ℤ) → register p 0 ≡ 0 → x30 ≡ 0
    → pc + 4 < 2 ^ 32
    → begin_as (insns.Branch Bne 30 0 off) (inner p p.units pc steps x28 x29 x30 x31 bary tary None)
    ≡ inner p p.units (pc + 4) (steps + 1) x28 x29 x30 x31 bary tary None
near p pc steps x28 x29 x30 x31 bary tary off zero_is none small =
    let test : (x30 == 0) ≡ true = search (rules, arith) in
    let same : (x30 == register p 0) ≡ true = ap (λ z. x30 == z) zero_is ∙ test in
    same_inner p _ _ _ _ _ _ _ _ _ _ _ _ _ _ bary tary None
    (omega arith) (ap (λ b. cond (not b) (displaced pc off) ((pc + 4) % 2 ^ 32)) same ∙ omega arith)
    refl refl refl refl refl

-- x28 is the high part of a slot's address
abbrev pub high_word : (slot : ℕ) → ℕ
high_word slot = high_of (bary_address slot) * 2 ^ 12 % 2 ^ 32

pub points : (p : State) (pc steps x28 x29 x30 x31 : ℕ) (bary tary : Option ℕ) (slot : ℕ) → pc + 4 < 2 ^ 32
    → begin_as (high_insn slot) (inner p p.units pc steps x28 x29 x30 x31 bary tary None)
    ≡ inner p p.units (pc + 4) (steps + 1) (high_word slot) x29 x30 x31 bary tary None
points p pc steps x28 x29 x30 x31 bary tary slot small =
    same_inner p _ _ _ _ _ _ _ _ _ _ _ _ _ _ bary tary None (omega arith) (omega arith) refl refl refl refl refl

-- both parts give the address
pub joins : (address : ℕ) → address + 2 ^ 11 < 2 ^ 32
    → displaced (high_of address * 2 ^ 12 % 2 ^ 32) (low_of address) ≡ address
joins address small = elim (cases_lt (address % 2 ^ 12) (2 ^ 11)) [
  | inl h ↦
      ap (λ b. displaced (high_of address * 2 ^ 12 % 2 ^ 32)
      (cond b (pos (address % 2 ^ 12)) (negsuc (2 * 2 ^ 11 - 1 - address % 2 ^ 12)))) (lt-ltb _ _ h) ∙ omega arith
  | inr h ↦
      ap (λ b. displaced (high_of address * 2 ^ 12 % 2 ^ 32)
      (cond b (pos (address % 2 ^ 12)) (negsuc (2 * 2 ^ 11 - 1 - address % 2 ^ 12)))) (le-ltb _ _ h) ∙ omega arith
]

pub area_bary : (slot : ℕ) → slot < SLOTS → area_of (bary_address slot) ≡ BaryId slot
area_bary slot h = grind (arith, nat_tests)

-- the slot's word is asked for
pub asks_bary : (p : State) (pc steps x29 x30 x31 : ℕ) (bary tary : Option ℕ) (slot : ℕ) → slot < SLOTS
    → pc + 4 < 2 ^ 32
    → begin_as (low_insn slot) (inner p p.units pc steps (high_word slot) x29 x30 x31 bary tary None)
    ≡ inner p p.units (pc + 4) (steps + 1) (high_word slot) x29 x30 x31 bary tary (Some (waits.Bary slot 29))
asks_bary p pc steps x29 x30 x31 bary tary slot within small =
    let r : Raw = inner p p.units pc steps (high_word slot) x29 x30 x31 bary tary None in
    let address = joins (bary_address slot) (omega arith) in
    ap (λ a. load_at (area_of a) Lw 29 0 r) address
    ∙ ap (λ a. load_at a Lw 29 0 r) (area_bary slot within)
    ∙ same_inner p _ _ _ _ _ _ _ _ _ _ _ _ _ _ bary tary (Some (waits.Bary slot 29))
    (omega arith) (omega arith) refl refl refl refl refl

-- x30 is the first Tary address, and then the target's
pub tables : (p : State) (pc steps x28 x29 x30 x31 : ℕ) (bary tary : Option ℕ) → pc + 4 < 2 ^ 32
    → begin_as (insns.Lui 30 0x10000) (inner p p.units pc steps x28 x29 x30 x31 bary tary None)
    ≡ inner p p.units (pc + 4) (steps + 1) x28 x29 0x10000000 x31 bary tary None
tables p pc steps x28 x29 x30 x31 bary tary small =
    same_inner p _ _ _ _ _ _ _ _ _ _ _ _ _ _ bary tary None (omega arith) (omega arith) refl refl refl refl refl

pub adds : (p : State) (pc steps x28 x29 x31 : ℕ) (bary tary : Option ℕ) → pc + 4 < 2 ^ 32 → x31 < 2 ^ 18
    → begin_as (insns.Op Add 30 30 31) (inner p p.units pc steps x28 x29 0x10000000 x31 bary tary None)
    ≡ inner p p.units (pc + 4) (steps + 1) x28 x29 (0x10000000 + x31) x31 bary tary None
adds p pc steps x28 x29 x31 bary tary small low =
    same_inner p _ _ _ _ _ _ _ _ _ _ _ _ _ _ bary tary None
    (omega arith) (omega arith) refl refl refl (omega arith) refl

pub area_tary : (t : ℕ) → t < 2 ^ 18 → area_of ((0x10000000 + t + 0) % 2 ^ 32) ≡ TaryId t
area_tary t h = grind (arith, nat_tests)

-- a load of the target's word, in the terms of its place
pub looks : (p : State) (pc steps x28 x29 x31 : ℕ) (bary tary : Option ℕ) → x31 < 2 ^ 18
    → begin_as (insns.Load Lw 30 30 (pos 0)) (inner p p.units pc steps x28 x29 (0x10000000 + x31) x31 bary tary None)
    ≡ load_at (TaryId x31) Lw 30 0 (inner p p.units pc steps x28 x29 (0x10000000 + x31) x31 bary tary None)
looks p pc steps x28 x29 x31 bary tary low =
    ap (λ a. load_at a Lw 30 0 (inner p p.units pc steps x28 x29 (0x10000000 + x31) x31 bary tary None))
    (area_tary x31 low)

-- the target's word is asked for
pub asks_tary : (p : State) (pc steps x28 x29 x31 : ℕ) (bary tary : Option ℕ) → pc + 4 < 2 ^ 32 → x31 < 2 ^ 18
    → x31 % 4 ≡ 0
    → begin_as (insns.Load Lw 30 30 (pos 0)) (inner p p.units pc steps x28 x29 (0x10000000 + x31) x31 bary tary None)
    ≡ inner p p.units (pc + 4) (steps + 1) x28 x29 (0x10000000 + x31) x31 bary tary (Some (waits.Tary x31 30))
asks_tary p pc steps x28 x29 x31 bary tary small low whole =
    let r : Raw = inner p p.units pc steps x28 x29 (0x10000000 + x31) x31 bary tary None in
    let test : (x31 % 4 == 0) ≡ true = search (rules, arith) in
    looks p pc steps x28 x29 x31 bary tary low
    ∙ ap (λ b. cond b (waiting (waits.Tary x31 30) 0 r) (stopped (stops.Halt x31) r)) test
    ∙ same_inner p _ _ _ _ _ _ _ _ _ _ _ _ _ _ bary tary (Some (waits.Tary x31 30))
    (omega arith) (omega arith) refl refl refl refl refl

-- the IDs are compared
pub equals : (p : State) (pc steps x28 x29 x30 x31 : ℕ) (bary tary : Option ℕ) → x29 ≡ x30 → pc + 20 < 2 ^ 32
    → begin_as (insns.Branch Beq 29 30 (pos 20)) (inner p p.units pc steps x28 x29 x30 x31 bary tary None)
    ≡ inner p p.units (pc + 20) (steps + 1) x28 x29 x30 x31 bary tary None
equals p pc steps x28 x29 x30 x31 bary tary same small =
    let test : (x29 == x30) ≡ true = search (rules, arith) in
    same_inner p _ _ _ _ _ _ _ _ _ _ _ _ _ _ bary tary None
    (omega arith) (ap (λ b. cond b ((pc + 20) % 2 ^ 32) ((pc + 4) % 2 ^ 32)) test ∙ omega arith)
    refl refl refl refl refl

pub differs : (p : State) (pc steps x28 x29 x30 x31 : ℕ) (bary tary : Option ℕ) → x29 ≢ x30 → pc + 4 < 2 ^ 32
    → begin_as (insns.Branch Beq 29 30 (pos 20)) (inner p p.units pc steps x28 x29 x30 x31 bary tary None)
    ≡ inner p p.units (pc + 4) (steps + 1) x28 x29 x30 x31 bary tary None
differs p pc steps x28 x29 x30 x31 bary tary other small =
    let test : (x29 == x30) ≡ false = search (rules, arith) in
    same_inner p _ _ _ _ _ _ _ _ _ _ _ _ _ _ bary tary None
    (omega arith) (ap (λ b. cond b ((pc + 20) % 2 ^ 32) ((pc + 4) % 2 ^ 32)) test ∙ omega arith)
    refl refl refl refl refl

-- x30 is where they differ, and then where their low halves do
pub compares : (p : State) (pc steps x28 x29 x30 x31 : ℕ) (bary tary : Option ℕ) → pc + 4 < 2 ^ 32
    → begin_as (insns.Op Xor 30 30 29) (inner p p.units pc steps x28 x29 x30 x31 bary tary None)
    ≡ inner p p.units (pc + 4) (steps + 1) x28 x29 (bit_xor x30 x29) x31 bary tary None
compares p pc steps x28 x29 x30 x31 bary tary small =
    same_inner p _ _ _ _ _ _ _ _ _ _ _ _ _ _ bary tary None (omega arith) (omega arith) refl refl refl refl refl

pub keeps_low : (p : State) (pc steps x28 x29 x30 x31 : ℕ) (bary tary : Option ℕ) → pc + 4 < 2 ^ 32
    → begin_as (insns.OpImm Slli 30 30 (pos 16)) (inner p p.units pc steps x28 x29 x30 x31 bary tary None)
    ≡ inner p p.units (pc + 4) (steps + 1) x28 x29 (x30 * 2 ^ 16 % 2 ^ 32) x31 bary tary None
keeps_low p pc steps x28 x29 x30 x31 bary tary small =
    same_inner p _ _ _ _ _ _ _ _ _ _ _ _ _ _ bary tary None (omega arith) (omega arith) refl refl refl refl refl
