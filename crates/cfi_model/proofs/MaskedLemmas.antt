-- The places within a masked access, and how one leads to the next.
use Rattle.std.proofs.Common.{◌≡◌, ℕ, ◌+◌, ◌*◌, ◌%◌, ◌^◌, ◌<◌, ℤ, None, List, refl, ◌∙◌, arith, ◌⊎◌, inl, inr}
use Rattle.rv_insn.specs.declared.insn.Insn.{Insn}
use Rattle.cfi_unit.specs.declared.unit.Unit.{Unit as CodeUnit}
use Rattle.cfi_unit.specs.Unit.{insns_of, masked}
use Rattle.cfi_model.specs.State.{State, register, displaced}
use Rattle.cfi_model.specs.Raw.{Raw}
use Rattle.cfi_model.specs.Begin.{begin_as}
use Rattle.cfi_model.specs.Run.{Take, take_one}
use Rattle.cfi_model.specs.History.{History}
use Rattle.cfi_model.specs.Fits.{Fits}
use Rattle.cfi_model.proofs.InnerLemmas.{inner}
use Rattle.cfi_model.proofs.WalkLemmas.{aims, shifts, cuts, bases, merges}
use Rattle.cfi_model.proofs.FetchLemmas.{Here, walks, counts}

-- a place is named for what was done last: x31 has the address, is shifted and cut to its offset, x30 has the first
-- address, and x31 has both
pub data MaskedPlace : Type 0 where
  Aimed : MaskedPlace
  Shifted : MaskedPlace
  Cut : MaskedPlace
  Based : MaskedPlace
  Merged : MaskedPlace

-- the raw state at a place, after so many repeated tries of earlier checks
abbrev pub masked_raw : State → (n address x28 x29 x30 : ℕ) → MaskedPlace → Raw
masked_raw p n address x28 x29 x30 Aimed =
    inner p p.units (p.pc + 4 * 1) (p.steps + 9 * n + 1) x28 x29 x30 address None None None
masked_raw p n address x28 x29 x30 Shifted =
    inner p p.units (p.pc + 4 * 2) (p.steps + 9 * n + 2) x28 x29 x30 (address * 2 ^ 12 % 2 ^ 32) None None None
masked_raw p n address x28 x29 x30 Cut =
    inner p p.units (p.pc + 4 * 3) (p.steps + 9 * n + 3) x28 x29 x30 (address % 2 ^ 20) None None None
masked_raw p n address x28 x29 x30 Based =
    inner p p.units (p.pc + 4 * 4) (p.steps + 9 * n + 4) x28 x29 0x40000000 (address % 2 ^ 20) None None None
masked_raw p n address x28 x29 x30 Merged =
    inner p p.units (p.pc + 4 * 5) (p.steps + 9 * n + 5) x28 x29 x30 (0x40000000 + address % 2 ^ 20) None None None

pub record MaskedAt (p : State) (n address : ℕ) (r : Raw) : Type 0 where
  pub x28 : ℕ
  pub x29 : ℕ
  pub x30 : ℕ
  pub place : MaskedPlace
  pub is : r ≡ masked_raw p n address x28 x29 x30 place

-- the first instruction leads to the first place
pub masked_begins : (h : History) (code : List ℕ) (p : State) (unit : CodeUnit) (rs1 : ℕ) (imm : ℤ) (access : Insn)
    → Here h code p unit → insns_of unit ≡ masked rs1 imm access → rs1 < 28
    → (n x28 x29 x30 x31 : ℕ) (r : Raw)
    → r ≡ inner p p.units (p.pc + 4 * 0) (p.steps + 9 * n) x28 x29 x30 x31 None None None
    → (t : Take) → Fits h code r t → MaskedAt p n (displaced (register p rs1) imm) (take_one r t)
masked_begins h code p unit rs1 imm access here spelled free n x28 x29 x30 x31 r is t fits =
    let small = here.small in
    record {
      x28 = x28;
      x29 = x29;
      x30 = x30;
      place = Aimed;
      is = walks h code p unit here (masked rs1 imm access) spelled 0 (omega arith) _ _ _ _ _ _ _ _ r is
          (aims p (p.pc + 4 * 0) (p.steps + 9 * n) x28 x29 x30 x31 None None rs1 imm free (omega arith)
          ∙ counts p _ _ _ _ _ _ _ _ None None None (omega arith) (omega arith)) t fits;
    }

-- from each place but the last the next instruction leads to the next place
pub masked_goes_on : (h : History) (code : List ℕ) (p : State) (unit : CodeUnit) (rs1 : ℕ) (imm : ℤ) (access : Insn)
    → Here h code p unit → insns_of unit ≡ masked rs1 imm access
    → (n address x28 x29 x30 : ℕ) (place : MaskedPlace) (r : Raw) → r ≡ masked_raw p n address x28 x29 x30 place
    → (t : Take) → Fits h code r t
    → MaskedAt p n address (take_one r t)
    ⊎ (take_one r t ≡ begin_as access (masked_raw p n address x28 x29 x30 Merged))
masked_goes_on h code p unit rs1 imm access here spelled n address x28 x29 x30 Aimed r is t fits =
    let small = here.small in
    inl (record {
      x28 = x28;
      x29 = x29;
      x30 = x30;
      place = Shifted;
      is = walks h code p unit here (masked rs1 imm access) spelled 1 (omega arith) _ _ _ _ _ _ _ _ r is
          (shifts p (p.pc + 4 * 1) (p.steps + 9 * n + 1) x28 x29 x30 address None None (omega arith)
          ∙ counts p _ _ _ _ _ _ _ _ None None None (omega arith) (omega arith)) t fits;
    })
masked_goes_on h code p unit rs1 imm access here spelled n address x28 x29 x30 Shifted r is t fits =
    let small = here.small in
    inl (record {
      x28 = x28;
      x29 = x29;
      x30 = x30;
      place = Cut;
      is = walks h code p unit here (masked rs1 imm access) spelled 2 (omega arith) _ _ _ _ _ _ _ _ r is
          (cuts p (p.pc + 4 * 2) (p.steps + 9 * n + 2) x28 x29 x30 address None None (omega arith)
          ∙ counts p _ _ _ _ _ _ _ _ None None None (omega arith) (omega arith)) t fits;
    })
masked_goes_on h code p unit rs1 imm access here spelled n address x28 x29 x30 Cut r is t fits =
    let small = here.small in
    inl (record {
      x28 = x28;
      x29 = x29;
      x30 = x30;
      place = Based;
      is = walks h code p unit here (masked rs1 imm access) spelled 3 (omega arith) _ _ _ _ _ _ _ _ r is
          (bases p (p.pc + 4 * 3) (p.steps + 9 * n + 3) x28 x29 x30 (address % 2 ^ 20) None None (omega arith)
          ∙ counts p _ _ _ _ _ _ _ _ None None None (omega arith) (omega arith)) t fits;
    })
masked_goes_on h code p unit rs1 imm access here spelled n address x28 x29 x30 Based r is t fits =
    let small = here.small in
    inl (record {
      x28 = x28;
      x29 = x29;
      x30 = 0x40000000;
      place = Merged;
      is = walks h code p unit here (masked rs1 imm access) spelled 4 (omega arith) _ _ _ _ _ _ _ _ r is
          (merges p (p.pc + 4 * 4) (p.steps + 9 * n + 4) x28 x29 (address % 2 ^ 20) None None (omega arith)
          (omega arith)
          ∙ counts p _ _ _ _ _ _ _ _ None None None (omega arith) (omega arith)) t fits;
    })
masked_goes_on h code p unit rs1 imm access here spelled n address x28 x29 x30 Merged r is t fits =
    inr (walks h code p unit here (masked rs1 imm access) spelled 5 (omega arith) _ _ _ _ _ _ _ _ r is refl t fits)
