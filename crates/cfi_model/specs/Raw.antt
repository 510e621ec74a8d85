-- The raw machine's state: RV32I without units, with two table words that are kept within a check.
use Rattle.std.specs.Prelude.{ℕ, ℤ, Option, None, List}
use Rattle.cfi_unit.specs.declared.fill.Fill.{Fill}
use Rattle.cfi_model.specs.declared.act.Wait.{Wait}
use Rattle.cfi_model.specs.State.{State, opened, displaced}
use Rattle.cfi_model.specs.Registers.{RegFile, held, with_held}

-- `base` has x0 to x27, the address of the next instruction and its own counts of units and instructions; `bary` and
-- `tary` are the last table words that were loaded since the last check; `waits` is what an instruction waits for
pub record Raw : Type 0 where
  pub base : State
  pub x28 : ℕ
  pub x29 : ℕ
  pub x30 : ℕ
  pub x31 : ℕ
  pub bary : Option ℕ
  pub tary : Option ℕ
  pub waits : Option Wait

-- a raw state within no unit
abbrev pub fresh : State → Raw
fresh s = record { base = s; x28 = 0; x29 = 0; x30 = 0; x31 = 0; bary = None; tary = None; waits = None }

-- a guest at its start
abbrev pub raw_opened : (number entry : ℕ) → List Fill → Raw
raw_opened number entry fills = fresh (opened number entry fills)

-- its registers
abbrev pub registers_of : Raw → RegFile
registers_of r = record { free = r.base.regs; x28 = r.x28; x29 = r.x29; x30 = r.x30; x31 = r.x31 }

-- what a register holds
abbrev pub reg : Raw → ℕ → ℕ
reg r k = held (registers_of r) k

-- the state with these registers
abbrev pub with_registers : Raw → RegFile → Raw
with_registers r f = record r {
  base = record r.base { regs = f.free };
  x28 = f.x28;
  x29 = f.x29;
  x30 = f.x30;
  x31 = f.x31;
}

-- the state after a write of a register
abbrev pub with_reg : Raw → (k value : ℕ) → Raw
with_reg r k value = with_registers r (with_held (registers_of r) k value)

-- the address that a register and an immediate give
abbrev pub access_address : Raw → (rs1 : ℕ) → ℤ → ℕ
access_address r rs1 imm = displaced (reg r rs1) imm
