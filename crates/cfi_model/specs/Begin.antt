-- The raw machine's instructions (RISC-V Unprivileged ISA 20191213, 2): what each makes of a state, and asks for.
-- An instruction is counted as fetched when it begins. A load from a table then waits for its word, and ECALL for its
-- service. A word that is no instruction, and an access that has no meaning, leave the state as it is.
use Rattle.std.specs.Prelude.{◌≡◌, ℕ, ◌+◌, ◌-◌, ◌*◌, ◌/◌, ◌%◌, ◌^◌, ◌==◌, nat_lt, nat_le, ◌&&◌, ◌||◌, Bool, true, false, if◌then◌else◌, ℤ, Option, Some, None, List, ⊤}
use Rattle.std.specs.Int.{w32, cast_unsigned}
use Rattle.rv_insn.specs.declared.insn.Insn.{Insn}
use Rattle.rv_insn.specs.declared.insn.Insn.TheVariants as insns
use Rattle.rv_insn.specs.declared.insn.LoadKind.{LoadKind}
use Rattle.rv_insn.specs.declared.insn.LoadKind.TheVariants.{Lw}
use Rattle.rv_insn.specs.declared.insn.StoreKind.{StoreKind}
use Rattle.rv_insn.specs.InsnOf.{insn_of}
use Rattle.rv_alu.specs.Alu.{value_of_op, value_of_imm_op, takes}
use Rattle.cfi_word.specs.declared.sizes.TheConstants.{SLOTS}
use Rattle.cfi_word.specs.declared.map.TheConstants.{BARY, CODE_BYTES, TARY, DATA_START, DATA_BYTES}
use Rattle.cfi_unit.specs.Free.{is_reserved, names_reserved}
use Rattle.cfi_unit.specs.declared.log.Log.{Log}
use Rattle.cfi_unit.specs.declared.log.Stop.{Stop}
use Rattle.cfi_unit.specs.declared.log.Stop.TheVariants as stops
use Rattle.cfi_word.specs.Word.{policy_in}
use Rattle.cfi_model.specs.declared.act.Act.{Act}
use Rattle.cfi_model.specs.declared.act.Act.TheVariants as acts
use Rattle.cfi_model.specs.declared.act.Wait.{Wait}
use Rattle.cfi_model.specs.declared.act.Wait.TheVariants as waits
use Rattle.cfi_model.specs.Data.{load_width, store_width, is_aligned, loaded}
use Rattle.cfi_model.specs.Pages.{memory_stored}
use Rattle.cfi_model.specs.Log.{picked}
use Rattle.cfi_model.specs.State.{displaced, after}
use Rattle.cfi_model.specs.Service.{asked}
use Rattle.cfi_model.specs.Raw.{Raw, reg, with_reg, access_address}

-- an instruction that names none counts as a unit
abbrev pub units_of : (reserved : Bool) → ℕ
units_of reserved = if reserved then 0 else 1

-- an instruction was fetched; so many units ended with it, and the next instruction is at this address
abbrev pub ran : (to units : ℕ) → Raw → Raw
ran to units r =
    record r { base = record r.base { pc = to; units = r.base.units + units; steps = r.base.steps + 1 } }

-- the address after an instruction
abbrev pub next : Raw → ℕ
next r = after 4 r.base.pc

-- an instruction that writes a register and goes on
abbrev pub writes : Insn → (rd value : ℕ) → Raw → Raw
writes insn rd value r = ran (next r) (units_of (names_reserved insn)) (with_reg r rd value)

-- it stopped the guest
abbrev pub stopped : Stop → Raw → Raw
stopped stop r =
    record r { base = record r.base { units = r.base.units + 1; steps = r.base.steps + 1; stop = Some stop } }

-- it waits
abbrev pub waiting : Wait → (units : ℕ) → Raw → Raw
waiting wait units r = record r {
  base = record r.base { pc = next r; units = r.base.units + units; steps = r.base.steps + 1 };
  waits = Some wait;
}

-- the log after a check's last jump or stop: a pick, where a Tary word is kept
abbrev pub picked_by : Option ℕ → List Log → List Log
picked_by None log = log
picked_by (Some word) log = picked (policy_in word) log

-- no table word is kept, and the kept Tary word is a pick
abbrev pub judged : Raw → Raw
judged r = record r { base = record r.base { log = picked_by r.tary r.base.log }; bary = None; tary = None }

-- the target of JALR, its lowest bit cleared
abbrev pub jalr_target : Raw → (rs1 : ℕ) → ℤ → ℕ
jalr_target r rs1 imm = access_address r rs1 imm - access_address r rs1 imm % 2

-- what lies at an address
pub data Area : Type 0 where
  Private : (offset : ℕ) → Area
  TaryId : (address : ℕ) → Area
  BaryId : (slot : ℕ) → Area
  Nothing : Area

-- an address lies in a range of so many bytes
abbrev pub is_in_range : (first bytes address : ℕ) → Bool
is_in_range first bytes address = nat_le first address && nat_lt address (first + bytes)

-- where an address lies: in private data, in a table, or nowhere
abbrev pub area_of : ℕ → Area
area_of address =
    if is_in_range DATA_START DATA_BYTES address then Private (address - DATA_START) else
    (if is_in_range TARY CODE_BYTES address then TaryId (address - TARY) else
    (if is_in_range BARY (4 * SLOTS) address && is_aligned 4 address then BaryId ((address - BARY) / 4) else Nothing))

-- a table is read by words alone
abbrev pub reads_table : LoadKind → Bool
reads_table Lw = true
reads_table _ = false

-- a load from private data
abbrev pub load_private : LoadKind → (rd offset : ℕ) → Raw → Raw
load_private kind rd offset r =
    if is_aligned (load_width kind) offset
    then ran (next r) 1 (with_reg r rd (loaded kind r.base.memory.bytes offset))
    else stopped (stops.Align (DATA_START + offset)) r

-- a load from the place of an address
abbrev pub load_at : Area → LoadKind → (rd units : ℕ) → Raw → Raw
load_at (Private offset) kind rd units r = load_private kind rd offset r
load_at (TaryId address) kind rd units r =
    if reads_table kind
    then (if is_aligned 4 address then waiting (waits.Tary address rd) units r else stopped (stops.Halt address) r)
    else r
load_at (BaryId slot) kind rd units r = if reads_table kind then waiting (waits.Bary slot rd) units r else r
load_at Nothing kind rd units r = r

-- a store of a value
abbrev pub store_private : StoreKind → (offset value : ℕ) → Raw → Raw
store_private kind offset value r =
    if is_aligned (store_width kind) offset
    then ran (next r) 1 (record r { base = record r.base { memory = memory_stored kind r.base.memory offset value } })
    else stopped (stops.Align (DATA_START + offset)) r

-- a store changes private data alone
abbrev pub store_at : Area → StoreKind → (value : ℕ) → Raw → Raw
store_at (Private offset) kind value r = store_private kind offset value r
store_at _ kind value r = r

-- a jump to a register; one through x31 ends a check
abbrev pub jumped : (rd rs1 : ℕ) → ℤ → Raw → Raw
jumped rd rs1 imm r =
    let to = jalr_target r rs1 imm in
    let linked = with_reg r rd (next r) in
    if rs1 == 31
    then ran to 1 (judged linked)
    else ran to (units_of (is_reserved rd || is_reserved rs1)) linked

-- what an instruction makes of a state
abbrev pub begin_as : Insn → Raw → Raw
begin_as (insns.Lui rd imm) r = writes (insns.Lui rd imm) rd ((imm * 2 ^ 12) % 2 ^ 32) r
begin_as (insns.Auipc rd imm) r =
    writes (insns.Auipc rd imm) rd ((r.base.pc + (imm * 2 ^ 12) % 2 ^ 32) % 2 ^ 32) r
begin_as (insns.Jal rd off) r =
    ran (displaced r.base.pc off) (units_of (is_reserved rd)) (with_reg r rd (next r))
begin_as (insns.Jalr rd rs1 imm) r = jumped rd rs1 imm r
begin_as (insns.Branch cond rs1 rs2 off) r =
    ran
    (if takes cond (reg r rs1) (reg r rs2) then displaced r.base.pc off else next r)
    (units_of (is_reserved rs1 || is_reserved rs2))
    r
begin_as (insns.Load kind rd rs1 imm) r =
    load_at (area_of (access_address r rs1 imm)) kind rd (units_of (is_reserved rd || is_reserved rs1)) r
begin_as (insns.Store kind rs1 rs2 imm) r = store_at (area_of (access_address r rs1 imm)) kind (reg r rs2) r
begin_as (insns.OpImm op rd rs1 imm) r =
    writes (insns.OpImm op rd rs1 imm) rd (value_of_imm_op op (reg r rs1) (cast_unsigned w32 imm)) r
begin_as (insns.Op op rd rs1 rs2) r =
    writes (insns.Op op rd rs1 rs2) rd (value_of_op op (reg r rs1) (reg r rs2)) r
begin_as (insns.Fence fields) r = ran (next r) 1 r
begin_as insns.Ecall r = waiting (waits.Service (asked r.base)) 0 r
begin_as insns.Ebreak r = stopped (stops.Halt r.x31) (judged r)

-- what a word makes of a state
abbrev pub begin_by : Option Insn → Raw → Raw
begin_by None r = r
begin_by (Some insn) r = begin_as insn r

-- what an instruction makes of a state, by its word
abbrev pub begin_of : Raw → (word : ℕ) → Raw
begin_of r word = begin_by (insn_of word) r

-- what a load asks for
abbrev pub load_act : Area → LoadKind → Act
load_act (Private offset) kind =
    if is_aligned (load_width kind) offset then acts.Done else acts.Align (DATA_START + offset)
load_act (TaryId address) kind =
    if reads_table kind
    then (if is_aligned 4 address then acts.Need (TARY + address) else acts.Halt address)
    else acts.Done
load_act (BaryId slot) kind = if reads_table kind then acts.Need (BARY + 4 * slot) else acts.Done
load_act Nothing kind = acts.Done

-- a store traps where it is not aligned in private data
abbrev pub store_act : Area → StoreKind → Act
store_act (Private offset) kind =
    if is_aligned (store_width kind) offset then acts.Done else acts.Align (DATA_START + offset)
store_act _ kind = acts.Done

-- what an instruction asks for
abbrev pub act_as : Insn → Raw → Act
act_as (insns.Load kind rd rs1 imm) r = load_act (area_of (access_address r rs1 imm)) kind
act_as (insns.Store kind rs1 rs2 imm) r = store_act (area_of (access_address r rs1 imm)) kind
act_as insns.Ecall r = acts.Service (asked r.base)
act_as insns.Ebreak r = acts.Halt r.x31
act_as _ r = acts.Done

-- what an instruction asks for; a word that is none asks for nothing
abbrev pub act_by : Option Insn → Raw → Act
act_by None r = acts.Done
act_by (Some insn) r = act_as insn r

-- the same by its word
abbrev pub act_of : Raw → (word : ℕ) → Act
act_of r word = act_by (insn_of word) r

-- the raw machine has a step for an access: private data, or a whole word of a table
abbrev pub HasLoad : Area → LoadKind → Type 0
HasLoad (Private offset) kind = ⊤
HasLoad (TaryId address) kind = reads_table kind ≡ true
HasLoad (BaryId slot) kind = reads_table kind ≡ true
HasLoad Nothing kind = ⊥

-- an area that can be stored to
abbrev pub HasStore : Area → Type 0
HasStore (Private offset) = ⊤
HasStore area = ⊥

-- the raw machine has a step for an instruction
abbrev pub HasStep : Insn → Raw → Type 0
HasStep (insns.Load kind rd rs1 imm) r = HasLoad (area_of (access_address r rs1 imm)) kind
HasStep (insns.Store kind rs1 rs2 imm) r = HasStore (area_of (access_address r rs1 imm))
HasStep insn r = ⊤

-- and for a word
abbrev pub HasStepBy : Option Insn → Raw → Type 0
HasStepBy None r = ⊥
HasStepBy (Some insn) r = HasStep insn r
