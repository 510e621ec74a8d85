-- What an instruction asks for tells how it leaves the raw machine.
use Rattle.std.proofs.Common.{◌≡◌, ℕ, ◌+◌, ◌*◌, ◌==◌, Bool, true, false, cond, Option, Some, None, refl, sym, subst}
use Rattle.rv_insn.specs.declared.insn.Insn.{Insn}
use Rattle.rv_insn.specs.declared.insn.Insn.TheVariants as insns
use Rattle.rv_insn.specs.declared.insn.LoadKind.{LoadKind}
use Rattle.rv_insn.specs.declared.insn.StoreKind.{StoreKind}
use Rattle.cfi_unit.specs.declared.log.Stop.TheVariants as stops
use Rattle.cfi_model.specs.declared.act.Act.{Act}
use Rattle.cfi_model.specs.declared.act.Act.TheVariants as acts
use Rattle.cfi_model.specs.declared.act.Wait.{Wait}
use Rattle.cfi_model.specs.declared.act.Wait.TheVariants as waits
use Rattle.cfi_word.specs.declared.map.TheConstants.{BARY, TARY}
use Rattle.cfi_model.specs.Data.{load_width, store_width, is_aligned}
use Rattle.cfi_model.specs.Raw.{Raw, access_address}
use Rattle.cfi_model.specs.Begin.{Area, Private, TaryId, BaryId, Nothing, HasLoad, HasStore, HasStep, begin_as, act_as, load_at, load_act, store_at, store_act, area_of, waiting, stopped}

-- a guest waits for the table word of this address
abbrev pub WaitsAt : Option Wait → (address : ℕ) → Type 0
WaitsAt (Some (waits.Tary at rd)) address = address ≡ TARY + at
WaitsAt (Some (waits.Bary slot rd)) address = address ≡ BARY + 4 * slot
WaitsAt (Some (waits.Service number)) address = ⊥
WaitsAt None address = ⊥

abbrev pub Tells : Act → Raw → Type 0
Tells acts.Done r = (r.waits ≡ None) × (r.base.stop ≡ None)
Tells (acts.Need address) r = WaitsAt r.waits address × (r.base.stop ≡ None)
Tells (acts.Service number) r = (r.waits ≡ Some (waits.Service number)) × (r.base.stop ≡ None)
Tells (acts.Halt target) r = (r.waits ≡ None) × (r.base.stop ≡ Some (stops.Halt target))
Tells (acts.Align address) r = (r.waits ≡ None) × (r.base.stop ≡ Some (stops.Align address))

either : (b : Bool) (x y : Act) (r s : Raw) → Tells x r → Tells y s → Tells (cond b x y) (cond b r s)
either true x y r s p q = p
either false x y r s p q = q

load_tells : (area : Area) (kind : LoadKind) (rd units : ℕ) (r : Raw) → r.waits ≡ None → r.base.stop ≡ None
    → HasLoad area kind → Tells (load_act area kind) (load_at area kind rd units r)
load_tells (Private offset) kind rd units r idle going has =
    either (is_aligned (load_width kind) offset) _ _ _ _ (idle, going) (idle, refl)
load_tells (TaryId address) kind rd units r idle going has =
    subst (λ b. Tells
    (cond b (cond (is_aligned 4 address) (acts.Need (TARY + address)) (acts.Halt address)) acts.Done)
    (cond b (cond (is_aligned 4 address) (waiting (waits.Tary address rd) units r) (stopped (stops.Halt address) r)) r))
    (sym has)
    (either (is_aligned 4 address) (acts.Need (TARY + address)) (acts.Halt address)
    (waiting (waits.Tary address rd) units r)
    (stopped (stops.Halt address) r) (refl, going) (idle, refl))
load_tells (BaryId slot) kind rd units r idle going has =
    subst (λ b. Tells (cond b (acts.Need (BARY + 4 * slot)) acts.Done)
    (cond b (waiting (waits.Bary slot rd) units r) r))
    (sym has) (refl, going)
load_tells Nothing kind rd units r idle going has = absurd has

store_tells : (area : Area) (kind : StoreKind) (value : ℕ) (r : Raw) → r.waits ≡ None → r.base.stop ≡ None
    → HasStore area → Tells (store_act area kind) (store_at area kind value r)
store_tells (Private offset) kind value r idle going has =
    either (is_aligned (store_width kind) offset) _ _ _ _ (idle, going) (idle, refl)
store_tells (TaryId address) kind value r idle going has = absurd has
store_tells (BaryId slot) kind value r idle going has = absurd has
store_tells Nothing kind value r idle going has = absurd has

one : (b : Bool) (x : Act) (r s : Raw) → Tells x r → Tells x s → Tells x (cond b r s)
one true x r s p q = p
one false x r s p q = q

pub act_tells : (insn : Insn) (r : Raw) → r.waits ≡ None → r.base.stop ≡ None → HasStep insn r
    → Tells (act_as insn r) (begin_as insn r)
act_tells (insns.Lui rd imm) r idle going has = (idle, going)
act_tells (insns.Auipc rd imm) r idle going has = (idle, going)
act_tells (insns.Jal rd off) r idle going has = (idle, going)
act_tells (insns.Jalr rd rs1 imm) r idle going has = one (rs1 == 31) acts.Done _ _ (idle, going) (idle, going)
act_tells (insns.Branch c rs1 rs2 off) r idle going has = (idle, going)
act_tells (insns.Load kind rd rs1 imm) r idle going has =
    load_tells (area_of (access_address r rs1 imm)) kind rd _ r idle going has
act_tells (insns.Store kind rs1 rs2 imm) r idle going has =
    store_tells (area_of (access_address r rs1 imm)) kind _ r idle going has
act_tells (insns.OpImm op rd rs1 imm) r idle going has = (idle, going)
act_tells (insns.Op op rd rs1 rs2) r idle going has = (idle, going)
act_tells (insns.Fence fields) r idle going has = (idle, going)
act_tells insns.Ecall r idle going has = (refl, going)
act_tells insns.Ebreak r idle going has = (idle, refl)
