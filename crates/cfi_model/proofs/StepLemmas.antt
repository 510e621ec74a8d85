-- An instruction that has a step counts one.
use Rattle.std.proofs.Common.{◌≡◌, ℕ, ◌+◌, ◌==◌, Bool, true, false, cond, refl, ap, ◌∙◌}
use Rattle.rv_insn.specs.declared.insn.Insn.{Insn}
use Rattle.rv_insn.specs.declared.insn.Insn.TheVariants as insns
use Rattle.rv_insn.specs.declared.insn.LoadKind.{LoadKind}
use Rattle.rv_insn.specs.declared.insn.StoreKind.{StoreKind}
use Rattle.cfi_unit.specs.declared.log.Stop.TheVariants.{Halt}
use Rattle.cfi_model.specs.declared.act.Wait.TheVariants as waits
use Rattle.cfi_model.specs.Data.{load_width, store_width, is_aligned}
use Rattle.cfi_model.specs.Raw.{Raw, access_address}
use Rattle.cfi_model.specs.Begin.{Area, Private, TaryId, BaryId, Nothing, HasLoad, HasStore, HasStep, begin_as, load_at, store_at, area_of, waiting, stopped}

-- either of two states counts the step
either : (b : Bool) (x y : Raw) (steps : ℕ) → x.base.steps ≡ steps → y.base.steps ≡ steps
    → (cond b x y).base.steps ≡ steps
either true x y steps p q = p
either false x y steps p q = q

load_counts : (area : Area) (kind : LoadKind) (rd units : ℕ) (r : Raw) → HasLoad area kind
    → (load_at area kind rd units r).base.steps ≡ r.base.steps + 1
load_counts (Private offset) kind rd units r has = either (is_aligned (load_width kind) offset) _ _ _ refl refl
load_counts (TaryId address) kind rd units r has =
    let word : Raw =
    cond (is_aligned 4 address) (waiting (waits.Tary address rd) units r) (stopped (Halt address) r) in
    ap (λ b. (cond b word r).base.steps) has
    ∙ either (is_aligned 4 address) (waiting (waits.Tary address rd) units r) (stopped (Halt address) r) _ refl refl
load_counts (BaryId slot) kind rd units r has =
    ap (λ b. (cond b (waiting (waits.Bary slot rd) units r) r).base.steps) has
load_counts Nothing kind rd units r has = absurd has

store_counts : (area : Area) (kind : StoreKind) (value : ℕ) (r : Raw) → HasStore area
    → (store_at area kind value r).base.steps ≡ r.base.steps + 1
store_counts (Private offset) kind value r has = either (is_aligned (store_width kind) offset) _ _ _ refl refl
store_counts (TaryId address) kind value r has = absurd has
store_counts (BaryId slot) kind value r has = absurd has
store_counts Nothing kind value r has = absurd has

pub counts_step : (insn : Insn) (r : Raw) → HasStep insn r → (begin_as insn r).base.steps ≡ r.base.steps + 1
counts_step (insns.Lui rd imm) r has = refl
counts_step (insns.Auipc rd imm) r has = refl
counts_step (insns.Jal rd off) r has = refl
counts_step (insns.Jalr rd rs1 imm) r has = either (rs1 == 31) _ _ _ refl refl
counts_step (insns.Branch c rs1 rs2 off) r has = refl
counts_step (insns.Load kind rd rs1 imm) r has = load_counts (area_of (access_address r rs1 imm)) kind rd _ r has
counts_step (insns.Store kind rs1 rs2 imm) r has = store_counts (area_of (access_address r rs1 imm)) kind _ r has
counts_step (insns.OpImm op rd rs1 imm) r has = refl
counts_step (insns.Op op rd rs1 rs2) r has = refl
counts_step (insns.Fence fields) r has = refl
counts_step insns.Ecall r has = refl
counts_step insns.Ebreak r has = refl
