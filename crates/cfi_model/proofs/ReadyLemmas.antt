-- Each unit leads from a start to a start, and keeps x0 at 0.
use Rattle.std.proofs.Common.{◌≡◌, ℕ, ◌+◌, ◌^◌, ◌<◌, ◌&&◌, ℤ, pos, negsuc, Bool, true, false, cond, if◌then◌else◌, Option, Some, None, List, length, slice_index, slice_set, get_or-set_other, refl, sym, ◌∙◌, subst, arith}
use Rattle.std.proofs.lemmas.Bool.Decides.{nat_tests}
use Rattle.std.specs.Prelude.{⊤}
use Rattle.rv_insn.specs.declared.insn.Insn.{Insn}
use Rattle.rv_insn.specs.declared.insn.Insn.TheVariants as insns
use Rattle.cfi_unit.specs.declared.log.Stop.{Stop}
use Rattle.cfi_unit.specs.declared.unit.Unit.{Unit as CodeUnit}
use Rattle.cfi_unit.specs.declared.unit.Unit.TheVariants as units
use Rattle.cfi_unit.specs.Unit.{link_register}
use Rattle.cfi_model.specs.Closed.{IsStartOf, LeadsToStart, StaysInside}
use Rattle.cfi_model.specs.Data.{load_width, store_width, is_aligned, loaded}
use Rattle.cfi_model.specs.State.{State, register, regs_with, displaced, after}
use Rattle.cfi_model.specs.Service.{Reply, Service, Ends, Puts, Quiets, Opens, Unknown, served_regs, service_of, asked, succeeds}
use Rattle.cfi_model.specs.Effect.{effect, plain_regs, is_in_code, masked_at}
use Rattle.cfi_model.specs.History.{History, IsEpoch, IsHistory, IsStart}
use Rattle.cfi_model.specs.Shows.{IsReady}
use Rattle.cfi_model.proofs.StartLemmas.{body_at, start_in}

-- a write keeps x0 at 0
zero_kept : (regs : List ℕ) (k value : ℕ) → slice_index regs 0 ≡ 0 → slice_index (regs_with regs k value) 0 ≡ 0
zero_kept regs k value is = grind (arith, nat_tests, get_or-set_other)

set_kept : (regs : List ℕ) (k value : ℕ) → 0 < k → slice_index regs 0 ≡ 0 → slice_index (slice_set regs k value) 0 ≡ 0
set_kept regs k value some is = get_or-set_other regs k 0 value 0 (omega arith) ∙ is

plain_kept : (insn : Insn) (s : State) → register s 0 ≡ 0 → slice_index (plain_regs insn s) 0 ≡ 0
plain_kept (insns.Lui rd imm) s is = zero_kept s.regs rd _ is
plain_kept (insns.Auipc rd imm) s is = zero_kept s.regs rd _ is
plain_kept (insns.OpImm op rd rs1 imm) s is = zero_kept s.regs rd _ is
plain_kept (insns.Op op rd rs1 rs2) s is = zero_kept s.regs rd _ is
plain_kept (insns.Jal rd off) s is = is
plain_kept (insns.Jalr rd rs1 imm) s is = is
plain_kept (insns.Branch c rs1 rs2 off) s is = is
plain_kept (insns.Load kind rd rs1 imm) s is = is
plain_kept (insns.Store kind rs1 rs2 imm) s is = is
plain_kept (insns.Fence fields) s is = is
plain_kept insns.Ecall s is = is
plain_kept insns.Ebreak s is = is

served_kept : (service : Service) (reply : Reply) (s : State) → register s 0 ≡ 0
    → slice_index (served_regs service reply s) 0 ≡ 0
served_kept Ends reply s is = is
served_kept Puts reply s is = set_kept s.regs 10 _ (omega arith) is
served_kept Quiets reply s is = is
served_kept Opens reply s is =
    let address : ℕ = if succeeds reply then reply.address else 0 in
    set_kept (slice_set s.regs 10 address) 11 reply.cause (omega arith) (set_kept s.regs 10 address (omega arith) is)
served_kept Unknown reply s is = set_kept s.regs 10 _ (omega arith) is

either : (P : List ℕ → Type 0) (b : Bool) (x y : List ℕ) → P x → P y → P (cond b x y)
either P true x y p q = p
either P false x y p q = q

-- the registers after a unit
regs_kept : (unit : CodeUnit) (pick : ℕ) (allows : ℕ → ℕ → Bool) (reply : Reply) (s : State) → register s 0 ≡ 0
    → register (effect unit pick allows reply s) 0 ≡ 0
regs_kept (units.Plain insn) pick allows reply s is = plain_kept insn s is
regs_kept (units.Load kind rd rs1 imm) pick allows reply s is =
    let offset : ℕ = masked_at rs1 imm s in
    let value : ℕ = loaded kind s.memory.bytes offset in
    either (λ xs. slice_index xs 0 ≡ 0) (is_aligned (load_width kind) offset) (regs_with s.regs rd value) s.regs
    (zero_kept s.regs rd value is) is
regs_kept (units.Store kind rs1 rs2 imm) pick allows reply s is =
    either (λ xs. slice_index xs 0 ≡ 0) (is_aligned (store_width kind) (masked_at rs1 imm s)) s.regs s.regs is is
regs_kept (units.Branch c rs1 rs2 off) pick allows reply s is = is
regs_kept (units.Jump link off) pick allows reply s is = zero_kept s.regs (link_register link) _ is
regs_kept (units.Check link rs1 imm slot) pick allows reply s is =
    let target : ℕ = displaced (register s rs1) imm in
    let linked : List ℕ = regs_with s.regs (link_register link) (after 56 s.pc) in
    either (λ xs. slice_index xs 0 ≡ 0) (is_in_code target && allows slot target) linked s.regs
    (zero_kept s.regs (link_register link) (after 56 s.pc) is) is
regs_kept units.Service pick allows reply s is = served_kept (service_of (asked s)) reply s is

-- a check's target that its policy allows is a start
abbrev pub Targets : History → (allows : ℕ → ℕ → Bool) → CodeUnit → State → Type 0
Targets h allows (units.Check link rs1 imm slot) s =
    let target = displaced (register s rs1) imm in
    (is_in_code target && allows slot target) ≡ true → IsStart h target
Targets h allows unit s = ⊤

module _ (h : History) (code : List ℕ) (known : IsHistory h code) (epoch : ℕ) (is : IsEpoch h epoch) where
  abbrev body : List CodeUnit
  body = body_at h code epoch known is

  -- a start of the epoch is one of the history, wherever it is written as a sum in 32 bits
  lands : (address to : ℕ) → IsStartOf body to → (to < 2 ^ 18 → address ≡ to) → IsStart h address
  lands address to start same =
      let small : to < 2 ^ 18 = (start_in h code epoch to known is start).small in
      let closed = (known.closed epoch is).1 in
      subst (IsStart h) (sym (same small)) (record {
        epoch = epoch;
        known = is;
        starts = record {
          body = body;
          idles = closed.idles;
          zeros = closed.zeros;
          code = closed.code;
          starts = start;
        };
      })

  pub falls : (pc bytes : ℕ) → IsStartOf body (pc + bytes) → IsStart h (after bytes pc)
  falls pc bytes start = lands _ (pc + bytes) start (λ small. omega arith)

  leads : (pc : ℕ) (off : ℤ) → pc < 2 ^ 18 → LeadsToStart body pc off → IsStart h (displaced pc off)
  leads pc (pos n) small start = lands _ (pc + n) start (λ low. omega arith)
  leads pc (negsuc n) small start =
      let back : start.0 + n + 1 ≡ pc = start.1 in
      lands _ start.0 start.2 (λ low. omega arith)

  -- a guest that goes on has the first of two addresses
  goes_if : (goes : Bool) (stop : Option Stop) (other : Stop) (x y : ℕ) → (goes ≡ true → IsStart h x)
      → cond goes stop (Some other) ≡ None → IsStart h (cond goes x y)
  goes_if true stop other x y start going = start refl
  goes_if false stop other x y start going = absurd (cc)

  both : (b : Bool) (x y : ℕ) → IsStart h x → IsStart h y → IsStart h (cond b x y)
  both true x y p q = p
  both false x y p q = q

  -- the next unit's address, where the guest goes on
  pub next_start : (unit : CodeUnit) (pick : ℕ) (allows : ℕ → ℕ → Bool) (reply : Reply) (s : State) → s.pc < 2 ^ 18
      → StaysInside body (length (h.image epoch).bary) s.pc unit
      → Targets h allows unit s
      → (effect unit pick allows reply s).stop ≡ None → IsStart h (effect unit pick allows reply s).pc
  next_start (units.Plain insn) pick allows reply s small inside targets goes = falls s.pc 4 inside
  next_start (units.Load kind rd rs1 imm) pick allows reply s small inside targets goes =
      goes_if _ s.stop _ _ s.pc (λ e. falls s.pc 24 inside) goes
  next_start (units.Store kind rs1 rs2 imm) pick allows reply s small inside targets goes =
      goes_if _ s.stop _ _ s.pc (λ e. falls s.pc 24 inside) goes
  next_start (units.Branch c rs1 rs2 off) pick allows reply s small inside targets goes =
      both _ _ _ (leads s.pc off small inside.1) (falls s.pc 4 inside.0)
  next_start (units.Jump link off) pick allows reply s small inside targets goes = leads s.pc off small inside.1
  next_start (units.Check link rs1 imm slot) pick allows reply s small inside targets goes =
      goes_if _ s.stop _ _ s.pc targets goes
  next_start units.Service pick allows reply s small inside targets goes = falls s.pc 4 inside

  -- the state after a unit is ready for the next one
  pub ready_kept : (unit : CodeUnit) (pick : ℕ) (allows : ℕ → ℕ → Bool) (reply : Reply) (s : State) → IsReady h s
      → s.pc < 2 ^ 18 → StaysInside body (length (h.image epoch).bary) s.pc unit
      → Targets h allows unit s → IsReady h (effect unit pick allows reply s)
  ready_kept unit pick allows reply s ready small inside targets = record {
    zero_is = regs_kept unit pick allows reply s ready.zero_is;
    start = next_start unit pick allows reply s small inside targets;
  }
