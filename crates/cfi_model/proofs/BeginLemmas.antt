-- What the beginning of an access leaves of the kept table words and of the log.
use Rattle.std.proofs.Common.{◌≡◌, ℕ, ◌+◌, ◌==◌, ◌||◌, cond, Bool, Option, Some, None, refl, sym, ◌∙◌, ◌⊎◌, inl, inr}
use Rattle.std.proofs.lemmas.Bool.{cond_both}
use Rattle.std.proofs.lemmas.Option.{none-some}
use Rattle.rv_insn.specs.declared.insn.Insn.{Insn}
use Rattle.rv_insn.specs.declared.insn.Insn.TheVariants as insns
use Rattle.rv_insn.specs.declared.insn.LoadKind.{LoadKind}
use Rattle.rv_insn.specs.declared.insn.StoreKind.{StoreKind}
use Rattle.cfi_unit.specs.Free.{is_reserved}
use Rattle.cfi_unit.specs.declared.log.Stop.TheVariants as stops
use Rattle.cfi_word.specs.declared.map.TheConstants.{DATA_START}
use Rattle.cfi_model.specs.declared.act.Wait.TheVariants as waits
use Rattle.cfi_model.specs.Begin.{Area, Private, TaryId, BaryId, Nothing, ran, next, stopped, waiting, judged, jalr_target, units_of, begin_as, begin_by, load_at, store_at, reads_table, area_of, picked_by}
use Rattle.cfi_model.specs.Data.{is_aligned, load_width, store_width, loaded}
use Rattle.cfi_model.specs.Pages.{memory_stored}
use Rattle.cfi_model.specs.Raw.{Raw, with_reg, access_address}

-- no check ends: the kept words and the log stay
pub record IsUnjudged (old new : Raw) : Type 0 where
  pub bary : new.bary ≡ old.bary
  pub tary : new.tary ≡ old.tary
  pub log : new.base.log ≡ old.base.log

-- a check ends: no word is kept, and the Tary word that was kept is a pick
pub record IsJudged (old new : Raw) : Type 0 where
  pub bary : new.bary ≡ None
  pub tary : new.tary ≡ None
  pub log : new.base.log ≡ picked_by old.tary old.base.log

abbrev pub MayJudge : (old new : Raw) → Type 0
MayJudge old new = IsUnjudged old new ⊎ IsJudged old new

module _ (r : Raw) where
  stays : (new : Raw) → new.bary ≡ r.bary → new.tary ≡ r.tary → new.base.log ≡ r.base.log → MayJudge r new
  stays new bary tary log = inl (record { bary = bary; tary = tary; log = log })

  judges : (new : Raw) → new.bary ≡ None → new.tary ≡ None → new.base.log ≡ picked_by r.tary r.base.log
      → MayJudge r new
  judges new bary tary log = inr (record { bary = bary; tary = tary; log = log })

  either : (b : Bool) (one other : Raw) → MayJudge r one → MayJudge r other → MayJudge r (cond b one other)
  either b one other first last = cond_both b one other (MayJudge r) (λ yes_is. first) (λ no_is. last)

  load_judges : (area : Area) (kind : LoadKind) (rd units : ℕ) → MayJudge r (load_at area kind rd units r)
  load_judges (Private offset) kind rd units =
      let on : Raw = ran (next r) 1 (with_reg r rd (loaded kind r.base.memory.bytes offset)) in
      let off : Raw = stopped (stops.Align (DATA_START + offset)) r in
      either (is_aligned (load_width kind) offset) on off (stays on refl refl refl) (stays off refl refl refl)
  load_judges (TaryId address) kind rd units =
      let on : Raw = waiting (waits.Tary address rd) units r in
      let off : Raw = stopped (stops.Halt address) r in
      either (reads_table kind) (cond (is_aligned 4 address) on off) r
      (either (is_aligned 4 address) on off (stays on refl refl refl) (stays off refl refl refl))
      (stays r refl refl refl)
  load_judges (BaryId slot) kind rd units =
      let on : Raw = waiting (waits.Bary slot rd) units r in
      either (reads_table kind) on r (stays on refl refl refl) (stays r refl refl refl)
  load_judges Nothing kind rd units = stays _ refl refl refl

  store_judges : (area : Area) (kind : StoreKind) (value : ℕ) → MayJudge r (store_at area kind value r)
  store_judges (Private offset) kind value =
      let on : Raw = ran (next r) 1
      (record r { base = record r.base { memory = memory_stored kind r.base.memory offset value } }) in
      let off : Raw = stopped (stops.Align (DATA_START + offset)) r in
      either (is_aligned (store_width kind) offset) on off (stays on refl refl refl) (stays off refl refl refl)
  store_judges (TaryId address) kind value = stays _ refl refl refl
  store_judges (BaryId slot) kind value = stays _ refl refl refl
  store_judges Nothing kind value = stays _ refl refl refl

  insn_judges : (insn : Insn) → MayJudge r (begin_as insn r)
  insn_judges (insns.Lui rd imm) = stays _ refl refl refl
  insn_judges (insns.Auipc rd imm) = stays _ refl refl refl
  insn_judges (insns.Jal rd off) = stays _ refl refl refl
  insn_judges (insns.Jalr rd rs1 imm) =
      let to : ℕ = jalr_target r rs1 imm in
      let linked : Raw = with_reg r rd (next r) in
      let ends : Raw = ran to 1 (judged linked) in
      let on : Raw = ran to (units_of (is_reserved rd || is_reserved rs1)) linked in
      either (rs1 == 31) ends on (judges ends refl refl refl) (stays on refl refl refl)
  insn_judges (insns.Branch c rs1 rs2 off) = stays _ refl refl refl
  insn_judges (insns.Load kind rd rs1 imm) = load_judges (area_of (access_address r rs1 imm)) kind rd _
  insn_judges (insns.Store kind rs1 rs2 imm) = store_judges (area_of (access_address r rs1 imm)) kind _
  insn_judges (insns.OpImm op rd rs1 imm) = stays _ refl refl refl
  insn_judges (insns.Op op rd rs1 rs2) = stays _ refl refl refl
  insn_judges (insns.Fence fields) = stays _ refl refl refl
  insn_judges insns.Ecall = stays _ refl refl refl
  insn_judges insns.Ebreak = judges _ refl refl refl

  pub begin_judges : (o : Option Insn) → MayJudge r (begin_by o r)
  begin_judges None = stays _ refl refl refl
  begin_judges (Some insn) = insn_judges insn

-- the word that was kept stays, or none is kept
abbrev pub KeepsWord : (old new : Option ℕ) → Type 0
KeepsWord old new = (word : ℕ) → new ≡ Some word → old ≡ Some word

pub begin_keeps_bary : (r : Raw) (o : Option Insn) → KeepsWord r.bary (begin_by o r).bary
begin_keeps_bary r o word e = elim (begin_judges r o) [
  | inl stays ↦ sym stays.bary ∙ e
  | inr judged ↦ absurd (none-some word (sym judged.bary ∙ e))
]

pub begin_keeps_tary : (r : Raw) (o : Option Insn) → KeepsWord r.tary (begin_by o r).tary
begin_keeps_tary r o word e = elim (begin_judges r o) [
  | inl stays ↦ sym stays.tary ∙ e
  | inr judged ↦ absurd (none-some word (sym judged.tary ∙ e))
]
