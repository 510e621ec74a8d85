-- Where within a unit a guest stands, and where it stands when it has stopped.
use Rattle.std.proofs.Common.{◌≡◌, ◌≢◌, ℕ, ◌+◌, ◌==◌, ◌||◌, Bool, true, false, cond, Option, Some, None, refl, sym, ◌∙◌, ap, subst, arith}
use Rattle.std.proofs.lemmas.Bool.{cond_both}
use Rattle.std.specs.Prelude.{⊤}
use Rattle.rv_insn.specs.declared.insn.Insn.{Insn}
use Rattle.rv_insn.specs.declared.insn.Insn.TheVariants as insns
use Rattle.rv_insn.specs.declared.insn.LoadKind.{LoadKind}
use Rattle.rv_insn.specs.declared.insn.StoreKind.{StoreKind}
use Rattle.rv_insn.specs.InsnOf.{insn_of}
use Rattle.cfi_unit.specs.Free.{is_reserved}
use Rattle.cfi_unit.specs.declared.log.Stop.{Stop}
use Rattle.cfi_unit.specs.declared.log.Stop.TheVariants as stops
use Rattle.cfi_word.specs.declared.map.TheConstants.{DATA_START}
use Rattle.cfi_unit.specs.declared.unit.Unit.{Unit as CodeUnit}
use Rattle.cfi_unit.specs.declared.unit.Unit.TheVariants as units
use Rattle.cfi_unit.specs.Unit.{size_of}
use Rattle.cfi_model.specs.declared.act.Wait.{Wait}
use Rattle.cfi_model.specs.declared.act.Wait.TheVariants as waits
use Rattle.cfi_model.specs.Begin.{Area, Private, TaryId, BaryId, Nothing, ran, next, stopped, waiting, judged, jalr_target, units_of, begin_as, begin_by, load_at, store_at, reads_table, area_of}
use Rattle.cfi_model.specs.Data.{is_aligned, load_width, store_width, loaded}
use Rattle.cfi_model.specs.Pages.{memory_stored}
use Rattle.cfi_model.specs.Effect.{effect}
use Rattle.cfi_model.specs.History.{History}
use Rattle.cfi_model.specs.Raw.{Raw, with_reg, access_address}
use Rattle.cfi_model.specs.Run.{Take, Word, Served, take_one, take_word, serve_as}
use Rattle.cfi_model.specs.Service.{Reply}
use Rattle.cfi_model.specs.Shows.{LiesIn}
use Rattle.cfi_model.specs.State.{State}
use Rattle.cfi_model.proofs.CheckPlaces as check
use Rattle.cfi_model.proofs.LawLemmas.{Begun}
use Rattle.cfi_model.proofs.MaskedLemmas as masked
use Rattle.cfi_model.proofs.SingleLemmas.{service_raw}

-- the unit is no service
abbrev pub IsNoService : CodeUnit → Type 0
IsNoService units.Service = ⊥
IsNoService unit = ⊤

-- ---- places within a unit

module _ (p : State) where
  masked_lies : (n address x28 x29 x30 : ℕ) (unit : CodeUnit) → size_of unit ≡ 6 → (place : masked.MaskedPlace)
      → LiesIn p.pc unit (masked.masked_raw p n address x28 x29 x30 place).base.pc
  masked_lies n address x28 x29 x30 unit size masked.Aimed =
      record { place = 1; within = omega (arith, size); is = refl }
  masked_lies n address x28 x29 x30 unit size masked.Shifted =
      record { place = 2; within = omega (arith, size); is = refl }
  masked_lies n address x28 x29 x30 unit size masked.Cut = record { place = 3; within = omega (arith, size); is = refl }
  masked_lies n address x28 x29 x30 unit size masked.Based =
      record { place = 4; within = omega (arith, size); is = refl }
  masked_lies n address x28 x29 x30 unit size masked.Merged =
      record { place = 5; within = omega (arith, size); is = refl }

  check_lies : (n slot target : ℕ) (v : check.Values) (unit : CodeUnit) → size_of unit ≡ 14 → (place : check.CheckPlace)
      → LiesIn p.pc unit (check.check_raw p n slot target v place).base.pc
  check_lies n slot target v unit size check.Aimed = record { place = 1; within = omega (arith, size); is = refl }
  check_lies n slot target v unit size check.Split = record { place = 2; within = omega (arith, size); is = refl }
  check_lies n slot target v unit size check.Far = record { place = 12; within = omega (arith, size); is = refl }
  check_lies n slot target v unit size check.Trying = record { place = 3; within = omega (arith, size); is = refl }
  check_lies n slot target v unit size check.Pointed = record { place = 4; within = omega (arith, size); is = refl }
  check_lies n slot target v unit size check.AskedBary = record { place = 5; within = omega (arith, size); is = refl }
  check_lies n slot target v unit size check.FoundBary = record { place = 5; within = omega (arith, size); is = refl }
  check_lies n slot target v unit size check.Tabled = record { place = 6; within = omega (arith, size); is = refl }
  check_lies n slot target v unit size check.Added = record { place = 7; within = omega (arith, size); is = refl }
  check_lies n slot target v unit size check.AskedTary = record { place = 8; within = omega (arith, size); is = refl }
  check_lies n slot target v unit size check.FoundTary = record { place = 8; within = omega (arith, size); is = refl }
  check_lies n slot target v unit size check.Differed = record { place = 9; within = omega (arith, size); is = refl }
  check_lies n slot target v unit size check.Compared = record { place = 10; within = omega (arith, size); is = refl }
  check_lies n slot target v unit size check.Lowered = record { place = 11; within = omega (arith, size); is = refl }
  check_lies n slot target v unit size check.Refused = record { place = 12; within = omega (arith, size); is = refl }
  check_lies n slot target v unit size check.Allowed = record { place = 13; within = omega (arith, size); is = refl }

  -- a guest within a unit that has begun stands at a word of it, where it is no service
  pub lies_in : (h : History) (unit : CodeUnit) (retries : ℕ) (r : Raw) → Begun h p unit retries r
      → IsNoService unit → LiesIn p.pc unit r.base.pc
  lies_in h (units.Plain insn) retries r begun other = absurd begun
  lies_in h (units.Branch c rs1 rs2 off) retries r begun other = absurd begun
  lies_in h (units.Jump link off) retries r begun other = absurd begun
  lies_in h (units.Load kind rd rs1 imm) retries r begun other =
      subst (λ x. LiesIn p.pc (units.Load kind rd rs1 imm) x.base.pc) (sym begun.is)
      (masked_lies retries _ begun.x28 begun.x29 begun.x30 (units.Load kind rd rs1 imm) refl begun.place)
  lies_in h (units.Store kind rs1 rs2 imm) retries r begun other =
      subst (λ x. LiesIn p.pc (units.Store kind rs1 rs2 imm) x.base.pc) (sym begun.is)
      (masked_lies retries _ begun.x28 begun.x29 begun.x30 (units.Store kind rs1 rs2 imm) refl begun.place)
  lies_in h (units.Check link rs1 imm slot) retries r begun other =
      subst (λ x. LiesIn p.pc (units.Check link rs1 imm slot) x.base.pc) (sym begun.is)
      (check_lies (retries + begun.more) slot _ begun.values (units.Check link rs1 imm slot) refl begun.place)
  lies_in h units.Service retries r begun other = absurd other

  -- a service that has begun waits
  never_idle : (n x28 x29 x30 x31 : ℕ) (r : Raw) → r ≡ service_raw p n x28 x29 x30 x31 → r.waits ≡ None → ⊥
  never_idle n x28 x29 x30 x31 r is idle =
      let waits = sym (ap (λ x. x.waits) is) ∙ idle in
      absurd (cc)

  -- or where the guest waits for nothing
  pub idle_lies : (h : History) (unit : CodeUnit) (retries : ℕ) (r : Raw) → Begun h p unit retries r → r.waits ≡ None
      → LiesIn p.pc unit r.base.pc
  idle_lies h (units.Plain insn) retries r begun idle = absurd begun
  idle_lies h (units.Branch c rs1 rs2 off) retries r begun idle = absurd begun
  idle_lies h (units.Jump link off) retries r begun idle = absurd begun
  idle_lies h (units.Load kind rd rs1 imm) retries r begun idle = lies_in h _ retries r begun tt
  idle_lies h (units.Store kind rs1 rs2 imm) retries r begun idle = lies_in h _ retries r begun tt
  idle_lies h (units.Check link rs1 imm slot) retries r begun idle = lies_in h _ retries r begun tt
  idle_lies h units.Service retries r begun idle =
      absurd (never_idle retries begun.x28 begun.x29 begun.x30 begun.x31 r begun.is idle)

-- ---- an access that stops a guest leaves its address

abbrev pub StaysPut : (old new : Raw) → Type 0
StaysPut old new = new.base.stop ≢ None → new.base.pc ≡ old.base.pc

goes : (r new : Raw) → new.base.stop ≡ None → StaysPut r new
goes r new going stops = absurd (stops going)

either : (b : Bool) (r x y : Raw) → StaysPut r x → StaysPut r y → StaysPut r (cond b x y)
either b r x y one other = cond_both b x y (StaysPut r) (λ yes_is. one) (λ no_is. other)

module _ (r : Raw) (going : r.base.stop ≡ None) where
  load_stays : (area : Area) (kind : LoadKind) (rd units : ℕ) → StaysPut r (load_at area kind rd units r)
  load_stays (Private offset) kind rd units =
      let on : Raw = ran (next r) 1 (with_reg r rd (loaded kind r.base.memory.bytes offset)) in
      either (is_aligned (load_width kind) offset) r on (stopped (stops.Align (DATA_START + offset)) r)
      (goes r on going) (λ stops. refl)
  load_stays (TaryId address) kind rd units =
      let on : Raw = waiting (waits.Tary address rd) units r in
      let off : Raw = stopped (stops.Halt address) r in
      either (reads_table kind) r (cond (is_aligned 4 address) on off) r
      (either (is_aligned 4 address) r on off (goes r on going) (λ stops. refl)) (λ stops. refl)
  load_stays (BaryId slot) kind rd units =
      let on : Raw = waiting (waits.Bary slot rd) units r in
      either (reads_table kind) r on r (goes r on going) (λ stops. refl)
  load_stays Nothing kind rd units = λ stops. refl

  store_stays : (area : Area) (kind : StoreKind) (value : ℕ) → StaysPut r (store_at area kind value r)
  store_stays (Private offset) kind value =
      let on : Raw = ran (next r) 1
      (record r { base = record r.base { memory = memory_stored kind r.base.memory offset value } }) in
      either (is_aligned (store_width kind) offset) r on (stopped (stops.Align (DATA_START + offset)) r)
      (goes r on going) (λ stops. refl)
  store_stays (TaryId address) kind value = λ stops. refl
  store_stays (BaryId slot) kind value = λ stops. refl
  store_stays Nothing kind value = λ stops. refl

  insn_stays : (insn : Insn) → StaysPut r (begin_as insn r)
  insn_stays (insns.Lui rd imm) = λ stops. absurd (stops going)
  insn_stays (insns.Auipc rd imm) = λ stops. absurd (stops going)
  insn_stays (insns.Jal rd off) = λ stops. absurd (stops going)
  insn_stays (insns.Jalr rd rs1 imm) =
      let to : ℕ = jalr_target r rs1 imm in
      let linked : Raw = with_reg r rd (next r) in
      let ends : Raw = ran to 1 (judged linked) in
      let on : Raw = ran to (units_of (is_reserved rd || is_reserved rs1)) linked in
      either (rs1 == 31) r ends on (goes r ends going) (goes r on going)
  insn_stays (insns.Branch c rs1 rs2 off) = λ stops. absurd (stops going)
  insn_stays (insns.Load kind rd rs1 imm) = load_stays (area_of (access_address r rs1 imm)) kind rd _
  insn_stays (insns.Store kind rs1 rs2 imm) = store_stays (area_of (access_address r rs1 imm)) kind _
  insn_stays (insns.OpImm op rd rs1 imm) = λ stops. absurd (stops going)
  insn_stays (insns.Op op rd rs1 rs2) = λ stops. absurd (stops going)
  insn_stays (insns.Fence fields) = λ stops. absurd (stops going)
  insn_stays insns.Ecall = λ stops. absurd (stops going)
  insn_stays insns.Ebreak = λ stops. refl

  word_stays : (o : Option Insn) → StaysPut r (begin_by o r)
  word_stays None = λ stops. refl
  word_stays (Some insn) = insn_stays insn

  take_stays : (wait : Option Wait) (word : ℕ) → StaysPut r (take_word wait r word)
  take_stays None word = word_stays (insn_of word)
  take_stays (Some (waits.Tary at rd)) word = λ stops. absurd (stops going)
  take_stays (Some (waits.Bary slot rd)) word = λ stops. absurd (stops going)
  take_stays (Some (waits.Service number)) word = λ stops. refl

  serve_stays : (wait : Option Wait) (reply : Reply) → StaysPut r (serve_as wait r reply)
  serve_stays None reply = λ stops. refl
  serve_stays (Some (waits.Tary at rd)) reply = λ stops. refl
  serve_stays (Some (waits.Bary slot rd)) reply = λ stops. refl
  serve_stays (Some (waits.Service number)) reply = λ stops. refl

  pub stays_put : (t : Take) → StaysPut r (take_one r t)
  stays_put (Word word) = take_stays r.waits word
  stays_put (Served reply) = serve_stays r.waits reply

-- ---- and the policy machine's too

cond_stays : (b : Bool) (stop : Option Stop) (other : Stop) (to from : ℕ) → stop ≡ None
    → cond b stop (Some other) ≢ None → cond b to from ≡ from
cond_stays true stop other to from going stops = absurd (stops going)
cond_stays false stop other to from going stops = refl

pub effect_stays : (unit : CodeUnit) (pick : ℕ) (allows : ℕ → ℕ → Bool) (reply : Reply) (s : State) → s.stop ≡ None
    → IsNoService unit → (effect unit pick allows reply s).stop ≢ None → (effect unit pick allows reply s).pc ≡ s.pc
effect_stays (units.Plain insn) pick allows reply s going other stops = absurd (stops going)
effect_stays (units.Load kind rd rs1 imm) pick allows reply s going other stops =
    cond_stays _ s.stop _ _ s.pc going stops
effect_stays (units.Store kind rs1 rs2 imm) pick allows reply s going other stops =
    cond_stays _ s.stop _ _ s.pc going stops
effect_stays (units.Branch c rs1 rs2 off) pick allows reply s going other stops = absurd (stops going)
effect_stays (units.Jump link off) pick allows reply s going other stops = absurd (stops going)
effect_stays (units.Check link rs1 imm slot) pick allows reply s going other stops =
    cond_stays _ s.stop _ _ s.pc going stops
effect_stays units.Service pick allows reply s going other stops = absurd other
