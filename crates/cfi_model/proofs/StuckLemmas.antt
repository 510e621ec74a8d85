-- A running raw machine that waits for nothing has a step for what it fetches.
use Rattle.std.proofs.Common.{◌≡◌, ℕ, ◌+◌, ◌*◌, ◌/◌, ◌%◌, ◌^◌, ◌<◌, ℤ, Bool, Option, Some, None, List, length, get_or, slice_index, refl, sym, ◌∙◌, ap, subst, arith, inl, inr}
use Rattle.rv_insn.specs.declared.insn.Insn.{Insn}
use Rattle.rv_insn.specs.declared.insn.Insn.TheVariants as insns
use Rattle.rv_insn.specs.InsnOf.{insn_of}
use Rattle.cfi_unit.specs.declared.unit.Unit.{Unit as CodeUnit}
use Rattle.cfi_unit.specs.declared.unit.Unit.TheVariants as units
use Rattle.cfi_unit.specs.Unit.{IsUnit, IsPlain, insns_of, size_of, bary_address}
use Rattle.cfi_unit.specs.Unit.{masked as masked_insns, check as check_insns}
use Rattle.cfi_unit.proofs.UnitLemmas.{size_pos}
use Rattle.rv_insn.specs.declared.insn.LoadKind.TheVariants.{Lw}
use Rattle.cfi_unit.proofs.CodeLemmas.{BeginsAt-insn}
use Rattle.cfi_model.specs.State.{State, register, displaced}
use Rattle.cfi_model.specs.Raw.{Raw}
use Rattle.cfi_model.specs.Begin.{HasLoad, HasStore, HasStep, HasStepBy, area_of}
use Rattle.cfi_model.specs.Run.{Take, Word, run_of}
use Rattle.cfi_model.specs.History.{History, IsHistory}
use Rattle.cfi_model.specs.Fits.{Fits, Along}
use Rattle.cfi_model.specs.Shows.{IsReady, IsBetween}
use Rattle.cfi_model.proofs.InnerLemmas.{inner}
use Rattle.cfi_model.proofs.AccessLemmas.{area_private}
use Rattle.cfi_model.proofs.CheckLemmas.{area_bary, area_tary, joins}
use Rattle.cfi_model.proofs.FetchLemmas.{Here, start_raw, first_place}
use Rattle.cfi_model.proofs.MaskedLemmas as masked
use Rattle.cfi_model.proofs.CheckPlaces as check
use Rattle.cfi_model.proofs.LawLemmas.{Begun, At}
use Rattle.cfi_model.proofs.AdvanceLemmas.{Running, goes_on, start_is, at_start}
use Rattle.cfi_model.proofs.ShownLemmas.{reached}

-- nothing is no wait
some_none : {X : Type 0} (x : X) → Some x ≡ None → ⊥
some_none x same = absurd (cc)

-- the word that is fetched at a place of a unit has a step where the place's instruction has one
fetch_has : (h : History) (code : List ℕ) (p : State) (unit : CodeUnit) → Here h code p unit
    → (all : List Insn) → insns_of unit ≡ all → (k : ℕ) → k < length all
    → (steps x28 x29 x30 x31 : ℕ) (bary tary : Option ℕ) (r : Raw)
    → r ≡ inner p p.units (p.pc + 4 * k) steps x28 x29 x30 x31 bary tary None
    → HasStep (get_or all k insns.Ebreak) (inner p p.units (p.pc + 4 * k) steps x28 x29 x30 x31 bary tary None)
    → (word : ℕ) → Fits h code r (Word word) → HasStepBy (insn_of word) r
fetch_has h code p unit here all spelled k within steps x28 x29 x30 x31 bary tary r is has word fits =
    let inside : k < size_of unit = subst (λ xs. k < length xs) (sym spelled) within in
    let whole = here.stands.aligned in
    let place : (p.pc + 4 * k) / 4 ≡ p.pc / 4 + k = omega arith in
    let given : Fits h code (inner p p.units (p.pc + 4 * k) steps x28 x29 x30 x31 bary tary None) (Word word) =
    subst (λ x. Fits h code x (Word word)) is fits in
    let found : word ≡ slice_index code (p.pc / 4 + k) = given.1 ∙ ap (slice_index code) place in
    let insn : insn_of word ≡ Some (get_or all k insns.Ebreak) =
    ap insn_of found ∙ BeginsAt-insn code (p.pc / 4) unit here.stands.begins k insns.Ebreak inside
    ∙ ap (λ xs. Some (get_or xs k insns.Ebreak)) spelled in
    subst (λ i. HasStepBy i r) (sym insn) (subst (HasStep (get_or all k insns.Ebreak)) (sym is) has)

-- a plain instruction has a step
plain_has : (insn : Insn) (r : Raw) → IsPlain insn → HasStep insn r
plain_has (insns.Lui rd imm) r plain = tt
plain_has (insns.Auipc rd imm) r plain = tt
plain_has (insns.Jal rd off) r plain = tt
plain_has (insns.Jalr rd rs1 imm) r plain = tt
plain_has (insns.Branch c rs1 rs2 off) r plain = tt
plain_has (insns.Load kind rd rs1 imm) r plain = absurd plain
plain_has (insns.Store kind rs1 rs2 imm) r plain = absurd plain
plain_has (insns.OpImm op rd rs1 imm) r plain = tt
plain_has (insns.Op op rd rs1 rs2) r plain = tt
plain_has (insns.Fence fields) r plain = tt
plain_has insns.Ecall r plain = tt
plain_has insns.Ebreak r plain = tt

-- the first instruction of a unit has a step
first_of : (unit : CodeUnit) (r : Raw) → IsUnit unit → HasStep (get_or (insns_of unit) 0 insns.Ebreak) r
first_of (units.Plain insn) r fits = plain_has insn r fits
first_of (units.Load kind rd rs1 imm) r fits = tt
first_of (units.Store kind rs1 rs2 imm) r fits = tt
first_of (units.Branch c rs1 rs2 off) r fits = tt
first_of (units.Jump link off) r fits = tt
first_of (units.Check link rs1 imm slot) r fits = tt
first_of units.Service r fits = tt

module _ (h : History) (code : List ℕ) (p : State) (retries : ℕ) where
  -- the first instruction of a unit
  first_has : (unit : CodeUnit) → At h code p unit → (r : Raw)
      → r ≡ start_raw p retries r.x28 r.x29 r.x30 r.x31 → (word : ℕ) → Fits h code r (Word word)
      → HasStepBy (insn_of word) r
  first_has unit at r is word fits =
      fetch_has h code p unit at.here _ refl 0 (size_pos unit) _ _ _ _ _ _ _ r
      (is ∙ first_place p retries r.x28 r.x29 r.x30 r.x31) (first_of unit _ at.here.stands.begins.fits) word fits

  -- the next instruction of a masked access
  masked_has : (unit : CodeUnit) (rs1 : ℕ) (imm : ℤ) (access : Insn) → Here h code p unit
      → insns_of unit ≡ masked_insns rs1 imm access → (address x28 x29 x30 : ℕ) (place : masked.MaskedPlace) (r : Raw)
      → r ≡ masked.masked_raw p retries address x28 x29 x30 place
      → ((a b c : ℕ) → HasStep access (masked.masked_raw p retries address a b c masked.Merged))
      → (word : ℕ) → Fits h code r (Word word) → HasStepBy (insn_of word) r
  masked_has unit rs1 imm access here spelled address x28 x29 x30 masked.Aimed r is has word fits =
      fetch_has h code p unit here (masked_insns rs1 imm access) spelled 1 (omega arith) _ _ _ _ _ _ _ r is tt word fits
  masked_has unit rs1 imm access here spelled address x28 x29 x30 masked.Shifted r is has word fits =
      fetch_has h code p unit here (masked_insns rs1 imm access) spelled 2 (omega arith) _ _ _ _ _ _ _ r is tt word fits
  masked_has unit rs1 imm access here spelled address x28 x29 x30 masked.Cut r is has word fits =
      fetch_has h code p unit here (masked_insns rs1 imm access) spelled 3 (omega arith) _ _ _ _ _ _ _ r is tt word fits
  masked_has unit rs1 imm access here spelled address x28 x29 x30 masked.Based r is has word fits =
      fetch_has h code p unit here (masked_insns rs1 imm access) spelled 4 (omega arith) _ _ _ _ _ _ _ r is tt word fits
  masked_has unit rs1 imm access here spelled address x28 x29 x30 masked.Merged r is has word fits =
      fetch_has h code p unit here (masked_insns rs1 imm access) spelled 5 (omega arith) _ _ _ _ _ _ _ r is
      (has x28 x29 x30) word fits

  -- and of a check, where it waits for nothing
  check_has : (link : Bool) (rs1 : ℕ) (imm : ℤ) (slot : ℕ) → At h code p (units.Check link rs1 imm slot)
      → (target n : ℕ) (v : check.Values) (place : check.CheckPlace) (r : Raw)
      → r ≡ check.check_raw p (retries + n) slot target v place → check.CheckHolds h p n slot target v place
      → r.waits ≡ None → (word : ℕ) → Fits h code r (Word word) → HasStepBy (insn_of word) r
  check_has link rs1 imm slot at target n v check.Aimed r is holds idle word fits =
      fetch_has h code p (units.Check link rs1 imm slot) at.here (check_insns link rs1 imm slot) refl 1 (omega arith)
      _ _ _ _ _ _ _ r is tt word fits
  check_has link rs1 imm slot at target n v check.Split r is holds idle word fits =
      fetch_has h code p (units.Check link rs1 imm slot) at.here (check_insns link rs1 imm slot) refl 2 (omega arith)
      _ _ _ _ _ _ _ r is tt word fits
  check_has link rs1 imm slot at target n v check.Far r is holds idle word fits =
      fetch_has h code p (units.Check link rs1 imm slot) at.here (check_insns link rs1 imm slot) refl 12 (omega arith)
      _ _ _ _ _ _ _ r is tt word fits
  check_has link rs1 imm slot at target n v check.Trying r is holds idle word fits =
      fetch_has h code p (units.Check link rs1 imm slot) at.here (check_insns link rs1 imm slot) refl 3 (omega arith)
      _ _ _ _ _ _ _ r is tt word fits
  check_has link rs1 imm slot at target n v check.Pointed r is holds idle word fits =
      fetch_has h code p (units.Check link rs1 imm slot) at.here (check_insns link rs1 imm slot) refl 4 (omega arith)
      _ _ _ _ _ _ _ r is (subst (λ a. HasLoad a Lw)
      (sym (ap area_of (joins (bary_address slot) (omega (arith, at.here.stands.begins.fits.2)))
      ∙ area_bary slot at.here.stands.begins.fits.2)) refl) word fits
  check_has link rs1 imm slot at target n v check.AskedBary r is holds idle word fits =
      absurd (some_none _ (sym (ap (λ x. x.waits) is) ∙ idle))
  check_has link rs1 imm slot at target n v check.FoundBary r is holds idle word fits =
      fetch_has h code p (units.Check link rs1 imm slot) at.here (check_insns link rs1 imm slot) refl 5 (omega arith)
      _ _ _ _ _ _ _ r is tt word fits
  check_has link rs1 imm slot at target n v check.Tabled r is holds idle word fits =
      fetch_has h code p (units.Check link rs1 imm slot) at.here (check_insns link rs1 imm slot) refl 6 (omega arith)
      _ _ _ _ _ _ _ r is tt word fits
  check_has link rs1 imm slot at target n v check.Added r is holds idle word fits =
      fetch_has h code p (units.Check link rs1 imm slot) at.here (check_insns link rs1 imm slot) refl 7 (omega arith)
      _ _ _ _ _ _ _ r is (subst (λ a. HasLoad a Lw) (sym (area_tary target holds.0.low)) refl) word fits
  check_has link rs1 imm slot at target n v check.AskedTary r is holds idle word fits =
      absurd (some_none _ (sym (ap (λ x. x.waits) is) ∙ idle))
  check_has link rs1 imm slot at target n v check.FoundTary r is holds idle word fits =
      fetch_has h code p (units.Check link rs1 imm slot) at.here (check_insns link rs1 imm slot) refl 8 (omega arith)
      _ _ _ _ _ _ _ r is tt word fits
  check_has link rs1 imm slot at target n v check.Differed r is holds idle word fits =
      fetch_has h code p (units.Check link rs1 imm slot) at.here (check_insns link rs1 imm slot) refl 9 (omega arith)
      _ _ _ _ _ _ _ r is tt word fits
  check_has link rs1 imm slot at target n v check.Compared r is holds idle word fits =
      fetch_has h code p (units.Check link rs1 imm slot) at.here (check_insns link rs1 imm slot) refl 10 (omega arith)
      _ _ _ _ _ _ _ r is tt word fits
  check_has link rs1 imm slot at target n v check.Lowered r is holds idle word fits =
      fetch_has h code p (units.Check link rs1 imm slot) at.here (check_insns link rs1 imm slot) refl 11 (omega arith)
      _ _ _ _ _ _ _ r is tt word fits
  check_has link rs1 imm slot at target n v check.Refused r is holds idle word fits =
      fetch_has h code p (units.Check link rs1 imm slot) at.here (check_insns link rs1 imm slot) refl 12 (omega arith)
      _ _ _ _ _ _ _ r is tt word fits
  check_has link rs1 imm slot at target n v check.Allowed r is holds idle word fits =
      fetch_has h code p (units.Check link rs1 imm slot) at.here (check_insns link rs1 imm slot) refl 13 (omega arith)
      _ _ _ _ _ _ _ r is tt word fits

  -- the next instruction of each unit
  begun_has : (unit : CodeUnit) → At h code p unit → (r : Raw) → Begun h p unit retries r → r.waits ≡ None
      → (word : ℕ) → Fits h code r (Word word) → HasStepBy (insn_of word) r
  begun_has (units.Plain insn) at r begun idle word fits = absurd begun
  begun_has (units.Branch c rs1 rs2 off) at r begun idle word fits = absurd begun
  begun_has (units.Jump link off) at r begun idle word fits = absurd begun
  begun_has (units.Load kind rd rs1 imm) at r begun idle word fits =
      let offset : ℕ = displaced (register p rs1) imm % 2 ^ 20 in
      let low : offset < 2 ^ 20 = omega arith in
      masked_has (units.Load kind rd rs1 imm) rs1 imm _ at.here refl _ begun.x28 begun.x29 begun.x30 begun.place r
      begun.is (λ a b c. subst (λ area. HasLoad area kind) (sym (area_private offset low)) tt) word fits
  begun_has (units.Store kind rs1 rs2 imm) at r begun idle word fits =
      let offset : ℕ = displaced (register p rs1) imm % 2 ^ 20 in
      let low : offset < 2 ^ 20 = omega arith in
      masked_has (units.Store kind rs1 rs2 imm) rs1 imm _ at.here refl _ begun.x28 begun.x29 begun.x30 begun.place r
      begun.is (λ a b c. subst HasStore (sym (area_private offset low)) tt) word fits
  begun_has (units.Check link rs1 imm slot) at r begun idle word fits =
      check_has link rs1 imm slot at _ begun.more begun.values begun.place r begun.is begun.holds idle word fits
  begun_has units.Service at r begun idle word fits = absurd (some_none _ (sym (ap (λ x. x.waits) begun.is) ∙ idle))

  -- a running machine that waits for nothing has a step for what it fetches
  pub running_has : IsHistory h code → (r : Raw) → Running h code p retries r → r.waits ≡ None → (word : ℕ)
      → Fits h code r (Word word) → HasStepBy (insn_of word) r
  running_has known r (inl rests) idle word fits =
      let going = goes_on h code p retries r rests.1 (Word word) fits in
      let at = at_start h code p retries known rests.0 going in
      first_has at.0 at.1 r (start_is h code p retries r rests.1 going) word fits
  running_has known r (inr within) idle word fits = begun_has within.0 within.1 r within.2 idle word fits

-- and so after any accesses
pub raw_has_steps : (h : History) (code : List ℕ) → IsHistory h code → (old : State) → IsReady h old
    → (retries : ℕ) (r : Raw) → IsBetween retries old r → (takes : List Take) → Along h code r takes
    → (run_of r takes).waits ≡ None → (word : ℕ) → Fits h code (run_of r takes) (Word word)
    → HasStepBy (insn_of word) (run_of r takes)
raw_has_steps h code known old ready retries r between takes along idle word fits =
    let now = reached h code known takes old retries r (inl (ready, between)) along in
    running_has h code now.new now.settled known (run_of r takes) now.running idle word fits
