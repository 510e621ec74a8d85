-- At every moment a guest runs a unit that it has entered at its start, and stores in its own data alone.
use Rattle.std.proofs.Common.{◌≡◌, ℕ, zero, suc, ◌+◌, ◌-◌, ◌/◌, ◌%◌, ◌<◌, ◌≤◌, Bool, true, false, cond, Option, Some, None, List, [], ◌∷◌, length, take, get_or, slice_index, refl, sym, ap, subst, ◌∙◌, arith, ◌⊎◌, inl, inr}
use Rattle.std.proofs.lemmas.Bool.{cases_lt}
use Rattle.std.proofs.lemmas.Bool.Decides.{nat_tests}
use Rattle.rv_insn.specs.declared.insn.Insn.{Insn}
use Rattle.rv_insn.specs.declared.insn.Insn.TheVariants as insns
use Rattle.rv_insn.specs.declared.insn.StoreKind.{StoreKind}
use Rattle.rv_insn.specs.declared.insn.StoreKind.TheVariants.{Sb, Sh, Sw}
use Rattle.rv_insn.specs.InsnOf.{insn_of}
use Rattle.cfi_unit.specs.declared.unit.Unit.{Unit as CodeUnit}
use Rattle.cfi_unit.proofs.UnitLemmas.{size_pos}
use Rattle.cfi_word.specs.declared.map.TheConstants.{DATA_START, DATA_BYTES, TARY, BARY}
use Rattle.cfi_model.specs.Begin.{Private, TaryId, BaryId, Nothing, HasStore, HasStepBy, area_of, is_in_range}
use Rattle.cfi_model.specs.Data.{store_width, is_aligned}
use Rattle.cfi_model.specs.Fits.{Fits, FitsWord, Along}
use Rattle.cfi_model.specs.History.{History, IsHistory, IsStart}
use Rattle.cfi_model.specs.Raw.{Raw, access_address}
use Rattle.cfi_model.specs.Run.{Take, Word, take_one}
use Rattle.cfi_model.specs.Shows.{LiesIn, IsReady, IsBetween, Stands}
use Rattle.cfi_model.specs.State.{State}
use Rattle.cfi_model.proofs.AdvanceLemmas.{first_access, next_access, goes_on, start_is, at_start}
use Rattle.cfi_model.proofs.LawLemmas.{Begun, At}
use Rattle.cfi_model.proofs.PlaceLemmas.{idle_lies}
use Rattle.cfi_model.proofs.StuckLemmas.{raw_has_steps}
use Rattle.cfi_model_law.specs.Moments.{at_moment, Fetches, HasEntered, StoresInside, IsConfined, fetched}

-- ---- moments, one after the other

-- the first accesses fit
pub along_take : (h : History) (code : List ℕ) (takes : List Take) (r : Raw) (n : ℕ) → Along h code r takes
    → Along h code r (take n takes)
along_take h code [] r zero along = tt
along_take h code [] r (suc n) along = tt
along_take h code (t ∷ takes) r zero along = tt
along_take h code (t ∷ takes) r (suc n) along = (along.0, along_take h code takes (take_one r t) n along.1)

-- what comes next fits
next_fits : (h : History) (code : List ℕ) (takes : List Take) (d : Take) (r : Raw) (n : ℕ) → n < length takes
    → Along h code r takes → Fits h code (at_moment r takes n) (get_or takes n d)
next_fits h code [] d r n within along = absurd (omega arith)
next_fits h code (t ∷ takes) d r zero within along = along.0
next_fits h code (t ∷ takes) d r (suc n) within along =
    next_fits h code takes d (take_one r t) n (omega arith) along.1

-- and leads to the next moment
next_is : (takes : List Take) (d : Take) (r : Raw) (n : ℕ) → n < length takes
    → at_moment r takes (suc n) ≡ take_one (at_moment r takes n) (get_or takes n d)
next_is [] d r n within = absurd (omega arith)
next_is (t ∷ takes) d r zero within = refl
next_is (t ∷ takes) d r (suc n) within = next_is takes d (take_one r t) n (omega arith)

-- a moment up to the next one
one_of : (now moment : ℕ) → now ≤ moment → moment ≤ suc now → (moment ≡ now) ⊎ (moment ≡ suc now)
one_of now moment least most =
    elim (cases_lt now moment) [
      | inl above ↦ inr (omega (arith, above, most))
      | inr below ↦ inl (omega (arith, least, below))
    ]

same_moment : (now moment : ℕ) → now ≤ moment → moment ≤ now → moment ≡ now
same_moment now moment least most = omega arith

up_to : (now moment : ℕ) → moment ≤ suc now → (moment ≤ now) ⊎ (moment ≡ suc now)
up_to now moment most =
    elim (cases_lt now moment) [ inl above ↦ inr (omega (arith, above, most)) | inr below ↦ inl below ]

-- ---- stores

-- a private address is one of private data
in_range : (b c d : Bool) (address : ℕ)
    → HasStore (cond b (Private (address - DATA_START)) (cond c (TaryId (address - TARY))
    (cond d (BaryId ((address - BARY) / 4)) Nothing))) → b ≡ true
in_range true c d address has = refl
in_range false true d address has = absurd has
in_range false false true address has = absurd has
in_range false false false address has = absurd has

private_is : (address : ℕ) → HasStore (area_of address)
    → (DATA_START ≤ address) × (address < DATA_START + DATA_BYTES)
private_is address has =
    let inside : is_in_range DATA_START DATA_BYTES address ≡ true = in_range _ _ _ address has in
    let first : DATA_START ≤ address = grind (arith, nat_tests) in
    let last : address < DATA_START + DATA_BYTES = grind (arith, nat_tests) in
    (first, last)

own_whole : (kind : StoreKind) (address : ℕ) → DATA_START ≤ address → address < DATA_START + DATA_BYTES
    → is_aligned (store_width kind) address ≡ true → address + store_width kind ≤ DATA_START + DATA_BYTES
own_whole Sb address first last whole = omega arith
own_whole Sh address first last whole = (let even : address % 2 ≡ 0 = grind (arith, nat_tests) in omega arith)
own_whole Sw address first last whole = (let even : address % 4 ≡ 0 = grind (arith, nat_tests) in omega arith)

-- an instruction that has a step stores there alone
store_inside : (o : Option Insn) (r : Raw) → HasStepBy o r → StoresInside o r
store_inside None r has = tt
store_inside (Some (insns.Store kind rs1 rs2 imm)) r has =
    let own = private_is (access_address r rs1 imm) has in
    record { first = own.0; last = own.1; whole = own_whole kind (access_address r rs1 imm) own.0 own.1 }
store_inside (Some (insns.Lui rd imm)) r has = tt
store_inside (Some (insns.Auipc rd imm)) r has = tt
store_inside (Some (insns.Jal rd off)) r has = tt
store_inside (Some (insns.Jalr rd rs1 imm)) r has = tt
store_inside (Some (insns.Branch c rs1 rs2 off)) r has = tt
store_inside (Some (insns.Load kind rd rs1 imm)) r has = tt
store_inside (Some (insns.OpImm op rd rs1 imm)) r has = tt
store_inside (Some (insns.Op op rd rs1 rs2)) r has = tt
store_inside (Some (insns.Fence fields)) r has = tt
store_inside (Some insns.Ecall) r has = tt
store_inside (Some insns.Ebreak) r has = tt

-- ---- every moment

module _ (h : History) (code : List ℕ) (known : IsHistory h code) (first : State) (start : Raw)
    (ready : IsReady h first) (between : IsBetween 0 first start) (takes : List Take)
    (along : Along h code start takes) where
  abbrev at : (moment : ℕ) → Raw
  at moment = at_moment start takes moment

  -- a unit has begun, and was entered at its start
  pub record IsWithin (p : State) (retries now : ℕ) : Type 0 where
    pub unit : CodeUnit
    pub place : At h code p unit
    pub begun : Begun h p unit retries (at now)
    pub entry : ℕ
    pub earlier : entry ≤ now
    pub there : (at entry).base.pc ≡ p.pc
    pub inside : (moment : ℕ) → entry ≤ moment → moment ≤ now → Fetches (at moment) → LiesIn p.pc unit (at moment).base.pc

  pub record IsRunning (now : ℕ) : Type 0 where
    pub p : State
    pub retries : ℕ
    pub is : (IsReady h p × IsBetween retries p (at now)) ⊎ IsWithin p retries now

  -- the unit that begins at a moment
  enters : (p : State) (retries now : ℕ) (unit : CodeUnit) → At h code p unit → (at now).base.pc ≡ p.pc
      → Begun h p unit retries (at (suc now)) → IsWithin p retries (suc now)
  enters p retries now unit place there begun = record {
    unit = unit;
    place = place;
    begun = begun;
    entry = now;
    earlier = omega arith;
    there = there;
    inside = λ moment least most next. elim (one_of now moment least most) [
      | inl same ↦ record {
        place = 0;
        within = size_pos unit;
        is = ap (λ k. (at k).base.pc) same ∙ there ∙ omega arith;
      }
      | inr same ↦ subst (λ k. LiesIn p.pc unit (at k).base.pc) (sym same)
          (idle_lies p h unit retries (at (suc now)) begun (subst (λ k. Fetches (at k)) same next).idle)
    ];
  }

  -- it goes on
  stays : (p : State) (retries now : ℕ) (w : IsWithin p retries now) → Begun h p w.unit retries (at (suc now))
      → IsWithin p retries (suc now)
  stays p retries now w begun = record {
    unit = w.unit;
    place = w.place;
    begun = begun;
    entry = w.entry;
    earlier = omega (arith, w.earlier);
    there = w.there;
    inside = λ moment least most next. elim (up_to now moment most) [
      | inl before ↦ w.inside moment least before next
      | inr same ↦ subst (λ k. LiesIn p.pc w.unit (at k).base.pc) (sym same)
          (idle_lies p h w.unit retries (at (suc now)) begun (subst (λ k. Fetches (at k)) same next).idle)
    ];
  }

  -- one access more
  next_runs : (p : State) (retries now : ℕ) (t : Take) → Fits h code (at now) t → at (suc now) ≡ take_one (at now) t
      → (IsReady h p × IsBetween retries p (at now)) ⊎ IsWithin p retries now → IsRunning (suc now)
  next_runs p retries now t fits step (inl rests) =
      let r : Raw = at now in
      let going = goes_on h code p retries r rests.1 t fits in
      let place = at_start h code p retries known rests.0 going in
      elim (first_access h code p retries place.0 place.1 r.x28 r.x29 r.x30 r.x31 r
      (start_is h code p retries r rests.1 going) t fits) [
        | inl begun ↦ record {
          p = p;
          retries = retries;
          is = inr (enters p retries now place.0 place.1 (rests.1.fresh going).0
              (subst (Begun h p place.0 retries) (sym step) begun));
        }
        | inr ended ↦ record {
          p = ended.new;
          retries = retries + ended.more;
          is = inl (ended.ready, subst (IsBetween (retries + ended.more) ended.new) (sym step) ended.between);
        }
      ]
  next_runs p retries now t fits step (inr w) =
      elim (next_access h code p retries w.unit w.place (at now) w.begun t fits) [
        | inl begun ↦ record {
          p = p;
          retries = retries;
          is = inr (stays p retries now w (subst (Begun h p w.unit retries) (sym step) begun));
        }
        | inr ended ↦ record {
          p = ended.new;
          retries = retries + ended.more;
          is = inl (ended.ready, subst (IsBetween (retries + ended.more) ended.new) (sym step) ended.between);
        }
      ]

  runs : (now : ℕ) → now ≤ length takes → IsRunning now
  runs zero least = record { p = first; retries = 0; is = inl (ready, between) }
  runs (suc now) least =
      let before = runs now (omega arith) in
      let within : now < length takes = omega arith in
      next_runs before.p before.retries now (get_or takes now (Word 0)) (next_fits h code takes (Word 0) start now within along)
      (next_is takes (Word 0) start now within) before.is

  -- the unit that it runs
  entered : (p : State) (retries now : ℕ) → (IsReady h p × IsBetween retries p (at now)) ⊎ IsWithin p retries now
      → Fetches (at now) → HasEntered h code at now
  entered p retries now (inl rests) next =
      let going : p.stop ≡ None = sym (ap (λ b. b.stop) rests.1.base) ∙ next.going in
      let place = at_start h code p retries known rests.0 going in
      let there : (at now).base.pc ≡ p.pc = (rests.1.fresh going).0 in
      record {
        begun = now;
        earlier = omega arith;
        starts = subst (IsStart h) (sym there) (rests.0.start going);
        unit = place.0;
        stands = subst (λ a. Stands code a place.0) (sym there) place.1.here.stands;
        inside = λ moment least most fetches. record {
          place = 0;
          within = size_pos place.0;
          is = ap (λ k. (at k).base.pc) (same_moment now moment least most) ∙ omega arith;
        };
      }
  entered p retries now (inr w) next = record {
    begun = w.entry;
    earlier = w.earlier;
    starts = subst (IsStart h) (sym w.there) (w.place.here.ready.start w.place.here.going);
    unit = w.unit;
    stands = subst (λ a. Stands code a w.unit) (sym w.there) w.place.here.stands;
    inside = λ moment least most fetches.
        subst (λ a. LiesIn a w.unit (at moment).base.pc) (sym w.there) (w.inside moment least most fetches);
  }

  stores : (now : ℕ) → Fetches (at now) → StoresInside (fetched code (at now)) (at now)
  stores now next =
      let word : ℕ = slice_index code ((at now).base.pc / 4) in
      let fits : Fits h code (at now) (Word word) =
      subst (λ w. FitsWord h code w (at now) word) (sym next.idle) (next.going, refl) in
      store_inside (insn_of word) (at now)
      (raw_has_steps h code known first ready 0 start between (take now takes) (along_take h code takes start now along)
      next.idle word fits)

  pub confined : IsConfined h code start takes
  confined = record {
    enters = λ now least next. (let run = runs now least in entered run.p run.retries now run.is next);
    stores = λ now least next. stores now next;
  }
