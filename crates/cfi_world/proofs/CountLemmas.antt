-- How many tries a guest has repeated, from its place and its count of instructions.
use Rattle.std.proofs.Common.{◌≡◌, ◌≢◌, ℕ, ℤ, ◌+◌, ◌*◌, ◌%◌, ◌^◌, ◌<◌, ◌≤◌, ◌/◌, nat_le, cond, Bool, true, false, List, length, Option, Some, None, inl, inr, refl, sym, ap, ◌∙◌, subst, arith}
use Rattle.std.proofs.lemmas.Bool.Decides.{nat_tests}
use Rattle.cfi_unit.proofs.CodeLemmas.{BeginsAt-one}
use Rattle.cfi_unit.specs.declared.unit.Unit.{Unit as CodeUnit}
use Rattle.cfi_unit.specs.declared.unit.Unit.TheVariants as units
use Rattle.cfi_word.specs.Table.{slots_of}
use Rattle.cfi_word.specs.declared.map.TheConstants.{CODE_BYTES}
use Rattle.cfi_model.specs.declared.act.Wait.{Wait}
use Rattle.cfi_model.specs.declared.act.Wait.TheVariants as waits
use Rattle.cfi_model.specs.History.{History, IsHistory}
use Rattle.cfi_model.specs.Raw.{Raw}
use Rattle.cfi_model.specs.Running.{IsRunning}
use Rattle.cfi_model.specs.Service.{asked}
use Rattle.cfi_model.specs.Shows.{IsInside, IsPlaceIn, MayWait, KeepsWords, IsRetried, AreRetried, try_place}
use Rattle.cfi_model.specs.State.{State, register, displaced}
use Rattle.cfi_model.proofs.AdvanceLemmas.{Running}
use Rattle.cfi_model.proofs.CheckPlaces as check
use Rattle.cfi_model.proofs.InnerLemmas.{inner}
use Rattle.cfi_model.proofs.LawLemmas.{At, Begun}
use Rattle.cfi_model.proofs.MaskedLemmas as masked
use Rattle.cfi_model.proofs.RunningLemmas.{running_is}
use Rattle.cfi_world.specs.Counts.{HasRepeated, HasTried, RepeatsAreCounted, done_in}

past_test : (target : ℕ) → 2 ^ 18 ≤ target → nat_le CODE_BYTES target ≡ true
past_test target past = grind (arith, nat_tests)

below_test : (target : ℕ) → target < 2 ^ 18 → nat_le CODE_BYTES target ≡ false
below_test target below = grind (arith, nat_tests)

-- a unit that is no check
abbrev pub IsNoCheck : CodeUnit → Type 0
IsNoCheck (units.Check link rs1 imm slot) = ⊥
IsNoCheck unit = Unit {0}

module _ (h : History) (code : List ℕ) (p : State) (retries : ℕ) where
  -- within a unit
  tried : (unit : CodeUnit) → At h code p unit
      → (at more few x28 x29 x30 x31 : ℕ) (bary tary : Option ℕ) (wait : Option Wait) (r : Raw)
      → r ≡ inner p p.units (p.pc + 4 * at) (p.steps + 9 * (retries + more) + few) x28 x29 x30 x31 bary tary wait
      → IsPlaceIn unit wait at few → MayWait (length code) unit p wait → KeepsWords unit bary tary
      → (more ≢ 0 → IsRetried h unit p) → (more ≢ 0 → at ≡ try_place → AreRetried h unit p bary tary)
      → few ≡ done_in unit p at → HasTried h code retries p r more
  tried unit a at more few x28 x29 x30 x31 bary tary wait r is place waits keeps retried words done =
      let steps : p.steps + 9 * (retries + more) + few ≡ p.steps + (9 * (retries + more) + few) = omega arith in
      subst (λ x. HasTried h code retries p x more) (sym is) (record {
        inside = record {
          going = a.here.going;
          unit = unit;
          stands = a.here.stands;
          at = at;
          few = few;
          place = place;
          waits = waits;
          keeps = keeps;
          more = more;
          retried = retried;
          words = words;
          base = ap (λ s. record p { pc = p.pc + 4 * at; steps = s }) steps;
        };
        done = done;
        is = refl;
      })

  -- within a unit that repeats no try
  once : (unit : CodeUnit) → At h code p unit → (at few x28 x29 x30 x31 : ℕ) (wait : Option Wait) (r : Raw)
      → r ≡ inner p p.units (p.pc + 4 * at) (p.steps + 9 * retries + few) x28 x29 x30 x31 None None wait
      → IsPlaceIn unit wait at few → MayWait (length code) unit p wait → KeepsWords unit None None
      → few ≡ done_in unit p at → HasTried h code retries p r 0
  once unit a at few x28 x29 x30 x31 wait r is place waits keeps done =
      let same : p.steps + 9 * retries + few ≡ p.steps + 9 * (retries + 0) + few = omega arith in
      tried unit a at 0 few x28 x29 x30 x31 None None wait r
      (is ∙ ap (λ s. inner p p.units (p.pc + 4 * at) s x28 x29 x30 x31 None None wait) same) place waits keeps
      (λ some. absurd (some refl)) (λ some there. absurd (some refl)) done

  masked_tried : (unit : CodeUnit) (address : ℕ) → At h code p unit → ((at : ℕ) → at < 6 → IsPlaceIn unit None at at)
      → MayWait (length code) unit p None → KeepsWords unit None None → ((at : ℕ) → at ≡ done_in unit p at)
      → (x28 x29 x30 : ℕ) (place : masked.MaskedPlace) (r : Raw)
      → r ≡ masked.masked_raw p retries address x28 x29 x30 place → HasTried h code retries p r 0
  masked_tried unit address a fits idle keeps done x28 x29 x30 masked.Aimed r is =
      once unit a 1 1 _ _ _ _ None r is (fits 1 (omega arith)) idle keeps (done 1)
  masked_tried unit address a fits idle keeps done x28 x29 x30 masked.Shifted r is =
      once unit a 2 2 _ _ _ _ None r is (fits 2 (omega arith)) idle keeps (done 2)
  masked_tried unit address a fits idle keeps done x28 x29 x30 masked.Cut r is =
      once unit a 3 3 _ _ _ _ None r is (fits 3 (omega arith)) idle keeps (done 3)
  masked_tried unit address a fits idle keeps done x28 x29 x30 masked.Based r is =
      once unit a 4 4 _ _ _ _ None r is (fits 4 (omega arith)) idle keeps (done 4)
  masked_tried unit address a fits idle keeps done x28 x29 x30 masked.Merged r is =
      once unit a 5 5 _ _ _ _ None r is (fits 5 (omega arith)) idle keeps (done 5)

  -- within a check
  module _ (link : Bool) (rs1 : ℕ) (imm : ℤ) (slot : ℕ) (a : At h code p (units.Check link rs1 imm slot)) where
    abbrev target : ℕ
    target = displaced (register p rs1) imm

    slot_low : slot < slots_of (length code)
    slot_low =
        subst (λ n. slot < n) (a.here.known.closed a.epoch a.is).1.classes.bary_length a.inside.1

    check_tried : (more : ℕ) → (more ≢ 0 → IsRetried h (units.Check link rs1 imm slot) p)
        → (v : check.Values) (place : check.CheckPlace) (r : Raw)
        → r ≡ check.check_raw p (retries + more) slot target v place → check.CheckHolds h p more slot target v place
        → HasTried h code retries p r more
    check_tried more two v check.Aimed r is holds =
        tried _ a 1 more 1 _ _ _ _ _ _ _ r is (omega arith, omega arith) tt tt two
        (λ again there. absurd (omega (arith, there))) refl
    check_tried more two v check.Split r is holds =
        tried _ a 2 more 2 _ _ _ _ _ _ _ r is (omega arith, omega arith) tt tt two
        (λ again there. absurd (omega (arith, there))) refl
    check_tried more two v check.Far r is holds =
        tried _ a 12 more 3 _ _ _ _ _ _ _ r is (omega arith, omega arith) tt tt two
        (λ again there. absurd (omega (arith, there))) (sym (ap (λ b. cond b 3 12) (past_test target holds.1)))
    check_tried more two v check.Trying r is holds =
        tried _ a 3 more 3 _ _ _ _ _ _ _ r is (omega arith, omega arith) tt tt two
        (λ again there. holds.words again) refl
    check_tried more two v check.Pointed r is holds =
        tried _ a 4 more 4 _ _ _ _ _ _ _ r is (omega arith, omega arith) tt tt two
        (λ again there. absurd (omega (arith, there))) refl
    check_tried more two v check.AskedBary r is holds =
        tried _ a 5 more 5 _ _ _ _ _ _ _ r is (omega arith, omega arith) (refl, slot_low) tt two
        (λ again there. absurd (omega (arith, there))) refl
    check_tried more two v check.FoundBary r is holds =
        tried _ a 5 more 5 _ _ _ _ _ _ _ r is (omega arith, omega arith) tt tt two
        (λ again there. absurd (omega (arith, there))) refl
    check_tried more two v check.Tabled r is holds =
        tried _ a 6 more 6 _ _ _ _ _ _ _ r is (omega arith, omega arith) tt tt two
        (λ again there. absurd (omega (arith, there))) refl
    check_tried more two v check.Added r is holds =
        tried _ a 7 more 7 _ _ _ _ _ _ _ r is (omega arith, omega arith) tt tt two
        (λ again there. absurd (omega (arith, there))) refl
    check_tried more two v check.AskedTary r is holds =
        tried _ a 8 more 8 _ _ _ _ _ _ _ r is (omega arith, omega arith) (refl, holds.0, holds.1) tt two
        (λ again there. absurd (omega (arith, there))) refl
    check_tried more two v check.FoundTary r is holds =
        tried _ a 8 more 8 _ _ _ _ _ _ _ r is (omega arith, omega arith) tt tt two
        (λ again there. absurd (omega (arith, there))) refl
    check_tried more two v check.Differed r is holds =
        tried _ a 9 more 9 _ _ _ _ _ _ _ r is (omega arith, omega arith) tt tt two
        (λ again there. absurd (omega (arith, there))) refl
    check_tried more two v check.Compared r is holds =
        tried _ a 10 more 10 _ _ _ _ _ _ _ r is (omega arith, omega arith) tt tt two
        (λ again there. absurd (omega (arith, there))) refl
    check_tried more two v check.Lowered r is holds =
        tried _ a 11 more 11 _ _ _ _ _ _ _ r is (omega arith, omega arith) tt tt two
        (λ again there. absurd (omega (arith, there))) refl
    check_tried more two v check.Refused r is holds =
        tried _ a 12 more 12 _ _ _ _ _ _ _ r is (omega arith, omega arith) tt tt two
        (λ again there. absurd (omega (arith, there))) (sym (ap (λ b. cond b 3 12) (below_test target holds.0.low)))
    check_tried more two v check.Allowed r is holds =
        tried _ a 13 more 9 _ _ _ _ _ _ _ r is (omega arith, omega arith) tt tt two
        (λ again there. absurd (omega (arith, there))) refl

    -- a check counts its own tries
    pub begun_check : (r : Raw) (begun : Begun h p (units.Check link rs1 imm slot) retries r)
        → HasTried h code retries p r begun.more
    begun_check r begun = check_tried begun.more begun.two begun.values begun.place r begun.is begun.holds

  -- no other unit repeats any
  pub plain_tried : (unit : CodeUnit) (r : Raw) → IsNoCheck unit → At h code p unit → Begun h p unit retries r
      → HasTried h code retries p r 0
  plain_tried (units.Plain insn) r other a begun = absurd begun
  plain_tried (units.Branch c rs1 rs2 off) r other a begun = absurd begun
  plain_tried (units.Jump link off) r other a begun = absurd begun
  plain_tried (units.Check link rs1 imm slot) r other a begun = absurd other
  plain_tried (units.Load kind rd rs1 imm) r other a begun =
      masked_tried (units.Load kind rd rs1 imm) _ a (λ at within. (within, omega (arith, within))) tt (refl, refl)
      (λ at. refl) begun.x28 begun.x29 begun.x30 begun.place r begun.is
  plain_tried (units.Store kind rs1 rs2 imm) r other a begun =
      masked_tried (units.Store kind rs1 rs2 imm) _ a (λ at within. (within, omega (arith, within))) tt (refl, refl)
      (λ at. refl) begun.x28 begun.x29 begun.x30 begun.place r begun.is
  plain_tried units.Service r other a begun =
      let small = a.here.small in
      let place : (p.pc + 4) % 2 ^ 32 ≡ p.pc + 4 * 1 = omega arith in
      let wait : Option Wait = Some (waits.Service (asked p)) in
      once units.Service a 1 1 begun.x28 begun.x29 begun.x30 begun.x31 wait r
      (begun.is
      ∙ ap (λ pc. inner p p.units pc (p.steps + 9 * retries + 1) begun.x28 begun.x29 begun.x30 begun.x31 None None wait)
      place)
      (refl, refl) refl (refl, refl) refl

  -- within each unit
  begun_tried : (unit : CodeUnit) (r : Raw) → At h code p unit → Begun h p unit retries r
      → (tries : ℕ) × HasTried h code retries p r tries
  begun_tried (units.Check link rs1 imm slot) r a begun = (begun.more, begun_check link rs1 imm slot a r begun)
  begun_tried (units.Plain insn) r a begun = absurd begun
  begun_tried (units.Branch c rs1 rs2 off) r a begun = absurd begun
  begun_tried (units.Jump link off) r a begun = absurd begun
  begun_tried (units.Load kind rd rs1 imm) r a begun = (0, plain_tried (units.Load kind rd rs1 imm) r tt a begun)
  begun_tried (units.Store kind rs1 rs2 imm) r a begun = (0, plain_tried (units.Store kind rs1 rs2 imm) r tt a begun)
  begun_tried units.Service r a begun = (0, plain_tried units.Service r tt a begun)

  -- a running guest
  pub repeated_by : (r : Raw) → Running h code p retries r → (tries : ℕ) × HasRepeated h code retries p r tries
  repeated_by r (inl rests) = (0, inl (rests.1, refl))
  repeated_by r (inr within) =
      let of = begun_tried within.0 r within.1 within.2 in (of.0, inr of.1)

pub running_repeated : (h : History) (code : List ℕ) → IsHistory h code → (retries : ℕ) (s : State) (r : Raw)
    → IsRunning h code retries s r → (tries : ℕ) × HasRepeated h code retries s r tries
running_repeated h code known retries s r runs =
    repeated_by h code s retries r (running_is h code known retries s r runs)

-- ---- there is one number

same_units : (h : History) (code : List ℕ) (retries : ℕ) (s : State) (r : Raw)
    (one other : IsInside h code retries s r) → one.unit ≡ other.unit
same_units h code retries s r one other =
    BeginsAt-one code (s.pc / 4) one.unit other.unit one.stands.begins other.stands.begins

same_places : (h : History) (code : List ℕ) (retries : ℕ) (s : State) (r : Raw)
    (one other : IsInside h code retries s r) → one.at ≡ other.at
same_places h code retries s r one other =
    let a = ap (λ b. b.pc) one.base in
    let b = ap (λ b. b.pc) other.base in
    omega (arith, a, b)

pub counted_once : RepeatsAreCounted
counted_once h code retries s r one other (inl a) (inl b) = a.1 ∙ sym b.1
counted_once h code retries s r one other (inl a) (inr b) =
    let rests = ap (λ x. x.steps) a.0.base in
    let within = ap (λ x. x.steps) b.inside.base in
    omega (arith, rests, within, a.1, b.is)
counted_once h code retries s r one other (inr a) (inl b) =
    let within = ap (λ x. x.steps) a.inside.base in
    let rests = ap (λ x. x.steps) b.0.base in
    omega (arith, rests, within, b.1, a.is)
counted_once h code retries s r one other (inr a) (inr b) =
    let unit = same_units h code retries s r a.inside b.inside in
    let at = same_places h code retries s r a.inside b.inside in
    let done : done_in a.inside.unit s a.inside.at ≡ done_in b.inside.unit s b.inside.at =
    ap (λ (u : CodeUnit). done_in u s a.inside.at) unit ∙ ap (done_in b.inside.unit s) at in
    let few : a.inside.few ≡ b.inside.few = a.done ∙ done ∙ sym b.done in
    let first = ap (λ x. x.steps) a.inside.base in
    let last = ap (λ x. x.steps) b.inside.base in
    omega (arith, first, last, few, a.is, b.is)
