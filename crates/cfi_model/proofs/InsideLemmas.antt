-- A raw state within a unit shows the state at the unit's start.
use Rattle.std.proofs.Common.{◌≡◌, ◌≢◌, ℕ, ◌+◌, ◌*◌, ◌%◌, ◌^◌, ◌<◌, ℤ, Bool, Option, Some, None, List, length, refl, sym, ◌∙◌, ap, subst, arith}
use Rattle.cfi_unit.specs.declared.unit.Unit.{Unit as CodeUnit}
use Rattle.cfi_unit.specs.declared.unit.Unit.TheVariants as units
use Rattle.cfi_model.specs.declared.act.Wait.{Wait}
use Rattle.cfi_model.specs.declared.act.Wait.TheVariants as waits
use Rattle.cfi_model.specs.Service.{asked}
use Rattle.cfi_word.specs.Table.{slots_of}
use Rattle.cfi_model.specs.State.{State, register, displaced}
use Rattle.cfi_model.specs.Raw.{Raw}
use Rattle.cfi_model.specs.History.{History}
use Rattle.cfi_model.specs.Shows.{IsInside, IsPlaceIn, MayWait, KeepsWords, IsRetried, AreRetried, try_place}
use Rattle.cfi_model.proofs.InnerLemmas.{inner}
use Rattle.cfi_model.proofs.MaskedLemmas as masked
use Rattle.cfi_model.proofs.CheckPlaces as check
use Rattle.cfi_model.proofs.LawLemmas.{Begun, At}

-- within a unit
inside : (h : History) (code : List ℕ) (p : State) (unit : CodeUnit) (retries : ℕ) → At h code p unit
    → (at more few x28 x29 x30 x31 : ℕ) (bary tary : Option ℕ) (wait : Option Wait) (r : Raw)
    → r ≡ inner p p.units (p.pc + 4 * at) (p.steps + 9 * (retries + more) + few) x28 x29 x30 x31 bary tary wait
    → IsPlaceIn unit wait at few → MayWait (length code) unit p wait → KeepsWords unit bary tary
    → (more ≢ 0 → IsRetried h unit p)
    → (more ≢ 0 → at ≡ try_place → AreRetried h unit p bary tary) → IsInside h code retries p r
inside h code p unit retries a at more few x28 x29 x30 x31 bary tary wait r is place waits keeps retried words =
    let steps : p.steps + 9 * (retries + more) + few ≡ p.steps + (9 * (retries + more) + few) = omega arith in
    subst (IsInside h code retries p) (sym is) (record {
      going = a.here.going;
      unit = unit;
      stands = a.here.stands;
      at = at;
      few = few;
      place = place;
      waits = waits;
      keeps = keeps;
      more = more;
      retried = retried;
      words = words;
      base = ap (λ s. record p { pc = p.pc + 4 * at; steps = s }) steps;
    })

-- the count of steps where no try is repeated
again : (p : State) (n few pc x28 x29 x30 x31 : ℕ) (bary tary : Option ℕ) (wait : Option Wait)
    → inner p p.units pc (p.steps + 9 * n + few) x28 x29 x30 x31 bary tary wait
    ≡ inner p p.units pc (p.steps + 9 * (n + 0) + few) x28 x29 x30 x31 bary tary wait
again p n few pc x28 x29 x30 x31 bary tary wait =
    let same : p.steps + 9 * n + few ≡ p.steps + 9 * (n + 0) + few = omega arith in
    ap (λ s. inner p p.units pc s x28 x29 x30 x31 bary tary wait) same

-- within a masked access
inside_masked : (h : History) (code : List ℕ) (p : State) (unit : CodeUnit) (retries address : ℕ) → At h code p unit
    → ((at : ℕ) → at < 6 → IsPlaceIn unit None at at) → MayWait (length code) unit p None
    → KeepsWords unit None None
    → (x28 x29 x30 : ℕ) (place : masked.MaskedPlace) (r : Raw)
    → r ≡ masked.masked_raw p retries address x28 x29 x30 place → IsInside h code retries p r
inside_masked h code p unit n address a fits idle keeps x28 x29 x30 masked.Aimed r is =
    inside h code p unit n a 1 0 1 _ _ _ _ _ _ None r (is ∙ again p n 1 (p.pc + 4 * 1) _ _ _ _ _ _ _)
    (fits 1 (omega arith)) idle keeps (λ some. absurd (some refl)) (λ some there. absurd (some refl))
inside_masked h code p unit n address a fits idle keeps x28 x29 x30 masked.Shifted r is =
    inside h code p unit n a 2 0 2 _ _ _ _ _ _ None r (is ∙ again p n 2 (p.pc + 4 * 2) _ _ _ _ _ _ _)
    (fits 2 (omega arith)) idle keeps (λ some. absurd (some refl)) (λ some there. absurd (some refl))
inside_masked h code p unit n address a fits idle keeps x28 x29 x30 masked.Cut r is =
    inside h code p unit n a 3 0 3 _ _ _ _ _ _ None r (is ∙ again p n 3 (p.pc + 4 * 3) _ _ _ _ _ _ _)
    (fits 3 (omega arith)) idle keeps (λ some. absurd (some refl)) (λ some there. absurd (some refl))
inside_masked h code p unit n address a fits idle keeps x28 x29 x30 masked.Based r is =
    inside h code p unit n a 4 0 4 _ _ _ _ _ _ None r (is ∙ again p n 4 (p.pc + 4 * 4) _ _ _ _ _ _ _)
    (fits 4 (omega arith)) idle keeps (λ some. absurd (some refl)) (λ some there. absurd (some refl))
inside_masked h code p unit n address a fits idle keeps x28 x29 x30 masked.Merged r is =
    inside h code p unit n a 5 0 5 _ _ _ _ _ _ None r (is ∙ again p n 5 (p.pc + 4 * 5) _ _ _ _ _ _ _)
    (fits 5 (omega arith)) idle keeps (λ some. absurd (some refl)) (λ some there. absurd (some refl))

-- a check's slot is one of the table
slot_within : (h : History) (code : List ℕ) (p : State) (link : Bool) (rs1 : ℕ) (imm : ℤ) (slot : ℕ)
    → At h code p (units.Check link rs1 imm slot) → slot < slots_of (length code)
slot_within h code p link rs1 imm slot a =
    subst (λ n. slot < n) (a.here.known.closed a.epoch a.is).1.classes.bary_length a.inside.1

-- within a check
inside_check : (h : History) (code : List ℕ) (p : State) (retries slot : ℕ) (link : Bool) (rs1 : ℕ) (imm : ℤ)
    → At h code p (units.Check link rs1 imm slot) → (more : ℕ)
    → (more ≢ 0 → IsRetried h (units.Check link rs1 imm slot) p)
    → (v : check.Values) (place : check.CheckPlace) (r : Raw)
    → r ≡ check.check_raw p (retries + more) slot (displaced (register p rs1) imm) v place
    → check.CheckHolds h p more slot (displaced (register p rs1) imm) v place → IsInside h code retries p r
inside_check h code p retries slot link rs1 imm a more two v check.Aimed r is holds =
    inside h code p _ retries a 1 more 1 _ _ _ _ _ _ _ r is (omega arith, omega arith) tt tt two
    (λ again there. absurd (omega (arith, there)))
inside_check h code p retries slot link rs1 imm a more two v check.Split r is holds =
    inside h code p _ retries a 2 more 2 _ _ _ _ _ _ _ r is (omega arith, omega arith) tt tt two
    (λ again there. absurd (omega (arith, there)))
inside_check h code p retries slot link rs1 imm a more two v check.Far r is holds =
    inside h code p _ retries a 12 more 3 _ _ _ _ _ _ _ r is (omega arith, omega arith) tt tt two
    (λ again there. absurd (omega (arith, there)))
inside_check h code p retries slot link rs1 imm a more two v check.Trying r is holds =
    inside h code p _ retries a 3 more 3 _ _ _ _ _ _ _ r is (omega arith, omega arith) tt tt two
    (λ again there. holds.words again)
inside_check h code p retries slot link rs1 imm a more two v check.Pointed r is holds =
    inside h code p _ retries a 4 more 4 _ _ _ _ _ _ _ r is (omega arith, omega arith) tt tt two
    (λ again there. absurd (omega (arith, there)))
inside_check h code p retries slot link rs1 imm a more two v check.AskedBary r is holds =
    inside h code p _ retries a 5 more 5 _ _ _ _ _ _ _ r is (omega arith, omega arith)
    (refl, slot_within h code p link rs1 imm slot a) tt two
    (λ again there. absurd (omega (arith, there)))
inside_check h code p retries slot link rs1 imm a more two v check.FoundBary r is holds =
    inside h code p _ retries a 5 more 5 _ _ _ _ _ _ _ r is (omega arith, omega arith) tt tt two
    (λ again there. absurd (omega (arith, there)))
inside_check h code p retries slot link rs1 imm a more two v check.Tabled r is holds =
    inside h code p _ retries a 6 more 6 _ _ _ _ _ _ _ r is (omega arith, omega arith) tt tt two
    (λ again there. absurd (omega (arith, there)))
inside_check h code p retries slot link rs1 imm a more two v check.Added r is holds =
    inside h code p _ retries a 7 more 7 _ _ _ _ _ _ _ r is (omega arith, omega arith) tt tt two
    (λ again there. absurd (omega (arith, there)))
inside_check h code p retries slot link rs1 imm a more two v check.AskedTary r is holds =
    inside h code p _ retries a 8 more 8 _ _ _ _ _ _ _ r is (omega arith, omega arith) (refl, holds.0, holds.1) tt two
    (λ again there. absurd (omega (arith, there)))
inside_check h code p retries slot link rs1 imm a more two v check.FoundTary r is holds =
    inside h code p _ retries a 8 more 8 _ _ _ _ _ _ _ r is (omega arith, omega arith) tt tt two
    (λ again there. absurd (omega (arith, there)))
inside_check h code p retries slot link rs1 imm a more two v check.Differed r is holds =
    inside h code p _ retries a 9 more 9 _ _ _ _ _ _ _ r is (omega arith, omega arith) tt tt two
    (λ again there. absurd (omega (arith, there)))
inside_check h code p retries slot link rs1 imm a more two v check.Compared r is holds =
    inside h code p _ retries a 10 more 10 _ _ _ _ _ _ _ r is (omega arith, omega arith) tt tt two
    (λ again there. absurd (omega (arith, there)))
inside_check h code p retries slot link rs1 imm a more two v check.Lowered r is holds =
    inside h code p _ retries a 11 more 11 _ _ _ _ _ _ _ r is (omega arith, omega arith) tt tt two
    (λ again there. absurd (omega (arith, there)))
inside_check h code p retries slot link rs1 imm a more two v check.Refused r is holds =
    inside h code p _ retries a 12 more 12 _ _ _ _ _ _ _ r is (omega arith, omega arith) tt tt two
    (λ again there. absurd (omega (arith, there)))
inside_check h code p retries slot link rs1 imm a more two v check.Allowed r is holds =
    inside h code p _ retries a 13 more 9 _ _ _ _ _ _ _ r is (omega arith, omega arith) tt tt two
    (λ again there. absurd (omega (arith, there)))

pub shown_within : (h : History) (code : List ℕ) (p : State) (unit : CodeUnit) (retries : ℕ) (r : Raw)
    → At h code p unit
    → Begun h p unit retries r → IsInside h code retries p r
shown_within h code p (units.Plain insn) retries r a begun = absurd begun
shown_within h code p (units.Branch c rs1 rs2 off) retries r a begun = absurd begun
shown_within h code p (units.Jump link off) retries r a begun = absurd begun
shown_within h code p (units.Load kind rd rs1 imm) retries r a begun =
    inside_masked h code p (units.Load kind rd rs1 imm) retries _ a
    (λ at within. (within, omega (arith, within))) tt (refl, refl)
    begun.x28 begun.x29 begun.x30
    begun.place r
    begun.is
shown_within h code p (units.Store kind rs1 rs2 imm) retries r a begun =
    inside_masked h code p (units.Store kind rs1 rs2 imm) retries _ a
    (λ at within. (within, omega (arith, within))) tt (refl, refl)
    begun.x28 begun.x29 begun.x30
    begun.place
    r begun.is
shown_within h code p (units.Check link rs1 imm slot) retries r a begun =
    inside_check h code p retries slot link rs1 imm a begun.more begun.two begun.values begun.place r begun.is
    begun.holds
shown_within h code p units.Service retries r a begun =
    let small = a.here.small in
    let place : (p.pc + 4) % 2 ^ 32 ≡ p.pc + 4 * 1 = omega arith in
    let steps : p.steps + 9 * retries + 1 ≡ p.steps + 9 * (retries + 0) + 1 = omega arith in
    let wait : Option Wait = Some (waits.Service (asked p)) in
    inside h code p units.Service retries a 1 0 1 begun.x28 begun.x29 begun.x30 begun.x31 None None wait r
    (begun.is
    ∙ ap (λ pc. inner p p.units pc (p.steps + 9 * retries + 1) begun.x28 begun.x29 begun.x30 begun.x31 None None wait)
    place
    ∙ ap (λ s. inner p p.units (p.pc + 4 * 1) s begun.x28 begun.x29 begun.x30 begun.x31 None None wait) steps)
    (refl, refl) refl (refl, refl) (λ some. absurd (some refl)) (λ some there. absurd (some refl))
