-- The tries that a unit has repeated when it ends are those that its guest had repeated before.
use Rattle.std.proofs.Common.{◌≡◌, ◌≢◌, ℕ, ℤ, zero, suc, ◌+◌, ◌*◌, ◌/◌, ◌≤◌, ◌&&◌, nat_lt, cond, Bool, true, false, List, Some, None, ◌⊎◌, inl, inr, refl, sym, ap, ◌∙◌, subst, arith}
use Rattle.rv_insn.specs.InsnOf.{insn_of}
use Rattle.cfi_unit.proofs.CodeLemmas.{BeginsAt-one}
use Rattle.cfi_unit.specs.declared.unit.Unit.{Unit as CodeUnit}
use Rattle.cfi_unit.specs.declared.unit.Unit.TheVariants as units
use Rattle.cfi_word.specs.declared.map.TheConstants.{CODE_BYTES}
use Rattle.cfi_model.specs.declared.act.Wait.TheVariants as waits
use Rattle.cfi_model.specs.Data.{is_aligned}
use Rattle.cfi_model.specs.Effect.{check_steps, effect, is_in_code}
use Rattle.cfi_model.specs.Fits.{Fits, FitsReply}
use Rattle.cfi_model.specs.History.{History, IsHistory, allows_at}
use Rattle.cfi_model.specs.Raw.{Raw}
use Rattle.cfi_model.specs.Run.{Take, Word, Served, take_one, take_word}
use Rattle.cfi_model.specs.Shows.{IsBetween, IsRetried, end_of}
use Rattle.cfi_model.specs.State.{State, register, displaced}
use Rattle.cfi_model.proofs.AdvanceLemmas.{Running, check_next}
use Rattle.cfi_model.proofs.AfterLemmas.{begin_counts}
use Rattle.cfi_model.proofs.CheckFinish.{whole_in_code}
use Rattle.cfi_model.proofs.CheckPlaces.{CheckPlace, Aimed, Split, Far, Trying, Pointed, AskedBary, FoundBary, Tabled, Added, AskedTary, FoundTary, Differed, Compared, Lowered, Refused, Allowed, Values, check_raw, CheckHolds, IsTried, Neither, SlotWord, BothWords, found_at}
use Rattle.cfi_model.proofs.EndLemmas.{effect_units}
use Rattle.cfi_model.proofs.LawLemmas.{At, Begun, Ended}
use Rattle.cfi_model.proofs.ShownLemmas.{shows_running, shows_units}
use Rattle.cfi_model.proofs.StuckLemmas.{running_has}
use Rattle.cfi_world.specs.Counts.{HasRepeated}
use Rattle.cfi_world.proofs.CountLemmas.{IsNoCheck, begun_check, plain_tried}

-- ---- how many instructions a check runs in all, by its target

abbrev IsFew : (steps : ℕ) → Type 0
IsFew steps = (steps ≡ 4) ⊎ (steps ≡ 8)

abbrev IsMany : (steps : ℕ) → Type 0
IsMany steps = (steps ≡ 10) ⊎ (steps ≡ 13)

abbrev StepsBy : (target steps : ℕ) → Type 0
StepsBy target steps =
    ((is_in_code target ≡ false) × IsFew steps) ⊎ ((is_in_code target ≡ true) × IsMany steps)

by_tests : (target : ℕ) (low whole allowed : Bool) → nat_lt target CODE_BYTES ≡ low → is_aligned 4 target ≡ whole
    → StepsBy target (cond low (cond whole (cond allowed 10 13) 8) 4)
by_tests target false whole allowed low_is whole_is = inl (ap (λ b. b && is_aligned 4 target) low_is, inl refl)
by_tests target true false allowed low_is whole_is =
    inl (ap (λ b. b && is_aligned 4 target) low_is ∙ whole_is, inr refl)
by_tests target true true true low_is whole_is =
    inr (ap (λ b. b && is_aligned 4 target) low_is ∙ whole_is, inl refl)
by_tests target true true false low_is whole_is =
    inr (ap (λ b. b && is_aligned 4 target) low_is ∙ whole_is, inr refl)

pub steps_by : (target : ℕ) (allowed : Bool) → StepsBy target (check_steps target allowed)
steps_by target allowed =
    by_tests target (nat_lt target CODE_BYTES) (is_aligned 4 target) allowed refl refl

at_least : (target steps : ℕ) → StepsBy target steps → 4 ≤ steps
at_least target steps (inl (no_pick, inl four)) = omega (arith, four)
at_least target steps (inl (no_pick, inr eight)) = omega (arith, eight)
at_least target steps (inr (picks, inl ten)) = omega (arith, ten)
at_least target steps (inr (picks, inr all)) = omega (arith, all)

-- ---- the count at its end

-- before the try has found both words, so that the check asks no policy; and after it
early : (n more tries steps : ℕ) → 2 ≤ n → n ≤ 8 → IsFew steps → steps + 9 * tries ≡ 9 * more + n
    → tries ≡ more
early n more tries steps least most (inl four) sum = omega (arith, least, most, four, sum)
early n more tries steps least most (inr eight) sum = omega (arith, least, most, eight, sum)

late : (n more tries steps : ℕ) → 9 ≤ n → n ≤ 13 → IsMany steps → steps + 9 * tries ≡ 9 * more + n
    → tries ≡ more
late n more tries steps least most (inl ten) sum = omega (arith, least, most, ten, sum)
late n more tries steps least most (inr all) sum = omega (arith, least, most, all, sum)

-- how many instructions the check has run in its present try and before its first one, after the next access
abbrev next_steps : CheckPlace → ℕ
next_steps Aimed = 2
next_steps Split = 3
next_steps Far = 4
next_steps Trying = 4
next_steps Pointed = 5
next_steps AskedBary = 5
next_steps FoundBary = 6
next_steps Tabled = 7
next_steps Added = 8
next_steps AskedTary = 8
next_steps FoundTary = 9
next_steps Differed = 10
next_steps Compared = 11
next_steps Lowered = 12
next_steps Refused = 13
next_steps Allowed = 10

never_neither : Neither ≡ BothWords → ⊥
never_neither e = absurd (cc)

never_slot : SlotWord ≡ BothWords → ⊥
never_slot e = absurd (cc)

never_both : (b : Bool) → b ≡ true → b ≡ false → ⊥
never_both b one other = absurd (cc)

-- a check that asks no policy, and one that has found both words
few_of : (target steps : ℕ) → (is_in_code target ≡ true → ⊥) → StepsBy target steps → IsFew steps
few_of target steps outside (inl few) = few.1
few_of target steps outside (inr many) = absurd (outside many.0)

pub many_of : (h : History) (p : State) (slot target bary tary steps : ℕ) → IsTried h p slot target bary tary
    → StepsBy target steps → IsMany steps
many_of h p slot target bary tary steps tried (inl few) =
    absurd (never_both (is_in_code target) (whole_in_code target tried.low tried.whole) few.0)
many_of h p slot target bary tary steps tried (inr many) = many.1

module _ (h : History) (p : State) (more slot target tries : ℕ) (v : Values) (steps : ℕ)
    (by : StepsBy target steps) where
  at_neither : (n : ℕ) → 2 ≤ n → n ≤ 8 → (is_in_code target ≡ true → Neither ≡ BothWords)
      → steps + 9 * tries ≡ 9 * more + n → tries ≡ more
  at_neither n least most asks sum =
      early n more tries steps least most (few_of target steps (λ inside. never_neither (asks inside)) by) sum

  at_slot : (n : ℕ) → 2 ≤ n → n ≤ 8 → (is_in_code target ≡ true → SlotWord ≡ BothWords)
      → steps + 9 * tries ≡ 9 * more + n → tries ≡ more
  at_slot n least most asks sum =
      early n more tries steps least most (few_of target steps (λ inside. never_slot (asks inside)) by) sum

  at_both : (n : ℕ) → 9 ≤ n → n ≤ 13 → IsTried h p slot target v.bary v.tary → steps + 9 * tries ≡ 9 * more + n
      → tries ≡ more
  at_both n least most tried sum =
      late n more tries steps least most (many_of h p slot target v.bary v.tary steps tried by) sum

  counts_at : (place : CheckPlace) → CheckHolds h p more slot target v place
      → (is_in_code target ≡ true → found_at place ≡ BothWords) → steps + 9 * tries ≡ 9 * more + next_steps place
      → tries ≡ more
  counts_at Aimed holds asks sum = at_neither 2 (omega arith) (omega arith) asks sum
  counts_at Split holds asks sum = at_neither 3 (omega arith) (omega arith) asks sum
  counts_at Far holds asks sum = at_neither 4 (omega arith) (omega arith) asks sum
  counts_at Trying holds asks sum = at_neither 4 (omega arith) (omega arith) asks sum
  counts_at Pointed holds asks sum = at_neither 5 (omega arith) (omega arith) asks sum
  counts_at AskedBary holds asks sum = at_neither 5 (omega arith) (omega arith) asks sum
  counts_at FoundBary holds asks sum = at_slot 6 (omega arith) (omega arith) asks sum
  counts_at Tabled holds asks sum = at_slot 7 (omega arith) (omega arith) asks sum
  counts_at Added holds asks sum = at_slot 8 (omega arith) (omega arith) asks sum
  counts_at AskedTary holds asks sum = at_slot 8 (omega arith) (omega arith) asks sum
  counts_at FoundTary holds asks sum = at_both 9 (omega arith) (omega arith) holds sum
  counts_at Differed holds asks sum = at_both 10 (omega arith) (omega arith) holds.0 sum
  counts_at Compared holds asks sum = at_both 11 (omega arith) (omega arith) holds.0 sum
  counts_at Lowered holds asks sum = at_both 12 (omega arith) (omega arith) holds.0 sum
  counts_at Refused holds asks sum = at_both 13 (omega arith) (omega arith) holds.0 sum
  counts_at Allowed holds asks sum = at_both 10 (omega arith) (omega arith) holds.0 sum

-- ---- an access and the count of instructions

-- there is none
no_try : (more : ℕ) → (more ≢ 0 → ⊥) → more ≡ 0
no_try zero none = refl
no_try (suc more) none = absurd (none (λ e. omega (arith, e)))

module _ (h : History) (code : List ℕ) (known : IsHistory h code) (p : State) (retries : ℕ) (r : Raw)
    (running : Running h code p retries r) where
  fetched_steps : (t : Take) → Fits h code r t → r.waits ≡ None → (take_one r t).base.steps ≡ r.base.steps + 1
  fetched_steps (Word word) fits idle =
      ap (λ x. (take_word x r word).base.steps) idle
      ∙ begin_counts r (insn_of word) (running_has h code p retries known r running idle word fits)
  fetched_steps (Served reply) fits idle = absurd (subst (λ w. FitsReply w r reply) idle fits)

  bary_steps : (slot rd : ℕ) (t : Take) → Fits h code r t → r.waits ≡ Some (waits.Bary slot rd)
      → (take_one r t).base.steps ≡ r.base.steps
  bary_steps slot rd (Word word) fits wait = ap (λ x. (take_word x r word).base.steps) wait
  bary_steps slot rd (Served reply) fits wait = absurd (subst (λ w. FitsReply w r reply) wait fits)

  tary_steps : (at rd : ℕ) (t : Take) → Fits h code r t → r.waits ≡ Some (waits.Tary at rd)
      → (take_one r t).base.steps ≡ r.base.steps
  tary_steps at rd (Word word) fits wait = ap (λ x. (take_word x r word).base.steps) wait
  tary_steps at rd (Served reply) fits wait = absurd (subst (λ w. FitsReply w r reply) wait fits)

  module _ (more slot target : ℕ) (v : Values) (t : Take) (fits : Fits h code r t) where
    fetched : (place : CheckPlace) (n : ℕ) → r ≡ check_raw p (retries + more) slot target v place
        → (check_raw p (retries + more) slot target v place).waits ≡ None
        → (check_raw p (retries + more) slot target v place).base.steps + 1 ≡ p.steps + 9 * (retries + more) + n
        → (take_one r t).base.steps ≡ p.steps + 9 * (retries + more) + n
    fetched place n is idle sum =
        fetched_steps t fits (ap (λ x. x.waits) is ∙ idle) ∙ ap (λ x. x.base.steps + 1) is ∙ sum

    pub steps_after : (place : CheckPlace) → r ≡ check_raw p (retries + more) slot target v place
        → (take_one r t).base.steps ≡ p.steps + 9 * (retries + more) + next_steps place
    steps_after Aimed is = fetched Aimed 2 is refl (omega arith)
    steps_after Split is = fetched Split 3 is refl (omega arith)
    steps_after Far is = fetched Far 4 is refl (omega arith)
    steps_after Trying is = fetched Trying 4 is refl (omega arith)
    steps_after Pointed is = fetched Pointed 5 is refl (omega arith)
    steps_after AskedBary is = bary_steps slot 29 t fits (ap (λ x. x.waits) is) ∙ ap (λ x. x.base.steps) is
    steps_after FoundBary is = fetched FoundBary 6 is refl (omega arith)
    steps_after Tabled is = fetched Tabled 7 is refl (omega arith)
    steps_after Added is = fetched Added 8 is refl (omega arith)
    steps_after AskedTary is = tary_steps target 30 t fits (ap (λ x. x.waits) is) ∙ ap (λ x. x.base.steps) is
    steps_after FoundTary is = fetched FoundTary 9 is refl (omega arith)
    steps_after Differed is = fetched Differed 10 is refl (omega arith)
    steps_after Compared is = fetched Compared 11 is refl (omega arith)
    steps_after Lowered is = fetched Lowered 12 is refl (omega arith)
    steps_after Refused is = fetched Refused 13 is refl (omega arith)
    steps_after Allowed is = fetched Allowed 10 is refl (omega arith)

  -- ---- the unit that ends

  -- a unit that goes on has not ended
  pub never_ends : (t : Take) → Running h code p retries (take_one r t)
      → Ended h code retries (end_of r t) p (take_one r t) → ⊥
  never_ends t on e =
      let still = shows_units h code retries p (take_one r t) (shows_running h code p retries (take_one r t) on) in
      let counts = ap (λ b. b.units) e.between.base ∙ ap (λ x. x.units) e.step.is
      ∙ effect_units e.step.unit (h.policy e.step.epoch) (allows_at h e.step.epoch) e.step.reply p in
      omega (arith, still, counts)

  -- its instructions
  ended_steps : (t : Take) (e : Ended h code retries (end_of r t) p (take_one r t)) (link : Bool) (rs1 : ℕ) (imm : ℤ)
      (slot : ℕ) → units.Check link rs1 imm slot ≡ e.step.unit
      → (take_one r t).base.steps
      ≡ (p.steps + check_steps (displaced (register p rs1) imm)
      (allows_at h e.step.epoch slot (displaced (register p rs1) imm))) + 9 * (retries + e.more)
  ended_steps t e link rs1 imm slot same =
      ap (λ b. b.steps) e.between.base
      ∙ ap (λ x. x.steps + 9 * (retries + e.more)) (e.step.is
      ∙ ap (λ (u : CodeUnit). effect u (h.policy e.step.epoch) (allows_at h e.step.epoch) e.step.reply p) (sym same))

  -- no unit but a check repeats tries
  pub plain_tries : (unit : CodeUnit) (n : ℕ) → (n ≢ 0 → IsRetried h unit p)
      → ((link : Bool) (rs1 : ℕ) (imm : ℤ) (slot : ℕ) → units.Check link rs1 imm slot ≡ unit → n ≡ 0) → n ≡ 0
  plain_tries (units.Check link rs1 imm slot) n two check = check link rs1 imm slot refl
  plain_tries (units.Plain insn) n two check = no_try n two
  plain_tries (units.Branch c rs1 rs2 off) n two check = no_try n two
  plain_tries (units.Jump link off) n two check = no_try n two
  plain_tries (units.Load kind rd rs1 imm) n two check = no_try n two
  plain_tries (units.Store kind rs1 rs2 imm) n two check = no_try n two
  plain_tries units.Service n two check = no_try n two

  -- a unit that was not begun
  first_tries : (t : Take) → Fits h code r t → IsBetween retries p r
      → (e : Ended h code retries (end_of r t) p (take_one r t)) → e.more ≡ 0
  first_tries t fits between e =
      plain_tries e.step.unit e.more e.two
      (λ link rs1 imm slot same.
      let all = ended_steps t e link rs1 imm slot same in
      let one = fetched_steps t fits between.idle in
      let before = ap (λ b. b.steps) between.base in
      none (displaced (register p rs1) imm)
      (check_steps (displaced (register p rs1) imm) (allows_at h e.step.epoch slot (displaced (register p rs1) imm)))
      (steps_by (displaced (register p rs1) imm) (allows_at h e.step.epoch slot (displaced (register p rs1) imm)))
      (omega (arith, all, one, before)))
    where
      none : (target steps : ℕ) → StepsBy target steps → steps + 9 * e.more ≡ 1 → e.more ≡ 0
      none target steps by sum = (let some = at_least target steps by in omega (arith, sum, some))

  -- the unit that has ended is the one that was begun
  ended_unit : (t : Take) (unit : CodeUnit) → At h code p unit
      → (e : Ended h code retries (end_of r t) p (take_one r t)) → e.step.unit ≡ unit
  ended_unit t unit at e =
      BeginsAt-one code (p.pc / 4) e.step.unit unit e.step.stands.begins at.here.stands.begins

  -- a check that was begun
  check_tries : (t : Take) → Fits h code r t → (link : Bool) (rs1 : ℕ) (imm : ℤ) (slot : ℕ)
      (at : At h code p (units.Check link rs1 imm slot)) (begun : Begun h p (units.Check link rs1 imm slot) retries r)
      (e : Ended h code retries (end_of r t) p (take_one r t)) → e.more ≡ begun.more
  check_tries t fits link rs1 imm slot at begun e =
      elim (check_next h code p retries link rs1 imm slot at r begun t fits) [
        | inl next ↦ absurd (never_ends t (inr (units.Check link rs1 imm slot, at, next.now)) e)
        | inr stops ↦
            let target : ℕ = displaced (register p rs1) imm in
            let allowed : Bool = allows_at h e.step.epoch slot target in
            let same = BeginsAt-one code (p.pc / 4) (units.Check link rs1 imm slot) e.step.unit
            at.here.stands.begins e.step.stands.begins in
            let all = ended_steps t e link rs1 imm slot same in
            let now = steps_after begun.more slot target begun.values t fits begun.place begun.is in
            counts_at h p begun.more slot target e.more begun.values (check_steps target allowed)
            (steps_by target allowed) begun.place begun.holds stops.tried (omega (arith, all, now))
      ]

  -- how many tries were repeated before, and when a unit has ended
  pub record HasCounted (t : Take) (e : Ended h code retries (end_of r t) p (take_one r t)) : Type 0 where
    pub tries : ℕ
    pub repeated : HasRepeated h code retries p r tries
    pub same : e.more ≡ tries

  other_counted : (t : Take) (e : Ended h code retries (end_of r t) p (take_one r t)) (unit : CodeUnit)
      → IsNoCheck unit → (IsRetried h unit p → ⊥) → At h code p unit → Begun h p unit retries r → HasCounted t e
  other_counted t e unit other never at begun = record {
    tries = 0;
    repeated = inr (plain_tried h code p retries unit r other at begun);
    same = no_try e.more (λ some. never (subst (λ (u : CodeUnit). IsRetried h u p) (ended_unit t unit at e)
        (e.two some)));
  }

  begun_counted : (t : Take) → Fits h code r t → (e : Ended h code retries (end_of r t) p (take_one r t))
      → (unit : CodeUnit) → At h code p unit → Begun h p unit retries r → HasCounted t e
  begun_counted t fits e (units.Check link rs1 imm slot) at begun = record {
    tries = begun.more;
    repeated = inr (begun_check h code p retries link rs1 imm slot at r begun);
    same = check_tries t fits link rs1 imm slot at begun e;
  }
  begun_counted t fits e (units.Plain insn) at begun = absurd begun
  begun_counted t fits e (units.Branch c rs1 rs2 off) at begun = absurd begun
  begun_counted t fits e (units.Jump link off) at begun = absurd begun
  begun_counted t fits e (units.Load kind rd rs1 imm) at begun =
      other_counted t e (units.Load kind rd rs1 imm) tt (λ two. two) at begun
  begun_counted t fits e (units.Store kind rs1 rs2 imm) at begun =
      other_counted t e (units.Store kind rs1 rs2 imm) tt (λ two. two) at begun
  begun_counted t fits e units.Service at begun = other_counted t e units.Service tt (λ two. two) at begun

  pub ended_counted : (t : Take) → Fits h code r t → (e : Ended h code retries (end_of r t) p (take_one r t))
      → Running h code p retries r → HasCounted t e
  ended_counted t fits e (inl rests) = record {
    tries = 0;
    repeated = inl (rests.1, refl);
    same = first_tries t fits rests.1 e;
  }
  ended_counted t fits e (inr within) = begun_counted t fits e within.0 within.1 within.2
