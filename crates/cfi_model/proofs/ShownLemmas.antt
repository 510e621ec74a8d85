-- What the raw machine shows after a list of accesses.
use Rattle.std.proofs.Common.{◌≡◌, ◌≢◌, ℕ, zero, suc, ◌+◌, ◌%◌, List, [], ◌∷◌, ◌++◌, refl, sym, ◌∙◌, ap, subst, arith, inl, inr}
use Rattle.cfi_unit.specs.declared.unit.Unit.{Unit as CodeUnit}
use Rattle.cfi_unit.specs.declared.unit.Unit.TheVariants as units
use Rattle.cfi_model.specs.State.{State, register, displaced}
use Rattle.cfi_model.specs.Raw.{Raw}
use Rattle.cfi_model.specs.Run.{Take, take_one, run_of}
use Rattle.cfi_model.specs.History.{History, IsHistory, IsSeen}
use Rattle.cfi_model.specs.Fits.{Along}
use Rattle.cfi_model.specs.Shows.{IsReady, IsBetween, IsShown, IsRepeat, IsRetried, Runs, Shows, end_of, ends_along}
use Rattle.cfi_model.proofs.IdLemmas.{seen_of, bary_epoch, tary_epoch}
use Rattle.cfi_model.proofs.EndLemmas.{effect_units, none_ended, one_ended}
use Rattle.cfi_model.proofs.LawLemmas.{Ended}
use Rattle.cfi_model.proofs.InsideLemmas.{shown_within}
use Rattle.cfi_model.proofs.AdvanceLemmas.{Running, advance}

-- a running machine shows its state
pub shows_running : (h : History) (code : List ℕ) (p : State) (retries : ℕ) (r : Raw) → Running h code p retries r
    → Shows h code retries p r
shows_running h code p retries r (inl rests) = inl rests.1
shows_running h code p retries r (inr within) = inr (shown_within h code p within.0 retries r within.1 within.2)

-- and has its units
pub shows_units : (h : History) (code : List ℕ) (retries : ℕ) (s : State) (r : Raw) → Shows h code retries s r
    → r.base.units ≡ s.units
shows_units h code retries s r (inl between) = ap (λ b. b.units) between.base
shows_units h code retries s r (inr inside) = ap (λ b. b.units) inside.base

-- and its output, its log and its stop
pub shown_output : (h : History) (code : List ℕ) (retries : ℕ) (s : State) (r : Raw) → Shows h code retries s r
    → r.base.output ≡ s.output
shown_output h code retries s r (inl between) = ap (λ b. b.output) between.base
shown_output h code retries s r (inr inside) = ap (λ b. b.output) inside.base

pub shown_log : (h : History) (code : List ℕ) (retries : ℕ) (s : State) (r : Raw) → Shows h code retries s r
    → r.base.log ≡ s.log
shown_log h code retries s r (inl between) = ap (λ b. b.log) between.base
shown_log h code retries s r (inr inside) = ap (λ b. b.log) inside.base

pub shown_stop : (h : History) (code : List ℕ) (retries : ℕ) (s : State) (r : Raw) → Shows h code retries s r
    → r.base.stop ≡ s.stop
shown_stop h code retries s r (inl between) = ap (λ b. b.stop) between.base
shown_stop h code retries s r (inr inside) = ap (λ b. b.stop) inside.base

-- and is ready
ready_running : (h : History) (code : List ℕ) (p : State) (retries : ℕ) (r : Raw) → Running h code p retries r
    → IsReady h p
ready_running h code p retries r (inl rests) = rests.0
ready_running h code p retries r (inr within) = within.1.here.ready

-- nothing has come
at_rest : (h : History) (code : List ℕ) (p : State) (retries : ℕ) (r : Raw) → Running h code p retries r
    → IsShown h code retries p r [] retries p
at_rest h code p retries r running = record {
  runs = refl;
  ready = ready_running h code p retries r running;
  least = omega arith;
  picks = omega arith;
  picked = λ none. refl;
  single = λ one. refl;
  shows = shows_running h code p retries r running;
}

-- a history of one epoch has no other
pub one_epoch : (h : History) (one other : ℕ) → h.count + h.ahead ≡ 1 → IsSeen h one → IsSeen h other → one ≡ other
one_epoch h one other count a b = omega (arith, a.least, a.most, b.least, b.most)

-- so no try is repeated
pub never_two : (h : History) (code : List ℕ) → IsHistory h code → (slot target : ℕ) → h.count + h.ahead ≡ 1
    → IsRepeat h slot target → ⊥
never_two h code known slot target one two =
    let words = two.apart in
    let b = bary_epoch h code slot known words.branch in
    let t = tary_epoch h code target known words.goal in
    let same = one_epoch h words.branch.epoch words.goal.epoch one (seen_of h words.branch.epoch words.branch.known)
    words.goal.known in
    words.apart (ap (λ (e : ℕ). e % h.versions) (b ∙ same ∙ sym t))

-- nor by any unit
pub never_retried : (h : History) (code : List ℕ) → IsHistory h code → (unit : CodeUnit) (s : State)
    → h.count + h.ahead ≡ 1 → IsRetried h unit s → ⊥
never_retried h code known (units.Check link rs1 imm slot) s one two =
    never_two h code known slot (displaced (register s rs1) imm) one two
never_retried h code known (units.Plain insn) s one two = two
never_retried h code known (units.Load kind rd rs1 imm) s one two = two
never_retried h code known (units.Store kind rs1 rs2 imm) s one two = two
never_retried h code known (units.Branch c rs1 rs2 off) s one two = two
never_retried h code known (units.Jump link off) s one two = two
never_retried h code known units.Service s one two = two

-- there is none
no_try : (more : ℕ) → (more ≢ 0 → ⊥) → more ≡ 0
no_try zero none = refl
no_try (suc more) none = absurd (none (λ e. omega arith))

module _ (h : History) (code : List ℕ) (known : IsHistory h code) (retries : ℕ) (p : State) (r : Raw) (t : Take)
    (takes : List Take) where
  -- an access within a unit, before the others
  within_unit : (settled : ℕ) (new : State) → (take_one r t).base.units ≡ r.base.units
      → IsShown h code retries p (take_one r t) takes settled new → IsShown h code retries p r (t ∷ takes) settled new
  within_unit settled new same s =
      let kept = ap (λ ks. ks ++ ends_along (take_one r t) takes) (none_ended r t same) in
      record {
        runs = subst (λ ks. Runs h code ks p new) (sym kept) s.runs;
        ready = s.ready;
        least = s.least;
        picks = s.picks;
        picked = s.picked;
        single = s.single;
        shows = s.shows;
      }

  -- the last access of a unit, before the others
  one_more : (e : Ended h code retries (end_of r t) p (take_one r t)) → r.base.units ≡ p.units
      → (settled : ℕ) (new : State) → IsShown h code (retries + e.more) e.new (take_one r t) takes settled new
      → IsShown h code retries p r (t ∷ takes) settled new
  one_more e before settled new s =
      let counts = effect_units e.step.unit _ _ e.step.reply p in
      let ended : (take_one r t).base.units ≡ r.base.units + 1 =
      ap (λ b. b.units) e.between.base ∙ ap (λ x. x.units) e.step.is ∙ counts ∙ ap (λ n. n + 1) (sym before) in
      let kept = ap (λ ks. ks ++ ends_along (take_one r t) takes) (one_ended r t ended) in
      record {
        runs = subst (λ ks. Runs h code ks p new) (sym kept) (e.new, e.step, s.runs);
        ready = s.ready;
        least = omega (arith, s.least);
        picks = omega (arith, e.picks, s.picks);
        picked = λ none.
            s.picked none
            ∙ ap (λ m. retries + m) (no_try e.more (λ some. omega (arith, e.logged some, s.picks)))
            ∙ omega arith;
        single = λ one.
            s.single one
            ∙ ap (λ m. retries + m)
            (no_try e.more (λ some. never_retried h code known e.step.unit p one (e.two some)))
            ∙ omega arith;
        shows = s.shows;
      }

-- the machine runs after the accesses, and shows a later state of the policy machine
pub record IsReached (h : History) (code : List ℕ) (retries : ℕ) (old : State) (r : Raw) (takes : List Take) : Type 0
  where
    pub settled : ℕ
    pub new : State
    pub shown : IsShown h code retries old r takes settled new
    pub running : Running h code new settled (run_of r takes)

pub reached : (h : History) (code : List ℕ) → IsHistory h code → (takes : List Take) (p : State) (retries : ℕ) (r : Raw)
    → Running h code p retries r → Along h code r takes → IsReached h code retries p r takes
reached h code known [] p retries r running along = record {
  settled = retries;
  new = p;
  shown = at_rest h code p retries r running;
  running = running;
}
reached h code known (t ∷ takes) p retries r running along =
    let before = shows_units h code retries p r (shows_running h code p retries r running) in
    elim (advance h code p retries known r running t along.0) [
      | inl within ↦
          let after = shows_units h code retries p (take_one r t)
          (shows_running h code p retries (take_one r t) (inr within)) in
          let rest = reached h code known takes p retries (take_one r t) (inr within) along.1 in
          record {
            settled = rest.settled;
            new = rest.new;
            shown = within_unit h code known retries p r t takes rest.settled rest.new (after ∙ sym before) rest.shown;
            running = rest.running;
          }
      | inr e ↦
          let rest = reached h code known takes e.new (retries + e.more) (take_one r t) (inl (e.ready, e.between))
          along.1 in
          record {
            settled = rest.settled;
            new = rest.new;
            shown = one_more h code known retries p r t takes e before rest.settled rest.new rest.shown;
            running = rest.running;
          }
    ]

pub raw_shows : (h : History) (code : List ℕ) → IsHistory h code → (old : State) → IsReady h old
    → (retries : ℕ) (r : Raw)
    → IsBetween retries old r → (takes : List Take) → Along h code r takes
    → (settled : ℕ) × (new : State) × IsShown h code retries old r takes settled new
raw_shows h code known old ready retries r between takes along =
    let now = reached h code known takes old retries r (inl (ready, between)) along in
    (now.settled, now.new, now.shown)
