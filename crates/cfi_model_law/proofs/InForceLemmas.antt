-- A guest that was opened at a start runs unit by unit, each check under the policy in force in its window.
use Rattle.std.proofs.Common.{◌≡◌, ℕ, ◌+◌, ◌≤◌, cond, Option, Some, None, List, [], ◌∷◌, ◌++◌, append-nil, append_assoc, map, inl, inr, refl, sym, ap, ◌∙◌, subst, arith}
use Rattle.cfi_unit.specs.declared.fill.Fill.{Fill}
use Rattle.cfi_word.specs.declared.layout.TheConstants.{EPOCH, FIRST_CODE}
use Rattle.cfi_model.specs.declared.act.Wait.{Wait}
use Rattle.cfi_model.specs.declared.act.Wait.TheVariants as waits
use Rattle.cfi_model.specs.declared.history.Access.{Access}
use Rattle.cfi_model.specs.Came.{AreAskedBehind, AreAskedBy, AsksFor, Came, Ended, Loaded, LoadedEnd, ends_in, load_in, loaded_end, loads_in, taken_in, takes_in}
use Rattle.cfi_model.specs.Fits.{Along, Fits}
use Rattle.cfi_model.specs.History.{History, IsHistory, IsStart}
use Rattle.cfi_model.specs.Raw.{Raw, raw_opened}
use Rattle.cfi_model.specs.Run.{Take, Word, Served, serve_as, take_one, run_of}
use Rattle.cfi_model.specs.Service.{Reply}
use Rattle.cfi_model.specs.Shows.{IsBetween, IsReady, Shows, end_of, ends_along, ends_before}
use Rattle.cfi_model.specs.State.{State, opened}
use Rattle.cfi_model.specs.TableMoments.{AreTimed, IsOfTables}
use Rattle.cfi_model.specs.Tables.{IsTables}
use Rattle.cfi_model.specs.Words.{Tables}
use Rattle.cfi_model.proofs.EndLemmas.{effect_units, none_ended, one_ended}
use Rattle.cfi_model.proofs.FixedLemmas.{opened_ready}
use Rattle.cfi_model.proofs.KeptLemmas.{is_epoch, not_epoch}
use Rattle.cfi_model.proofs.ShownLemmas.{shows_running, shows_units}
use Rattle.cfi_model_law.specs.Window.{HasRunInForce, RunInForce}
use Rattle.cfi_model_law.proofs.WalkLemmas.{EndsInForce, IsIn, Runs, Then, load_then, running, served_then, served_waits}

-- what a guest asks for is not EPOCH
first_code : (c : ℕ) (wait : Option Wait) (r : Raw) (word : ℕ) → AsksFor c wait r word → FIRST_CODE ≤ word
first_code c None r word is = omega (arith, is)
first_code c (Some (waits.Tary at rd)) r word is = omega (arith, is)
first_code c (Some (waits.Bary slot rd)) r word is = omega (arith, is)
first_code c (Some (waits.Service number)) r word is = absurd is

-- what a load brings
brings : (access : Access) → FIRST_CODE ≤ access.word → taken_in (Loaded access) ≡ Word access.found ∷ []
brings access high = ap (λ b. cond b [] (Word access.found ∷ [])) (not_epoch access.word high)

brings_none : (access : Access) → access.word ≡ EPOCH → taken_in (Loaded access) ≡ []
brings_none access is = ap (λ b. cond b [] (Word access.found ∷ [])) (is_epoch access.word is)

module _ (t : Tables) (is : IsTables t) (h : History) (code : List ℕ) (known : IsHistory h code) (of : IsOfTables t h code)
    (all : List Access) (timed : AreTimed t all) where
  -- the units that have ended from a state on, and what is shown then
  pub record HasEnded (ends : List LoadedEnd) (p : State) (last : Raw) : Type 0 where
    pub repeats : ℕ
    pub state : State
    pub runs : RunInForce h code t ends p state
    pub shows : Shows h code repeats state last

  abbrev pub Running : (p : State) (retries : ℕ) (r : Raw) → List Access → Type 0
  Running = Runs t is h code known of all timed

  shown : (p : State) (retries : ℕ) (r : Raw) (loads : List Access) → Running p retries r loads → Shows h code retries p r
  shown p retries r loads runs =
      shows_running h code p retries r (running t is h code known of all timed p retries r loads runs)

  -- straight behind the end of a service a guest is between two units
  abbrev AfterEnd : (before : Option Came) (p : State) (retries : ℕ) (r : Raw) → Type 0
  AfterEnd before p retries r = (reply : Reply) → before ≡ Some (Ended reply) → IsReady h p × IsBetween retries p r

  after_load : (access : Access) (p : State) (retries : ℕ) (r : Raw) → AfterEnd (Some (Loaded access)) p retries r
  after_load access p retries r = λ reply e. absurd (cc)

  -- one access, and what comes later; the end of a service ends its unit
  module _ (p : State) (retries : ℕ) (r : Raw) (x : Take) (loads more : List Access) (runs : Running p retries r loads)
      (one : Came) (unended : (take_one r x).base.units ≡ p.units → AfterEnd (Some one) p retries (take_one r x))
      (later : List Came) (then : (q : State) (repeats : ℕ) → Running q repeats (take_one r x) more
      → AfterEnd (Some one) q repeats (take_one r x)
      → HasEnded (ends_in (take_one r x) more later) q (run_of (take_one r x) (takes_in later))) where
    abbrev After : Type 0
    After = HasEnded (map (loaded_end loads) (ends_along r (x ∷ [])) ++ ends_in (take_one r x) more later) p
        (run_of (take_one r x) (takes_in later))

    before : r.base.units ≡ p.units
    before = shows_units h code retries p r (shown p retries r loads runs)

    joined : Then t is h code known of all timed p retries r x loads more → After
    joined (inl within) =
        let units = shows_units h code retries p (take_one r x) (shown p retries (take_one r x) more (inr within)) in
        let rest = then p retries (inr within) (unended units) in
        let none = none_ended r x (units ∙ sym before) in
        record {
          repeats = rest.repeats;
          state = rest.state;
          runs = subst (λ es. RunInForce h code t (map (loaded_end loads) (es ++ []) ++ ends_in (take_one r x) more later) p rest.state)
              (sym none) rest.runs;
          shows = rest.shows;
        }
    joined (inr e) =
        let ended = e.ended in
        let rest = then ended.new (retries + ended.more) (inl (ended.ready, ended.between))
        (λ reply behind. (ended.ready, ended.between)) in
        let counts = effect_units ended.step.unit _ _ ended.step.reply p in
        let one = one_ended r x (ap (λ b. b.units) ended.between.base ∙ ap (λ s. s.units) ended.step.is ∙ counts
        ∙ ap (λ n. n + 1) (sym before)) in
        record {
          repeats = rest.repeats;
          state = rest.state;
          runs = subst (λ es. RunInForce h code t (map (loaded_end loads) (es ++ []) ++ ends_in (take_one r x) more later) p rest.state)
              (sym one) (ended.new, record { step = ended.step; window = e.window }, rest.runs);
          shows = rest.shows;
        }

  -- the end of a service counts a unit
  served_unended : (p : State) (retries : ℕ) (r : Raw) (loads : List Access) (reply : Reply)
      → Running p retries r loads → Fits h code r (Served reply)
      → (take_one r (Served reply)).base.units ≡ p.units
      → AfterEnd (Some (Ended reply)) p retries (take_one r (Served reply))
  served_unended p retries r loads reply runs fits same =
      let wait = served_waits t is h code known of all timed r.waits r reply fits in
      let more : (take_one r (Served reply)).base.units ≡ r.base.units + 1 =
      ap (λ w. (serve_as w r reply).base.units) wait.1 in
      let before : r.base.units ≡ p.units = shows_units h code retries p r (shown p retries r loads runs) in
      absurd (omega (arith, more, before, same))

  -- what comes from a state on
  abbrev Ends : (one : Came) (later : List Came) (p : State) (r : Raw) (loads : List Access) → List Take → Type 0
  Ends one later p r loads taken =
      Along h code r (taken ++ takes_in later) → AreAskedBehind t.code_words (Some one) (run_of r taken) later
      → HasEnded (map (loaded_end loads) (ends_along r taken) ++ ends_in (run_of r taken) (loads ++ load_in one) later) p
      (run_of r (taken ++ takes_in later))

  more_whole : (loads some later : List Access) → loads ++ (some ++ later) ≡ all → (loads ++ some) ++ later ≡ all
  more_whole loads some later whole = append_assoc loads some later ∙ whole

  pub runs_on : (came : List Came) (straight : Option Came) (p : State) (retries : ℕ) (r : Raw) (loads : List Access)
      → loads ++ loads_in came ≡ all → Running p retries r loads → AfterEnd straight p retries r
      → Along h code r (takes_in came) → AreAskedBehind t.code_words straight r came
      → HasEnded (ends_in r loads came) p (run_of r (takes_in came))
  runs_on [] straight p retries r loads whole runs after along asked = record {
    repeats = retries;
    state = p;
    runs = refl;
    shows = shown p retries r loads runs;
  }
  runs_on (Ended reply ∷ later) straight p retries r loads whole runs after along asked =
      let same : loads ≡ loads ++ [] = sym (append-nil loads) in
      joined p retries r (Served reply) loads (loads ++ []) runs (Ended reply)
      (served_unended p retries r loads reply runs along.0) later
      (λ q repeats on behind.
      runs_on later (Some (Ended reply)) q repeats (take_one r (Served reply)) (loads ++ [])
      (more_whole loads [] (loads_in later) whole) on behind along.1 asked.1)
      (subst (Then t is h code known of all timed p retries r (Served reply) loads) same
      (served_then t is h code known of all timed p retries r loads reply along.0 runs))
  runs_on (Loaded access ∷ later) straight p retries r loads whole runs after along asked =
      elim asked.0 [
        | inl asks ↦
            let high = first_code t.code_words r.waits r access.word asks in
            subst (Ends (Loaded access) later p r loads) (sym (brings access high))
            (λ fits then.
            joined p retries r (Word access.found) loads (loads ++ access ∷ []) runs (Loaded access)
            (λ units. after_load access p retries (take_one r (Word access.found))) later
            (λ q repeats on behind.
            runs_on later (Some (Loaded access)) q repeats (take_one r (Word access.found)) (loads ++ access ∷ [])
            (more_whole loads (access ∷ []) (loads_in later) whole) on behind fits.1 then)
            (load_then t is h code known of all timed p retries r access loads (access ∷ loads_in later) whole asks fits.0
            runs)) along asked.1
        | inr point ↦
            subst (Ends (Loaded access) later p r loads) (sym (brings_none access point.is))
            (λ fits then.
            runs_on later (Some (Loaded access)) p retries r (loads ++ access ∷ [])
            (more_whole loads (access ∷ []) (loads_in later) whole) (inl (after point.reply point.behind))
            (after_load access p retries r) fits then) along asked.1
      ]

pub in_force_run : (t : Tables) → IsTables t → (h : History) (code : List ℕ) → IsHistory h code → IsOfTables t h code
    → (number entry : ℕ) (fills : List Fill) → IsStart h entry → (came : List Came)
    → Along h code (raw_opened number entry fills) (takes_in came)
    → AreAskedBy t.code_words (raw_opened number entry fills) came → AreTimed t (loads_in came)
    → HasRunInForce h code t (raw_opened number entry fills) came
in_force_run t is h code known of number entry fills starts came along asked timed =
    let opening = opened_ready h number entry fills starts in
    let ran = runs_on t is h code known of (loads_in came) timed came None (opened number entry fills) 0
    (raw_opened number entry fills) [] refl (inl opening) (λ reply behind. opening) along asked in
    record { repeats = ran.repeats; state = ran.state; runs = ran.runs; shows = ran.shows }
