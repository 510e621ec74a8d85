-- A running guest, one access after the other.
use Rattle.std.proofs.Common.{◌≡◌, ℕ, ◌+◌, List, [], ◌∷◌, ◌++◌, None, refl, sym, ◌∙◌, ap, subst, ◌⊎◌, inl, inr}
use Rattle.rv_insn.specs.InsnOf.{insn_of}
use Rattle.cfi_unit.specs.declared.fill.Fill.{Fill}
use Rattle.cfi_model.specs.Begin.{HasStepBy}
use Rattle.cfi_model.specs.State.{State, opened}
use Rattle.cfi_model.specs.Raw.{Raw, raw_opened}
use Rattle.cfi_model.specs.Run.{Take, Word, take_one, run_of}
use Rattle.cfi_model.specs.History.{History, IsStart, IsHistory}
use Rattle.cfi_model.specs.Fits.{Fits, Along}
use Rattle.cfi_model.specs.Shows.{Shows, end_of, ends_before, ends_along}
use Rattle.cfi_model.specs.Running.{IsResting, IsRunning, EndsUnit}
use Rattle.cfi_model.proofs.AdvanceLemmas.{Running, advance}
use Rattle.cfi_model.proofs.EndLemmas.{effect_units, none_ended, one_ended}
use Rattle.cfi_model.proofs.FixedLemmas.{opened_ready}
use Rattle.cfi_model.proofs.LawLemmas.{Ended}
use Rattle.cfi_model.proofs.ShownLemmas.{shows_running, shows_units}
use Rattle.cfi_model.proofs.SnocLemmas.{no_first, run_snoc, along_snoc, unended_snoc}
use Rattle.cfi_model.proofs.StuckLemmas.{running_has}

-- a guest that rests runs
pub rests_run : (h : History) (code : List ℕ) (retries : ℕ) (s : State) (r : Raw) → IsResting h code retries s r
    → IsRunning h code retries s r
rests_run h code retries s r rests = record {
  start = r;
  rests = rests;
  takes = [];
  along = tt;
  unended = refl;
  is = refl;
}

pub opened_runs : (h : History) (code : List ℕ) (number entry : ℕ) (fills : List Fill) → IsStart h entry
    → IsRunning h code 0 (opened number entry fills) (raw_opened number entry fills)
opened_runs h code number entry fills start =
    let ready = opened_ready h number entry fills start in
    rests_run h code 0 (opened number entry fills) (raw_opened number entry fills)
    (record { ready = ready.0; between = ready.1; held = λ stops. absurd (stops refl) })

module _ (h : History) (code : List ℕ) (known : IsHistory h code) (retries : ℕ) (p : State) where
  -- a unit that goes on has not ended
  goes_unended : (r : Raw) (t : Take) → Running h code p retries r → Running h code p retries (take_one r t)
      → ends_before r t ≡ []
  goes_unended r t before after =
      none_ended r t (shows_units h code retries p (take_one r t) (shows_running h code p retries (take_one r t) after)
      ∙ sym (shows_units h code retries p r (shows_running h code p retries r before)))

  -- one that ends has
  ends_one : (r : Raw) (t : Take) → Running h code p retries r → Ended h code retries (end_of r t) p (take_one r t)
      → ends_before r t ≡ end_of r t ∷ []
  ends_one r t before e =
      one_ended r t (ap (λ b. b.units) e.between.base ∙ ap (λ x. x.units) e.step.is
      ∙ effect_units e.step.unit _ _ e.step.reply p
      ∙ ap (λ n. n + 1) (sym (shows_units h code retries p r (shows_running h code p retries r before))))

  never_both : (r : Raw) (t : Take) → ends_before r t ≡ end_of r t ∷ [] → ends_before r t ≡ [] → ⊥
  never_both r t some none = absurd (cc)

  -- the machine runs after accesses with which no unit has ended
  runs_on : (takes : List Take) (r : Raw) → Running h code p retries r → Along h code r takes
      → ends_along r takes ≡ [] → Running h code p retries (run_of r takes)
  runs_on [] r running along unended = running
  runs_on (t ∷ takes) r running along unended =
      let none = no_first (ends_before r t) (ends_along (take_one r t) takes) unended in
      elim (advance h code p retries known r running t along.0) [
        | inl begun ↦ runs_on takes (take_one r t) (inr begun) along.1 none.1
        | inr ended ↦ absurd (never_both r t (ends_one r t running ended) none.0)
      ]

  -- and so a running guest
  pub running_is : (r : Raw) → IsRunning h code retries p r → Running h code p retries r
  running_is r runs =
      subst (Running h code p retries) (sym runs.is)
      (runs_on runs.takes runs.start (inl (runs.rests.ready, runs.rests.between)) runs.along runs.unended)

  pub goes_on : (r : Raw) → IsRunning h code retries p r → (t : Take) → Fits h code r t
      → IsRunning h code retries p (take_one r t) ⊎ EndsUnit h code retries p r t
  goes_on r runs t fits =
      let running = running_is r runs in
      elim (advance h code p retries known r running t fits) [
        | inl begun ↦
            let last = goes_unended r t running (inr begun) in
            inl (record {
              start = runs.start;
              rests = runs.rests;
              takes = runs.takes ++ t ∷ [];
              along = along_snoc h code runs.takes t runs.start runs.along (subst (λ x. Fits h code x t) runs.is fits);
              unended = unended_snoc runs.takes t runs.start runs.unended
                  (subst (λ x. ends_before x t ≡ []) runs.is last);
              is = ap (λ x. take_one x t) runs.is ∙ sym (run_snoc runs.takes t runs.start);
            })
        | inr ended ↦
            inr (record {
              more = ended.more;
              after = ended.new;
              step = ended.step;
              rests = record { ready = ended.ready; between = ended.between; held = ended.held };
            })
      ]

  pub running_shows : (r : Raw) → IsRunning h code retries p r → Shows h code retries p r
  running_shows r runs = shows_running h code p retries r (running_is r runs)

  pub running_steps : (r : Raw) → IsRunning h code retries p r → r.waits ≡ None → (word : ℕ) → Fits h code r (Word word)
      → HasStepBy (insn_of word) r
  running_steps r runs = running_has h code p retries known r (running_is r runs)
