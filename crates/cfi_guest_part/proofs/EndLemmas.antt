-- What a guest shows at its end, and the part that tells it.
use Rattle.std.proofs.Common.{◌≡◌, ◌≢◌, ℕ, ◌+◌, List, Some, sym, ◌∙◌, ap, subst, inl, inr}
use Rattle.cfi_model.specs.History.{History, IsHistory}
use Rattle.cfi_model.specs.Log.{pick_entries}
use Rattle.cfi_model.specs.Raw.{Raw}
use Rattle.cfi_model.specs.Running.{IsSpent}
use Rattle.cfi_model.specs.Shows.{IsReady, Shows}
use Rattle.cfi_model.specs.State.{State}
use Rattle.cfi_model.proofs.ShownLemmas.{shown_log, shown_output, shown_stop, shows_units}
use Rattle.cfi_unit.specs.declared.log.Stop.TheVariants as stops
use Rattle.cfi_valid.specs.Replay.{shown_stop as stop_shown}
use Rattle.cfi_valid.specs.Steps.{HasBegun, HasSteps}
use Rattle.cfi_guest_part.specs.Part.{IsEndOf, IsWithin, part_of}
use Rattle.cfi_guest_part.proofs.StepsLemmas.{HasShown, running_steps, spent_steps, stop_same}

module _ (h : History) (code : List ℕ) (known : IsHistory h code) (retries : ℕ) (s : State) (ready : IsReady h s)
    (picked : pick_entries s.log ≡ 0 → retries ≡ 0) (single : h.count + h.ahead ≡ 1 → retries ≡ 0)
    (unspent : s.stop ≢ Some stops.Fuel) where
  -- what a guest shows, whether the fuel has stopped it or not
  pub record IsShownAs (r : Raw) : Type 0 where
    pub log : r.base.log ≡ s.log
    pub out : r.base.output ≡ s.output
    pub units : r.base.units ≡ s.units
    pub stop : s.stop ≡ stop_shown r.base.stop
    pub steps : HasShown h code known retries s r ready picked single r.base.stop

  shown_going : (r : Raw) → Shows h code retries s r → IsShownAs r
  shown_going r shows =
      let stop = shown_stop h code retries s r shows in
      record {
        log = shown_log h code retries s r shows;
        out = shown_output h code retries s r shows;
        units = shows_units h code retries s r shows;
        stop = stop_same s.stop unspent ∙ ap stop_shown (sym stop);
        steps = running_steps h code known retries s r ready picked single (λ spent. unspent (sym stop ∙ spent)) shows;
      }

  shown_spent : (last r : Raw) → Shows h code retries s last → IsSpent last r → IsShownAs r
  shown_spent last r shows spent =
      let stop = shown_stop h code retries s last shows in
      let fuel : r.base.stop ≡ Some stops.Fuel = ap (λ (x : Raw). x.base.stop) spent.is in
      let told = spent_steps h code known retries s last ready picked single spent.going spent.idle shows in
      let steps : r.base.steps ≡ last.base.steps = ap (λ (x : Raw). x.base.steps) spent.is in
      record {
        log = ap (λ (x : Raw). x.base.log) spent.is ∙ shown_log h code retries s last shows;
        out = ap (λ (x : Raw). x.base.output) spent.is ∙ shown_output h code retries s last shows;
        units = ap (λ (x : Raw). x.base.units) spent.is ∙ shows_units h code retries s last shows;
        stop = sym stop ∙ spent.going ∙ ap stop_shown (sym fuel);
        steps = record {
          repeats = told.repeats;
          begun = told.begun;
          sum = steps ∙ told.sum;
          begins = subst (λ o. HasBegun code o s told.begun) (sym fuel) told.begins;
          unpicked = told.unpicked;
          single_only = told.single_only;
        };
      }

  pub shown_as : (last r : Raw) → Shows h code retries s last → IsEndOf last r → IsShownAs r
  shown_as last r shows (inl same) = shown_going r (subst (Shows h code retries s) (sym same) shows)
  shown_as last r shows (inr spent) = shown_spent last r shows spent

  -- the steps that its part tells
  abbrev pub steps_of : (fuel number : ℕ) (entry : List ℕ) (r : Raw) → IsShownAs r → IsWithin fuel r
      → HasSteps fuel code s (part_of number entry r)
  steps_of fuel number entry r shown within = record {
    repeats = shown.steps.repeats;
    begun = shown.steps.begun;
    sum = shown.steps.sum;
    begins = shown.steps.begins;
    unpicked = λ none meets. shown.steps.unpicked (ap pick_entries (sym shown.log) ∙ none) meets;
    most = within.most;
    spent = within.spent;
  }
