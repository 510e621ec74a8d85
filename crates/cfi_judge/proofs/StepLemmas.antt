-- The steps of a guest's part, beside those of its units.
use Rattle.std.proofs.Common.{◌≡◌, ℕ, ◌+◌, ◌≤◌, Bool, true, leb, List, inl, inr, refl, sym, ap, subst, ◌∙◌, arith}
use Rattle.std.specs.Prelude.{◌↔◌, IsTrue}
use Rattle.std.proofs.lemmas.Bool.{le-leb, leb-true}
use Rattle.cfi_model.specs.State.{State}
use Rattle.cfi_plan.specs.declared.plan.Plan.{Plan}
use Rattle.cfi_report.specs.declared.report.GuestPart.{GuestPart}
use Rattle.cfi_valid.specs.Course.{Course}
use Rattle.cfi_valid.specs.Loaded.{placed_modules, Filled}
use Rattle.cfi_valid.specs.Parts.{FitsEndedSteps}
use Rattle.cfi_valid.specs.Steps.{HasBegun}
use Rattle.cfi_valid.proofs.CodeLemmas.{code_once}
use Rattle.cfi_valid.proofs.ValidLemmas.{comes_once}
use Rattle.cfi_judge.specs.Steps.{HasRun}
use Rattle.cfi_judge.specs.inner.Steps.{HasCount, HasCounts, IsAlone, IsWithin}

-- ---- a count

-- that of no repeated try
pub count_alone : (over most : ℕ) (alone : Bool) → alone ≡ true → IsTrue (leb over most) ↔ HasCount over most alone
count_alone over most alone is = (
  λ least. record {
    repeats = 0;
    begun = over;
    sum = omega arith;
    few = leb-true over most least;
    alone_is = λ same. refl;
  },
  λ has.
      let none : has.repeats ≡ 0 = has.alone_is is in
      le-leb over most (omega (arith, has.sum, has.few, none)),
)

-- ---- the steps of a part, at a state

module _ (fuel : ℕ) (single : Bool) (code : List ℕ) (last : State) (part : GuestPart) where
  -- the fuel lets it, and the units have run no more
  module _ (alone : Bool) (alone_is : IsTrue alone ↔ IsAlone code last single part.log) (most : ℕ)
      (begins : (begun : ℕ) → HasBegun code part.stop last begun ↔ (begun ≤ most)) (over : ℕ)
      (over_is : part.steps ≡ last.steps + over) where
    counts_from : IsWithin fuel part → HasCount over most alone → HasCounts fuel single code last part
    counts_from within has = record {
      counts = record {
        repeats = has.repeats;
        begun = has.begun;
        sum = omega (arith, over_is, has.sum);
        begins = (begins has.begun).1 has.few;
        unpicked = λ none away. has.alone_is (alone_is.1 (inr (none, away)));
        most = within.most;
        spent = within.spent;
      };
      single_is = λ one. has.alone_is (alone_is.1 (inl one));
    }

    none_repeated : (has : HasCounts fuel single code last part) → IsAlone code last single part.log
        → has.counts.repeats ≡ 0
    none_repeated has (inl one) = has.single_is one
    none_repeated has (inr (none, away)) = has.counts.unpicked none away

    counts_to : HasCounts fuel single code last part → HasCount over most alone
    counts_to has = record {
      repeats = has.counts.repeats;
      begun = has.counts.begun;
      sum = omega (arith, over_is, has.counts.sum);
      few = (begins has.counts.begun).0 has.counts.begins;
      alone_is = λ same. none_repeated has (alone_is.0 same);
    }

    pub counts_told : IsWithin fuel part → (answer : Bool) → (IsTrue answer ↔ HasCount over most alone)
        → IsTrue answer ↔ HasCounts fuel single code last part
    counts_told within answer exact =
        (λ yes. counts_from within (exact.0 yes), λ has. exact.1 (counts_to has))

-- ---- in a course

module _ (plan : Plan) (epoch : ℕ) (code : List ℕ) (last : State) (c : Course) (part : GuestPart)
    (run : HasRun plan epoch code last c part) (single : Bool) (single_is : IsTrue single ↔ (epoch ≡ plan.first))
  where
    fuel_is : c.plan.fuel ≡ plan.fuel
    fuel_is = ap (λ (p : Plan). p.fuel) run.plan_is

    first_is : c.end.epoch ≡ c.plan.first → IsTrue single
    first_is same = single_is.1 (sym run.epoch_is ∙ same ∙ ap (λ (p : Plan). p.first) run.plan_is)

    is_first : IsTrue single → c.end.epoch ≡ c.plan.first
    is_first one = run.epoch_is ∙ single_is.0 one ∙ sym (ap (λ (p : Plan). p.first) run.plan_is)

    steps_from : HasCounts plan.fuel single code last part → FitsEndedSteps c part
    steps_from has =
        let there : HasCounts c.plan.fuel single run.comes.code last part =
        subst (λ (n : ℕ). HasCounts n single run.comes.code last part) (sym fuel_is)
        (subst (λ (words : List ℕ). HasCounts plan.fuel single words last part) (sym run.code_is) has) in
        record {
          fits = record { last = last; comes = run.comes; counts = there.counts };
          single = λ same. there.single_is (first_is same);
        }

    steps_to : FitsEndedSteps c part → HasCounts plan.fuel single code last part
    steps_to fits =
        let comes = fits.fits.comes in
        let state : fits.fits.last ≡ last =
        comes_once Filled c part part fits.fits.last last comes run.comes refl refl refl refl in
        let words : comes.code ≡ code =
        code_once (placed_modules c.end.loaded) c.plan.code_words comes.code run.comes.code comes.is_code
        run.comes.is_code ∙ run.code_is in
        let there : HasCounts c.plan.fuel single comes.code fits.fits.last part =
        record { counts = fits.fits.counts; single_is = λ one. fits.single (is_first one) } in
        subst (λ (n : ℕ). HasCounts n single code last part) fuel_is
        (subst (λ (s : State). HasCounts c.plan.fuel single code s part) state
        (subst (λ (ws : List ℕ). HasCounts c.plan.fuel single ws fits.fits.last part) words there))

    pub steps_told : (answer : Bool) → (IsTrue answer ↔ HasCounts plan.fuel single code last part)
        → IsTrue answer ↔ FitsEndedSteps c part
    steps_told answer exact = (λ yes. steps_from (exact.0 yes), λ fits. exact.1 (steps_to fits))
