-- A line is read of the words that are written for it.
use Rattle.std.proofs.Common.{◌≡◌, ℕ, ◌^◌, ◌<◌, ◌≤◌, Bool, true, false, Some, None, List, refl, ap, ◌∙◌, option_map, arith}
use Rattle.std.specs.Prelude.{codes, option_and_then, ◌==◌}
use Rattle.std.proofs.lemmas.Bool.{cond-true, cond-false}
use Rattle.std.proofs.lemmas.Bool.Decides.{nat_tests}
use Rattle.cfi_plan.specs.declared.line.Line.{Line}
use Rattle.cfi_plan.specs.declared.line.Line.TheVariants.{Blank, Code, Versions, Epoch, Fuel, Module, Guest, Load, Retire, Refresh}
use Rattle.cfi_plan.specs.declared.plan.PlanModule.{PlanModule}
use Rattle.cfi_plan.specs.Line.{counted_form, pair_form, start_in, module_form, form_of}
use Rattle.cfi_text.specs.Decimal.{dec_text, number_in}
use Rattle.cfi_text.specs.Names.{is_name, is_file, name_in}
use Rattle.cfi_text.proofs.DecimalLemmas.{number_in-some}
use Rattle.cfi_plan_law.specs.Written.{when_word, words_of, CanBeSaid}

name-back : (make : List ℕ → Line) (name : List ℕ) → is_name name ≡ true → option_map make (name_in name) ≡ Some (make name)
name-back make name is = ap (option_map make) (cond-true (is_name name) _ _ is)

number-back : (keyword : List ℕ) (number : ℕ) → number < 2 ^ 64
    → option_and_then (counted_form keyword) (number_in (dec_text number)) ≡ counted_form keyword number
number-back keyword number fits =
    ap (option_and_then (counted_form keyword)) (number_in-some (dec_text number) number fits refl)

some-refresh : (count : ℕ) → 1 ≤ count → counted_form (codes "refresh") count ≡ Some (Refresh count)
unfolding counted_form
some-refresh count some = cond-false (count == 0) _ _ (other count some)
  where
    other : (n : ℕ) → 1 ≤ n → (n == 0) ≡ false
    other n some = grind (arith, nat_tests)

start-back : (start : Bool) → start_in (when_word start) ≡ Some start
unfolding start_in
start-back true = refl
start-back false = refl

module-back : (one : PlanModule) → is_name one.name ≡ true → is_file one.file ≡ true
    → module_form one.name one.file (when_word one.start) ≡ Some (Module one)
unfolding module_form
module-back one named filed =
    rw (
      cond-true (is_name one.name) (Some one.name) None named,
      cond-true (is_file one.file) (Some one.file) None filed,
      start-back one.start,
    ) refl

pub line-back : (line : Line) → CanBeSaid line → form_of (words_of line) ≡ Some line
unfolding pair_form counted_form
line-back Blank can = refl
line-back (Code number) can = number-back (codes "code") number can
line-back (Versions number) can = number-back (codes "versions") number can
line-back (Epoch number) can = number-back (codes "epoch") number can
line-back (Fuel number) can = number-back (codes "fuel") number can
line-back (Module one) can = module-back one can.0 can.1
line-back (Guest entry) can = name-back Guest entry can
line-back (Load name) can = name-back Load name can
line-back (Retire name) can = name-back Retire name can
line-back (Refresh count) can = number-back (codes "refresh") count can.1 ∙ some-refresh count can.0
