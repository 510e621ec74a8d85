-- A text that says a plan says one within the limits.
use Rattle.std.proofs.Common.{◌≡◌, ℕ, ◌<◌, ◌≤◌, Bool, true, false, cond, List, [], ◌∷◌, length, Option, Some, None, option_and_then, unwrap_or, IfSome, IfOk, nat_eq, Result, Ok, Err, refl, subst, arith}
use Rattle.std.specs.Prelude.{codes}
use Rattle.std.proofs.lemmas.Bool.Decides.{nat_tests}
use Rattle.std.specs.Option.{option_map}
use Rattle.std.specs.Str.{bytes_eq}
use Rattle.cfi_word.specs.Table.{IsSize}
use Rattle.cfi_text.specs.Decimal.{number_in}
use Rattle.cfi_text.specs.Lines.{statement_of, numbered_lines}
use Rattle.cfi_plan.specs.declared.line.Line.{Line}
use Rattle.cfi_plan.specs.declared.line.Line.TheVariants.{Code, Versions, Epoch, Fuel, Module, Guest, Load, Retire, Refresh}
use Rattle.cfi_plan.specs.declared.plan.Plan.{Plan}
use Rattle.cfi_plan.specs.declared.fault.PlanFault.{PlanFault}
use Rattle.cfi_plan.specs.Draft.{PlanSoFar, empty, is_empty, is_astray, is_within, with_line, taken, plan_of, Fails}
use Rattle.cfi_values.specs.Due.{Answers}
use Rattle.cfi_plan.specs.Line.{form_of, pair_form, numbered_form, counted_form, module_form, start_in}
use Rattle.cfi_text.specs.Names.{is_name, name_in, is_file, file_in}
use Rattle.cfi_plan.specs.Plan.{IsPlan, IsVersions, IsFuel}
use Rattle.cfi_plan.specs.Reading.{is_head, taken_if, with_text, with_lines, plan_of_lines, plan_in}
use Rattle.cfi_values.specs.Then.{◌>>=◌}
use Rattle.cfi_text.specs.Words.{words_in}
use Rattle.cfi_plan.proofs.PlanLemmas.{IsLine, IsSound, empty-IsSound, line-IsSound}

-- if a line is said, it is one
record SaysLine (form : Option Line) : Type 0 where
  pub line : IfSome form IsLine

none : SaysLine None
none = record { line = tt }

positive : (number : ℕ) → (nat_eq number 0 ≡ false) → 1 ≤ number
positive number h = grind (arith, nat_tests)

choice : (test : Bool) (x y : Option Line) → (test ≡ true → SaysLine x) → (test ≡ false → SaysLine y)
    → SaysLine (cond test x y)
choice true x y first other = first refl
choice false x y first other = other refl

counted : (keyword : List ℕ) (number : ℕ) → SaysLine (counted_form keyword number)
unfolding counted_form
counted keyword number =
    let is : List ℕ → Bool = λ word. bytes_eq keyword word in
    let some : Option Line = cond (nat_eq number 0) None (Some (Refresh number)) in
    let refresh : Option Line = cond (is (codes "refresh")) some None in
    let fuel : Option Line = cond (is (codes "fuel")) (Some (Fuel number)) refresh in
    let epoch : Option Line = cond (is (codes "epoch")) (Some (Epoch number)) fuel in
    let versions : Option Line = cond (is (codes "versions")) (Some (Versions number)) epoch in
    let plain : (line : Line) → IsLine line → SaysLine (Some line) = λ line h. record { line = h } in
    let positives = choice (nat_eq number 0) None (Some (Refresh number)) (λ _. none)
    (λ h. plain (Refresh number) (positive number h)) in
    let refreshes = choice (is (codes "refresh")) some None (λ _. positives) (λ _. none) in
    let fuels = choice (is (codes "fuel")) (Some (Fuel number)) refresh (λ _. plain (Fuel number) tt)
    (λ _. refreshes) in
    let epochs = choice (is (codes "epoch")) (Some (Epoch number)) fuel (λ _. plain (Epoch number) tt) (λ _. fuels) in
    let all = choice (is (codes "versions")) (Some (Versions number)) epoch (λ _. plain (Versions number) tt)
    (λ _. epochs) in
    choice (is (codes "code")) (Some (Code number)) versions (λ _. plain (Code number) tt) (λ _. all)

numbered : (keyword : List ℕ) (number : Option ℕ) → SaysLine (option_and_then (counted_form keyword) number)
numbered keyword None = none
numbered keyword (Some number) = counted keyword number

guest_if : (word : List ℕ) (test : Bool) → (test ≡ true → is_name word ≡ true)
    → SaysLine (option_map Guest (cond test (Some word) None))
guest_if word true h = record { line = h refl }
guest_if word false h = none

load : (name : Option (List ℕ)) → SaysLine (option_map Load name)
load None = none
load (Some name) = record { line = tt }

retire : (name : Option (List ℕ)) → SaysLine (option_map Retire name)
retire None = none
retire (Some name) = record { line = tt }

pair : (keyword word : List ℕ) → SaysLine (pair_form keyword word)
unfolding pair_form
pair keyword word =
    let retiring = choice (bytes_eq keyword (codes "retire")) (option_map Retire (name_in word)) (numbered_form keyword
    word) (λ _. retire (name_in word)) (λ _. numbered keyword (number_in word)) in
    let loading = choice (bytes_eq keyword (codes "load")) (option_map Load (name_in word)) _
    (λ _. load (name_in word)) (λ _. retiring) in
    choice (bytes_eq keyword (codes "guest")) (option_map Guest (name_in word)) _
    (λ _. guest_if word (is_name word) (λ h. h)) (λ _. loading)

started : (name file : List ℕ) (start : Option Bool) → is_name name ≡ true → is_file file ≡ true
    → SaysLine (option_and_then (λ s. Some (Module (record { name = name; file = file; start = s }))) start)
started name file None n f = none
started name file (Some start) n f = record { line = (n, f) }

filed : (name file : List ℕ) (start : Option Bool) (test : Bool) → is_name name ≡ true → (test ≡ true
    → is_file file ≡ true) → SaysLine (option_and_then (λ f. option_and_then (λ s. Some (Module (record {
      name = name;
      file = f;
      start = s;
    }))) start) (cond test (Some file) None))
filed name file start true n f = started name file start n (f refl)
filed name file start false n f = none

named : (name file : List ℕ) (start : Option Bool) (test : Bool) → (test ≡ true → is_name name ≡ true)
    → SaysLine (option_and_then (λ n. option_and_then (λ f. option_and_then (λ s. Some (Module (record {
      name = n;
      file = f;
      start = s;
    }))) start) (file_in file)) (cond test (Some name) None))
named name file start true n = filed name file start (is_file file) (n refl) (λ h. h)
named name file start false n = none

module_line : (name file when : List ℕ) → SaysLine (module_form name file when)
unfolding module_form
module_line name file when = named name file (start_in when) (is_name name) (λ h. h)

form-IsLine : (words : List (List ℕ)) → SaysLine (form_of words)
form-IsLine [] = record { line = tt }
form-IsLine (keyword ∷ []) = none
form-IsLine (keyword ∷ word ∷ []) = pair keyword word
form-IsLine (keyword ∷ name ∷ file ∷ []) = none
form-IsLine (keyword ∷ name ∷ file ∷ when ∷ []) =
    choice (bytes_eq keyword (codes "module")) (module_form name file when) None (λ _. module_line name file when)
    (λ _. none)
form-IsLine (keyword ∷ name ∷ file ∷ when ∷ word ∷ words) = none

-- a line that is taken is neither astray nor past a limit
chosen : {A : Type 0} (astray within : Bool) (next new : A) (f g : PlanFault)
    → cond astray (Err f) (cond within (Ok next) (Err g)) ≡ Ok new → (astray ≡ false) × (within ≡ true) × (next ≡ new)
chosen true within next new f g e = cc
chosen false true next new f g e = (refl, refl, cc)
chosen false false next new f g e = cc

taken-IsSound : (number : ℕ) (draft : PlanSoFar) (line : Line) (new : PlanSoFar) → IsSound draft → IsLine line
    → taken number draft line ≡ Ok new → IsSound new
taken-IsSound number draft line new s l e =
    let h = chosen (is_astray draft line) (is_within draft line) (with_line draft line) new _ _ e in
    subst IsSound h.2 (line-IsSound draft line s l h.0 h.1)

if-IsSound : (number : ℕ) (draft : PlanSoFar) (form : Option Line) (new : PlanSoFar) → IsSound draft → SaysLine form
    → taken_if number draft form ≡ Ok new → IsSound new
if-IsSound number draft None new s l e = cc
if-IsSound number draft (Some line) new s l e = taken-IsSound number draft line new s l.line e

text-IsSound : (number : ℕ) (draft : PlanSoFar) (line : List ℕ) (new : PlanSoFar) → IsSound draft
    → with_text number draft line ≡ Ok new → IsSound new
unfolding with_text
text-IsSound number draft line new s e =
    let words = words_in (statement_of line) in
    if-IsSound number draft (form_of words) new s (form-IsLine words) e

bind_ok : {A B : Type 0} (r : Result A PlanFault) (f : A → Result B PlanFault) (y : B) → (r >>= f) ≡ Ok y
    → (x : A) × (r ≡ Ok x) × (f x ≡ Ok y)
bind_ok (Ok x) f y e = (x, refl, e)
bind_ok (Err fault) f y e = cc

lines-IsSound : (lines : List (ℕ × List ℕ)) (draft new : PlanSoFar) → IsSound draft → with_lines draft lines ≡ Ok new
    → IsSound new
lines-IsSound [] draft new s e = let same : draft ≡ new = cc in subst IsSound same s
lines-IsSound (line ∷ lines) draft new s e =
    let h = bind_ok (with_text line.0 draft line.1) (λ next. with_lines next lines) new e in
    lines-IsSound lines h.0 new (text-IsSound line.0 draft line.1 h.0 s h.1) h.2

guarded : {A : Type 0} (test : Bool) (fault : PlanFault) (value new : A) → cond test (Err fault) (Ok value) ≡ Ok new
    → (test ≡ false) × (value ≡ new)
guarded true fault value new e = cc
guarded false fault value new e = (refl, cc)

headed : (test : Bool) (due : Result Plan PlanFault) (fault : PlanFault) (plan : Plan)
    → cond test due (Err fault) ≡ Ok plan → due ≡ Ok plan
headed true due fault plan e = e
headed false due fault plan e = cc

some_guest : (guests : List (List ℕ)) → is_empty guests ≡ false → 0 < length guests
some_guest [] e = cc
some_guest (guest ∷ guests) e = omega arith

-- a setting that no line gives is within the limits too

set : (P : ℕ → Type 0) (number : Option ℕ) (default : ℕ) → IfSome number P → P default → P (unwrap_or number default)
set P None default h d = d
set P (Some number) default h d = h

plan-IsPlan : (draft : PlanSoFar) (plan : Plan) → IsSound draft → plan_of draft ≡ Ok plan → IsPlan plan
plan-IsPlan draft plan s e =
    let h = guarded (is_empty draft.guests) _ _ plan e in
    subst IsPlan h.1 (record {
      code_words = set IsSize draft.code 65536 s.code (record {
        multiple = refl;
        least = omega arith;
        most = omega arith;
      });
      versions = set IsVersions draft.versions 16384 s.versions (omega arith, omega arith);
      first = set (λ number. number ≤ 16777215) draft.first 0 s.first (omega arith);
      fuel = set IsFuel draft.fuel 1000000 s.fuel (omega arith, omega arith);
      modules = s.modules;
      guests = s.guests;
      some_guest = some_guest draft.guests h.0;
      script = s.script;
    })

all-IsPlan : (lines : List (ℕ × List ℕ)) (plan : Plan) → plan_of_lines lines ≡ Ok plan → IsPlan plan
all-IsPlan [] plan e = cc
all-IsPlan (head ∷ lines) plan e =
    let h = headed (is_head (words_in (statement_of head.1))) _ _ plan e in
    let all = bind_ok (with_lines empty lines) plan_of plan h in
    plan-IsPlan all.0 plan (lines-IsSound lines empty all.0 empty-IsSound all.1) all.2

-- a text that says a plan says one within the limits
pub plan_in-IsPlan : (text : List ℕ) (plan : Plan) → plan_in text ≡ Ok plan → IsPlan plan
unfolding plan_in
plan_in-IsPlan text plan e = all-IsPlan (numbered_lines text) plan e

pub due-IsPlan : (answer : Result Plan PlanFault) (text : List ℕ) → Answers Fails answer (plan_in text) → IfOk answer IsPlan
due-IsPlan (Ok plan) text due = plan_in-IsPlan text plan due
due-IsPlan (Err fault) text due = tt
