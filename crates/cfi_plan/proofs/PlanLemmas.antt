-- What is read is a plan within the limits.
use Rattle.std.proofs.Common.{◌≡◌, ℕ, ◌+◌, ◌%◌, ◌<◌, ◌≤◌, Bool, true, false, eqb, ltb, leb, ◌&&◌, List, [], ◌∷◌, ◌++◌, length, get_or, is_some, is_none, unwrap_or, IfSome, sym, ◌∙◌, arith, rules, length-append}
use Rattle.std.proofs.lemmas.Bool.{and_parts, false≢true}
use Rattle.std.proofs.lemmas.Slice.Eq.{bytes_eq-Decides}
use Rattle.std.specs.Str.{bytes_eq}
use Rattle.std.proofs.lemmas.Bool.Decides.{nat_tests}
use Rattle.std.proofs.lemmas.List.Elements.{All-nil, All-push}
use Rattle.std.proofs.lemmas.List.Quantifiers.{all_pairs_push}
use Rattle.std.proofs.lemmas.List.Sums.{sum_by-append, fails_before_first}
use Rattle.std.specs.List.{position, position_or_len}
use Rattle.cfi_plan.specs.declared.line.Line.{Line}
use Rattle.cfi_plan.specs.declared.line.Line.TheVariants.{Blank, Code, Versions, Epoch, Fuel, Module, Guest, Load, Retire, Refresh}
use Rattle.cfi_plan.specs.declared.plan.PlanModule.{PlanModule}
use Rattle.cfi_plan.specs.declared.plan.ScriptLine.{ScriptLine}
use Rattle.cfi_plan.specs.declared.plan.ScriptLine.TheVariants as script
use Rattle.cfi_word.specs.declared.limits.TheConstants.{MAX_EPOCH}
use Rattle.cfi_word.specs.Table.{IsSize}
use Rattle.cfi_plan.specs.Draft.{PlanSoFar, empty, module_of, starts, one_if, refreshes, refreshes_of, is_astray, is_within, with_line}
use Rattle.cfi_text.specs.Names.{is_name}
use Rattle.cfi_plan.specs.Plan.{IsVersions, IsFuel, IsNamed, HaveOtherNames, AreModules, AreGuests, IsScriptLine, IsScript}
use Rattle.cfi_plan.proofs.DraftLemmas.{starts-push}

-- the names of a line are names, and it makes a refresh or more
abbrev pub IsLine : Line → Type 0
IsLine Blank = Unit {0}
IsLine (Code number) = Unit {0}
IsLine (Versions number) = Unit {0}
IsLine (Epoch number) = Unit {0}
IsLine (Fuel number) = Unit {0}
IsLine (Module one) = IsNamed one
IsLine (Guest entry) = is_name entry ≡ true
IsLine (Load name) = Unit {0}
IsLine (Retire name) = Unit {0}
IsLine (Refresh count) = 1 ≤ count

-- a draft within the limits
pub record IsSound (draft : PlanSoFar) : Type 0 where
  pub code : IfSome draft.code IsSize
  pub versions : IfSome draft.versions IsVersions
  pub first : IfSome draft.first (λ number. number ≤ MAX_EPOCH)
  pub fuel : IfSome draft.fuel IsFuel
  pub modules : AreModules draft.modules
  pub guests : AreGuests draft.guests
  pub script : IsScript (length draft.modules) draft.script

pub empty-IsSound : IsSound empty
empty-IsSound = record {
  code = tt;
  versions = tt;
  first = tt;
  fuel = tt;
  modules = record { most = omega arith; most_starts = omega arith; named = All-nil IsNamed; apart = search rules };
  guests = record { most = omega arith; named = All-nil (λ entry. is_name entry ≡ true) };
  script = record { most = omega arith; most_refreshes = omega arith; lines = All-nil (IsScriptLine 0) };
}

-- tests of limits

code_size : (number : ℕ) → (eqb (number % 1024) 0 && leb 1024 number && leb number 65536) ≡ true → IsSize number
code_size number h = record {
  multiple = grind (arith, nat_tests);
  least = grind (arith, nat_tests);
  most = grind (arith, nat_tests);
}

between : (low high number : ℕ) → (leb low number && leb number high) ≡ true → (low ≤ number) × (number ≤ high)
between low high number h = (grind (arith, nat_tests), grind (arith, nat_tests))

at_most : (high number : ℕ) → leb number high ≡ true → number ≤ high
at_most high number h = grind (arith, nat_tests)

below : (high number : ℕ) → ltb number high ≡ true → number < high
below high number h = grind (arith, nat_tests)

-- modules

-- no module has a name that is not found
absent : (p : PlanModule → Bool) (modules : List PlanModule) → is_some (position p modules) ≡ false
    → length modules ≤ position_or_len p modules
absent p modules h = grind (arith, nat_tests)

others : (modules : List PlanModule) (one : PlanModule) → is_some (module_of modules one.name) ≡ false
    → (k : ℕ) (d : PlanModule) → k < length modules → HaveOtherNames (get_or modules k d) one
others modules one h k d within same =
    let p : PlanModule → Bool = λ other. bytes_eq other.name one.name in
    let past = absent p modules h in
    let differs = fails_before_first p modules k d (omega arith) in
    false≢true (sym differs ∙ (bytes_eq-Decides (get_or modules k d).name one.name).1 same)

modules-push : (modules : List PlanModule) (one : PlanModule) → AreModules modules → IsNamed one
    → is_some (module_of modules one.name) ≡ false
    → (ltb (length modules) 128 && leb (starts modules + one_if one.start) 64) ≡ true → AreModules (modules ++ one ∷ [])
modules-push modules one s named new within =
    let parts = and_parts _ _ within in
    let room = below 128 (length modules) parts.0 in
    let most = at_most 64 (starts modules + one_if one.start) parts.1 in
    record {
      most = omega (arith, length-append modules (one ∷ []));
      most_starts = omega (arith, starts-push modules one);
      named = All-push IsNamed modules one s.named named;
      apart = all_pairs_push HaveOtherNames modules one s.apart (others modules one new);
    }

-- scripts

wider : (few many : ℕ) (line : ScriptLine) → few ≤ many → IsScriptLine few line → IsScriptLine many line
wider few many (script.Load number) h l = omega arith
wider few many (script.Retire number) h l = omega arith
wider few many (script.Refresh count) h l = l

script-more : (few many : ℕ) (lines : List ScriptLine) → few ≤ many → IsScript few lines → IsScript many lines
script-more few many lines h s = record {
  most = s.most;
  most_refreshes = s.most_refreshes;
  lines = λ k d within. wider few many (get_or lines k d) h (s.lines k d within);
}

refreshes-push : (lines : List ScriptLine) (line : ScriptLine)
    → refreshes (lines ++ line ∷ []) ≡ refreshes lines + refreshes_of line
refreshes-push lines line = sum_by-append refreshes_of lines (line ∷ []) ∙ omega arith

script-push : (modules : ℕ) (lines : List ScriptLine) (line : ScriptLine) → IsScript modules lines
    → IsScriptLine modules line → length lines < 1000 → refreshes lines + refreshes_of line ≤ 10000
    → IsScript modules (lines ++ line ∷ [])
script-push modules lines line s l room most = record {
  most = omega (arith, length-append lines (line ∷ []));
  most_refreshes = omega (arith, refreshes-push lines line);
  lines = All-push (IsScriptLine modules) lines line s.lines l;
}

-- a module that is found is there
found : (p : PlanModule → Bool) (modules : List PlanModule) → is_none (position p modules) ≡ false
    → unwrap_or (position p modules) 0 < length modules
found p modules h = grind (arith, nat_tests)

guests-push : (guests : List (List ℕ)) (entry : List ℕ) → AreGuests guests → is_name entry ≡ true → length guests < 16
    → AreGuests (guests ++ entry ∷ [])
guests-push guests entry s named room = record {
  most = omega (arith, length-append guests (entry ∷ []));
  named = All-push (λ one. is_name one ≡ true) guests entry s.named named;
}

-- a line more of the script
script-IsSound : (draft : PlanSoFar) (line : ScriptLine) → IsSound draft → IsScriptLine (length draft.modules) line
    → length draft.script < 1000 → refreshes draft.script + refreshes_of line ≤ 10000
    → IsSound (record draft { script = draft.script ++ line ∷ [] })
script-IsSound draft line s l room most = record {
  code = s.code;
  versions = s.versions;
  first = s.first;
  fuel = s.fuel;
  modules = s.modules;
  guests = s.guests;
  script = script-push _ draft.script line s.script l room most;
}

-- a line leaves a draft within the limits
pub line-IsSound : (draft : PlanSoFar) (line : Line) → IsSound draft → IsLine line → is_astray draft line ≡ false
    → is_within draft line ≡ true → IsSound (with_line draft line)
line-IsSound draft Blank s l a w = s
line-IsSound draft (Code number) s l a w = record {
  code = code_size number w;
  versions = s.versions;
  first = s.first;
  fuel = s.fuel;
  modules = s.modules;
  guests = s.guests;
  script = s.script;
}
line-IsSound draft (Versions number) s l a w = record {
  code = s.code;
  versions = between 3 16384 number w;
  first = s.first;
  fuel = s.fuel;
  modules = s.modules;
  guests = s.guests;
  script = s.script;
}
line-IsSound draft (Epoch number) s l a w = record {
  code = s.code;
  versions = s.versions;
  first = at_most 16777215 number w;
  fuel = s.fuel;
  modules = s.modules;
  guests = s.guests;
  script = s.script;
}
line-IsSound draft (Fuel number) s l a w = record {
  code = s.code;
  versions = s.versions;
  first = s.first;
  fuel = between 1 10000000 number w;
  modules = s.modules;
  guests = s.guests;
  script = s.script;
}
line-IsSound draft (Module one) s l a w = record {
  code = s.code;
  versions = s.versions;
  first = s.first;
  fuel = s.fuel;
  modules = modules-push draft.modules one s.modules l a w;
  guests = s.guests;
  script = script-more _ _ draft.script (omega (arith, length-append draft.modules (one ∷ []))) s.script;
}
line-IsSound draft (Guest entry) s l a w = record {
  code = s.code;
  versions = s.versions;
  first = s.first;
  fuel = s.fuel;
  modules = s.modules;
  guests = guests-push draft.guests entry s.guests l (below 16 _ w);
  script = s.script;
}
line-IsSound draft (Load name) s l a w =
    script-IsSound draft (script.Load _) s (found _ draft.modules a) (below 1000 _ w)
    (omega (arith, s.script.most_refreshes))
line-IsSound draft (Retire name) s l a w =
    script-IsSound draft (script.Retire _) s (found _ draft.modules a) (below 1000 _ w)
    (omega (arith, s.script.most_refreshes))
line-IsSound draft (Refresh count) s l a w = let parts = and_parts _ _ w in
    script-IsSound draft (script.Refresh count) s l (below 1000 _ parts.0) (at_most 10000 _ parts.1)
