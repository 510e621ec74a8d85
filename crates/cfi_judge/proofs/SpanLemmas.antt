-- A module without a function that some policy of the span of an entry finds live.
use Rattle.std.proofs.Common.{◌≡◌, ℕ, ◌+◌, ◌<◌, ◌≤◌, ◌==◌, ◌&&◌, Bool, true, false, cond, List, [], ◌∷◌, length, take, drop, Some, refl, sym, ap, subst, ⊎_elim, arith}
use Rattle.std.specs.Prelude.{◌↔◌, IsTrue, nat_le, not, ◌||◌}
use Rattle.std.specs.List.{slice_get}
use Rattle.std.proofs.lemmas.Bool.{and_from, and_parts, cases_lt, le-leb, le-ltb, leb-true, lt-leb, lt-ltb}
use Rattle.cfi_aux.specs.declared.placed.Placed.{Placed}
use Rattle.cfi_labels.specs.Live.{is_live_line}
use Rattle.cfi_ledger.specs.Roster.{Roster, members_in_roster}
use Rattle.cfi_model.specs.Log.{last_policy}
use Rattle.cfi_modules.specs.Entry.{HasNoneOf, IsGlobal}
use Rattle.cfi_plan.specs.declared.journal.ModuleLine.{ModuleLine}
use Rattle.cfi_unit.specs.declared.log.Log.{Log}
use Rattle.cfi_valid.specs.Course.{Course}
use Rattle.cfi_valid.specs.Journal.{JournalState, members_of}
use Rattle.cfi_valid.specs.Loaded.{is_retired_by, live_at}
use Rattle.cfi_valid.specs.Log.{HasNoFunction, HoldsInSpan, IsInSpan, next_policy}
use Rattle.cfi_valid.specs.declared.retirement.Retirement.{Retirement}
use Rattle.cfi_judge.specs.inner.Log.{IsBareIn, LacksBy, first_by}
use Rattle.cfi_judge.specs.inner.Meets.{IsLined}
use Rattle.cfi_judge.proofs.LogLemmas.{HasOne, NoneBelow, one_here, one_there}

-- ---- the first policy

-- it is not below one, and finds the module loaded
first_least : (least : ℕ) (line : ModuleLine) → (least ≤ first_by least line) × (line.policy ≤ first_by least line)
first_least least line = ⊎_elim
    (λ (less : least < line.policy).
    let is : first_by least line ≡ line.policy =
    ap (λ (b : Bool). cond b line.policy least) (lt-ltb least line.policy less) in
    (omega (arith, is, less), omega (arith, is)))
    (λ (most : line.policy ≤ least).
    let is : first_by least line ≡ least =
    ap (λ (b : Bool). cond b line.policy least) (le-ltb least line.policy most) in
    (omega (arith, is), omega (arith, is, most)))
    (cases_lt least line.policy)

-- each other that is so is not below it
first_most : (least : ℕ) (line : ModuleLine) (policy : ℕ) → least ≤ policy → line.policy ≤ policy
    → first_by least line ≤ policy
first_most least line policy above came = ⊎_elim
    (λ (less : least < line.policy).
    let is : first_by least line ≡ line.policy =
    ap (λ (b : Bool). cond b line.policy least) (lt-ltb least line.policy less) in
    omega (arith, is, came))
    (λ (most : line.policy ≤ least).
    let is : first_by least line ≡ least =
    ap (λ (b : Bool). cond b line.policy least) (le-ltb least line.policy most) in
    omega (arith, is, above))
    (cases_lt least line.policy)

-- ---- live under an earlier policy

or_none : (a b : Bool) → not (a || b) ≡ true → (a ≡ false) × (not b ≡ true)
or_none true b none = absurd (cc)
or_none false b none = (refl, none)

none_or : (a b : Bool) → a ≡ false → not b ≡ true → not (a || b) ≡ true
none_or true b first rest = absurd (cc)
none_or false b first rest = rest

-- one that was not retired by a policy was not by an earlier one
sooner : (less more number : ℕ) → less ≤ more → (r : Retirement) → (r.number == number && nat_le r.policy more) ≡ false
    → (r.number == number && nat_le r.policy less) ≡ false
sooner less more number within r late = by (r.number == number) late
  where
    by : (b : Bool) → (b && nat_le r.policy more) ≡ false → (b && nat_le r.policy less) ≡ false
    by false none = refl
    by true none = ⊎_elim
        (λ (past : less < r.policy). lt-leb r.policy less past)
        (λ (most : r.policy ≤ less).
        let there : nat_le r.policy more ≡ true = le-leb r.policy more (omega (arith, most, within)) in
        absurd (cc))
        (cases_lt less r.policy)

stays_sooner : (less more number : ℕ) → less ≤ more → (retired : List Retirement)
    → not (is_retired_by more number retired) ≡ true → not (is_retired_by less number retired) ≡ true
stays_sooner less more number within [] stays = refl
stays_sooner less more number within (r ∷ retired) stays =
    let both = or_none (r.number == number && nat_le r.policy more) (is_retired_by more number retired) stays in
    none_or (r.number == number && nat_le r.policy less) (is_retired_by less number retired)
    (sooner less more number within r both.0) (stays_sooner less more number within retired both.1)

lives_sooner : (less more : ℕ) → less ≤ more → (retired : List Retirement) (line : ModuleLine) → line.policy ≤ less
    → is_live_line more retired line ≡ true → is_live_line less retired line ≡ true
lives_sooner less more within retired line came lives =
    let both = and_parts (nat_le line.policy more) (not (is_retired_by more line.number retired)) lives in
    and_from (nat_le line.policy less) (not (is_retired_by less line.number retired)) (le-leb line.policy less came)
    (stays_sooner less more line.number within retired both.1)

-- ---- by places in load order

module _ (r : Roster) (lined : IsLined r) (lines : List ModuleLine) (lines_are : lines ≡ r.lines)
    (placed : List Placed) (placed_are : placed ≡ r.placed) (retired : List Retirement)
    (retired_are : retired ≡ r.retired) (number least most : ℕ) where
  pub bare_here : (at : ℕ) (line : ModuleLine) (p : Placed) → slice_get lines at ≡ Some line
      → slice_get placed at ≡ Some p → IsBareIn least most retired line p number
      → LacksBy least most (members_in_roster r) number
  bare_here at line p line_is place_is bare =
      let policy : ℕ = first_by least line in
      let one = one_here (HasNoneOf IsGlobal) number policy r lined lines lines_are placed placed_are retired
      retired_are
      at line p line_is place_is bare.there in
      record {
        policy = policy;
        above = (first_least least line).0;
        below = bare.within;
        none = record { one = one.one; has = one.has; is = one.is; none = one.holds };
      }

  pub none_bare : (at : ℕ) → length lines ≤ at
      → NoneBelow (λ line p. IsBareIn least most retired line p number) lines placed at
      → ¬ LacksBy least most (members_in_roster r) number
  none_bare at all below lacks =
      let has : HasOne (HasNoneOf IsGlobal) number lacks.policy (members_in_roster r) =
      record { one = lacks.none.one; has = lacks.none.has; is = lacks.none.is; holds = lacks.none.none } in
      let it = one_there (HasNoneOf IsGlobal) number lacks.policy r lined lines lines_are placed placed_are retired
      retired_are has in
      let both = and_parts (nat_le it.line.policy lacks.policy)
      (not (is_retired_by lacks.policy it.line.number retired)) it.found.lives in
      let came : it.line.policy ≤ lacks.policy = leb-true it.line.policy lacks.policy both.0 in
      let first = first_most least it.line lacks.policy lacks.above came in
      below it.at it.line it.p (omega (arith, it.within, all)) it.line_is it.place_is (record {
        within = omega (arith, first, lacks.below);
        there = record {
          is = it.found.is;
          lives = lives_sooner (first_by least it.line) lacks.policy first retired it.line
              (first_least least it.line).1 it.found.lives;
          holds = it.found.holds;
        };
      })

-- ---- in a span

module _ (s : JournalState) (log : List Log) (at number least most : ℕ) (least_is : least ≡ last_policy (take at log))
    (most_is : most ≡ next_policy s.policy (drop (at + 1) log)) where
  abbrev LacksIn : JournalState → Type 0
  LacksIn e =
      (policy : ℕ) × IsInSpan e.policy log at policy × HasNoFunction (live_at policy (members_of e)) number

  lacks_told : (answer : Bool) → (IsTrue answer ↔ LacksBy least most (members_of s) number) → IsTrue answer ↔ LacksIn s
  lacks_told answer exact = (
    λ yes.
        let lacks = exact.0 yes in (
          lacks.policy,
          record { least = omega (arith, least_is, lacks.above); most = omega (arith, most_is, lacks.below) },
          lacks.none,
        ),
    λ lacks. exact.1 (record {
      policy = lacks.0;
      above = omega (arith, least_is, lacks.1.least);
      below = omega (arith, most_is, lacks.1.most);
      none = lacks.2;
    }),
  )

  pub lacks_in : (c : Course) → c.end ≡ s → (answer : Bool)
      → (IsTrue answer ↔ LacksBy least most (members_of s) number)
      → IsTrue answer ↔ HoldsInSpan c log at (λ loaded live. HasNoFunction live number)
  lacks_in c same answer exact =
      subst (λ (e : JournalState). IsTrue answer ↔ LacksIn e) (sym same) (lacks_told answer exact)
