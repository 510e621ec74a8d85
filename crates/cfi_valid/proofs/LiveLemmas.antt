-- What is live under a policy: some of what it finds loaded, and the same ones where a journal goes on.
use Rattle.std.proofs.Common.{◌≡◌, ℕ, ◌≤◌, ◌<◌, ◌==◌, ◌&&◌, ◌++◌, Bool, true, false, cond, List, [], ◌∷◌, map, All, refl, sym, ap, subst, ◌∙◌, arith}
use Rattle.std.specs.Prelude.{nat_le, not, ◌||◌, filter}
use Rattle.std.specs.List.{AllByRecursion, list_any}
use Rattle.std.proofs.lemmas.Bool.{and_left, and_right, le-leb, lt-leb}
use Rattle.std.proofs.lemmas.List.Elements.{All-head, All-tail, All-weaker, All-from_recursion, recursion_from_All, filter_agree}
use Rattle.std.proofs.lemmas.List.Folds.{list_any-append, list_any_none}
use Rattle.cfi_aux.specs.declared.modules.Module.{Module}
use Rattle.cfi_aux.specs.declared.placed.Placed.{Placed}
use Rattle.cfi_graph.specs.Live.{live_of}
use Rattle.cfi_modules.specs.Loaded.{AreAmong}
use Rattle.cfi_modules.proofs.LiveLemmas.{live_among as flagged_among}
use Rattle.cfi_plan.specs.declared.journal.Entry.{Entry}
use Rattle.cfi_plan.specs.declared.journal.JournalLine.{JournalLine}
use Rattle.cfi_plan.specs.declared.plan.Plan.{Plan}
use Rattle.cfi_valid.specs.Growth.{IsLater, AreUpTo}
use Rattle.cfi_valid.specs.Journal.{JournalState, members_of, live_in, IsOpeningState, LineLeads, EntriesLead, IsJournal}
use Rattle.cfi_valid.specs.Loaded.{LoadedModule, placed_modules, loaded_by, Members, is_retired_by, is_live, live_at, live_flags}
use Rattle.cfi_valid.specs.Modules.{without}
use Rattle.cfi_valid.specs.declared.retirement.Retirement.{Retirement}
use Rattle.cfi_valid.proofs.LineLemmas.{line_does}

-- ---- tests

pub and_true : (a b : Bool) → b ≡ true → a && b ≡ a
and_true true b is = is
and_true false b is = refl

pub or_false : (a b : Bool) → b ≡ false → a || b ≡ a
or_false true b is = refl
or_false false b is = is

-- tests that agree at each module keep the same ones
filter_same : (p q : LoadedModule → Bool) (xs : List LoadedModule) → All (λ (l : LoadedModule). p l ≡ q l) xs
    → filter p xs ≡ filter q xs
filter_same p q [] agree = refl
filter_same p q (x ∷ xs) agree =
    let here : p x ≡ q x = All-head (λ (l : LoadedModule). p l ≡ q l) x xs agree in
    ap (λ (b : Bool). cond b (x ∷ filter p xs) (filter p xs)) here
    ∙ ap (λ (rest : List LoadedModule). cond (q x) (x ∷ rest) rest)
    (filter_same p q xs (All-tail (λ (l : LoadedModule). p l ≡ q l) x xs agree))

-- a test after another
filter_twice : (p q : LoadedModule → Bool) (xs : List LoadedModule)
    → filter (λ (l : LoadedModule). p l && q l) xs ≡ filter q (filter p xs)
filter_twice p q [] = refl
filter_twice p q (x ∷ xs) = by (p x) (filter_twice p q xs)
  where
    by : (passes : Bool) → filter (λ (l : LoadedModule). p l && q l) xs ≡ filter q (filter p xs)
        → cond (passes && q x) (x ∷ filter (λ (l : LoadedModule). p l && q l) xs)
        (filter (λ (l : LoadedModule). p l && q l) xs)
        ≡ filter q (cond passes (x ∷ filter p xs) (filter p xs))
    by true rest = ap (λ (ls : List LoadedModule). cond (q x) (x ∷ ls) ls) rest
    by false rest = rest

-- ---- the live ones, by flags

-- those that pass a test are the ones with its flags
placed_passing : (p : LoadedModule → Bool) (xs : List LoadedModule)
    → placed_modules (filter p xs) ≡ live_of (placed_modules xs) (map p xs)
placed_passing p [] = refl
placed_passing p (x ∷ xs) = by (p x) (placed_passing p xs)
  where
    by : (passes : Bool) → placed_modules (filter p xs) ≡ live_of (placed_modules xs) (map p xs)
        → placed_modules (cond passes (x ∷ filter p xs) (filter p xs))
        ≡ live_of (x.placed ∷ placed_modules xs) (passes ∷ map p xs)
    by true rest = ap (λ (ps : List Placed). x.placed ∷ ps) rest
    by false rest = rest

passing_among : (p : LoadedModule → Bool) (xs : List LoadedModule)
    → AreAmong (placed_modules (filter p xs)) (placed_modules xs)
passing_among p xs =
    subst (λ (ps : List Placed). AreAmong ps (placed_modules xs)) (sym (placed_passing p xs))
    (flagged_among (placed_modules xs) (map p xs))

-- the live ones are those with their flags
pub live_placed : (policy : ℕ) (members : Members)
    → placed_modules (live_at policy members) ≡ live_of (placed_modules members.loaded) (live_flags policy members)
live_placed policy members = placed_passing (is_live policy members.retired) members.loaded

-- ---- some of what is loaded

-- where none was retired, all that a policy finds loaded are live
pub live_none : (policy : ℕ) (loaded : List LoadedModule)
    → live_at policy (record { loaded = loaded; retired = [] }) ≡ loaded_by policy loaded
live_none policy loaded =
    filter_agree (is_live policy []) (λ (l : LoadedModule). nat_le l.policy policy)
    (λ (l : LoadedModule). and_true (nat_le l.policy policy) true refl) loaded

-- the live ones are among those that the policy finds loaded
pub live_among : (policy : ℕ) (members : Members)
    → AreAmong (placed_modules (live_at policy members)) (placed_modules (loaded_by policy members.loaded))
live_among policy members =
    let there : List LoadedModule = loaded_by policy members.loaded in
    let stays : LoadedModule → Bool = λ l. not (is_retired_by policy l.number members.retired) in
    let twice : live_at policy members ≡ filter stays there =
    filter_twice (λ (l : LoadedModule). nat_le l.policy policy) stays members.loaded in
    subst (λ (ls : List LoadedModule). AreAmong (placed_modules ls) (placed_modules there)) (sym twice)
    (passing_among stays there)

-- and so among all
pub live_among_all : (policy : ℕ) (members : Members)
    → AreAmong (placed_modules (live_at policy members)) (placed_modules members.loaded)
live_among_all policy members = passing_among (is_live policy members.retired) members.loaded

-- ---- where a journal goes on

-- each has a policy above this one
module _ (X : Type 0) (policy_of : X → ℕ) where
  abbrev pub AreAbove : (policy : ℕ) → List X → Type 0
  AreAbove policy xs = AllByRecursion (λ (x : X). policy < policy_of x) xs

  pub above_append : (policy : ℕ) (xs ys : List X) → AreAbove policy xs → AreAbove policy ys
      → AreAbove policy (xs ++ ys)
  above_append policy [] ys p q = q
  above_append policy (x ∷ xs) ys p q = (p.0, above_append policy xs ys p.1 q)

  pub above_less : (policy less : ℕ) (xs : List X) → less ≤ policy → AreAbove policy xs → AreAbove less xs
  above_less policy less [] within p = tt
  above_less policy less (x ∷ xs) within p = (omega (arith, within, p.0), above_less policy less xs within p.1)

abbrev pub module_policy : LoadedModule → ℕ
module_policy l = l.policy

abbrev pub retired_policy : Retirement → ℕ
retired_policy r = r.policy

-- a test that fails for what came with later policies passes what it passed before
pub tested_append : (passes : LoadedModule → Bool) (policy : ℕ)
    → ((l : LoadedModule) → policy < l.policy → passes l ≡ false) → (xs ys : List LoadedModule)
    → AreAbove LoadedModule module_policy policy ys → filter passes (xs ++ ys) ≡ filter passes xs
tested_append passes policy fails [] [] above = refl
tested_append passes policy fails [] (y ∷ ys) above =
    ap (λ (b : Bool). cond b (y ∷ filter passes ys) (filter passes ys)) (fails y above.0)
    ∙ tested_append passes policy fails [] ys above.1
tested_append passes policy fails (x ∷ xs) ys above =
    ap (λ (rest : List LoadedModule). cond (passes x) (x ∷ rest) rest)
    (tested_append passes policy fails xs ys above)

-- what was retired with later policies was not by then
retired_append : (policy number : ℕ) (before gone : List Retirement)
    → AreAbove Retirement retired_policy policy gone
    → is_retired_by policy number (before ++ gone) ≡ is_retired_by policy number before
retired_append policy number before gone above =
    let test : Retirement → Bool = λ r. r.number == number && nat_le r.policy policy in
    let late : All (λ (r : Retirement). policy < r.policy) gone =
    All-from_recursion (λ (r : Retirement). policy < r.policy) gone above in
    let fails : All (λ (r : Retirement). test r ≡ false) gone =
    All-weaker (λ (r : Retirement). policy < r.policy) (λ (r : Retirement). test r ≡ false)
    (λ (r : Retirement) past. and_right (r.number == number) (nat_le r.policy policy) (lt-leb r.policy policy past))
    gone late in
    list_any-append test before gone
    ∙ or_false (list_any test before) (list_any test gone) (list_any_none test gone fails)

-- what is live under a policy is so later
pub live_stays : (old new : JournalState) → IsLater old new → (policy : ℕ) → policy ≤ old.policy
    → live_at policy (members_of new) ≡ live_at policy (members_of old)
live_stays old new later policy within =
    let more = above_less LoadedModule module_policy old.policy policy later.more within later.above in
    let gone = above_less Retirement retired_policy old.policy policy later.gone within later.after in
    ap (filter (is_live policy new.retired)) later.is
    ∙ tested_append (is_live policy new.retired) policy
    (λ (l : LoadedModule) past.
    and_left (nat_le l.policy policy) (not (is_retired_by policy l.number new.retired)) (lt-leb l.policy policy past))
    old.loaded later.more more
    ∙ filter_agree (is_live policy new.retired) (is_live policy old.retired)
    (λ (l : LoadedModule).
    ap (λ (b : Bool). nat_le l.policy policy && not b)
    (ap (is_retired_by policy l.number) later.retired_is
    ∙ retired_append policy l.number old.retired later.gone gone))
    old.loaded

-- ---- those that are not gone

-- each has a policy up to this one
module _ (X : Type 0) (policy_of : X → ℕ) where
  abbrev IsUp : (policy : ℕ) → X → Type 0
  IsUp policy x = policy_of x ≤ policy

  up_more : (low high : ℕ) (xs : List X) → low ≤ high → AllByRecursion (IsUp low) xs → AllByRecursion (IsUp high) xs
  up_more low high [] within p = tt
  up_more low high (x ∷ xs) within p = (omega (arith, within, p.0), up_more low high xs within p.1)

  -- and so does one more, with this policy
  up_push : (low high : ℕ) (xs : List X) (x : X) → low ≤ high → AllByRecursion (IsUp low) xs → policy_of x ≡ high
      → AllByRecursion (IsUp high) (xs ++ x ∷ [])
  up_push low high [] x within p here = (omega (arith, here), tt)
  up_push low high (y ∷ xs) x within p here =
      (omega (arith, within, p.0), up_push low high xs x within p.1 here)

-- the numbers of those that were retired
abbrev pub gone_numbers : List Retirement → List ℕ
gone_numbers retired = map (λ (r : Retirement). r.number) retired

gone_same : (policy number : ℕ) (retired : List Retirement)
    → AllByRecursion (λ (r : Retirement). r.policy ≤ policy) retired
    → list_any (λ (n : ℕ). n == number) (gone_numbers retired) ≡ is_retired_by policy number retired
gone_same policy number [] upto = refl
gone_same policy number (r ∷ retired) upto =
    ap (λ (b : Bool). b || list_any (λ (n : ℕ). n == number) (gone_numbers retired))
    (sym (and_true (r.number == number) (nat_le r.policy policy) (le-leb r.policy policy upto.0)))
    ∙ ap (λ (b : Bool). (r.number == number && nat_le r.policy policy) || b) (gone_same policy number retired upto.1)

-- where all policies are up to the one in force, those whose numbers are not of the retired ones are live
pub without_gone : (s : JournalState) → AreUpTo s → without (gone_numbers s.retired) s.loaded ≡ live_in s
without_gone s upto =
    let stays : LoadedModule → Bool = λ l. not (list_any (λ (n : ℕ). n == l.number) (gone_numbers s.retired)) in
    filter_same stays (is_live s.policy s.retired) s.loaded
    (All-weaker (λ (l : LoadedModule). l.policy ≤ s.policy)
    (λ (l : LoadedModule). stays l ≡ is_live s.policy s.retired l)
    (λ (l : LoadedModule) within.
    ap not (gone_same s.policy l.number s.retired upto.retired)
    ∙ ap (λ (b : Bool). b && not (is_retired_by s.policy l.number s.retired))
    (sym (le-leb l.policy s.policy within)))
    s.loaded (All-from_recursion (λ (l : LoadedModule). l.policy ≤ s.policy) s.loaded upto.loaded))

-- so it is with each state of a journal
module _ (plan : Plan) (modules : List Module) where
  pub opening_up_to : (s : JournalState) → IsOpeningState plan modules s → AreUpTo s
  opening_up_to s opens = record {
    loaded = recursion_from_All (λ (l : LoadedModule). l.policy ≤ s.policy) s.loaded
        (All-weaker (λ (l : LoadedModule). l.policy ≡ 0) (λ (l : LoadedModule). l.policy ≤ s.policy)
        (λ (l : LoadedModule) first. omega (arith, first)) s.loaded opens.policies);
    retired = subst (AllByRecursion (λ (r : Retirement). r.policy ≤ s.policy)) (sym opens.stay) tt;
  }

  pub line_up_to : (old new : JournalState) (line : JournalLine) → LineLeads plan modules old line new → AreUpTo old
      → AreUpTo new
  line_up_to old new line leads upto =
      line_does plan modules old (λ more gone s. AreUpTo s) upto
      (λ number epoch policy load. record {
        loaded = up_push LoadedModule module_policy old.policy policy old.loaded
            (record { number = number; placed = load.clean.placed; policy = policy }) (omega (arith, load.next))
            upto.loaded refl;
        retired = up_more Retirement retired_policy old.policy policy old.retired (omega (arith, load.next))
            upto.retired;
      })
      (λ number epoch policy retire. record {
        loaded = up_more LoadedModule module_policy old.policy policy old.loaded (omega (arith, retire.next))
            upto.loaded;
        retired = up_push Retirement retired_policy old.policy policy old.retired
            (record { number = number; policy = policy }) (omega (arith, retire.next)) upto.retired refl;
      })
      (λ epoch goes. record { loaded = upto.loaded; retired = upto.retired }) line new leads

  pub along_up_to : (old new : JournalState) (entries : List Entry) → EntriesLead plan modules old entries new
      → AreUpTo old → AreUpTo new
  along_up_to old new [] along upto = subst AreUpTo (sym along) upto
  along_up_to old new (entry ∷ entries) along upto =
      along_up_to along.0 new entries along.2 (line_up_to old along.0 entry.what along.1.1 upto)

  pub journal_up_to : (journal : List Entry) (end : JournalState) → IsJournal plan modules journal end → AreUpTo end
  journal_up_to journal end is = along_up_to is.opening end journal is.leads (opening_up_to is.opening is.opens)

  -- what is live where a journal leads are those that were not retired
  pub journal_live : (journal : List Entry) (end : JournalState) → IsJournal plan modules journal end
      → without (gone_numbers end.retired) end.loaded ≡ live_in end
  journal_live journal end is = without_gone end (journal_up_to journal end is)
