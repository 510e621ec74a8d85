-- The causes of opens, by rows of meetings.
use Rattle.std.proofs.Common.{◌≡◌, ℕ, ◌+◌, ◌≤◌, Bool, List, take, drop, sym, ap, subst, ◌∙◌, arith}
use Rattle.std.specs.Prelude.{◌↔◌, IsTrue}
use Rattle.cfi_aux.specs.declared.modules.Module.{Module}
use Rattle.cfi_model.specs.Log.{last_policy}
use Rattle.cfi_unit.specs.declared.log.Log.{Log}
use Rattle.cfi_valid.proofs.SpanLemmas.{fall_behind, fall_least, last_behind, next_most}
use Rattle.cfi_valid.specs.Joining.{HasNoFault}
use Rattle.cfi_valid.specs.Journal.{IsOutOfEpochs, JournalState, live_in, members_of}
use Rattle.cfi_valid.specs.Loaded.{LoadedModule, live_at, loaded_by}
use Rattle.cfi_valid.specs.Log.{IsInSpan, next_policy}
use Rattle.cfi_judge.specs.inner.Log.{HasRisen}
use Rattle.cfi_judge.specs.inner.Rows.{AreRows, HasMeeting, IsOfKind, kind_of}
use Rattle.cfi_judge.specs.declared.meeting.Kind.{Kind}
use Rattle.cfi_judge.specs.declared.meeting.Kind.TheVariants.{Joins}
use Rattle.cfi_judge.specs.declared.meeting.Meeting.{Meeting}
use Rattle.cfi_judge.proofs.ItemLemmas.{found}
use Rattle.cfi_judge.proofs.KindLemmas.{kind_is, meeting_known, meeting_once, of_kind}

-- ---- what rows say

module _ (code_words : ℕ) (modules : List Module) (s : JournalState) (rows : List (List Meeting))
    (are : AreRows code_words modules s rows) (number : ℕ) (kind : Kind) where
  abbrev MeetsBy : (policy : ℕ) → Type 0
  MeetsBy policy = IsOfKind code_words modules (loaded_by policy s.loaded) (live_at policy (members_of s)) number kind

  -- a row says what is so
  pub says_so : (least most : ℕ) → (has : HasMeeting least most rows number kind) → MeetsBy has.policy
  says_so least most has =
      let loaded = loaded_by has.policy s.loaded in
      let live = live_at has.policy (members_of s) in
      let meets = (are.each has.policy has.row has.has).each number has.shows.meeting has.shows.says in
      subst (λ (k : Kind). IsOfKind code_words modules loaded live number k) has.shows.is
      (kind_is code_words modules loaded live number has.shows.meeting meets)

  -- and what is so is said
  pub so_says : (least most policy : ℕ) → least ≤ policy → policy ≤ most → policy ≤ s.policy → MeetsBy policy
      → HasMeeting least most rows number kind
  so_says least most policy above below within meets =
      let loaded = loaded_by policy s.loaded in
      let live = live_at policy (members_of s) in
      let row = found rows policy (omega (arith, within, are.count)) in
      let is_row = are.each policy row.0 row.1 in
      let one = of_kind code_words modules loaded live number kind meets in
      let known = meeting_known code_words modules loaded live number one.0 one.1 in
      let here = found row.0 number (omega (arith, known, is_row.count)) in
      let same : here.0 ≡ one.0 =
      meeting_once code_words modules loaded live number here.0 one.0 (is_row.each number here.0 here.1) one.1 in
      record {
        policy = policy;
        above = above;
        below = below;
        row = row.0;
        has = row.1;
        shows = record { meeting = here.0; says = here.1; is = ap kind_of same ∙ one.2 };
      }

  -- ---- in a span

  module _ (log : List Log) (risen : HasRisen s.policy log) (at : ℕ) where
    pub next_within : next_policy s.policy (drop (at + 1) log) ≤ s.policy
    next_within =
        next_most s.policy (last_policy (take (at + 1) log)) (drop (at + 1) log)
        (fall_behind (at + 1) 0 log risen.rises) (omega (arith, last_behind (at + 1) 0 log, risen.most))

    abbrev pub MeetsIn : Type 0
    MeetsIn = (policy : ℕ) × IsInSpan s.policy log at policy × MeetsBy policy

    pub meets_told : (least most : ℕ) → least ≡ last_policy (take at log)
        → most ≡ next_policy s.policy (drop (at + 1) log) → (answer : Bool)
        → (IsTrue answer ↔ HasMeeting least most rows number kind) → IsTrue answer ↔ MeetsIn
    meets_told least most least_is most_is answer exact = (
      λ yes.
          let has = exact.0 yes in (
            has.policy,
            record {
              least = omega (arith, least_is, has.above);
              most = omega (arith, most_is, has.below);
            },
            says_so least most has,
          ),
      λ meets. exact.1 (so_says least most meets.0 (omega (arith, least_is, meets.1.least))
          (omega (arith, most_is, meets.1.most)) (omega (arith, meets.1.most, next_within)) meets.2),
    )

-- ---- no epoch is left

module _ (code_words : ℕ) (modules : List Module) (s : JournalState) (rows : List (List Meeting))
    (are : AreRows code_words modules s rows) (all : loaded_by s.policy s.loaded ≡ s.loaded) (number : ℕ)
    (log : List Log) (risen : HasRisen s.policy log) (at : ℕ) where
  abbrev pub IsSpent : Type 0
  IsSpent =
      IsInSpan s.policy log at s.policy × IsOutOfEpochs s × HasNoFault code_words modules s.loaded (live_in s) number

  last_within : last_policy (take at log) ≤ s.policy
  last_within =
      let rest = fall_least (last_policy (take at log)) (drop at log) (fall_behind at 0 log risen.rises) in
      omega (arith, rest, last_behind at 0 log, risen.most)

  pub spent_told : IsOutOfEpochs s → (most : ℕ) → most ≡ next_policy s.policy (drop (at + 1) log) → s.policy ≤ most
      → (answer : Bool) → (IsTrue answer ↔ HasMeeting s.policy s.policy rows number Joins)
      → IsTrue answer ↔ IsSpent
  spent_told spent most most_is below answer exact = (
    λ yes.
        let has = exact.0 yes in
        let here : has.policy ≡ s.policy = omega (arith, has.above, has.below) in (
          record { least = last_within; most = omega (arith, most_is, below) },
          spent,
          subst (λ (ls : List LoadedModule). HasNoFault code_words modules ls (live_in s) number) all
              (subst (λ (p : ℕ).
              HasNoFault code_words modules (loaded_by p s.loaded) (live_at p (members_of s)) number) here
              (says_so code_words modules s rows are number Joins s.policy s.policy has)),
        ),
    λ is. exact.1 (so_says code_words modules s rows are number Joins s.policy s.policy s.policy (omega arith)
        (omega arith) (omega arith)
        (subst (λ (ls : List LoadedModule). HasNoFault code_words modules ls (live_in s) number) (sym all) is.2)),
  )
