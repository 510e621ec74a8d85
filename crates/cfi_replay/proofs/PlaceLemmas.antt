-- How far a cursor comes in a log, entry by entry and pick by pick.
use Rattle.std.proofs.Common.{◌≡◌, ℕ, ◌+◌, ◌<◌, ◌≤◌, List, [], ◌∷◌, ◌++◌, length, drop, Option, Some, None, refl, sym, ap, subst, ◌∙◌, ⊎_elim, arith}
use Rattle.std.specs.List.{fold, slice_get}
use Rattle.std.proofs.lemmas.Bool.{cases_lt}
use Rattle.cfi_model.specs.Log.{policy_after}
use Rattle.cfi_unit.specs.declared.log.Log.{Log}
use Rattle.cfi_unit.specs.declared.log.Log.TheVariants.{Pick, Open, Cause}
use Rattle.cfi_valid.specs.Log.{NeverFall}
use Rattle.cfi_valid.specs.Replay.{singles_of, singles}
use Rattle.cfi_replay.specs.declared.cursor.Cursor.{Cursor}
use Rattle.cfi_replay.specs.inner.Cursor.{unvoid, HasCounted, HasPassed, IsSettled}
use Rattle.cfi_replay.specs.inner.Follows.{Rises}
use Rattle.cfi_replay.proofs.RestLemmas.{drop_entry, fold_above, get_drop, get_replicate, picks_done, rest_next, unvoid_rises, unvoid_settled, unvoid_singles}

-- what a log has left behind so many of its single entries is what the cursor has
pub record IsLeft (log : List Log) (n : ℕ) (cursor : Cursor) : Type 0 where
  pub within : cursor.at ≤ length log
  pub rest : drop n (singles log) ≡ drop cursor.used (singles (drop cursor.at log))
  pub settled : IsSettled cursor.used (drop cursor.at log)

-- ---- the next of the single entries

-- by what the cursor has
abbrev pub single_of : List Log → Option Log
single_of [] = None
single_of (Pick policy count ∷ later) = Some (Pick policy 1)
single_of (Open number address policy ∷ later) = Some (Open number address policy)
single_of (Cause number cause ∷ later) = Some (Cause number cause)

single_there : (used : ℕ) (left : List Log) → IsSettled used left → slice_get (singles left) used ≡ single_of left
single_there used [] settled = ap (λ (k : ℕ). slice_get (singles []) k) settled
single_there used (Pick policy count ∷ later) settled =
    get_replicate count (Pick policy 1) (singles later) used settled
single_there used (Open number address policy ∷ later) settled =
    ap (λ (k : ℕ). slice_get (singles (Open number address policy ∷ later)) k) settled
single_there used (Cause number cause ∷ later) settled =
    ap (λ (k : ℕ). slice_get (singles (Cause number cause ∷ later)) k) settled

pub next_single : (log : List Log) (n : ℕ) (cursor : Cursor) → IsLeft log n cursor
    → slice_get (singles log) n ≡ single_of (drop cursor.at log)
next_single log n cursor left =
    get_drop (singles log) n
    ∙ ap (λ (xs : List Log). slice_get xs 0) left.rest
    ∙ sym (get_drop (singles (drop cursor.at log)) cursor.used)
    ∙ single_there cursor.used (drop cursor.at log) left.settled

-- by the entry at its place
abbrev pub single_by : Option Log → Option Log
single_by None = None
single_by (Some (Pick policy count)) = Some (Pick policy 1)
single_by (Some (Open number address policy)) = Some (Open number address policy)
single_by (Some (Cause number cause)) = Some (Cause number cause)

single_first : (left : List Log) → single_of left ≡ single_by (slice_get left 0)
single_first [] = refl
single_first (Pick policy count ∷ later) = refl
single_first (Open number address policy ∷ later) = refl
single_first (Cause number cause ∷ later) = refl

pub next_by : (log : List Log) (n : ℕ) (cursor : Cursor) → IsLeft log n cursor
    → slice_get (singles log) n ≡ single_by (slice_get log cursor.at)
next_by log n cursor left =
    next_single log n cursor left
    ∙ single_first (drop cursor.at log)
    ∙ ap single_by (sym (get_drop log cursor.at))

-- ---- an entry is done

module _ (log : List Log) (n : ℕ) (old : Cursor) (entry : Log) (next : slice_get log old.at ≡ Some entry)
    (left : IsLeft log n old) where
  abbrev here : drop old.at log ≡ entry ∷ drop (old.at + 1) log
  here = drop_entry log old.at entry next

  -- its last single entry is taken
  pub passed_left : (mid : Cursor) → HasPassed log old mid
      → drop (old.used + 1) (singles (entry ∷ drop (old.at + 1) log)) ≡ singles (drop (old.at + 1) log)
      → IsLeft log (n + 1) mid
  passed_left mid passed all =
      let behind : List Log = drop (old.at + 1) log in
      let used : mid.used ≡ 0 = ap (λ (x : Cursor). x.used) passed.is in
      let rest = rest_next (singles log) (singles (drop old.at log)) n old.used left.rest in
      record {
        within = passed.within;
        rest = rest
            ∙ ap (λ (xs : List Log). drop (old.used + 1) (singles xs)) here
            ∙ all
            ∙ sym (unvoid_singles behind)
            ∙ ap singles (sym passed.rest)
            ∙ ap (λ (k : ℕ). drop k (singles (drop mid.at log))) (sym used);
        settled = subst (λ (k : ℕ). IsSettled k (drop mid.at log)) (sym used)
            (subst (IsSettled 0) (sym passed.rest) (unvoid_settled behind));
      }

-- an open or a cause is one single entry
pub answered_left : (log : List Log) (n : ℕ) (old : Cursor) (entry : Log) → slice_get log old.at ≡ Some entry
    → IsLeft log n old → old.used ≡ 0 → singles_of entry ≡ entry ∷ [] → (mid : Cursor) → HasPassed log old mid
    → IsLeft log (n + 1) mid
answered_left log n old entry next left used one mid passed =
    let behind : List Log = drop (old.at + 1) log in
    passed_left log n old entry next left mid passed
    (ap (λ (k : ℕ). drop (k + 1) (singles (entry ∷ behind))) used
    ∙ ap (λ (xs : List Log). drop 1 (xs ++ singles behind)) one)

-- a pick of so many is one more
pub counted_left : (log : List Log) (n : ℕ) (old : Cursor) (policy count : ℕ)
    → slice_get log old.at ≡ Some (Pick policy count) → IsLeft log n old → (mid : Cursor)
    → HasCounted log count old mid → IsLeft log (n + 1) mid
counted_left log n old policy count next left mid counted =
    let behind : List Log = drop (old.at + 1) log in
    let here = drop_entry log old.at (Pick policy count) next in
    let few : old.used < count = subst (IsSettled old.used) here left.settled in
    ⊎_elim
    (λ (more : old.used + 1 < count).
    let is : mid ≡ record old { used = old.used + 1 } = counted.more (λ same. absurd (omega (arith, more, same))) in
    let new : IsLeft log (n + 1) (record old { used = old.used + 1 }) = record {
      within = left.within;
      rest = rest_next (singles log) (singles (drop old.at log)) n old.used left.rest;
      settled = subst (IsSettled (old.used + 1)) (sym here) more;
    } in
    subst (IsLeft log (n + 1)) (sym is) new)
    (λ (least : count ≤ old.used + 1).
    let all : old.used + 1 ≡ count = omega (arith, few, least) in
    passed_left log n old (Pick policy count) next left mid (counted.last all)
    (ap (λ (k : ℕ). drop k (singles (Pick policy count ∷ behind))) all ∙ picks_done policy count behind))
    (cases_lt (old.used + 1) count)

-- ---- policies

-- those behind an entry that is done
pub passed_rises : (force : ℕ) (log : List Log) (old : Cursor) (entry : Log) → slice_get log old.at ≡ Some entry
    → Rises force old (drop old.at log) → (mid : Cursor) → HasPassed log old mid → (new : Cursor) → new.at ≡ mid.at
    → new.policy ≡ policy_after old.policy entry → new.given ≤ new.policy → Rises force new (drop new.at log)
passed_rises force log old entry next rises mid passed new at policy given =
    let behind : List Log = drop (old.at + 1) log in
    let here = drop_entry log old.at entry next in
    let falls = subst (NeverFall old.policy) here rises.rises in
    let most : fold policy_after (policy_after old.policy entry) behind ≤ force =
    subst (λ (xs : List Log). fold policy_after old.policy xs ≤ force) here rises.most in
    let still = unvoid_rises (policy_after old.policy entry) behind falls.1 in
    let left : drop new.at log ≡ unvoid behind = ap (λ (k : ℕ). drop k log) at ∙ passed.rest in
    record {
      rises = subst (λ (p : ℕ). NeverFall p (drop new.at log)) (sym policy)
          (subst (NeverFall (policy_after old.policy entry)) (sym left) still.falls);
      most = subst (λ (p : ℕ). fold policy_after p (drop new.at log) ≤ force) (sym policy)
          (subst (λ (xs : List Log). fold policy_after (policy_after old.policy entry) xs ≤ force) (sym left)
          (omega (arith, still.most, most)));
      given = given;
    }

-- those behind one pick more
pub counted_rises : (force : ℕ) (log : List Log) (old : Cursor) (policy count : ℕ)
    → slice_get log old.at ≡ Some (Pick policy count) → IsSettled old.used (drop old.at log)
    → Rises force old (drop old.at log) → (mid : Cursor) → HasCounted log count old mid
    → (new : Cursor) → new.at ≡ mid.at → new.policy ≡ policy → new.given ≡ old.given → Rises force new (drop new.at log)
counted_rises force log old policy count next settled rises mid counted new at policy_is given_is =
    let behind : List Log = drop (old.at + 1) log in
    let here = drop_entry log old.at (Pick policy count) next in
    let falls = subst (NeverFall old.policy) here rises.rises in
    let few : old.used < count = subst (IsSettled old.used) here settled in
    let given : new.given ≤ new.policy = omega (arith, given_is, policy_is, falls.0, rises.given) in
    ⊎_elim
    (λ (more : old.used + 1 < count).
    let is : mid ≡ record old { used = old.used + 1 } = counted.more (λ same. absurd (omega (arith, more, same))) in
    let place : new.at ≡ old.at = at ∙ ap (λ (x : Cursor). x.at) is in
    let left : drop new.at log ≡ Pick policy count ∷ behind = ap (λ (k : ℕ). drop k log) place ∙ here in
    let least : policy ≤ policy = omega arith in
    let same : NeverFall policy (Pick policy count ∷ behind) = (least, falls.1) in
    let most : fold policy_after policy (Pick policy count ∷ behind) ≤ force =
    subst (λ (xs : List Log). fold policy_after old.policy xs ≤ force) here rises.most in
    record {
      rises = subst (λ (p : ℕ). NeverFall p (drop new.at log)) (sym policy_is)
          (subst (NeverFall policy) (sym left) same);
      most = subst (λ (p : ℕ). fold policy_after p (drop new.at log) ≤ force) (sym policy_is)
          (subst (λ (xs : List Log). fold policy_after policy xs ≤ force) (sym left) most);
      given = given;
    })
    (λ (least : count ≤ old.used + 1).
    let all : old.used + 1 ≡ count = omega (arith, few, least) in
    passed_rises force log old (Pick policy count) next rises mid (counted.last all) new at policy_is given)
    (cases_lt (old.used + 1) count)

-- the policy of the next entry
pub next_policy_most : (force : ℕ) (log : List Log) (cursor : Cursor) (entry : Log)
    → slice_get log cursor.at ≡ Some entry → Rises force cursor (drop cursor.at log)
    → (cursor.policy ≤ policy_after cursor.policy entry) × (policy_after cursor.policy entry ≤ force)
next_policy_most force log cursor entry next rises =
    let behind : List Log = drop (cursor.at + 1) log in
    let here = drop_entry log cursor.at entry next in
    let falls = subst (NeverFall cursor.policy) here rises.rises in
    let most : fold policy_after (policy_after cursor.policy entry) behind ≤ force =
    subst (λ (xs : List Log). fold policy_after cursor.policy xs ≤ force) here rises.most in
    (falls.0, omega (arith, most, fold_above (policy_after cursor.policy entry) behind falls.1))
