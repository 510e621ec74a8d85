-- What modules meet behind the modules of a policy, beside its live ones.
use Rattle.std.proofs.Common.{◌≡◌, ℕ, ◌+◌, ◌<◌, ◌≤◌, ◌++◌, List, [], ◌∷◌, length, Option, Some, None, sym, subst, ⊎_elim, arith, length-append}
use Rattle.std.specs.List.{slice_get}
use Rattle.std.proofs.lemmas.Bool.{cases_lt}
use Rattle.std.proofs.lemmas.Option.{slice_get_within}
use Rattle.cfi_aux.specs.declared.modules.Module.{Module}
use Rattle.cfi_ledger.specs.Loads.{IsProspect}
use Rattle.cfi_ledger.specs.Roster.{Roster, loaded_in_roster}
use Rattle.cfi_ledger.specs.declared.prospect.Prospect.TheVariants as prospects
use Rattle.cfi_modules.proofs.OrderLemmas.{last, left}
use Rattle.cfi_modules.specs.declared.numbers.FaultNumbers.{FaultNumbers}
use Rattle.cfi_modules.specs.declared.numbers.FaultNumbers.TheVariants.{Place, Verify}
use Rattle.cfi_valid.specs.Journal.{JournalState, live_in, members_of}
use Rattle.cfi_valid.specs.Loaded.{LoadedModule, live_at, loaded_by}
use Rattle.cfi_judge.specs.inner.Rows.{AreRows, IsMeeting, IsRow, LackLast, meeting_of}
use Rattle.cfi_judge.specs.inner.Meets.{HasLive, Meets}
use Rattle.cfi_judge.specs.declared.meeting.Meeting.{Meeting}
use Rattle.cfi_judge.specs.declared.meeting.Meeting.TheVariants.{Again, Gone}
use Rattle.cfi_judge.proofs.MeetingLemmas.{has_fault, has_none, is_listed, unloaded}

-- ---- one module

module _ (r : Roster) (number : ℕ) (modules : List Module) (live : List LoadedModule) (has : HasLive r live) where
  pub met_again : number < length modules → (at : ℕ) → IsProspect r number (prospects.Again at)
      → IsMeeting r.code_words modules (loaded_in_roster r) live number Again
  met_again known at is = (has.stays number at is.0 is.1, is_listed r has.lined number at is.0, known)

  pub met_gone : number < length modules → (at : ℕ) → IsProspect r number (prospects.Retired at)
      → IsMeeting r.code_words modules (loaded_in_roster r) live number Gone
  met_gone known at is = (has.gone number at is.0 is.1, known)

  pub met_open : (m : Module) → slice_get modules number ≡ Some m → IsProspect r number prospects.Open
      → (told : Option FaultNumbers) → Meets r m told
      → IsMeeting r.code_words modules (loaded_in_roster r) live number (meeting_of told)
  met_open m there free (Some (Place fault)) meets =
      has_fault r has.lined number modules live has m there (Place fault)
      (unloaded r has.lined number modules (slice_get_within modules number m there) free) meets
  met_open m there free (Some (Verify fault place)) meets =
      has_fault r has.lined number modules live has m there (Verify fault place)
      (unloaded r has.lined number modules (slice_get_within modules number m there) free) meets
  met_open m there free None meets =
      has_none r has.lined number modules live has m there
      (unloaded r has.lined number modules (slice_get_within modules number m there) free) meets

-- ---- an item more

module _ {X : Type 0} (P : ℕ → X → Type 0) where
  pub each_more : (xs : List X) (x : X) → ((k : ℕ) (y : X) → slice_get xs k ≡ Some y → P k y) → P (length xs) x
      → (k : ℕ) (y : X) → slice_get (xs ++ x ∷ []) k ≡ Some y → P k y
  each_more xs x each new k y is = ⊎_elim
      (λ (less : k < length xs). each k y (left xs (x ∷ []) k y less is))
      (λ (more : length xs ≤ k).
      let longer = length-append xs (x ∷ []) in
      let end : k ≡ length xs = omega (arith, more, longer, slice_get_within (xs ++ x ∷ []) k y is) in
      let same : x ≡ y = last xs x k y end is in
      subst (λ (n : ℕ). P n y) (sym end) (subst (P (length xs)) same new))
      (cases_lt k (length xs))

-- the first modules of the plan have their meetings
pub record IsRowTo (code_words : ℕ) (modules : List Module) (loaded live : List LoadedModule) (number : ℕ)
    (row : List Meeting) : Type 0 where
  pub count : length row ≡ number
  pub each : (k : ℕ) (meeting : Meeting) → slice_get row k ≡ Some meeting
      → IsMeeting code_words modules loaded live k meeting

module _ (code_words : ℕ) (modules : List Module) where
  pub row_more : (loaded live : List LoadedModule) (number : ℕ) (row : List Meeting)
      → IsRowTo code_words modules loaded live number row → (meeting : Meeting)
      → IsMeeting code_words modules loaded live number meeting
      → IsRowTo code_words modules loaded live (number + 1) (row ++ meeting ∷ [])
  row_more loaded live number row to meeting meets = record {
    count = omega (arith, length-append row (meeting ∷ []), to.count);
    each = each_more (IsMeeting code_words modules loaded live) row meeting to.each
        (subst (λ (n : ℕ). IsMeeting code_words modules loaded live n meeting) (sym to.count) meets);
  }

  -- ---- one policy

  module _ (s : JournalState) (rows : List (List Meeting)) (near : LackLast code_words modules s rows) where
    pub rows_whole : s.policy < length rows → AreRows code_words modules s rows
    rows_whole all = record { count = omega (arith, all, near.most); each = near.each }

    pub rows_last : length rows ≤ s.policy → (row : List Meeting)
        → IsRow code_words modules s.loaded (live_in s) row
        → AreRows code_words modules s (rows ++ row ∷ [])
    rows_last some row is =
        let end : length rows ≡ s.policy = omega (arith, some, near.least) in record {
          count = omega (arith, length-append rows (row ∷ []), end);
          each = each_more
              (λ policy one. IsRow code_words modules (loaded_by policy s.loaded) (live_at policy (members_of s)) one)
              rows row near.each
              (subst (λ (n : ℕ). IsRow code_words modules (loaded_by n s.loaded) (live_at n (members_of s)) row)
              (sym end)
              (subst (λ (ls : List LoadedModule). IsRow code_words modules ls (live_in s) row) (sym near.all) is));
        }
