-- Two ledgers of one plan, where the history of one is a beginning of the other's: its journal leads on to the other's
-- state, by the updates that were made since.
use Rattle.std.proofs.Common.{◌≡◌, ◌≤◌, ◌<◌, ◌&&◌, ◌==◌, ℕ, Bool, true, false, cond, List, [], ◌∷◌, ◌++◌, map, length, refl, sym, ap, subst, ◌∙◌, arith}
use Rattle.std.specs.Prelude.{count_by, filter}
use Rattle.std.specs.List.{AllByRecursion}
use Rattle.std.proofs.lemmas.Bool.{ne_eqb}
use Rattle.std.proofs.lemmas.List.{map-append}
use Rattle.std.proofs.lemmas.List.Sums.{sum_by-cons}
use Rattle.std.proofs.lemmas.Option.{slice_get_within}
use mathlib.Core.List.{IsPrefix}
use Rattle.cfi_aux.specs.declared.modules.Module.{Module}
use Rattle.cfi_plan.specs.declared.journal.Entry.{Entry}
use Rattle.cfi_plan.specs.declared.journal.JournalLine.{JournalLine}
use Rattle.cfi_plan.specs.declared.journal.JournalLine.TheVariants.{LoadOk, LoadAgain, LoadFull, LoadPlace, LoadVerify, LoadVersions, LoadEpochs, LoadRetired, RefreshOk, RefreshVersions, RefreshEpochs, RetireOk, RetireNotLive, RetireInUse, RetireVersions, RetireEpochs}
use Rattle.cfi_plan.specs.declared.journal.Who.{Who}
use Rattle.cfi_plan.specs.declared.journal.Who.TheVariants.{Script, Guest}
use Rattle.cfi_plan.specs.declared.plan.Plan.{Plan}
use Rattle.cfi_loader.specs.Ledger.{Ledger, IsLedger}
use Rattle.cfi_loader.specs.Mark.{is_made, made_marks, mark_by, mark_of}
use Rattle.cfi_ledger.specs.Plans.{CanStart}
use Rattle.cfi_model.specs.declared.history.Entry.{Entry as TableEntry}
use Rattle.cfi_tables.specs.Key.{Key}
use Rattle.cfi_loader.proofs.NumberLemmas.{AreBelow, line_below, live_loaded, loaded_below, opening_below}
use Rattle.cfi_valid.specs.Retiring.{IsLiveAt}
use Rattle.cfi_valid.specs.Journal.{JournalState, members_of, IsJournal, EntriesLead, LineLeads, MayAsk}
use Rattle.cfi_valid.specs.Log.{is_versions, tells_versions}
use Rattle.cfi_valid.specs.Script.{Load, Refresh, Retire, call_of}
use Rattle.cfi_valid.proofs.JournalLemmas.{leads_once, opening_once}
use Rattle.cfi_word.specs.declared.limits.TheConstants.{MAX_MODULES}

-- ---- lines of updates

abbrev updates : List Entry → List Entry
updates journal = filter (λ (e : Entry). is_made e.what) journal

abbrev pub AreUpdates : List Entry → Type 0
AreUpdates lines = AllByRecursion (λ (e : Entry). is_made e.what ≡ true) lines

all_updates : (journal : List Entry) → AreUpdates (updates journal)
all_updates [] = tt
all_updates (entry ∷ journal) = by_case (is_made entry.what) refl (all_updates journal)
  where
    by_case : (b : Bool) → is_made entry.what ≡ b → AreUpdates (updates journal)
        → AreUpdates (cond b (entry ∷ updates journal) (updates journal))
    by_case true is rest = (is, rest)
    by_case false is rest = rest

-- a line of an update tells of no version that was spent
not_told : (guest number : ℕ) (who : Who) (line : JournalLine) → is_made line ≡ true
    → tells_versions guest number who line ≡ false
not_told guest number Script line made = refl
not_told guest number (Guest asking) (LoadOk n epoch policy) made = refl
not_told guest number (Guest asking) (LoadAgain n policy) made = refl
not_told guest number (Guest asking) (LoadFull n) made = refl
not_told guest number (Guest asking) (LoadPlace n fault) made = refl
not_told guest number (Guest asking) (LoadVerify n fault place) made = refl
not_told guest number (Guest asking) (LoadVersions n late quiet) made = absurd (cc)
not_told guest number (Guest asking) (LoadEpochs n) made = refl
not_told guest number (Guest asking) (LoadRetired n) made = refl
not_told guest number (Guest asking) (RefreshOk epoch) made = refl
not_told guest number (Guest asking) (RefreshVersions late quiet) made = refl
not_told guest number (Guest asking) RefreshEpochs made = refl
not_told guest number (Guest asking) (RetireOk n epoch policy) made = refl
not_told guest number (Guest asking) (RetireNotLive n) made = refl
not_told guest number (Guest asking) (RetireInUse n user) made = refl
not_told guest number (Guest asking) (RetireVersions n late quiet) made = refl
not_told guest number (Guest asking) (RetireEpochs n) made = refl

pub none_told : (guest number : ℕ) (lines : List Entry) → AreUpdates lines
    → count_by (is_versions guest number) lines ≡ 0
none_told guest number [] all = refl
none_told guest number (entry ∷ lines) all =
    let rest = none_told guest number lines all.1 in
    let one = ap {B = ℕ} (λ (b : Bool). cond b 1 0) (not_told guest number entry.who entry.what all.0) in
    omega (arith, one, rest, sum_by-cons (λ (e : Entry). cond (is_versions guest number e) 1 0) entry lines)

module _ (plan : Plan) (modules : List Module) (can : CanStart plan modules) where
  -- ---- they lead as the journal does

  still : (old new : JournalState) (line : JournalLine) → LineLeads plan modules old line new
      → is_made line ≡ false → new ≡ old
  still old new (LoadOk number epoch policy) leads made = absurd (cc)
  still old new (LoadAgain number policy) leads made = leads.1
  still old new (LoadFull number) leads made = leads.1
  still old new (LoadPlace number fault) leads made = leads.1
  still old new (LoadVerify number fault place) leads made = leads.1
  still old new (LoadVersions number guest quiet) leads made = leads.2
  still old new (LoadEpochs number) leads made = leads.2
  still old new (LoadRetired number) leads made = leads.1
  still old new (RefreshOk epoch) leads made = absurd (cc)
  still old new (RefreshVersions guest quiet) leads made = leads.1
  still old new RefreshEpochs leads made = leads.1
  still old new (RetireOk number epoch policy) leads made = absurd (cc)
  still old new (RetireNotLive number) leads made = leads.1
  still old new (RetireInUse number user) leads made = leads.1
  still old new (RetireVersions number guest quiet) leads made = leads.2
  still old new (RetireEpochs number) leads made = leads.2

  updates_lead : (journal : List Entry) (old new : JournalState) → EntriesLead plan modules old journal new
      → EntriesLead plan modules old (updates journal) new
  updates_lead [] old new along = along
  updates_lead (entry ∷ journal) old new along =
      by_case (is_made entry.what) refl (updates_lead journal along.0 new along.2)
    where
      by_case : (b : Bool) → is_made entry.what ≡ b → EntriesLead plan modules along.0 (updates journal) new
          → EntriesLead plan modules old (cond b (entry ∷ updates journal) (updates journal)) new
      by_case true is rest = (along.0, along.1, rest)
      by_case false is rest =
          subst (λ (s : JournalState). EntriesLead plan modules s (updates journal) new)
          (still old along.0 entry.what along.1.1 is) rest

  -- ---- a mark tells an update

  few_modules : length modules ≤ MAX_MODULES
  few_modules = omega (arith, can.count, can.most_modules)

  one_number : (n m : ℕ) (who other : Who) → n < 256 → m < 256 → mark_by who (Load n) ≡ mark_by other (Load m) → n ≡ m
  one_number n m Script Script low low' same = same
  one_number n m Script (Guest b) low low' same = absurd (omega (arith, low, same))
  one_number n m (Guest a) Script low low' same = absurd (omega (arith, low', same))
  one_number n m (Guest a) (Guest b) low low' same = omega (arith, low, low', same)

  no_refresh : (n : ℕ) (who other : Who) (line : JournalLine) → n < 256 → MayAsk plan who line
      → mark_by who (Load n) ≡ mark_by other Refresh → ⊥
  no_refresh n Script other line low may same = omega (arith, low, same)
  no_refresh n (Guest a) other line low may same = omega (arith, low, may.0, can.most_guests, same)

  -- that of a retirement lies between those of the script's loads and those of a guest's
  no_load : (n m : ℕ) (who other : Who) → n < MAX_MODULES → m < MAX_MODULES
      → mark_by who (Load n) ≡ mark_by other (Retire m) → ⊥
  no_load n m Script other low low' same = omega (arith, low, same)
  no_load n m (Guest a) other low low' same = omega (arith, low', same)

  no_retirement : (n : ℕ) (who other : Who) → n < MAX_MODULES → mark_by who (Retire n) ≡ mark_by other Refresh → ⊥
  no_retirement n who other low same = omega (arith, low, same)

  -- a live module is one of the plan
  live_low : (old : JournalState) → AreBelow MAX_MODULES old.loaded → (number : ℕ)
      → IsLiveAt old.policy (members_of old) number → number < MAX_MODULES
  live_low old below number live =
      loaded_below MAX_MODULES old.loaded below number (live_loaded old.policy (members_of old) number live)

  -- one line leads to one state, whoever asked
  one_line : (old a b : JournalState) (who other : Who) (line : JournalLine) → MayAsk plan who line
      → LineLeads plan modules old line a → LineLeads plan modules old line b → a ≡ b
  one_line old a b who other line may p q =
      leads_once plan modules old (record { who = who; what = line }) a b (may, p) (may, q)

  one_mark : (old a b : JournalState) → AreBelow MAX_MODULES old.loaded → (who other : Who) (x y : JournalLine)
      → is_made x ≡ true → is_made y ≡ true
      → mark_by who (call_of x) ≡ mark_by other (call_of y) → MayAsk plan who x → MayAsk plan other y
      → LineLeads plan modules old x a → LineLeads plan modules old y b → a ≡ b
  one_mark old a b below who other (LoadOk n epoch policy) (LoadOk m next other_policy) made made' same may may' p q =
      let there = slice_get_within modules n p.0.clean.absent.unplaced p.0.clean.absent.is in
      let there' = slice_get_within modules m q.0.clean.absent.unplaced q.0.clean.absent.is in
      let number : n ≡ m = one_number n m who other (omega (arith, there, few_modules))
      (omega (arith, there', few_modules)) same in
      let epochs : epoch ≡ next = p.0.goes.next ∙ sym q.0.goes.next in
      let policies : policy ≡ other_policy = p.0.next ∙ sym q.0.next in
      let lines : LoadOk m next other_policy ≡ LoadOk n epoch policy = cc in
      one_line old a b who other (LoadOk n epoch policy) may p
      (subst (λ (line : JournalLine). LineLeads plan modules old line b) lines q)
  one_mark old a b below who other (LoadOk n epoch policy) (RefreshOk next) made made' same may may' p q =
      let there = slice_get_within modules n p.0.clean.absent.unplaced p.0.clean.absent.is in
      absurd (no_refresh n who other (LoadOk n epoch policy) (omega (arith, there, few_modules)) may same)
  one_mark old a b below who other (RefreshOk epoch) (LoadOk m next policy) made made' same may may' p q =
      let there = slice_get_within modules m q.0.clean.absent.unplaced q.0.clean.absent.is in
      absurd (no_refresh m other who (LoadOk m next policy) (omega (arith, there, few_modules)) may' (sym same))
  one_mark old a b below who other (RefreshOk epoch) (RefreshOk next) made made' same may may' p q =
      let epochs : epoch ≡ next = p.0.next ∙ sym q.0.next in
      p.1 ∙ (ap (λ (n : ℕ). record old { epoch = n }) epochs ∙ sym q.1)
  one_mark old a b below who other (RetireOk n epoch policy) (RetireOk m next other_policy) made made' same may may' p q =
      let number : n ≡ m = omega (arith, same) in
      let epochs : epoch ≡ next = p.0.goes.next ∙ sym q.0.goes.next in
      let policies : policy ≡ other_policy = p.0.next ∙ sym q.0.next in
      let lines : RetireOk m next other_policy ≡ RetireOk n epoch policy = cc in
      one_line old a b who other (RetireOk n epoch policy) may p
      (subst (λ (line : JournalLine). LineLeads plan modules old line b) lines q)
  one_mark old a b below who other (RetireOk n epoch policy) (LoadOk m next other_policy) made made' same may may' p q =
      let there = slice_get_within modules m q.0.clean.absent.unplaced q.0.clean.absent.is in
      absurd (no_load m n other who (omega (arith, there, few_modules)) (live_low old below n p.0.unused.live) (sym same))
  one_mark old a b below who other (LoadOk n epoch policy) (RetireOk m next other_policy) made made' same may may' p q =
      let there = slice_get_within modules n p.0.clean.absent.unplaced p.0.clean.absent.is in
      absurd (no_load n m who other (omega (arith, there, few_modules)) (live_low old below m q.0.unused.live) same)
  one_mark old a b below who other (RetireOk n epoch policy) (RefreshOk next) made made' same may may' p q =
      absurd (no_retirement n who other (live_low old below n p.0.unused.live) same)
  one_mark old a b below who other (RefreshOk epoch) (RetireOk m next policy) made made' same may may' p q =
      absurd (no_retirement m other who (live_low old below m q.0.unused.live) (sym same))
  one_mark old a b below who other x y made made' same may may' p q = absurd (cc)

  -- ---- one history is a beginning of the other

  -- the updates that were made since lead on
  pub record LeadsOn (from to : JournalState) : Type 0 where
    pub lines : List Entry
    pub updates : AreUpdates lines
    pub leads : EntriesLead plan modules from lines to

  lead_on : (xs ys : List Entry) (old a b : JournalState) (more : List ℕ) → AreBelow MAX_MODULES old.loaded
      → AreUpdates xs → AreUpdates ys
      → map mark_of xs ++ more ≡ map mark_of ys → EntriesLead plan modules old xs a → EntriesLead plan modules old ys b
      → LeadsOn a b
  lead_on [] ys old a b more below all all' same p q = record {
    lines = ys;
    updates = all';
    leads = subst (λ (s : JournalState). EntriesLead plan modules s ys b) (sym p) q;
  }
  lead_on (x ∷ xs) [] old a b more below all all' same p q = absurd (cc)
  lead_on (x ∷ xs) (y ∷ ys) old a b more below all all' same p q =
      let first : mark_of x ≡ mark_of y = cc in
      let rest : map mark_of xs ++ more ≡ map mark_of ys = cc in
      let mid : p.0 ≡ q.0 =
      one_mark old p.0 q.0 below x.who y.who x.what y.what all.0 all'.0 first p.1.0 q.1.0 p.1.1 q.1.1 in
      let after = line_below plan modules MAX_MODULES few_modules old q.0 y.what q.1.1 below in
      lead_on xs ys q.0 a b more after all.1 all'.1 rest
      (subst (λ (s : JournalState). EntriesLead plan modules s xs a) mid p.2) q.2

  -- ---- no line tells of a module that the plan lacks

  unplanned_line : (guest number : ℕ) (who : Who) (line : JournalLine) (old new : JournalState)
      → length modules ≤ number → LineLeads plan modules old line new → tells_versions guest number who line ≡ false
  unplanned_line guest number Script line old new past leads = refl
  unplanned_line guest number (Guest asking) (LoadVersions n late quiet) old new past leads =
      let there = slice_get_within modules n leads.0.absent.unplaced leads.0.absent.is in
      and_false (asking == guest) (n == number) (ne_eqb n number (omega (arith, there, past)))
    where
      and_false : (a b : Bool) → b ≡ false → (a && b) ≡ false
      and_false true b is = is
      and_false false b is = refl
  unplanned_line guest number (Guest asking) line old new past leads = refl

  pub none_unplanned : (guest number : ℕ) → length modules ≤ number → (journal : List Entry) (old new : JournalState)
      → EntriesLead plan modules old journal new → count_by (is_versions guest number) journal ≡ 0
  none_unplanned guest number past [] old new along = refl
  none_unplanned guest number past (entry ∷ journal) old new along =
      let rest = none_unplanned guest number past journal along.0 new along.2 in
      let one = ap {B = ℕ} (λ (b : Bool). cond b 1 0)
      (unplanned_line guest number entry.who entry.what old along.0 past along.1.1) in
      omega (arith, one, rest, sum_by-cons (λ (e : Entry). cond (is_versions guest number e) 1 0) entry journal)

module _ (k : Key) (plan : Plan) (modules : List Module) (l m : Ledger) (is : IsLedger k plan modules l)
    (later : IsLedger k plan modules m) (begins : IsPrefix l.keeping.entries m.keeping.entries) where
  abbrev mark_in : TableEntry → ℕ
  mark_in e = e.mark

  marks_begin : made_marks l.course.journal ++ map mark_in begins.0 ≡ made_marks m.course.journal
  marks_begin =
      let all : map mark_in (l.keeping.entries ++ begins.0) ≡ map mark_in m.keeping.entries =
      ap (map mark_in) begins.1 in
      let two : map mark_in (l.keeping.entries ++ begins.0) ≡ map mark_in l.keeping.entries ++ map mark_in begins.0 =
      map-append mark_in l.keeping.entries begins.0 in
      let one : map mark_in l.keeping.entries ≡ 0 ∷ made_marks l.course.journal = is.told.marks in
      let other : map mark_in m.keeping.entries ≡ 0 ∷ made_marks m.course.journal = later.told.marks in
      tail (sym (two ∙ ap (λ (ns : List ℕ). ns ++ map mark_in begins.0) one) ∙ (all ∙ other))
    where
      tail : {a b : List ℕ} → 0 ∷ a ≡ 0 ∷ b → a ≡ b
      tail same = cc

  same_plan : m.course.plan ≡ l.course.plan
  same_plan = later.plan_is ∙ sym is.plan_is

  same_modules : m.course.modules ≡ l.course.modules
  same_modules = later.modules_are ∙ sym is.modules_are

  pub leads_on : LeadsOn l.course.plan l.course.modules is.can_start l.course.end m.course.end
  leads_on =
      let plan' = l.course.plan in
      let modules' = l.course.modules in
      let opens = subst (λ (z : Plan × List Module). IsJournal z.0 z.1 m.course.journal m.course.end)
      (λ i. (same_plan i, same_modules i)) later.course in
      let opening = opening_once plan' modules' opens.opening is.course.opening opens.opens is.course.opens in
      lead_on plan' modules' is.can_start (updates l.course.journal) (updates m.course.journal) is.course.opening
      l.course.end m.course.end (map mark_in begins.0)
      (opening_below plan' modules' MAX_MODULES (few_modules plan' modules' is.can_start) is.course.opening
      is.course.opens is.can_start.most_modules) (all_updates l.course.journal) (all_updates m.course.journal)
      marks_begin
      (updates_lead plan' modules' is.can_start l.course.journal is.course.opening l.course.end is.course.leads)
      (updates_lead plan' modules' is.can_start m.course.journal is.course.opening m.course.end
      (subst (λ (s : JournalState). EntriesLead plan' modules' s m.course.journal m.course.end) opening opens.leads))
