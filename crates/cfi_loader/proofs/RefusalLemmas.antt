-- A guest's lines of updates that were not admitted are the refusals with its mark.
use Rattle.std.proofs.Common.{◌≡◌, ℕ, ◌+◌, ◌*◌, ◌<◌, ◌≤◌, ◌&&◌, Bool, cond, eqb, List, [], ◌∷◌, length, map, Option, Some, None, refl, sym, ap, ◌∙◌, arith}
use Rattle.std.specs.Prelude.{count_by, filter_map}
use Rattle.std.specs.List.{cons_option}
use Rattle.std.proofs.lemmas.Bool.{ne_eqb}
use Rattle.std.proofs.lemmas.Bool.Decides.{nat_tests}
use Rattle.std.proofs.lemmas.List.Sums.{sum_by-cons}
use Rattle.std.proofs.lemmas.Option.{slice_get_within}
use Rattle.cfi_aux.specs.declared.modules.Module.{Module}
use Rattle.cfi_model.specs.declared.history.Refusal.{Refusal}
use Rattle.cfi_plan.specs.declared.journal.Entry.{Entry}
use Rattle.cfi_plan.specs.declared.journal.JournalLine.{JournalLine}
use Rattle.cfi_plan.specs.declared.journal.JournalLine.TheVariants.{LoadVersions, RefreshVersions, RetireVersions}
use Rattle.cfi_plan.specs.declared.journal.Who.{Who}
use Rattle.cfi_plan.specs.declared.journal.Who.TheVariants.{Script, Guest}
use Rattle.cfi_plan.specs.declared.plan.Plan.{Plan}
use Rattle.cfi_tables.specs.Key.{Key}
use Rattle.cfi_valid.specs.Journal.{JournalState, members_of, LineLeads, EntriesLead}
use Rattle.cfi_valid.specs.Retiring.{IsLiveAt}
use Rattle.cfi_valid.specs.Log.{is_versions}
use Rattle.cfi_valid.specs.Script.{Load}
use Rattle.cfi_word.specs.declared.limits.TheConstants.{GUESTS, MAX_MODULES}
use Rattle.cfi_loader.specs.Ledger.{Ledger, IsLedger}
use Rattle.cfi_loader.specs.Mark.{mark_by, spent_in, spent_of, Spent}
use Rattle.cfi_loader.proofs.NumberLemmas.{AreBelow, line_below, live_loaded, loaded_below, opening_below}

-- ---- one line

-- what a line counts, by the mark that it tells
abbrev counts : (mark : ℕ) → Option Spent → ℕ
counts mark None = 0
counts mark (Some s) = cond (eqb s.mark mark) 1 0

same_marks : (n number a guest : ℕ) → n < 256 → number < 256
    → eqb (n + 256 * (a + 1)) (number + 256 * (guest + 1)) ≡ (eqb a guest && eqb n number)
same_marks n number a guest low low' = grind (arith, nat_tests)

module _ (plan : Plan) (modules : List Module) (few : length modules ≤ MAX_MODULES) (guest number : ℕ)
    (seat : guest < GUESTS) (known : number < MAX_MODULES) where
  abbrev mark : ℕ
  mark = mark_by (Guest guest) (Load number)

  -- the mark of a retirement is below those of guests
  not_retired : (n : ℕ) (old : JournalState) → AreBelow MAX_MODULES old.loaded
      → IsLiveAt old.policy (members_of old) n → ◌≡◌ {A = ℕ} (cond (eqb (128 + n) mark) 1 0) 0
  not_retired n old below live =
      let low = loaded_below MAX_MODULES old.loaded below n (live_loaded old.policy (members_of old) n live) in
      ap (λ (b : Bool). cond b 1 0) (ne_eqb (128 + n) mark (omega (arith, low, known)))

  one_line : (who : Who) (what : JournalLine) (old new : JournalState) → AreBelow MAX_MODULES old.loaded
      → LineLeads plan modules old what new
      → counts mark (spent_in (record { who = who; what = what }))
      ≡ cond (is_versions guest number (record { who = who; what = what })) 1 0
  one_line Script (LoadVersions n late quiet) old new below leads =
      let there = slice_get_within modules n leads.0.absent.unplaced leads.0.absent.is in
      ap (λ (b : Bool). cond b 1 0) (ne_eqb n mark (omega (arith, there, few, known)))
  one_line (Guest a) (LoadVersions n late quiet) old new below leads =
      let there = slice_get_within modules n leads.0.absent.unplaced leads.0.absent.is in
      ap (λ (b : Bool). cond b 1 0)
      (same_marks n number a guest (omega (arith, there, few)) (omega (arith, known)))
  one_line Script (RefreshVersions late quiet) old new below leads =
      ap (λ (b : Bool). cond b 1 0) (ne_eqb 65535 mark (omega (arith, seat, known)))
  one_line (Guest a) (RefreshVersions late quiet) old new below leads =
      ap (λ (b : Bool). cond b 1 0) (ne_eqb 65535 mark (omega (arith, seat, known)))
  one_line Script (RetireVersions n late quiet) old new below leads = not_retired n old below leads.0.live
  one_line (Guest a) (RetireVersions n late quiet) old new below leads = not_retired n old below leads.0.live
  one_line Script what old new below leads = refl
  one_line (Guest a) what old new below leads = refl

  -- ---- all lines

  abbrev has_mark : Spent → Bool
  has_mark s = eqb s.mark mark

  counts_more : (o : Option Spent) (later : List Spent)
      → count_by has_mark (cons_option o later) ≡ counts mark o + count_by has_mark later
  counts_more None later = omega arith
  counts_more (Some s) later = sum_by-cons (λ (x : Spent). cond (has_mark x) 1 0) s later

  all_lines : (old new : JournalState) (journal : List Entry) → AreBelow MAX_MODULES old.loaded
      → EntriesLead plan modules old journal new
      → count_by has_mark (filter_map spent_in journal) ≡ count_by (is_versions guest number) journal
  all_lines old new [] below along = refl
  all_lines old new (entry ∷ journal) below along =
      let first = one_line entry.who entry.what old along.0 below along.1.1 in
      let after = line_below plan modules MAX_MODULES few old along.0 entry.what along.1.1 below in
      let rest = all_lines along.0 new journal after along.2 in
      counts_more (spent_in entry) (filter_map spent_in journal)
      ∙ omega (arith, first, rest, sum_by-cons (λ (e : Entry). cond (is_versions guest number e) 1 0) entry journal)

  of_refusals : (refusals : List Refusal)
      → count_by (λ (r : Refusal). eqb r.mark mark) refusals ≡ count_by has_mark (map spent_of refusals)
  of_refusals [] = refl
  of_refusals (r ∷ refusals) =
      sum_by-cons (λ (x : Refusal). cond (eqb x.mark mark) 1 0) r refusals
      ∙ ap (λ (n : ℕ). cond (eqb r.mark mark) 1 0 + n) (of_refusals refusals)
      ∙ sym (sum_by-cons (λ (x : Spent). cond (has_mark x) 1 0) (spent_of r) (map spent_of refusals))

pub versions_lines : (k : Key) (plan : Plan) (modules : List Module) (l : Ledger) → IsLedger k plan modules l
    → (guest number : ℕ) → guest < GUESTS → number < length plan.modules
    → count_by (λ (r : Refusal). eqb r.mark (mark_by (Guest guest) (Load number))) l.keeping.refusals
    ≡ count_by (is_versions guest number) l.course.journal
versions_lines k plan modules l is guest number seat known =
    let can = is.can_start in
    let few : length l.course.modules ≤ MAX_MODULES = omega (arith, can.count, can.most_modules) in
    let low : number < MAX_MODULES =
    omega (arith, known, ap (λ (p : Plan). length p.modules) is.plan_is, can.most_modules) in
    of_refusals l.course.plan l.course.modules few guest number seat low l.keeping.refusals
    ∙ ap (count_by (λ (s : Spent). eqb s.mark (mark_by (Guest guest) (Load number)))) is.told.refusals
    ∙ all_lines l.course.plan l.course.modules few guest number seat low is.course.opening l.course.end
    l.course.journal
    (opening_below l.course.plan l.course.modules MAX_MODULES few is.course.opening is.course.opens can.most_modules)
    is.course.leads
