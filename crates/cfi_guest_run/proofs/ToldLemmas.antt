-- What a guest has logged fits each later ledger.
use Rattle.std.proofs.Common.{◌≤◌, ◌<◌, ℕ, List, ◌++◌, length, refl, sym, ap, subst, ◌∙◌, arith, inl, inr}
use Rattle.std.specs.Prelude.{count_by, cond, ◌==◌}
use Rattle.std.proofs.lemmas.Bool.{cases_lt}
use Rattle.std.proofs.lemmas.List.Sums.{sum_by-append}
use mathlib.Core.List.{IsPrefix}
use Rattle.cfi_aux.specs.declared.modules.Module.{Module}
use Rattle.cfi_model.specs.declared.history.Refusal.{Refusal}
use Rattle.cfi_plan.specs.declared.journal.Entry.{Entry}
use Rattle.cfi_plan.specs.declared.journal.Who.TheVariants.{Guest}
use Rattle.cfi_plan.specs.declared.plan.Plan.{Plan}
use Rattle.cfi_runner.specs.Seen.{policy_seen}
use Rattle.cfi_loader.specs.Ledger.{Ledger, IsLedger}
use Rattle.cfi_loader.specs.Mark.{mark_by}
use Rattle.cfi_loader.proofs.RefusalLemmas.{versions_lines}
use Rattle.cfi_tables.specs.Key.{Key}
use Rattle.cfi_tables.specs.declared.view.Sight.{Sight}
use Rattle.cfi_unit.specs.declared.log.Log.{Log}
use Rattle.cfi_valid.specs.Course.{Course}
use Rattle.cfi_valid.specs.Growth.{Continues, IsLater}
use Rattle.cfi_valid.specs.Log.{IsLogged, is_versions}
use Rattle.cfi_valid.specs.Script.{Load}
use Rattle.cfi_valid.proofs.GrowthLemmas.{along_later}
use Rattle.cfi_word.specs.declared.limits.TheConstants.{GUESTS}
use Rattle.cfi_guest_run.specs.Settled.{FitsSettled}
use Rattle.cfi_guest_run.proofs.LedgerLemmas.{leads_on, none_told, none_unplanned}
use Rattle.cfi_guest_run.proofs.TellingLemmas.{logs_between, logged_as}

module _ (k : Key) (plan : Plan) (modules : List Module) (l m : Ledger) (is : IsLedger k plan modules l)
    (later : IsLedger k plan modules m) (begins : IsPrefix l.keeping.entries m.keeping.entries)
    (refused : IsPrefix l.keeping.refusals m.keeping.refusals) where
  abbrev lines : List Entry
  lines = (leads_on k plan modules l m is later begins).lines

  -- the state is a later one
  pub ends_later : IsLater l.course.end m.course.end
  ends_later =
      along_later l.course.plan l.course.modules l.course.end m.course.end lines
      (leads_on k plan modules l m is later begins).leads

  module _ (guest : ℕ) (seat : guest < GUESTS) where
    marked_most : (mark : ℕ)
        → count_by (λ (r : Refusal). r.mark == mark) l.keeping.refusals
        ≤ count_by (λ (r : Refusal). r.mark == mark) m.keeping.refusals
    marked_most mark =
        let one : Refusal → ℕ = λ r. cond (r.mark == mark) 1 0 in
        let sum = sum_by-append one l.keeping.refusals refused.0 in
        let same = ap (count_by (λ (r : Refusal). r.mark == mark)) refused.1 in
        omega (arith, sum, same)

    -- the journal tells of as many versions that were spent
    as_many : (number : ℕ)
        → count_by (is_versions guest number) l.course.journal ≤ count_by (is_versions guest number) m.course.journal
    as_many number = elim (cases_lt number (length plan.modules)) [
      | inl known ↦
          let one = versions_lines k plan modules l is guest number seat known in
          let other = versions_lines k plan modules m later guest number seat known in
          let most = marked_most (mark_by (Guest guest) (Load number)) in
          omega (arith, one, other, most)
      | inr past ↦
          let count = is.can_start.count in
          let same = ap (λ (p : Plan). length p.modules) is.plan_is in
          let none = none_unplanned l.course.plan l.course.modules is.can_start guest number
          (omega (arith, past, count, same)) l.course.journal is.course.opening l.course.end is.course.leads in
          omega (arith, none)
    ]

    abbrev grown : Course
    grown = record {
      plan = l.course.plan;
      modules = l.course.modules;
      journal = l.course.journal ++ lines;
      end = m.course.end;
    }

    goes : Continues l.course grown
    goes = record {
      plan = refl;
      modules = refl;
      more = lines;
      journal = refl;
      leads = (leads_on k plan modules l m is later begins).leads;
    }

    as_many_grown : (number : ℕ)
        → count_by (is_versions guest number) (l.course.journal ++ lines)
        ≤ count_by (is_versions guest number) m.course.journal
    as_many_grown number =
        let one : Entry → ℕ = λ e. cond (is_versions guest number e) 1 0 in
        let sum = sum_by-append one l.course.journal lines in
        let none = none_told guest number lines (leads_on k plan modules l m is later begins).updates in
        omega (arith, sum, none, as_many number)

    pub logged_later : (s : Sight) (log : List Log) → FitsSettled k s guest l log
        → policy_seen k s ≤ m.course.end.policy → IsLogged m.course guest log
    logged_later s log fits most =
        let grown_fits = logs_between fits.more l.course grown goes guest l.course.end.policy (policy_seen k s)
        fits.told (omega arith) most fits.between fits.logged in
        let told_fits = logged_as grown m.course.journal guest log as_many_grown
        (subst (IsLogged grown guest) (sym fits.is) grown_fits) in
        subst (λ (z : Plan × List Module). IsLogged
        (record { plan = z.0; modules = z.1; journal = m.course.journal; end = m.course.end }) guest log)
        (λ i. (sym (later.plan_is ∙ sym is.plan_is) i, sym (later.modules_are ∙ sym is.modules_are) i)) told_fits
