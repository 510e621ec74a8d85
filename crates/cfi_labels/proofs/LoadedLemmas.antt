-- What a policy finds loaded of a roster, where policies never fall: the first so many modules.
use Rattle.std.proofs.Common.{◌≡◌, ◌∙◌, ℕ, ◌≤◌, Bool, true, false, cond, List, [], ◌∷◌, length, take, refl, sym, ap, arith}
use Rattle.std.specs.Prelude.{nat_le, filter}
use Rattle.std.proofs.lemmas.List.{take-map}
use Rattle.std.proofs.lemmas.List.Sums.{length-filter, count_by-le-length}
use Rattle.cfi_aux.specs.declared.modules.Module.{Module}
use Rattle.cfi_aux.specs.declared.placed.Placed.{Placed}
use Rattle.cfi_ledger.proofs.PolicyLemmas.{journal_policies}
use Rattle.cfi_ledger.proofs.SuffixLemmas.{first_loaded}
use Rattle.cfi_ledger.specs.Force.{count_by_policy}
use Rattle.cfi_ledger.specs.Plans.{CanStart}
use Rattle.cfi_ledger.specs.Roster.{Roster, loaded_in_roster, loaded_of, origin_of}
use Rattle.cfi_plan.specs.declared.journal.ModuleLine.{ModuleLine}
use Rattle.cfi_plan.specs.declared.plan.Plan.{Plan}
use Rattle.cfi_report.specs.declared.report.Report.{Report}
use Rattle.cfi_valid.proofs.KeptLemmas.{places_are}
use Rattle.cfi_valid.specs.Journal.{JournalState}
use Rattle.cfi_valid.specs.Kept.{module_from}
use Rattle.cfi_valid.specs.Loaded.{LoadedModule, loaded_by, placed_modules}
use Rattle.cfi_valid.specs.Valid.{HasJournal}
use Rattle.cfi_labels.specs.Labels.{ComeInOrder}

-- ---- those of a roster

-- as many as lines have such a policy
lines_by : (policy : ℕ) (lines : List ModuleLine) (placed : List Placed) → length lines ≡ length placed
    → length (filter (λ (line : ModuleLine). nat_le line.policy policy) lines)
    ≡ length (loaded_by policy (loaded_of lines placed))
lines_by policy [] [] many = refl
lines_by policy [] (one ∷ placed) many = absurd (omega (arith, many))
lines_by policy (line ∷ lines) [] many = absurd (omega (arith, many))
lines_by policy (line ∷ lines) (one ∷ placed) many =
    by (nat_le line.policy policy) (lines_by policy lines placed (omega (arith, many)))
  where
    these : List ModuleLine
    these = filter (λ (l : ModuleLine). nat_le l.policy policy) lines

    those : List LoadedModule
    those = loaded_by policy (loaded_of lines placed)

    by : (passes : Bool) → length these ≡ length those
        → length (cond passes (line ∷ these) these) ≡ length (cond passes (module_from (origin_of line) one ∷ those)
        those)
    by true rest = omega (arith, rest)
    by false rest = rest

module _ (r : Roster) (lined : length r.lines ≡ length r.placed) where
  -- the places of all
  pub places_all : placed_modules (loaded_in_roster r) ≡ r.placed
  places_all = places_are origin_of r.lines r.placed lined

  pub count_is : (policy : ℕ) → count_by_policy policy r ≡ length (loaded_by policy (loaded_in_roster r))
  count_is policy = lines_by policy r.lines r.placed lined

  -- no more than there are
  pub count_within : (policy : ℕ) → count_by_policy policy r ≤ length r.placed
  count_within policy =
      let came : ModuleLine → Bool = λ line. nat_le line.policy policy in
      omega (arith, lined, length-filter came r.lines, count_by-le-length came r.lines)

  -- the places of those that a policy finds loaded
  pub places_first : ComeInOrder (loaded_in_roster r) → (policy : ℕ)
      → placed_modules (loaded_by policy (loaded_in_roster r)) ≡ take (count_by_policy policy r) r.placed
  places_first order policy =
      let found : ℕ = length (loaded_by policy (loaded_in_roster r)) in
      ap placed_modules (first_loaded policy (loaded_in_roster r) order)
      ∙ sym (take-map (λ (l : LoadedModule). l.placed) found (loaded_in_roster r))
      ∙ ap (λ (ps : List Placed). take found ps) places_all
      ∙ ap (λ (n : ℕ). take n r.placed) (sym (count_is policy))

-- ---- the journal of a report

pub journal_order : (plan : Plan) (modules : List Module) (report : Report) (end : JournalState)
    → CanStart plan modules → HasJournal plan modules report end → ComeInOrder end.loaded
journal_order plan modules report end can has =
    (journal_policies plan modules report.journal end can.most_starts has.course).rises
