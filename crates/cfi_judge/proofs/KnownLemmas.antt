-- The modules to which a journal leads are those of the plan, so that one that was retired has a meeting.
use Rattle.std.proofs.Common.{◌≡◌, ℕ, ◌<◌, Bool, List, [], length, map, Some, refl, subst, arith}
use Rattle.std.specs.Prelude.{◌↔◌, IsTrue, nat_le}
use Rattle.std.specs.List.{slice_get}
use Rattle.std.proofs.lemmas.List.{length-map}
use Rattle.std.proofs.lemmas.Option.{slice_get_within}
use Rattle.cfi_aux.specs.declared.modules.Module.{Module}
use Rattle.cfi_graph.proofs.BoundLemmas.{at_contains, contains_at}
use Rattle.cfi_report.specs.declared.report.Report.{Report}
use Rattle.cfi_unit.specs.declared.log.Log.{Log}
use Rattle.cfi_valid.proofs.ModulesLemmas.{journal_modules}
use Rattle.cfi_valid.specs.Course.{Course, IsCourse}
use Rattle.cfi_valid.specs.Journal.{modules_at}
use Rattle.cfi_valid.specs.Loaded.{LoadedModule, IsLoaded, loaded_by, module_line_of}
use Rattle.cfi_valid.specs.Log.{HoldsInSpan}
use Rattle.cfi_valid.specs.Modules.{ArePlaced, number_of}
use Rattle.cfi_valid.specs.Retiring.{HasGone}
use Rattle.cfi_judge.specs.declared.meeting.Kind.TheVariants.{Gone}
use Rattle.cfi_judge.specs.inner.Rows.{IsOfKind}
use Rattle.cfi_judge.proofs.ListLemmas.{each_there, map_at}
use Rattle.cfi_judge.proofs.LogLemmas.{passed}

-- each of some modules that are placed is one of the plan
pub placed_known : (code_words starts : ℕ) (modules : List Module) (gone : List (List ℕ)) (loaded : List LoadedModule)
    → ArePlaced code_words starts (modules_at modules (map number_of loaded)) gone loaded → (k : ℕ) (l : LoadedModule)
    → slice_get loaded k ≡ Some l → (m : Module) × (slice_get modules l.number ≡ Some m)
placed_known code_words starts modules gone loaded places k l is =
    let whole : length (modules_at modules (map number_of loaded)) ≡ length (map number_of loaded) =
    omega (arith, places.count, length-map loaded number_of) in
    let there = each_there (slice_get modules) (map number_of loaded) whole k l.number
    (map_at number_of loaded k l is) in
    (there.0, there.1)

module _ (c : Course) (is : IsCourse c) where
  abbrev told : Report
  told = record {
    epoch = 0;
    policy = 0;
    modules = map (module_line_of c.plan.modules) c.end.loaded;
    journal = c.journal;
    guests = [];
  }

  known : (number : ℕ) → IsLoaded c.end.loaded number → number < length c.modules
  known number has =
      let all = journal_modules c.plan c.modules told c.end is refl in
      let one = placed_known _ _ c.modules _ c.end.loaded all.places has.1.0 has.0
      (at_contains c.end.loaded has.0 has.1) in
      subst (λ (n : ℕ). n < length c.modules) has.2 (slice_get_within c.modules has.0.number one.0 one.1)

  found_known : (policy number : ℕ) → IsLoaded (loaded_by policy c.end.loaded) number → number < length c.modules
  found_known policy number has =
      let there = passed (λ (l : LoadedModule). nat_le l.policy policy) c.end.loaded has.0 has.1.0
      (at_contains (loaded_by policy c.end.loaded) has.0 has.1) in
      known number (has.0, contains_at c.end.loaded there.0 has.0 there.1, has.2)

  -- so one that was retired is told by a row
  pub gone_told : (log : List Log) (at number : ℕ) (answer : Bool)
      → (IsTrue answer
      ↔ HoldsInSpan c log at (λ loaded live. IsOfKind c.plan.code_words c.modules loaded live number Gone))
      → IsTrue answer ↔ HoldsInSpan c log at (λ loaded live. HasGone loaded live number)
  gone_told log at number answer exact = (
    λ yes.
        let meets = exact.0 yes in
        (meets.0, meets.1, meets.2.0),
    λ gone. exact.1 (gone.0, gone.1, (gone.2, found_known gone.0 number gone.2.has)),
  )
