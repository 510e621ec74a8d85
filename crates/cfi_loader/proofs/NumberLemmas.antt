-- Modules by their numbers: one has each, and all have those of the plan.
use Rattle.std.proofs.Common.{◌≡◌, ◌≢◌, ℕ, zero, suc, ◌+◌, ◌≤◌, ◌<◌, ◌++◌, Bool, true, false, List, [], ◌∷◌, length, map, Some, sym, ap, subst, ◌∙◌, ⊎_elim, arith}
use Rattle.std.specs.Prelude.{if◌then◌else◌, filter}
use Rattle.std.specs.List.{AllByRecursion, AllPairs, Contains, slice_get}
use Rattle.std.proofs.lemmas.List.Elements.{All-contains, All-contains_itself, All-filter}
use Rattle.std.proofs.lemmas.Bool.{cases_lt}
use Rattle.std.proofs.lemmas.Option.{get_or_from_slice_get, none-some, same_Some, slice_get_within}
use Rattle.cfi_aux.specs.declared.modules.Module.{Module}
use Rattle.cfi_graph.proofs.BoundLemmas.{at_contains}
use Rattle.cfi_plan.specs.declared.journal.Entry.{Entry}
use Rattle.cfi_plan.specs.declared.journal.JournalLine.{JournalLine}
use Rattle.cfi_plan.specs.declared.plan.Plan.{Plan}
use Rattle.cfi_plan.specs.declared.plan.PlanModule.{PlanModule}
use Rattle.cfi_valid.proofs.LineLemmas.{line_does}
use Rattle.cfi_valid.specs.Journal.{JournalState, starts_from, IsOpeningState, LineLeads, EntriesLead, IsJournal}
use Rattle.cfi_valid.specs.Loaded.{LoadedModule, IsLoaded, Members, is_live}
use Rattle.cfi_valid.specs.Retiring.{IsLiveAt}

-- what is live is loaded
pub live_loaded : (policy : ℕ) (members : Members) (number : ℕ) → IsLiveAt policy members number
    → IsLoaded members.loaded number
live_loaded policy members number live =
    let all : List LoadedModule = members.loaded in
    let passes : LoadedModule → Bool = is_live policy members.retired in
    let there : Contains all live.0 =
    All-contains (Contains all) (filter passes all) live.0
    (All-filter passes (Contains all) all (All-contains_itself all)) live.1 in
    (live.0, there, live.2)

-- ---- one module of a number

-- where no two have one number, a number stands at one place
pub place_once : (loaded : List LoadedModule) → AllPairs (λ (a b : LoadedModule). a.number ≢ b.number) loaded
    → (i j : ℕ) (l m : LoadedModule) → slice_get loaded i ≡ Some l → slice_get loaded j ≡ Some m
    → l.number ≡ m.number → i ≡ j
place_once loaded once i j l m here there same = ⊎_elim
    (λ (less : i < j).
    absurd (once i j l less (slice_get_within loaded j m there)
    (ap (λ (x : LoadedModule). x.number) (get_or_from_slice_get loaded i l l here) ∙ same
    ∙ sym (ap (λ (x : LoadedModule). x.number) (get_or_from_slice_get loaded j m l there)))))
    (λ (more : j ≤ i). ⊎_elim
    (λ (less : j < i).
    absurd (once j i l less (slice_get_within loaded i l here)
    (ap (λ (x : LoadedModule). x.number) (get_or_from_slice_get loaded j m l there) ∙ sym same
    ∙ sym (ap (λ (x : LoadedModule). x.number) (get_or_from_slice_get loaded i l l here)))))
    (λ (least : i ≤ j). omega (arith, more, least))
    (cases_lt j i))
    (cases_lt i j)

-- ---- loaded modules are some of the plan's

-- they have numbers below this one
abbrev pub AreBelow : (bound : ℕ) → List LoadedModule → Type 0
AreBelow bound loaded = AllByRecursion (λ (l : LoadedModule). l.number < bound) loaded

below_push : (bound : ℕ) (loaded : List LoadedModule) (l : LoadedModule) → AreBelow bound loaded → l.number < bound
    → AreBelow bound (loaded ++ l ∷ [])
below_push bound [] l are is = (is, tt)
below_push bound (m ∷ loaded) l are is = (are.0, below_push bound loaded l are.1 is)

below_at : (bound : ℕ) (loaded : List LoadedModule) (at : ℕ) (l : LoadedModule) → slice_get loaded at ≡ Some l
    → AreBelow bound loaded → l.number < bound
below_at bound [] at l is are = absurd (none-some l is)
below_at bound (m ∷ loaded) zero l is are =
    subst (λ (x : LoadedModule). x.number < bound) (same_Some m l is) are.0
below_at bound (m ∷ loaded) (suc at) l is are = below_at bound loaded at l is are.1

pub loaded_below : (bound : ℕ) (loaded : List LoadedModule) → AreBelow bound loaded → (number : ℕ)
    → IsLoaded loaded number → number < bound
loaded_below bound loaded are number has =
    subst (λ (n : ℕ). n < bound) has.2
    (below_at bound loaded has.1.0 has.0 (at_contains loaded has.0 has.1) are)

starts_below : (bound number : ℕ) (ms : List PlanModule) → number + length ms ≤ bound
    → AllByRecursion (λ (n : ℕ). n < bound) (starts_from number ms)
starts_below bound number [] within = tt
starts_below bound number (m ∷ ms) within = by m.start (starts_below bound (number + 1) ms (omega (arith, within)))
  where
    by : (start : Bool) → AllByRecursion (λ (n : ℕ). n < bound) (starts_from (number + 1) ms)
        → AllByRecursion (λ (n : ℕ). n < bound)
        (if start then number ∷ starts_from (number + 1) ms else starts_from (number + 1) ms)
    by true rest = (omega (arith, within), rest)
    by false rest = rest

numbered_below : (bound : ℕ) (loaded : List LoadedModule)
    → AllByRecursion (λ (n : ℕ). n < bound) (map (λ (l : LoadedModule). l.number) loaded) → AreBelow bound loaded
numbered_below bound [] are = tt
numbered_below bound (l ∷ loaded) are = (are.0, numbered_below bound loaded are.1)

module _ (plan : Plan) (modules : List Module) (bound : ℕ) (few : length modules ≤ bound) where
  pub opening_below : (s : JournalState) → IsOpeningState plan modules s → length plan.modules ≤ bound
      → AreBelow bound s.loaded
  opening_below s opens few_lines =
      numbered_below bound s.loaded
      (subst (λ (ns : List ℕ). AllByRecursion (λ (n : ℕ). n < bound) ns) (sym opens.starts)
      (starts_below bound 0 plan.modules (omega (arith, few_lines))))

  pub line_below : (old new : JournalState) (line : JournalLine) → LineLeads plan modules old line new
      → AreBelow bound old.loaded → AreBelow bound new.loaded
  line_below old new line leads are =
      line_does plan modules old (λ more gone s. AreBelow bound s.loaded) are
      (λ number epoch policy load.
      let one : LoadedModule = record { number = number; placed = load.clean.placed; policy = policy } in
      let within = slice_get_within modules number load.clean.absent.unplaced load.clean.absent.is in
      below_push bound old.loaded one are (omega (arith, within, few)))
      (λ number epoch policy retire. are) (λ epoch goes. are) line new leads

  along_below : (old new : JournalState) (entries : List Entry) → EntriesLead plan modules old entries new
      → AreBelow bound old.loaded → AreBelow bound new.loaded
  along_below old new [] along are = subst (λ (s : JournalState). AreBelow bound s.loaded) (sym along) are
  along_below old new (entry ∷ entries) along are =
      along_below along.0 new entries along.2 (line_below old along.0 entry.what along.1.1 are)

  -- so it is where a journal leads
  pub journal_below : (journal : List Entry) (end : JournalState) → IsJournal plan modules journal end
      → length plan.modules ≤ bound → AreBelow bound end.loaded
  journal_below journal end is few_lines =
      along_below is.opening end journal is.leads (opening_below is.opening is.opens few_lines)
