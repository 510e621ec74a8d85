-- What the EPOCH store of an update makes of the agreement of the tables with the journal.
use Rattle.std.proofs.lemmas.List.{append-nil, map-append}
use Rattle.std.proofs.lemmas.Option.{slice_get_within}
use Rattle.std.proofs.lemmas.Bool.{cases_lt}
use Rattle.std.specs.List.{AllByRecursion, slice_get}
use Rattle.std.proofs.Common.{◌≡◌, ◌≢◌, ℕ, ◌+◌, ◌≤◌, ◌++◌, List, [], ◌∷◌, length, length-append, Some, None, refl, sym, ◌∙◌, ap, subst, arith, inl, inr}
use Rattle.cfi_modules.specs.Series.{IsSeries}
use Rattle.cfi_ledger.specs.Policies.{IsPolicyOf}
use Rattle.cfi_sim.specs.Agrees.{NumbersAreApart, IsEntryFor, coming, HasComingEntry, TablesAgree}
use Rattle.cfi_valid.proofs.GrowthLemmas.{both_stay, loaded_stays}
use Rattle.cfi_valid.proofs.JournalLemmas.{clean_once}
use Rattle.cfi_model.specs.Tables.{IsTables}
use Rattle.cfi_modules.specs.Loaded.{AreLoaded, IsLoadedImage}
use Rattle.cfi_model.specs.InForce.{in_force}
use Rattle.cfi_sim.proofs.journal.ComingLemmas.{idle_comes, storing_comes, low_more, policy_of_all}
use Rattle.cfi_valid.specs.Growth.{IsLater}
use Rattle.cfi_policy.specs.Image.{IsImage}
use Rattle.cfi_modules.proofs.GraphLemmas.{are_loaded}
use Rattle.cfi_aux.specs.declared.modules.Module.{Module}
use Rattle.cfi_sim.specs.declared.aim.Aim.{Aim}
use Rattle.cfi_sim.specs.declared.aim.Aim.TheVariants.{Loading, Refreshing}
use Rattle.cfi_valid.specs.Loaded.{LoadedModule, placed_modules, loaded_by, live_at, IsLoaded}
use Rattle.cfi_plan.specs.declared.plan.Plan.{Plan}
use Rattle.cfi_model.proofs.InForceLemmas.{force_within, later_rises}
use Rattle.cfi_valid.specs.Journal.{JournalState, IsClean, with_loaded, members_of}
use Rattle.cfi_model.specs.declared.history.Entry.{Entry}
use Rattle.cfi_model.specs.Words.{Tables, entry_at, newest}
use Rattle.cfi_graph.proofs.BoundLemmas.{contains_at}
use Rattle.cfi_modules.proofs.OrderLemmas.{left, last}
use Rattle.cfi_aux.specs.declared.placed.Placed.{Placed}
use Rattle.cfi_graph.specs.Direct.{DirectEdge}

-- ---- the store of EPOCH

-- a module that is placed so is loaded, or the epoch is the next one
abbrev pub loaded_state : (number : ℕ) → Placed → JournalState → JournalState
loaded_state number placed state = with_loaded number (state.epoch + 1) (state.policy + 1) placed state

abbrev pub refreshed_state : JournalState → JournalState
refreshed_state state = record state { epoch = state.epoch + 1 }

-- a module that is not loaded yet makes a longer series
pub record IsComing (code_words : ℕ) (state : JournalState) (number : ℕ) (placed : Placed) : Type 0 where
  pub series : IsSeries code_words (placed_modules state.loaded ++ placed ∷ [])
  pub absent : ¬ IsLoaded state.loaded number

-- with a load the state is a later one
pub loaded_later : (number : ℕ) (placed : Placed) (state : JournalState)
    → IsLater state (loaded_state number placed state)
loaded_later number placed state = record {
  more = record { number = number; placed = placed; policy = state.policy + 1 } ∷ [];
  is = refl;
  above = (omega arith, tt);
  gone = [];
  retired_is = sym (append-nil state.retired);
  after = tt;
  policy = omega arith;
  epoch = omega arith;
}

-- one number more, which is none of the others
apart_more : (loaded : List LoadedModule) (l : LoadedModule) → ¬ IsLoaded loaded l.number → NumbersAreApart loaded
    → NumbersAreApart (loaded ++ l ∷ [])
apart_more loaded l absent apart j k a b at_j at_k same =
    let all : List LoadedModule = loaded ++ l ∷ [] in
    let here : (n : ℕ) (m : LoadedModule) → slice_get loaded n ≡ Some m → m.number ≡ l.number → ⊥ =
    λ n m is number. absurd (absent (m, contains_at loaded n m is, number)) in
    let inside_j = slice_get_within all j a at_j in
    let inside_k = slice_get_within all k b at_k in
    let long = length-append loaded (l ∷ []) in
    elim (cases_lt j (length loaded)) [
      | inl less_j ↦ elim (cases_lt k (length loaded)) [
        | inl less_k ↦ apart j k a b (left loaded (l ∷ []) j a less_j at_j) (left loaded (l ∷ []) k b less_k at_k) same
        | inr past_k ↦
            let is : l ≡ b = last loaded l k b (omega (arith, past_k, inside_k, long)) at_k in
            absurd (here j a (left loaded (l ∷ []) j a less_j at_j)
            (same ∙ sym (ap (λ (m : LoadedModule). m.number) is)))
      ]
      | inr past_j ↦ elim (cases_lt k (length loaded)) [
        | inl less_k ↦
            let is : l ≡ a = last loaded l j a (omega (arith, past_j, inside_j, long)) at_j in
            absurd (here k b (left loaded (l ∷ []) k b less_k at_k)
            (sym same ∙ sym (ap (λ (m : LoadedModule). m.number) is)))
        | inr past_k ↦ omega (arith, past_j, past_k, inside_j, inside_k, long)
      ]
    ]

module _ (plan : Plan) (modules : List Module) (state : JournalState) (t : Tables) (is : IsTables t) (stores : ℕ) where
  abbrev after : Tables
  after = record t { stored = stores }

  module _ (aim : Aim) (agrees : TablesAgree plan modules state (Some aim) t) (asked : t.asked ≡ None)
      (goes : in_force t + 1 ≡ newest t) (same : in_force after ≡ newest t) where
    apart : in_force t ≢ newest t
    apart = λ both. omega (arith, goes, both)

    policy_low : (number : ℕ) → number ≤ in_force t → (entry_at t number).policy ≤ state.policy
    policy_low number most =
        let rises = later_rises t is number (in_force t) most (force_within t is) in
        omega (arith, rises, agrees.policy)

    pub fits : IsEntryFor plan modules state (entry_at t (in_force t)) aim (entry_at t (newest t))
    fits = subst (HasComingEntry plan modules state (entry_at t (in_force t)) (Some aim)) (storing_comes t asked apart)
        agrees.aims

    epoch_more : state.epoch + 1 ≡ plan.first + in_force after
    epoch_more = omega (arith, agrees.epoch, goes, same)

    nothing_comes : (state' : JournalState) (now : Entry) → HasComingEntry plan modules state' now None (coming after)
    nothing_comes state' now =
        subst (HasComingEntry plan modules state' now None) (sym (idle_comes after asked same)) tt

    either : (P : ℕ → Type 0) → ((number : ℕ) → number ≤ in_force t → P number) → P (newest t)
        → (number : ℕ) → number ≤ in_force after → P number
    either P old new number most = elim (cases_lt number (newest t)) [
      | inl less ↦ old number (omega (arith, less, goes))
      | inr last ↦ (let end : newest t ≡ number = omega (arith, last, most, same) in subst P end new)
    ]

  pub made_refresh : (agrees : TablesAgree plan modules state (Some Refreshing) t) → t.asked ≡ None
      → in_force t + 1 ≡ newest t → in_force after ≡ newest t
      → TablesAgree plan modules (refreshed_state state) None after
  made_refresh agrees asked goes same =
      let refresh = fits Refreshing agrees asked goes same in
      let now = agrees.entries (in_force t) (omega arith) in
      let policy : (entry_at t (newest t)).policy ≡ state.policy = refresh.policy ∙ sym agrees.policy in
      let kept : IsPolicyOf plan.code_words (members_of state) (entry_at t (newest t)) = record {
        modules = subst (λ (p : ℕ). AreLoaded plan.code_words (placed_modules (loaded_by p state.loaded)))
            (sym refresh.policy) now.modules;
        image = subst
            (λ (p : ℕ). IsLoadedImage plan.code_words (placed_modules (loaded_by p state.loaded))
            (placed_modules (live_at p (members_of state))) (entry_at t (newest t)).image) (sym refresh.policy)
            (subst
            (IsLoadedImage plan.code_words
            (placed_modules (loaded_by (entry_at t (in_force t)).policy state.loaded))
            (placed_modules (live_at (entry_at t (in_force t)).policy (members_of state)))) (sym refresh.image)
            now.image);
      } in
      record {
        code_words = agrees.code_words;
        versions = agrees.versions;
        first = agrees.first;
        epoch = epoch_more Refreshing agrees asked goes same;
        policy = sym policy ∙ ap (λ (k : ℕ). (entry_at t k).policy) (sym same);
        series = agrees.series;
        apart = agrees.apart;
        low = agrees.low;
        few = agrees.few;
        stay = agrees.stay;
        entries = either Refreshing agrees asked goes same
            (λ (k : ℕ). IsPolicyOf plan.code_words (members_of state) (entry_at t k)) agrees.entries kept;
        aims = nothing_comes Refreshing agrees asked goes same (refreshed_state state)
            (entry_at t (in_force after));
      }

  pub made_load : (number : ℕ) (clean : IsClean plan modules state number)
      (agrees : TablesAgree plan modules state (Some (Loading number)) t)
      → t.asked ≡ None → in_force t + 1 ≡ newest t → in_force after ≡ newest t
      → IsComing plan.code_words state number clean.placed
      → TablesAgree plan modules (loaded_state number clean.placed state) None after
  made_load number clean agrees asked goes same is_coming =
      let aim : Aim = Loading number in
      let placed : Placed = clean.placed in
      let load = fits aim agrees asked goes same in
      let state' : JournalState = loaded_state number placed state in
      let image : (let ms = placed_modules state.loaded ++ placed ∷ [] in
      IsImage (DirectEdge ms) ms plan.code_words (entry_at t (newest t)).image) =
      subst (λ (p : Placed). (let ms = placed_modules state.loaded ++ p ∷ [] in
      IsImage (DirectEdge ms) ms plan.code_words (entry_at t (newest t)).image))
      (clean_once plan modules state number load.clean clean) load.image in
      let l : LoadedModule = record { number = number; placed = placed; policy = state.policy + 1 } in
      let later : IsLater state state' = loaded_later number placed state in
      let low = low_more state.policy state.loaded l refl agrees.low in
      let all : placed_modules state'.loaded ≡ placed_modules state.loaded ++ placed ∷ [] =
      map-append (λ (m : LoadedModule). m.placed) state.loaded (l ∷ []) in
      let new : IsPolicyOf plan.code_words (members_of state') (entry_at t (newest t)) =
      policy_of_all plan.code_words (members_of state') agrees.stay (entry_at t (newest t))
      (subst (λ (p : ℕ). AllByRecursion (λ (m : LoadedModule). m.policy ≤ p) state'.loaded) (sym load.policy) low)
      (subst (AreLoaded plan.code_words) (sym all)
      (are_loaded plan.code_words (placed_modules state.loaded ++ placed ∷ []) is_coming.series))
      (subst (λ (ms : List Placed). IsImage (DirectEdge ms) ms plan.code_words (entry_at t (newest t)).image) (sym all)
      image) in
      let old : (k : ℕ) → k ≤ in_force t → IsPolicyOf plan.code_words (members_of state') (entry_at t k) = λ k most.
      let low_k = policy_low aim agrees asked goes same k most in
      let before = agrees.entries k most in
      record {
        modules = subst (λ (ls : List LoadedModule). AreLoaded plan.code_words (placed_modules ls))
            (sym (loaded_stays state state' later (entry_at t k).policy low_k)) before.modules;
        image = both_stay state state' later (entry_at t k).policy low_k
            (λ loaded live. IsLoadedImage plan.code_words (placed_modules loaded) (placed_modules live)
            (entry_at t k).image) before.image;
      } in
      record {
        code_words = agrees.code_words;
        versions = agrees.versions;
        first = agrees.first;
        epoch = epoch_more aim agrees asked goes same;
        policy = sym load.policy ∙ ap (λ (k : ℕ). (entry_at t k).policy) (sym same);
        series = subst (IsSeries plan.code_words) (sym all) is_coming.series;
        apart = apart_more state.loaded l is_coming.absent agrees.apart;
        low = low;
        few = omega (arith, agrees.few, length-append state.loaded (l ∷ []));
        stay = agrees.stay;
        entries = either aim agrees asked goes same
            (λ (k : ℕ). IsPolicyOf plan.code_words (members_of state') (entry_at t k)) old new;
        aims = nothing_comes aim agrees asked goes same state' (entry_at t (in_force after));
      }
