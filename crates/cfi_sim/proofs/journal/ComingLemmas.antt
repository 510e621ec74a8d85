-- The entry of an update that is not in force yet, the stores that come next, and the policy of all loaded modules.
use Rattle.std.proofs.lemmas.Bool.{eq-eqb, ne_eqb, le-leb}
use Rattle.std.specs.List.{AllByRecursion}
use Rattle.std.proofs.lemmas.List.Elements.{Contains-get_or}
use Rattle.std.proofs.Common.{◌≡◌, ◌≢◌, ℕ, ◌+◌, ◌≤◌, ◌==◌, ◌++◌, cond, Bool, List, [], ◌∷◌, drop, length-drop, Option, Some, None, refl, sym, ◌∙◌, ap, subst, arith}
use Rattle.cfi_ledger.specs.Policies.{IsPolicyOf}
use Rattle.cfi_sim.specs.Agrees.{coming_by, coming}
use Rattle.cfi_model.specs.Tables.{IsTables}
use Rattle.cfi_world.specs.Updates.{next_store}
use Rattle.cfi_modules.specs.Loaded.{AreLoaded, AreAmong, IsLoadedImage}
use Rattle.cfi_model.specs.InForce.{in_force}
use Rattle.cfi_policy.specs.Image.{IsImage}
use Rattle.cfi_valid.specs.Journal.{JournalState, members_of, live_in}
use Rattle.cfi_valid.specs.Loaded.{LoadedModule, placed_modules, loaded_by, IsLoaded, Members, is_live, live_at}
use Rattle.cfi_valid.specs.Retiring.{IsLiveAt}
use Rattle.cfi_valid.specs.declared.retirement.Retirement.{Retirement}
use Rattle.cfi_valid.proofs.LiveLemmas.{live_none}
use Rattle.cfi_flow.proofs.Members.{from_filter}
use Rattle.cfi_world.proofs.StoringLemmas.{agreeing_most}
use Rattle.cfi_model.specs.declared.history.Entry.{Entry}
use Rattle.cfi_model.specs.Words.{Tables, entry_at, newest, before}
use Rattle.cfi_aux.specs.declared.placed.Placed.{Placed}
use Rattle.cfi_graph.specs.Direct.{DirectEdge}

-- ---- what comes

pub none_comes : (k n : ℕ) (e : Entry) → k ≡ n → coming_by None (k == n) e ≡ None
none_comes k n e same = ap (λ (b : Bool). coming_by None b e) (eq-eqb k n same)

pub some_comes : (k n : ℕ) (e : Entry) → k ≢ n → coming_by None (k == n) e ≡ Some e
some_comes k n e apart = ap (λ (b : Bool). coming_by None b e) (ne_eqb k n apart)

-- no update is under way, or it is in force
pub idle_comes : (t : Tables) → t.asked ≡ None → in_force t ≡ newest t → coming t ≡ None
idle_comes t none same =
    ap (λ (o : Option Entry). coming_by o (in_force t == newest t) (entry_at t (newest t))) none
    ∙ none_comes (in_force t) (newest t) (entry_at t (newest t)) same

-- its stores are under way
pub storing_comes : (t : Tables) → t.asked ≡ None → in_force t ≢ newest t → coming t ≡ Some (entry_at t (newest t))
storing_comes t none apart =
    ap (λ (o : Option Entry). coming_by o (in_force t == newest t) (entry_at t (newest t))) none
    ∙ some_comes (in_force t) (newest t) (entry_at t (newest t)) apart

-- its test is under way
pub asked_comes : (t : Tables) (e : Entry) → t.asked ≡ Some e → coming t ≡ Some e
asked_comes t e some =
    ap (λ (o : Option Entry). coming_by o (in_force t == newest t) (entry_at t (newest t))) some

-- ---- stores

-- the next store is not before this one, and within the code where this one is; past the code it is this one
pub record IsNext (t : Tables) (from : ℕ) : Type 0 where
  pub least : from ≤ next_store t from
  pub within : from ≤ t.code_words → next_store t from ≤ t.code_words
  pub past : t.code_words ≤ from → next_store t from ≡ from

pub next_is : (t : Tables) → IsTables t → (from : ℕ) → IsNext t from
next_is t is from =
    let old : List ℕ = (entry_at t (before t)).image.code in
    let new : List ℕ = (entry_at t (newest t)).image.code in
    let few = agreeing_most (drop from old) (drop from new) in
    let long = length-drop from old in
    let size = (is.closed (before t) (omega (arith, is.some))).1.classes.code_length in
    record {
      least = omega arith;
      within = λ most. omega (arith, few, long, size, most);
      past = λ past. omega (arith, few, long, size, past);
    }

-- ---- lists of loaded modules

-- a policy above all finds all loaded
pub all_loaded : (policy : ℕ) (loaded : List LoadedModule)
    → AllByRecursion (λ (l : LoadedModule). l.policy ≤ policy) loaded → loaded_by policy loaded ≡ loaded
all_loaded policy [] low = refl
all_loaded policy (l ∷ loaded) low =
    ap (λ (b : Bool). cond b (l ∷ loaded_by policy loaded) (loaded_by policy loaded)) (le-leb l.policy policy low.0)
    ∙ ap (λ (ls : List LoadedModule). l ∷ ls) (all_loaded policy loaded low.1)

-- where none was retired, those that a policy finds loaded are live under it
pub none_gone : (members : Members) → members.retired ≡ [] → (policy : ℕ)
    → live_at policy members ≡ loaded_by policy members.loaded
none_gone members stay policy =
    ap (λ (gone : List Retirement). live_at policy (record { loaded = members.loaded; retired = gone })) stay
    ∙ live_none policy members.loaded

-- and so are all, under the policy in force
pub all_live : (s : JournalState) → s.retired ≡ [] → AllByRecursion (λ (l : LoadedModule). l.policy ≤ s.policy) s.loaded
    → live_in s ≡ s.loaded
all_live s stay low = none_gone (members_of s) stay s.policy ∙ all_loaded s.policy s.loaded low

-- one that is live is loaded
pub live_is_loaded : (s : JournalState) (number : ℕ) → IsLiveAt s.policy (members_of s) number
    → IsLoaded s.loaded number
live_is_loaded s number live =
    (live.0, (from_filter (is_live s.policy s.retired) s.loaded live.0 live.1).0, live.2)

pub low_more : (policy : ℕ) (loaded : List LoadedModule) (l : LoadedModule) → l.policy ≡ policy + 1
    → AllByRecursion (λ (m : LoadedModule). m.policy ≤ policy) loaded
    → AllByRecursion (λ (m : LoadedModule). m.policy ≤ policy + 1) (loaded ++ l ∷ [])
low_more policy [] l is low = (omega (arith, is), tt)
low_more policy (m ∷ loaded) l is low = (omega (arith, low.0), low_more policy loaded l is low.1)

pub among : (ms : List Placed) → AreAmong ms ms
among ms = λ k d within. Contains-get_or ms k d within

-- the image of all modules of a policy is that of the policy
pub policy_of_all : (code_words : ℕ) (members : Members) → members.retired ≡ [] → (e : Entry)
    → AllByRecursion (λ (l : LoadedModule). l.policy ≤ e.policy) members.loaded
    → AreLoaded code_words (placed_modules members.loaded)
    → IsImage (DirectEdge (placed_modules members.loaded)) (placed_modules members.loaded) code_words e.image
    → IsPolicyOf code_words members e
policy_of_all code_words members stay e low are image =
    let all : loaded_by e.policy members.loaded ≡ members.loaded = all_loaded e.policy members.loaded low in
    let live : live_at e.policy members ≡ members.loaded = none_gone members stay e.policy ∙ all in
    record {
      modules = subst (λ (ls : List LoadedModule). AreLoaded code_words (placed_modules ls)) (sym all) are;
      image = subst
          (λ (ls : List LoadedModule). IsLoadedImage code_words (placed_modules ls)
          (placed_modules (live_at e.policy members)) e.image) (sym all)
          (subst
          (λ (ls : List LoadedModule). IsLoadedImage code_words (placed_modules members.loaded) (placed_modules ls)
          e.image) (sym live) (among (placed_modules members.loaded), image));
    }
