-- The entries of the tables' history while the course goes on.
use Rattle.std.proofs.Common.{◌≡◌, ℕ, ◌≤◌, Bool, true, cond, List, [], ◌∷◌, get_or, All, refl, sym, ap, subst, ◌∙◌, arith}
use Rattle.std.specs.Prelude.{nat_le}
use Rattle.std.proofs.lemmas.Bool.{le-leb}
use Rattle.std.proofs.lemmas.Option.{slice_get-get_or, get_or_from_slice_get}
use Rattle.std.proofs.lemmas.List.Elements.{All-head, All-tail}
use Rattle.cfi_aux.specs.declared.placed.Placed.{Placed}
use Rattle.cfi_graph.specs.Direct.{DirectEdge}
use Rattle.cfi_model.specs.declared.history.Entry.{Entry as TableEntry}
use Rattle.cfi_plan.specs.declared.plan.Plan.{Plan}
use Rattle.cfi_policy.specs.Image.{IsImage}
use Rattle.cfi_modules.specs.Loaded.{AreLoaded, AreAmong, IsLoadedImage}
use Rattle.cfi_valid.specs.Course.{Course}
use Rattle.cfi_valid.specs.Growth.{IsLater}
use Rattle.cfi_valid.specs.Journal.{live_in, members_of}
use Rattle.cfi_valid.specs.Loaded.{LoadedModule, placed_modules, loaded_by, live_at}
use Rattle.cfi_valid.proofs.GrowthLemmas.{both_stay}
use Rattle.cfi_valid.proofs.LiveLemmas.{live_among}
use Rattle.cfi_ledger.specs.Policies.{IsEntryOf}

-- ---- an entry stays one

-- what an entry says of the modules that its policy finds loaded, and of those that are live under it
abbrev Says : TableEntry → (code_words : ℕ) → (loaded live : List LoadedModule) → Type 0
Says e code_words loaded live =
    AreLoaded code_words (placed_modules loaded)
    × IsLoadedImage code_words (placed_modules loaded) (placed_modules live) e.image

-- what it says at a policy of a course
abbrev SaysAt : Course → TableEntry → (policy : ℕ) → Type 0
SaysAt c e policy =
    Says e c.plan.code_words (loaded_by policy c.end.loaded) (live_at policy (members_of c.end))

says_at : (c : Course) (e : TableEntry) → IsEntryOf c e → SaysAt c e e.policy
says_at c e is = (is.is.modules, is.is.image)

says_so : (c : Course) (e : TableEntry) → e.policy ≤ c.end.policy → SaysAt c e e.policy → IsEntryOf c e
says_so c e most says = record { most = most; is = record { modules = says.0; image = says.1 } }

pub entry_stays : (old new : Course) → new.plan ≡ old.plan → IsLater old.end new.end → (e : TableEntry)
    → IsEntryOf old e → IsEntryOf new e
entry_stays old new plan later e is =
    let there : Says e old.plan.code_words (loaded_by e.policy new.end.loaded)
    (live_at e.policy (members_of new.end)) =
    both_stay old.end new.end later e.policy is.most (Says e old.plan.code_words) (says_at old e is) in
    let words : new.plan.code_words ≡ old.plan.code_words = ap (λ (p : Plan). p.code_words) plan in
    says_so new e (omega (arith, is.most, later.policy))
    (subst (λ (n : ℕ). Says e n (loaded_by e.policy new.end.loaded) (live_at e.policy (members_of new.end)))
    (sym words) there)

pub entries_stay : (old new : Course) → new.plan ≡ old.plan → IsLater old.end new.end → (entries : List TableEntry)
    → All (IsEntryOf old) entries → All (IsEntryOf new) entries
entries_stay old new plan later entries all = λ at d within.
    entry_stays old new plan later (get_or entries at d) (all at d within)

-- ---- the entry of a change

-- a policy finds all loaded that came with it or before
pub loaded_all : (policy : ℕ) (loaded : List LoadedModule) → All (λ (l : LoadedModule). l.policy ≤ policy) loaded
    → loaded_by policy loaded ≡ loaded
loaded_all policy [] all = refl
loaded_all policy (l ∷ loaded) all =
    let first : nat_le l.policy policy ≡ true =
    le-leb l.policy policy (All-head (λ (one : LoadedModule). one.policy ≤ policy) l loaded all) in
    ap (λ (b : Bool). cond b (l ∷ loaded_by policy loaded) (loaded_by policy loaded)) first
    ∙ ap (λ (rest : List LoadedModule). l ∷ rest)
    (loaded_all policy loaded (All-tail (λ (one : LoadedModule). one.policy ≤ policy) l loaded all))

pub among_self : (ms : List Placed) → AreAmong ms ms
among_self ms = λ at d within.
    (at, within, get_or_from_slice_get ms at (get_or ms at d) (get_or ms at d) (slice_get-get_or ms at d within))

-- the entry under the policy in force has the class numbers of the live ones, and the code of all
pub entry_of_all : (c : Course) (e : TableEntry) → e.policy ≡ c.end.policy
    → All (λ (l : LoadedModule). l.policy ≤ c.end.policy) c.end.loaded
    → AreLoaded c.plan.code_words (placed_modules c.end.loaded)
    → IsImage (DirectEdge (placed_modules (live_in c.end))) (placed_modules c.end.loaded) c.plan.code_words e.image
    → IsEntryOf c e
entry_of_all c e force all are image =
    let found : loaded_by c.end.policy c.end.loaded ≡ c.end.loaded = loaded_all c.end.policy c.end.loaded all in
    let among : AreAmong (placed_modules (live_in c.end)) (placed_modules c.end.loaded) =
    subst (λ (ls : List LoadedModule). AreAmong (placed_modules (live_in c.end)) (placed_modules ls)) found
    (live_among c.end.policy (members_of c.end)) in
    let says : SaysAt c e c.end.policy =
    subst (λ (ls : List LoadedModule). Says e c.plan.code_words ls (live_in c.end)) (sym found)
    (are, (among, image)) in
    says_so c e (omega (arith, force)) (subst (SaysAt c e) (sym force) says)

-- an entry with the policy and the image of another says the same
pub entry_again : (c : Course) (e again : TableEntry) → again.policy ≡ e.policy → again.image ≡ e.image
    → IsEntryOf c e → IsEntryOf c again
entry_again c e again policy image is =
    let there : SaysAt c e again.policy = subst (SaysAt c e) (sym policy) (says_at c e is) in
    says_so c again (omega (arith, policy, is.most)) (
      there.0,
      subst (IsLoadedImage c.plan.code_words (placed_modules (loaded_by again.policy c.end.loaded))
          (placed_modules (live_at again.policy (members_of c.end)))) (sym image) there.1,
    )
