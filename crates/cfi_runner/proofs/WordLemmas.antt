-- Accesses that come one after the other, and what their words make of the raw machine and of the policy machine.
use Rattle.std.proofs.Common.{◌≡◌, ◌≤◌, ℕ, nat_lt, Bool, true, false, cond, Some, None, List, [], ◌∷◌, ◌++◌, refl, sym, ap, subst, ◌∙◌}
use Rattle.std.proofs.lemmas.List.{map-append}
use Rattle.std.specs.List.{AllByRecursion}
use Rattle.cfi_unit.specs.declared.unit.Unit.{Unit as CodeUnit}
use Rattle.cfi_unit.specs.declared.unit.Unit.TheVariants as units
use Rattle.cfi_model.specs.declared.history.Access.{Access}
use Rattle.cfi_model.specs.History.{History, IsEpoch, allows_at}
use Rattle.cfi_model.specs.Log.{last_policy}
use Rattle.cfi_model.specs.Raw.{Raw}
use Rattle.cfi_model.specs.Run.{Word, take_one, run_of}
use Rattle.cfi_model.specs.Service.{Reply}
use Rattle.cfi_model.specs.Shows.{End, IsAnswered, Runs, ends_along, ends_before, end_of}
use Rattle.cfi_model.specs.State.{State}
use Rattle.cfi_model.proofs.AfterLemmas.{effect_logs}
use Rattle.cfi_model.proofs.SnocLemmas.{run_snoc}
use Rattle.cfi_runner.specs.Run.{AreAsked, words_found}

-- one access more at the end
pub words_snoc : (accesses : List Access) (access : Access)
    → words_found (accesses ++ access ∷ []) ≡ words_found accesses ++ Word access.found ∷ []
words_snoc accesses access = map-append (λ (a : Access). Word a.found) accesses (access ∷ [])

pub run_word : (accesses : List Access) (access : Access) (r : Raw)
    → run_of r (words_found (accesses ++ access ∷ [])) ≡ take_one (run_of r (words_found accesses)) (Word access.found)
run_word accesses access r =
    ap (run_of r) (words_snoc accesses access) ∙ run_snoc (words_found accesses) (Word access.found) r

pub asked_append : (c : ℕ) (accesses later : List Access) (r : Raw) → AreAsked c r accesses
    → AreAsked c (run_of r (words_found accesses)) later → AreAsked c r (accesses ++ later)
asked_append c [] later r asked more = more
asked_append c (access ∷ accesses) later r asked more =
    (asked.0, asked_append c accesses later (take_one r (Word access.found)) asked.1 more)

-- ---- what they make of the log

-- the end of a unit brings no answer
abbrev pub HasNoReply : End → Type 0
HasNoReply end = end.reply ≡ None

one_before : (b : Bool) (r : Raw) (word : ℕ)
    → AllByRecursion HasNoReply (cond b (end_of r (Word word) ∷ []) [])
one_before true r word = (refl, tt)
one_before false r word = tt

all_append : (a b : List End) → AllByRecursion HasNoReply a → AllByRecursion HasNoReply b
    → AllByRecursion HasNoReply (a ++ b)
all_append [] b p q = q
all_append (x ∷ a) b p q = (p.0, all_append a b p.1 q)

pub no_replies : (accesses : List Access) (r : Raw) → AllByRecursion HasNoReply (ends_along r (words_found accesses))
no_replies [] r = tt
no_replies (access ∷ accesses) r =
    all_append (ends_before r (Word access.found)) _
    (one_before (nat_lt r.base.units (take_one r (Word access.found)).base.units) r access.found)
    (no_replies accesses (take_one r (Word access.found)))

-- a service does not end without an answer
no_service : (unit : CodeUnit) (end : End) (reply : Reply) (s : State) → HasNoReply end → unit ≡ units.Service
    → IsAnswered unit end reply s → ⊥
no_service unit end reply s none is answered =
    let came : end.reply ≡ Some reply = (subst (λ u. IsAnswered u end reply s) is answered).came in
    let both : None ≡ Some reply = sym none ∙ came in
    absurd (cc)

-- no policy is logged above those of the epochs
pub runs_low : (h : History) (code : List ℕ) (most : ℕ) → ((epoch : ℕ) → IsEpoch h epoch → h.policy epoch ≤ most)
    → (ends : List End) (old new : State) → AllByRecursion HasNoReply ends → Runs h code ends old new
    → last_policy old.log ≤ most → last_policy new.log ≤ most
runs_low h code most below [] old new none runs low = subst (λ s. last_policy s.log ≤ most) (sym runs) low
runs_low h code most below (end ∷ ends) old new none runs low =
    let step = runs.1 in
    let mid = effect_logs step.unit (h.policy step.epoch) (allows_at h step.epoch) step.reply old most low
    (below step.epoch step.known)
    (λ service free. absurd (no_service step.unit end step.reply old none.0 service step.answered)) in
    runs_low h code most below ends runs.0 new none.1 runs.2
    (subst (λ s. last_policy s.log ≤ most) (sym step.is) mid)
