-- What came to a guest, with more at its end.
use Rattle.std.proofs.Common.{◌≡◌, ◌≤◌, ℕ, cond, Option, Some, List, [], ◌∷◌, ◌++◌, map, inl, refl, sym, ap, ◌∙◌, subst, append_assoc}
use Rattle.cfi_word.specs.declared.layout.TheConstants.{EPOCH, FIRST_CODE}
use Rattle.cfi_model.specs.declared.history.Access.{Access}
use Rattle.cfi_model.specs.Came.{AreAskedBehind, Came, Loaded, load_in, loads_in, taken_in, takes_in}
use Rattle.cfi_model.specs.Raw.{Raw}
use Rattle.cfi_model.specs.Run.{Take, Word, take_one, run_of}
use Rattle.cfi_model.proofs.KeptLemmas.{is_epoch, not_epoch}
use Rattle.cfi_model.proofs.SnocLemmas.{run_append}
use Rattle.cfi_runner.specs.Run.{AreAsked, words_found}
use Rattle.cfi_runner.proofs.TakenLemmas.{first_code}

-- ---- one list after the other

pub takes_append : (a b : List Came) → takes_in (a ++ b) ≡ takes_in a ++ takes_in b
takes_append [] b = refl
takes_append (one ∷ a) b =
    ap (λ (l : List Take). taken_in one ++ l) (takes_append a b)
    ∙ sym (append_assoc (taken_in one) (takes_in a) (takes_in b))

pub loads_append : (a b : List Came) → loads_in (a ++ b) ≡ loads_in a ++ loads_in b
loads_append [] b = refl
loads_append (one ∷ a) b =
    ap (λ (l : List Access). load_in one ++ l) (loads_append a b)
    ∙ sym (append_assoc (load_in one) (loads_in a) (loads_in b))

-- what came last, where this came before
abbrev pub last_came : (before : Option Came) → List Came → Option Came
last_came before [] = before
last_came before (one ∷ later) = last_came (Some one) later

pub last_snoc : (before : Option Came) (a : List Came) (one : Came) → last_came before (a ++ one ∷ []) ≡ Some one
last_snoc before [] one = refl
last_snoc before (first ∷ a) one = last_snoc (Some first) a one

pub asked_append : (c : ℕ) (before : Option Came) (a b : List Came) (r : Raw) → AreAskedBehind c before r a
    → AreAskedBehind c (last_came before a) (run_of r (takes_in a)) b → AreAskedBehind c before r (a ++ b)
asked_append c before [] b r first then = then
asked_append c before (one ∷ a) b r first then = (
  first.0,
  asked_append c (Some one) a b (run_of r (taken_in one)) first.1
      (subst (λ x. AreAskedBehind c (last_came (Some one) a) x b) (run_append (taken_in one) (takes_in a) r) then),
)

-- ---- the loads of a run

abbrev pub all_loaded : List Access → List Came
all_loaded accesses = map (λ access. Loaded access) accesses

pub loads_loaded : (accesses : List Access) → loads_in (all_loaded accesses) ≡ accesses
loads_loaded [] = refl
loads_loaded (access ∷ later) = ap (λ (l : List Access). access ∷ l) (loads_loaded later)

brings : (access : Access) → FIRST_CODE ≤ access.word → taken_in (Loaded access) ≡ Word access.found ∷ []
brings access high = ap (λ b. cond b [] (Word access.found ∷ [])) (not_epoch access.word high)

-- bring the words that were found
pub takes_loaded : (c : ℕ) (accesses : List Access) (r : Raw) → AreAsked c r accesses
    → takes_in (all_loaded accesses) ≡ words_found accesses
takes_loaded c [] r asked = refl
takes_loaded c (access ∷ later) r asked =
    ap (λ (l : List Take). l ++ takes_in (all_loaded later))
    (brings access (first_code c r.waits r access.word asked.0))
    ∙ ap (λ (l : List Take). Word access.found ∷ l)
    (takes_loaded c later (take_one r (Word access.found)) asked.1)

-- and were asked for
pub asked_loaded : (c : ℕ) (before : Option Came) (accesses : List Access) (r : Raw) → AreAsked c r accesses
    → AreAskedBehind c before r (all_loaded accesses)
asked_loaded c before [] r asked = tt
asked_loaded c before (access ∷ later) r asked = (
  inl asked.0,
  subst (λ (l : List Take). AreAskedBehind c (Some (Loaded access)) (run_of r l) (all_loaded later))
      (sym (brings access (first_code c r.waits r access.word asked.0)))
      (asked_loaded c (Some (Loaded access)) later (take_one r (Word access.found)) asked.1),
)

-- ---- the load of a quiescent point

-- brings nothing
pub brings_none : (access : Access) → access.word ≡ EPOCH → taken_in (Loaded access) ≡ []
brings_none access is = ap (λ b. cond b [] (Word access.found ∷ [])) (is_epoch access.word is)
