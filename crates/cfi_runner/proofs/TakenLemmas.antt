-- What a run appends to its pass, as the raw machine takes it.
use Rattle.std.proofs.Common.{◌≡◌, ◌≤◌, ℕ, cond, Option, Some, None, List, [], ◌∷◌, ◌++◌, append-nil, refl, sym, ap, ◌∙◌, arith}
use Rattle.cfi_word.specs.declared.layout.TheConstants.{FIRST_CODE}
use Rattle.cfi_model.specs.declared.act.Wait.{Wait}
use Rattle.cfi_model.specs.declared.act.Wait.TheVariants as waits
use Rattle.cfi_model.specs.declared.history.Access.{Access}
use Rattle.cfi_model.specs.Accesses.{ended_by, left_after, left_by, left_of, taken_by, takes_of}
use Rattle.cfi_model.specs.Raw.{Raw}
use Rattle.cfi_model.specs.Run.{Take, Word, take_one, run_of}
use Rattle.cfi_model.specs.Service.{Reply}
use Rattle.cfi_model.proofs.KeptLemmas.{not_epoch}
use Rattle.cfi_model.specs.Came.{AsksFor}
use Rattle.cfi_runner.specs.Run.{AreAsked, words_found}

-- no guest asks for EPOCH
pub first_code : (c : ℕ) (wait : Option Wait) (r : Raw) (word : ℕ) → AsksFor c wait r word → FIRST_CODE ≤ word
first_code c None r word is = omega (arith, is)
first_code c (Some (waits.Tary at rd)) r word is = omega (arith, is)
first_code c (Some (waits.Bary slot rd)) r word is = omega (arith, is)
first_code c (Some (waits.Service number)) r word is = absurd is

-- a guest that asks for a word ends no service
ends_none : (c : ℕ) (wait : Option Wait) (r : Raw) (word : ℕ) (replies : List Reply) → AsksFor c wait r word
    → ended_by wait r replies ≡ []
ends_none c None r word replies is = refl
ends_none c (Some (waits.Tary at rd)) r word replies is = refl
ends_none c (Some (waits.Bary slot rd)) r word replies is = refl
ends_none c (Some (waits.Service number)) r word replies is = absurd is

leaves_all : (c : ℕ) (wait : Option Wait) (r : Raw) (word : ℕ) (replies : List Reply) → AsksFor c wait r word
    → left_by wait r replies ≡ replies
leaves_all c None r word replies is = refl
leaves_all c (Some (waits.Tary at rd)) r word replies is = refl
leaves_all c (Some (waits.Bary slot rd)) r word replies is = refl
leaves_all c (Some (waits.Service number)) r word replies is = absurd is

module _ (r : Raw) (replies : List Reply) (access : Access) (high : FIRST_CODE ≤ access.word) where
  abbrev now : Raw
  now = take_one r (Word access.found)

  one_taken : taken_by r replies access ≡ Word access.found ∷ ended_by now.waits now replies
  one_taken =
      ap (λ b. cond b [] (Word access.found ∷ ended_by now.waits now replies)) (not_epoch access.word high)

  one_left : left_after r replies access ≡ left_by now.waits now replies
  one_left = ap (λ b. cond b replies (left_by now.waits now replies)) (not_epoch access.word high)

-- all of them
pub record AreTaken (r : Raw) (replies : List Reply) (accesses : List Access) (last : Raw) : Type 0 where
  pub takes : takes_of r replies accesses ≡ words_found accesses ++ ended_by last.waits last replies
  pub left : left_of r replies accesses ≡ left_by last.waits last replies

some_taken : (c : ℕ) (later : List Access) (access : Access) (r : Raw) (replies : List Reply)
    → AreAsked c r (access ∷ later)
    → AreTaken r replies (access ∷ later) (run_of r (words_found (access ∷ later)))
some_taken c [] access r replies asked =
    let high = first_code c r.waits r access.word asked.0 in
    record {
      takes = append-nil (taken_by r replies access) ∙ one_taken r replies access high;
      left = one_left r replies access high;
    }
some_taken c (b ∷ rest) access r replies asked =
    let high = first_code c r.waits r access.word asked.0 in
    let mid : Raw = take_one r (Word access.found) in
    let taken : taken_by r replies access ≡ Word access.found ∷ [] =
    one_taken r replies access high
    ∙ ap (λ l. Word access.found ∷ l) (ends_none c mid.waits mid b.word replies asked.1.0) in
    let left : left_after r replies access ≡ replies =
    one_left r replies access high ∙ leaves_all c mid.waits mid b.word replies asked.1.0 in
    let on = some_taken c rest b mid replies asked.1 in
    record {
      takes = ap (λ (z : List Take × List Reply). z.0 ++ takes_of (run_of r z.0) z.1 (b ∷ rest))
          (λ i. (taken i, left i))
          ∙ ap (λ l. Word access.found ∷ l) on.takes;
      left = ap (λ (z : List Take × List Reply). left_of (run_of r z.0) z.1 (b ∷ rest)) (λ i. (taken i, left i))
          ∙ on.left;
    }

pub all_taken : (c : ℕ) (accesses : List Access) (r : Raw) (replies : List Reply) → r.waits ≡ None
    → AreAsked c r accesses → AreTaken r replies accesses (run_of r (words_found accesses))
all_taken c [] r replies idle asked = record {
  takes = sym (ap (λ w. ended_by w r replies) idle);
  left = sym (ap (λ w. left_by w r replies) idle);
}
all_taken c (access ∷ later) r replies idle asked = some_taken c later access r replies asked
