-- Fair loads, one more at the end.
use Rattle.cfi_model.specs.Words.{HasStore}
use Rattle.std.proofs.Common.{◌≡◌, ℕ, ◌<◌, Option, Some, None, List, [], ◌∷◌, ◌++◌, refl, ◌∙◌, arith}
use Rattle.std.proofs.lemmas.Bool.Decides.{nat_tests}
use Rattle.cfi_word.specs.Table.{Place, Epoch, Quiet, Code, Tary, Bary, IsPlace, IsTary, word_number}
use Rattle.cfi_model.specs.declared.history.Access.{Access}
use Rattle.cfi_model.specs.declared.history.Moment.{Moment}
use Rattle.cfi_model.specs.History.{History, IsFair}
use Rattle.cfi_model.specs.Accesses.{AreFair, kept_after, kept_by}
use Rattle.cfi_tables.specs.Fair.{history_at, kept_of}
use Rattle.cfi_tables.specs.Key.{Key}
use Rattle.cfi_tables.specs.Loads.{IsFairAt, access_of}

-- the Bary word that is kept after the load of a place
abbrev pub kept_at : Place → (kept : Option ℕ) → (found : ℕ) → Option ℕ
kept_at Epoch kept found = None
kept_at (Tary index) kept found = kept
kept_at (Bary slot) kept found = Some found
kept_at (Code index) kept found = kept
kept_at (Quiet guest) kept found = kept

after_tary : (kept : Option ℕ) (c index found : ℕ) (m : Moment) → index < c
    → kept_by c kept (access_of c (Tary index) found m) ≡ kept
after_tary kept c index found m inside = grind (arith, nat_tests)

after_bary : (kept : Option ℕ) (c slot found : ℕ) (m : Moment)
    → kept_by c kept (access_of c (Bary slot) found m) ≡ Some found
after_bary kept c slot found m = grind (arith, nat_tests)

after_code : (kept : Option ℕ) (c index found : ℕ) (m : Moment) → index < c
    → kept_by c kept (access_of c (Code index) found m) ≡ kept
after_code kept c index found m inside = grind (arith, nat_tests)

after_load : (c : ℕ) (kept : Option ℕ) (place : Place) (found : ℕ) (m : Moment) → IsPlace c place → HasStore place
    → kept_by c kept (access_of c place found m) ≡ kept_at place kept found
after_load c kept Epoch found m at has = refl
after_load c kept (Tary index) found m at has = after_tary kept c index found m at
after_load c kept (Bary slot) found m at has = after_bary kept c slot found m
after_load c kept (Code index) found m at has = after_code kept c index found m at
after_load c kept (Quiet guest) found m at has = absurd has

after_snoc : (c : ℕ) (kept : Option ℕ) (accesses : List Access) (access : Access)
    → kept_after c kept (accesses ++ access ∷ []) ≡ kept_by c (kept_after c kept accesses) access
after_snoc c kept [] access = refl
after_snoc c kept (first ∷ later) access = after_snoc c (kept_by c kept first) later access

pub kept_snoc : (k : Key) (accesses : List Access) (place : Place) (found : ℕ) (m : Moment) → IsPlace k.code_words place
    → HasStore place
    → kept_of k (accesses ++ access_of k.code_words place found m ∷ []) ≡ kept_at place (kept_of k accesses) found
kept_snoc k accesses place found m at has =
    after_snoc k.code_words None accesses (access_of k.code_words place found m)
    ∙ after_load k.code_words (kept_of k accesses) place found m at has

-- a place's word is fair where it is one of a Tary word
pub fair_at : (k : Key) (kept : Option ℕ) (place : Place) (found : ℕ) → IsPlace k.code_words place
    → IsFairAt k kept place found → IsTary k.code_words (word_number k.code_words place)
    → IsFair (history_at k) kept found
fair_at k kept Epoch found at fair tary = absurd (omega (arith, tary.0))
fair_at k kept (Tary index) found at fair tary = fair
fair_at k kept (Bary slot) found at fair tary = absurd (omega (arith, tary.1))
fair_at k kept (Code index) found at fair tary = absurd (omega (arith, tary.0, at))
fair_at k kept (Quiet guest) found at fair tary = absurd (omega (arith, tary.0, at))

pub fair_snoc : (h : History) (c : ℕ) (kept : Option ℕ) (accesses : List Access) (access : Access)
    → AreFair h c kept accesses → (IsTary c access.word → IsFair h (kept_after c kept accesses) access.found)
    → AreFair h c kept (accesses ++ access ∷ [])
fair_snoc h c kept [] access fair last = (last, tt)
fair_snoc h c kept (first ∷ later) access fair last =
    (fair.0, fair_snoc h c (kept_by c kept first) later access fair.1 last)
