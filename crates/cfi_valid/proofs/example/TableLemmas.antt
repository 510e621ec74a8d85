-- The report of the run with tables is valid.
use Rattle.std.proofs.Common.{◌≡◌, ℕ, zero, suc, ◌<◌, List, [], ◌∷◌, Some, refl, ap, subst, arith}
use Rattle.std.specs.Prelude.{◌≢◌, codes, slice_index}
use Rattle.std.specs.List.{slice_get}
use Rattle.cfi_aux.specs.declared.placed.Placed.{Placed}
use Rattle.cfi_aux.specs.declared.placed.PlacedFunction.{PlacedFunction}
use Rattle.cfi_modules.specs.Entry.{IsGlobalOf, HasNoneOf, IsEntryIn}
use Rattle.cfi_valid.specs.Course.{Course}
use Rattle.cfi_valid.specs.Journal.{IsJournal}
use Rattle.cfi_valid.specs.Loaded.{Filled}
use Rattle.cfi_valid.specs.Log.{HasFunctionAt}
use Rattle.cfi_valid.specs.Parts.{ComesTo}
use Rattle.cfi_valid.specs.TableExample.{table_plan, table_part, table_report}
use Rattle.cfi_valid.specs.Valid.{IsEnded, course_of, IsValidReport}
use Rattle.cfi_valid.proofs.PartsLemmas.{valid_by}
use Rattle.cfi_valid.proofs.ValidLemmas.{reports_same}
use Rattle.cfi_valid.proofs.example.TableJournal.{modules, third, loaded, begin, end, opening, leads, code, is_code}
use Rattle.cfi_valid.proofs.example.TablePlaced.{start, plus60, lib_placed, main_placed}
use Rattle.cfi_valid.proofs.example.TablePolicy.{before}
use Rattle.cfi_valid.proofs.example.TableReplay.{log, s38, r38}
use Rattle.cfi_valid.proofs.EachLemmas.{each_of, each_one}
use Rattle.cfi_valid.proofs.example.EndedExample.{exited, logged_by}

-- what the guest put
abbrev pub out : List ℕ
out = 10 ∷ 66 ∷ 67 ∷ []

abbrev course : Course
course = course_of table_plan modules (table_report out) end

-- ---- the entry

-- none of the library has its name: two functions are not Global, and the names of two begin with another letter
not_named : (letter : ℕ) (name : List ℕ) → letter ∷ name ≡ codes "_start" → letter ≢ 95 → ⊥
not_named letter name is other = other (ap (λ (xs : List ℕ). slice_index xs 0) is)

none_in_lib : HasNoneOf (IsGlobalOf (codes "_start")) lib_placed
none_in_lib =
    each_of (λ (f : PlacedFunction). ¬ IsGlobalOf (codes "_start") f) lib_placed.functions (
      λ is. absurd (cc),
      (
        λ is. absurd (cc),
        (λ is. not_named 115 _ is.1 (omega arith), (λ is. not_named 99 _ is.1 (omega arith), tt)),
      ),
    )

none_before : (k : ℕ) (m : Placed) → k < 1 → slice_get before k ≡ Some m → HasNoneOf (IsGlobalOf (codes "_start")) m
none_before zero m below is =
    let same : lib_placed ≡ m = cc in
    subst (HasNoneOf (IsGlobalOf (codes "_start"))) same none_in_lib
none_before (suc k) m below is = absurd (omega (arith, below))

entry : IsEntryIn before (codes "_start") 500
entry = record {
  number = 1;
  owner = main_placed;
  is = refl;
  entry = record {
    number = 0;
    function = start;
    is = refl;
    holds = (refl, refl);
    first = λ k g below. absurd (omega (arith, below));
    here = refl;
  };
  first = none_before;
}

-- ---- the log

plug_open : HasFunctionAt loaded 2 632
plug_open = record {
  one = third;
  has = (2, omega arith, refl);
  is = refl;
  first = record {
    number = 0;
    function = plus60;
    is = refl;
    holds = refl;
    first = λ k g below. absurd (omega (arith, below));
    here = refl;
  };
}

-- ---- the report

comes : ComesTo Filled course (table_part out) s38
comes = record { address = 500; begins = entry; code = code; is_code = is_code; replay = r38 }

ended : IsEnded course 0 (table_part out)
ended = exited course 0 (table_part out) s38 comes 0 refl
    (record { is = refl; entry = refl; begins = (500, entry) }) refl refl refl refl (omega arith)
    (logged_by course 0 log (omega arith, (omega arith, (omega arith, tt))) (omega arith) (tt, (plug_open, (tt, tt))))

journal : IsJournal table_plan modules (table_report out).journal end
journal = record { opening = begin; opens = opening; leads = leads }

pub valid : IsValidReport table_plan modules (table_report out)
valid = valid_by table_plan modules (table_report out) end journal refl refl refl refl refl
    (each_one (table_part out) (IsEnded course) ended)

-- with a byte of output more it is not
pub no_more : (byte : ℕ) → ¬ IsValidReport table_plan modules (table_report (10 ∷ 66 ∷ 67 ∷ byte ∷ []))
no_more byte more =
    let agree = reports_same table_plan modules (table_report out) (table_report (10 ∷ 66 ∷ 67 ∷ byte ∷ [])) valid more
    refl in
    let alike = agree.guests 0 (table_part out) (table_part (10 ∷ 66 ∷ 67 ∷ byte ∷ [])) refl refl refl in
    let same = (alike.counted refl).out in
    absurd (cc)
