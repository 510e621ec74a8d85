-- The report of the file that puts one `H` is valid.
use Rattle.std.proofs.Common.{ℕ, ◌*◌, List, [], ◌∷◌, refl, arith}
use Rattle.std.specs.List.{flat_map}
use Rattle.cfi_unit.specs.Unit.{words_of}
use Rattle.cfi_model.specs.State.{State, opened}
use Rattle.cfi_policy.specs.Code.{IsCodeOf}
use Rattle.cfi_bare.proofs.LoadedLemmas.{loaded as loaded_alone}
use Rattle.cfi_plan.specs.Bare.{bare_plan}
use Rattle.cfi_valid.specs.Course.{Course}
use Rattle.cfi_valid.specs.Example.{hello_module, hello_part, hello_report}
use Rattle.cfi_valid.specs.Journal.{JournalState, members_of, IsOpeningState, IsJournal}
use Rattle.cfi_valid.specs.Loaded.{LoadedModule, Members, Filled, start_fills}
use Rattle.cfi_valid.specs.Parts.{ComesTo}
use Rattle.cfi_valid.specs.Replay.{Replays}
use Rattle.cfi_valid.specs.Valid.{IsEnded, course_of, IsValidReport}
use Rattle.cfi_valid.proofs.example.ExampleCode.{code_at, is_code_at}
use Rattle.cfi_valid.proofs.example.ExampleLemmas.{hello_words, hello_placed, units, whole, is_placed, verified}
use Rattle.cfi_valid.proofs.example.EvaluatedReplay.{state_after, replays}
use Rattle.cfi_valid.proofs.PartsLemmas.{valid_by}
use Rattle.cfi_valid.proofs.ValidLemmas.{reports_same}
use Rattle.cfi_word.specs.declared.limits.TheConstants.{MAX_CODE_WORDS}
use Rattle.cfi_word.specs.declared.map.TheConstants.{FIRST_BASE}
use Rattle.cfi_valid.proofs.EachLemmas.{each_one}
use Rattle.cfi_valid.proofs.example.EndedExample.{came_first, exited, in_order, logged_by}

-- ---- the journal

abbrev pub one : LoadedModule
one = record { number = 0; placed = hello_placed; policy = 0 }

abbrev pub end : JournalState
end = record { epoch = 0; policy = 0; loaded = one ∷ []; retired = [] }

abbrev members : Members
members = members_of end

pub opening : IsOpeningState bare_plan (hello_module ∷ []) end
opening = record {
  epoch = refl;
  policy = refl;
  starts = refl;
  policies = came_first (one ∷ []) refl;
  order = in_order MAX_CODE_WORDS (hello_module ∷ []) (hello_placed ∷ []) refl
      (record { behind = is_placed; verified = verified }, tt);
  stay = refl;
}

-- ---- the run

abbrev pub code : List ℕ
code = code_at MAX_CODE_WORDS (flat_map words_of units)

pub is_code : IsCodeOf (hello_placed ∷ []) MAX_CODE_WORDS code
is_code = is_code_at MAX_CODE_WORDS (hello_placed ∷ []) (flat_map words_of units) refl
    (loaded_alone hello_placed hello_words whole (omega arith) verified)

abbrev pub s0 : State
s0 = opened 0 (4 * FIRST_BASE) (start_fills Filled members)

abbrev pub s6 : State
s6 = state_after units members [] 6 s0

r6 : Replays Filled code members [] 6 s0 s6
r6 = replays units members [] MAX_CODE_WORDS refl 6 s0 refl tt

-- ---- the report

abbrev pub course : Course
course = course_of bare_plan (hello_module ∷ []) (hello_report (0x48 ∷ [])) end

pub comes : ComesTo Filled course (hello_part (0x48 ∷ [])) s6
comes = record { address = 4 * FIRST_BASE; begins = refl; code = code; is_code = is_code; replay = r6 }

ended : IsEnded course 0 (hello_part (0x48 ∷ []))
ended = exited course 0 (hello_part (0x48 ∷ [])) s6 comes 7 refl
    (record { is = refl; entry = refl; begins = (4 * FIRST_BASE, refl) }) refl refl refl refl (omega arith)
    (logged_by course 0 [] tt (omega arith) tt)

pub journal : IsJournal bare_plan (hello_module ∷ []) [] end
journal = record { opening = end; opens = opening; leads = refl }

pub valid : IsValidReport bare_plan (hello_module ∷ []) (hello_report (0x48 ∷ []))
valid = valid_by bare_plan (hello_module ∷ []) (hello_report (0x48 ∷ [])) end journal refl refl refl refl refl
    (each_one (hello_part (0x48 ∷ [])) (IsEnded course) ended)

-- with a byte of output more it is not
pub no_more : (byte : ℕ) → ¬ IsValidReport bare_plan (hello_module ∷ []) (hello_report (0x48 ∷ byte ∷ []))
no_more byte more =
    let agree = reports_same bare_plan (hello_module ∷ []) (hello_report (0x48 ∷ [])) (hello_report (0x48 ∷ byte ∷ []))
    valid more refl in
    let alike = agree.guests 0 (hello_part (0x48 ∷ [])) (hello_part (0x48 ∷ byte ∷ [])) refl refl refl in
    let out = (alike.counted refl).out in
    absurd (cc)
