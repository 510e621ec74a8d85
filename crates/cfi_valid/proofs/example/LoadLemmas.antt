-- The report of the run with a load is valid.
use Rattle.std.proofs.Common.{◌≡◌, ℕ, ◌*◌, [], ◌∷◌, refl, arith}
use Rattle.std.specs.Prelude.{codes}
use Rattle.cfi_flow.proofs.Members.{member_first, member_later}
use Rattle.cfi_modules.specs.Entry.{IsEntryIn}
use Rattle.cfi_valid.specs.Course.{Course}
use Rattle.cfi_valid.specs.Journal.{IsJournal}
use Rattle.cfi_valid.specs.LoadExample.{load_plan, load_part, load_report}
use Rattle.cfi_valid.specs.Loaded.{Filled}
use Rattle.cfi_valid.specs.Log.{HasFunctionAt}
use Rattle.cfi_valid.specs.Parts.{ComesTo}
use Rattle.cfi_valid.specs.Valid.{IsEnded, course_of, IsValidReport}
use Rattle.cfi_valid.proofs.PartsLemmas.{valid_by}
use Rattle.cfi_valid.proofs.example.LoadPlaced.{whole, opener_placed}
use Rattle.cfi_word.specs.declared.map.TheConstants.{FIRST_BASE}
use Rattle.cfi_valid.proofs.example.LoadJournal.{modules, first, second, loaded, start, end, opening, leads}
use Rattle.cfi_valid.proofs.example.LoadReplay.{code, is_code, log, s7, r7}
use Rattle.cfi_valid.proofs.EachLemmas.{each_one}
use Rattle.cfi_valid.proofs.example.EndedExample.{exited, logged_by}

abbrev pub course : Course
course = course_of load_plan modules (load_report 1) end

entry : IsEntryIn (opener_placed ∷ []) (codes "main") (4 * FIRST_BASE)
entry = record {
  number = 0;
  owner = opener_placed;
  is = refl;
  entry = record {
    number = 0;
    function = whole (codes "main") 20;
    is = refl;
    holds = (refl, refl);
    first = λ k g below. absurd (omega (arith, below));
    here = refl;
  };
  first = λ k m below. absurd (omega (arith, below));
}

pub plug_open : HasFunctionAt loaded 1 144
plug_open = record {
  one = second;
  has = member_later first (second ∷ []) second (member_first second []);
  is = refl;
  first = record {
    number = 0;
    function = whole (codes "plug") 14;
    is = refl;
    holds = refl;
    first = λ k g below. absurd (omega (arith, below));
    here = refl;
  };
}

pub comes : ComesTo Filled course load_part s7
comes = record { address = 4 * FIRST_BASE; begins = entry; code = code; is_code = is_code; replay = r7 }

ended : IsEnded course 0 load_part
ended = exited course 0 load_part s7 comes 144 refl
    (record { is = refl; entry = refl; begins = (4 * FIRST_BASE, entry) }) refl refl refl refl (omega arith)
    (logged_by course 0 log (omega arith, (omega arith, tt)) (omega arith) (plug_open, (tt, tt)))

pub journal : IsJournal load_plan modules (load_report 1).journal end
journal = record { opening = start; opens = opening; leads = leads }

pub valid : IsValidReport load_plan modules (load_report 1)
valid = valid_by load_plan modules (load_report 1) end journal refl refl refl refl refl
    (each_one load_part (IsEnded course) ended)

-- the line of its journal can have no other epoch
pub one_epoch : (epoch : ℕ) → IsValidReport load_plan modules (load_report epoch) → epoch ≡ 1
one_epoch epoch is =
    let opened_at = is.journal.course.opens.epoch in
    omega (arith, is.journal.course.leads.1.1.0.goes.next, opened_at)
