-- The headline, promise by promise, of a run that was concluded. Each speaks of the run's tables and of their one
-- history, of the code of all that was loaded, and of where each guest began and what came to it (`cfi_guest_run`,
-- specs/Concluded.antt).
use Rattle.std.specs.Prelude.{◌≡◌, ℕ, ◌≤◌, List, length, slice_get, Some}
use Rattle.cfi_guest_run.specs.Concluded.{Conclusion, IsConcluded}
use Rattle.cfi_model.specs.Came.{loads_in, takes_in}
use Rattle.cfi_model.specs.Run.{run_of}
use Rattle.cfi_model.specs.Shows.{Shows, ends_along}
use Rattle.cfi_model.specs.TableMoments.{AreTimed}
use Rattle.cfi_model_law.specs.Window.{HasRunInForce}
use Rattle.cfi_model_law.specs.Moments.{Fetches, HasEntered, StoresInside, at_moment, fetched}
use Rattle.cfi_guest_part.specs.Ran.{IsHistoryOf, IsRunOf}
use Rattle.cfi_report.specs.declared.report.GuestPart.{GuestPart}
use Rattle.cfi_valid.specs.Journal.{members_of}
use Rattle.cfi_valid.specs.Course.{Course}
use Rattle.cfi_valid.specs.Valid.{course_of}
use Rattle.cfi_top.specs.Headline.{KeepPolicies}

-- the course of a run
abbrev pub course_in : (run : Conclusion) → IsConcluded run → Course
course_in run c = course_of run.plan run.modules run.report c.valid.end

-- how the guest of a part ran
abbrev pub RanIn : (run : Conclusion) → IsConcluded run → (number : ℕ) → GuestPart → Type 0
RanIn run c number part = IsRunOf (course_in run c) c.tables c.history c.code number part

-- something holds of each guest
abbrev pub OfEachGuest : (run : Conclusion)
    → ((c : IsConcluded run) (number : ℕ) (part : GuestPart) → RanIn run c number part → Type 0) → Type 0
OfEachGuest run Holds =
    (c : IsConcluded run) (number : ℕ) (part : GuestPart) → slice_get run.report.guests number ≡ Some part
    → (ran : RanIn run c number part) → Holds c number part ran

-- unit by unit it does what the policy machine does from its entry on; a check that goes on goes along an edge which
-- the policy that it asks allows, and only a check halts, before an edge which that policy forbids
abbrev pub GuestsKeepPolicies : Conclusion → Type 0
GuestsKeepPolicies run = OfEachGuest run (λ c number part ran.
    KeepPolicies c.history c.code (members_of c.valid.end) (ends_along ran.run.start (takes_in ran.run.came)) ran.run.start.base ran.state
    × Shows c.history c.code ran.retries ran.state (run_of ran.run.start (takes_in ran.run.came)))

-- What it loads, from first to last, are the words of the tables at the moments of its loads. In the window of each
-- check, from the moment of the last load of its slot's word to that of the last load of its target's, the epoch whose
-- policy it asks is in force.
abbrev pub GuestsAskInForce : Conclusion → Type 0
GuestsAskInForce run = OfEachGuest run (λ c number part ran.
    AreTimed c.tables (loads_in ran.run.came)
    × HasRunInForce c.history c.code c.tables ran.run.start ran.run.came)

-- it never enters a unit's middle: whenever it fetches it is in a unit that it has entered at its start
abbrev pub GuestsEnterUnits : Conclusion → Type 0
GuestsEnterUnits run = OfEachGuest run (λ c number part ran.
    (now : ℕ) → now ≤ length (takes_in ran.run.came) → Fetches (at_moment ran.run.start (takes_in ran.run.came) now)
    → HasEntered c.history c.code (at_moment ran.run.start (takes_in ran.run.came)) now)

-- it never stores outside its own data
abbrev pub GuestsStoreInside : Conclusion → Type 0
GuestsStoreInside run = OfEachGuest run (λ c number part ran.
    (now : ℕ) → now ≤ length (takes_in ran.run.came) → Fetches (at_moment ran.run.start (takes_in ran.run.came) now)
    → StoresInside (fetched c.code (at_moment ran.run.start (takes_in ran.run.came) now))
    (at_moment ran.run.start (takes_in ran.run.came) now))
