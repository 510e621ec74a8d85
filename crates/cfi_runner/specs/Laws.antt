-- What runs of a guest come to: what it shows, what a service hands on, and how runs join.
use Rattle.std.specs.Prelude.{◌≡◌, ℕ, ◌≤◌, false, List, ◌∷◌, ◌++◌, None}
use Rattle.cfi_unit.specs.declared.fill.Fill.{Fill}
use Rattle.cfi_word.specs.declared.services.TheConstants.{OPEN}
use Rattle.cfi_model.specs.declared.history.Access.{Access}
use Rattle.cfi_model.specs.Accesses.{ended_by, left_by, left_of, takes_of}
use Rattle.cfi_model.specs.Closed.{IsStartIn}
use Rattle.cfi_model.specs.Fits.{Along, FitsOpen}
use Rattle.cfi_model.specs.History.{IsHistory, IsStart}
use Rattle.cfi_model.specs.Raw.{Raw, raw_opened}
use Rattle.cfi_model.specs.Run.{Take, Served, run_of, serve_of}
use Rattle.cfi_model.specs.Service.{Reply, too_many}
use Rattle.cfi_model.specs.Shows.{IsShown, ends_along}
use Rattle.cfi_model.specs.State.{State}
use Rattle.cfi_model.specs.Tables.{IsTables}
use Rattle.cfi_tables.specs.Key.{Key}
use Rattle.cfi_tables.specs.Keeping.{Keeping, last_of}
use Rattle.cfi_tables.specs.Loads.{IsQuiet}
use Rattle.cfi_tables.specs.Rule.{AgreesWith}
use Rattle.cfi_tables.specs.Views.{noted, sight_of, tables_with}
use Rattle.cfi_tables.specs.declared.view.PassView.{PassView}
use Rattle.cfi_tables.specs.declared.view.Sight.{Sight}
use Rattle.cfi_runner.specs.Seen.{IsSight, SeesMore, history_seen, code_seen, policy_seen}
use Rattle.cfi_runner.specs.Run.{CanRunOn, HasRunOn, HasTaken, words_found}
use Rattle.cfi_runner.specs.Shown.{IsPausedIn}
use Rattle.cfi_runner.specs.declared.pause.Pause.{Pause}
use Rattle.cfi_runner.specs.declared.pause.Pause.TheVariants as pauses

-- over what a pass has seen the guest that has run shows a state of the policy machine, and pauses in a unit of it
pub record IsShownBy (k : Key) (later : Sight) (old : Raw) (takes : List Take) (pause : Pause) : Type 0 where
  pub history : IsHistory (history_seen k later) (code_seen k later)
  pub retries : ℕ
  pub state : State
  pub shown : IsShown (history_seen k later) (code_seen k later) 0 old.base old takes retries state
  pub paused : IsPausedIn (history_seen k later) (code_seen k later) (ends_along old takes) old.base state pause

-- a run shows the policy machine, whatever its pass sees later
abbrev pub RunsShow : Type 0
RunsShow =
    (k : Key) (fuel : ℕ) (p q : PassView) (old new : Raw) (pause : Pause) → CanRunOn k fuel p old →
    (run : HasRunOn k fuel p q old new pause) → (later : Sight) → SeesMore k q.sight later →
    IsShownBy k later old (words_found run.taken.accesses) pause

-- the service of a paused guest may end with this reply: an open's is an answer, of no policy above the latest one
pub record MayServe (k : Key) (later : Sight) (number : ℕ) (reply : Reply) (r : Raw) : Type 0 where
  pub fits : number ≡ OPEN → FitsOpen reply r.base
  pub known : reply.cause ≡ 0 → reply.policy ≤ policy_seen k later

-- where the pass has seen as much or more then, and the guest has not stopped, it can run on
abbrev pub ServicesHandOn : Type 0
ServicesHandOn =
    (k : Key) (fuel : ℕ) (p q next : PassView) (old new : Raw) (number : ℕ) → CanRunOn k fuel p old →
    HasRunOn k fuel p q old new (pauses.Service number) → SeesMore k q.sight next.sight →
    (reply : Reply) → MayServe k next.sight number reply new → (serve_of new reply).base.stop ≡ None →
    CanRunOn k fuel next (serve_of new reply)

-- two runs with a service between them are one
abbrev pub RunsJoin : Type 0
RunsJoin =
    (k : Key) (fuel : ℕ) (p q next end : PassView) (old mid new : Raw) (number : ℕ) (pause : Pause) →
    (run : HasRunOn k fuel p q old mid (pauses.Service number)) → SeesMore k q.sight next.sight →
    (reply : Reply) → MayServe k next.sight number reply mid →
    (then : HasRunOn k fuel next end (serve_of mid reply) new pause) →
    let takes = words_found run.taken.accesses ++ Served reply ∷ words_found then.taken.accesses in
    (then.last ≡ run_of old takes)
    × ((later : Sight) → SeesMore k end.sight later → Along (history_seen k later) (code_seen k later) old takes)

-- what a run appends to its pass brings the words that were found, and the end of a service that needs no answer
abbrev pub RunsAreTaken : Type 0
RunsAreTaken =
    (k : Key) (p q : PassView) (old last : Raw) → old.waits ≡ None →
    (taken : HasTaken k p q old last) (replies : List Reply) →
    (takes_of old replies taken.accesses ≡ words_found taken.accesses ++ ended_by last.waits last replies)
    × (left_of old replies taken.accesses ≡ left_by last.waits last replies)

-- a guest that is opened at a start of an image that its pass has seen in force can run
abbrev pub OpenedCanRun : Type 0
OpenedCanRun =
    (k : Key) (p : PassView) (fuel number entry : ℕ) (fills : List Fill) → IsSight k p.sight →
    IsStart (history_seen k p.sight) entry → CanRunOn k fuel p (raw_opened number entry fills)

-- what was seen is a history, over which the raw machine shows the policy machine
abbrev pub SightIsHistory : Type 0
SightIsHistory = (k : Key) (s : Sight) → IsSight k s → IsHistory (history_seen k s) (code_seen k s)

-- a pass that is admitted or told has seen entries of tables, and the starts of the last image
abbrev pub AdmittedSee : Type 0
AdmittedSee =
    (k : Key) (keeping : Keeping) (accesses : List Access) → IsTables (tables_with k keeping.entries) →
    IsSight k (sight_of k keeping accesses)
    × ((entry : ℕ) → IsStartIn (last_of keeping.entries).image entry →
    IsStart (history_seen k (sight_of k keeping accesses)) entry)

-- after a note it has seen more, and so after a quiescent point
abbrev pub NotedSee : Type 0
NotedSee =
    (k : Key) (keeping : Keeping) (p : PassView) → IsTables (tables_with k keeping.entries) →
    AgreesWith k keeping.entries keeping.refusals p.sight → IsSight k p.sight →
    SeesMore k p.sight (noted k keeping p).sight

-- a pass sees more at a quiescent point
abbrev pub QuietSee : Type 0
QuietSee =
    (k : Key) (epoch : ℕ) (p q : PassView) → IsQuiet k epoch p q → IsSight k p.sight → SeesMore k p.sight q.sight

-- where more was seen, and then more, more was seen
abbrev pub SeesGoOn : Type 0
SeesGoOn = (k : Key) (a b c : Sight) → SeesMore k a b → SeesMore k b c → SeesMore k a c

-- some guest can run, asks for a service, and can run on when it has ended
pub record IsServedRun (k : Key) (fuel : ℕ) : Type 0 where
  pub p : PassView
  pub q : PassView
  pub old : Raw
  pub new : Raw
  pub can : CanRunOn k fuel p old
  pub outside : p.parked ≡ false
  pub run : HasRunOn k fuel p q old new (pauses.Service 0)
  pub may : MayServe k q.sight 0 too_many new
  pub going : (serve_of new too_many).base.stop ≡ None

-- some guest is run and served, under any fuel
abbrev pub SomeIsServed : Type 0
SomeIsServed = (fuel : ℕ) → 1 ≤ fuel → (k : Key) × IsServedRun k fuel
