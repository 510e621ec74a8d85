-- What came to a guest, from its opening on: what its pass has loaded, and the ends of its services.
use Rattle.std.specs.Prelude.{◌≡◌, ◌≤◌, List, [], ◌∷◌, ⊤}
use Rattle.cfi_model.specs.Came.{AreAskedBy, Came, loads_in, takes_in}
use Rattle.cfi_model.specs.Fits.{Along}
use Rattle.cfi_model.specs.History.{IsStart}
use Rattle.cfi_model.specs.Raw.{Raw}
use Rattle.cfi_model.specs.Run.{Take, Word, Served, take_one, run_of}
use Rattle.cfi_model.specs.Service.{Reply}
use Rattle.cfi_guest_part.specs.Ran.{IsOpenedAs}
use Rattle.cfi_runner.specs.Seen.{SeesMore, history_seen, code_seen}
use Rattle.cfi_tables.specs.Key.{Key}
use Rattle.cfi_tables.specs.declared.view.PassView.{PassView}
use Rattle.cfi_tables.specs.declared.view.Sight.{Sight}
use Rattle.cfi_valid.specs.Course.{Course}
use Rattle.cfi_valid.specs.Journal.{JournalState, members_of}
use Rattle.cfi_valid.specs.Loaded.{fills_between, Filled}
use Rattle.cfi_valid.specs.Replay.{given_by}

-- the answer to an open that succeeds brings the data of all modules up to its policy that the guest lacks, and
-- the cells at that policy
pub record IsDue (end : JournalState) (r : Raw) (reply : Reply) : Type 0 where
  pub most : reply.policy ≤ end.policy
  pub fills : reply.fills ≡ fills_between Filled (given_by r.base.log) reply.policy (members_of end)

-- a service that answered with cause 0 was due, as the state at the end has it; of a word nothing is asked
abbrev pub IsDueWith : JournalState → Raw → Take → Type 0
IsDueWith end r (Word word) = ⊤
IsDueWith end r (Served reply) = reply.cause ≡ 0 → IsDue end r reply

-- so it is of all takes, each at the guest as it was then
abbrev pub AreDue : JournalState → Raw → List Take → Type 0
AreDue end r [] = ⊤
AreDue end r (t ∷ takes) = IsDueWith end r t × AreDue end (take_one r t) takes

-- The guest is where the raw machine is after all that came to it since its opening: all that its pass has loaded, each
-- as the machine had asked for it, and the ends of its services. Whatever its pass sees later, this fits the history
-- that it has seen then.
pub record IsPath (k : Key) (c : Course) (p : PassView) (last : Raw) : Type 0 where
  pub start : Raw
  pub opened : IsOpenedAs c.plan (members_of c.end) p.guest start
  pub starts : IsStart (history_seen k p.sight) start.base.pc
  pub came : List Came
  pub loads : loads_in came ≡ p.sight.accesses
  pub asked : AreAskedBy k.code_words start came
  pub due : AreDue c.end start (takes_in came)
  pub is : last ≡ run_of start (takes_in came)
  pub along : (later : Sight) → SeesMore k p.sight later
      → Along (history_seen k later) (code_seen k later) start (takes_in came)
