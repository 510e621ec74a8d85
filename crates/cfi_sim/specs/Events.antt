-- What each event of a schedule makes of its stage. An event is one whose turn is not `Nothing`.
use Rattle.cfi_sim.specs.declared.aim.Aim.{Aim}
use Rattle.cfi_sim.specs.declared.aim.Aim.TheVariants.{Loading, Refreshing}
use Rattle.cfi_sim.specs.Stage.{Stage, with_journal_line, dropped, IsMade, after_event}
use Rattle.std.specs.Prelude.{◌≡◌, ◌≢◌, ◌⊎◌, ℕ, ◌≤◌, ◌<◌, List, [], ◌∷◌, ◌++◌, length, slice_get, Option, Some, None}
use Rattle.cfi_aux.specs.declared.modules.Module.{Module}
use Rattle.cfi_graph.specs.Direct.{DirectEdge}
use Rattle.cfi_ledger.specs.Opens.{given_reply}
use Rattle.cfi_model.specs.declared.phase.Phase.{Phase}
use Rattle.cfi_model.specs.declared.phase.Phase.TheVariants as phases
use Rattle.cfi_model.specs.Phases.{phase_of}
use Rattle.cfi_model.specs.Raw.{Raw}
use Rattle.cfi_model.specs.Service.{Reply, reply_of}
use Rattle.cfi_model.specs.State.{State}
use Rattle.cfi_model.specs.World.{World}
use Rattle.cfi_plan.specs.declared.journal.JournalLine.{JournalLine}
use Rattle.cfi_plan.specs.declared.journal.JournalLine.TheVariants as lines
use Rattle.cfi_plan.specs.declared.plan.Plan.{Plan}
use Rattle.cfi_policy.specs.Image.{IsImage}
use Rattle.cfi_modules.specs.Image.{IsOrderedImage}
use Rattle.cfi_sim.specs.declared.found.Found.{Found}
use Rattle.cfi_sim.specs.declared.found.Found.TheVariants.{Unknown, Functionless, Opened, Unloaded}
use Rattle.cfi_sim.specs.declared.limits.TheConstants.{NOT_LOADED}
use Rattle.cfi_valid.specs.Journal.{JournalState, LineLeads, IsClean, members_of}
use Rattle.cfi_valid.specs.Loaded.{LoadedModule, placed_modules, fills_between, Left}
use Rattle.cfi_valid.specs.Log.{HasFunctionAt, HasNoFunction}
use Rattle.cfi_valid.specs.Replay.{given_by}
use Rattle.cfi_unit.specs.declared.fill.Fill.{Fill}
use Rattle.cfi_word.specs.declared.lists.Image.{Image}
use Rattle.cfi_word.specs.declared.services.TheConstants.{NO_MODULE}
use Rattle.cfi_world.specs.declared.event.Event.TheVariants as events
use Rattle.cfi_world.specs.declared.event.Turned.{Turned}
use Rattle.cfi_world.specs.declared.event.Turned.TheVariants.{Did, Asks, VersionsSpent, EpochsSpent}
use Rattle.cfi_world.specs.Turns.{turn_of, answer_turn}

-- ---- opens

-- no update is under way
abbrev pub IsIdle : World → Type 0
IsIdle world = phase_of world.tables ≡ phases.Idle

-- the module is loaded, with a function to be opened, and no update is under way
pub record IsOpen (loaded : List LoadedModule) (world : World) (number address : ℕ) : Type 0 where
  pub opened : HasFunctionAt loaded number address
  pub idle : IsIdle world

-- a case a cause, in the order in which they are tried
abbrev pub IsFound : Plan → World → List LoadedModule → (number : ℕ) → Found → Type 0
IsFound plan world loaded number Unknown = length plan.modules ≤ number
IsFound plan world loaded number Functionless = (number < length plan.modules) × HasNoFunction loaded number
IsFound plan world loaded number (Opened address) =
    (number < length plan.modules) × IsOpen loaded world number address
IsFound plan world loaded number Unloaded =
    (number < length plan.modules) × ¬ HasNoFunction loaded number
    × ((address : ℕ) → ¬ IsOpen loaded world number address)

-- the reply to what an open finds, under a policy, with this data; where the module is open, it is that of a run
abbrev pub found_reply : Found → (policy : ℕ) → List Fill → Reply
found_reply Unknown policy fills = reply_of 0 NO_MODULE policy []
found_reply Functionless policy fills = given_reply None policy fills
found_reply (Opened address) policy fills = given_reply (Some address) policy fills
found_reply Unloaded policy fills = reply_of 0 NOT_LOADED policy []

-- the data is that which came with policies above the one up to which the guest has data; no cell is filled
abbrev pub reply_by : JournalState → State → Found → Reply
reply_by state s found =
    found_reply found state.policy (fills_between Left (given_by s.log) state.policy (members_of state))

-- an open that is to be answered is so in the event in which its guest parks
pub record IsAnswered (plan : Plan) (state : JournalState) (old new : World) (guest number : ℕ) : Type 0 where
  pub r : Raw
  pub there : slice_get old.guests guest ≡ Some r
  pub found : Found
  pub is_found : IsFound plan old state.loaded number found
  pub is : new ≡ (answer_turn old guest (reply_by state r.base found) (Some r)).world

-- ---- an event of a guest

-- what the turn of a guest comes to: an event, or an open that is answered; else it is none
abbrev pub GuestTurns : Plan → JournalState → (mid new : World) → (guest : ℕ) → Turned → Type 0
GuestTurns plan state mid new guest Did = new ≡ mid
GuestTurns plan state mid new guest (Asks asking number) = IsAnswered plan state mid new guest number
GuestTurns plan state mid new guest answer = ⊥

-- a guest's event
pub record IsGuestEvent (plan : Plan) (guest : ℕ) (old new : Stage) : Type 0 where
  pub world : World
  pub turns : (let turn = turn_of old.world (events.Guest guest) in
      GuestTurns plan old.state turn.world world guest turn.answer)
  pub is : new ≡ after_event world old

-- ---- an event of the updater

-- what it means for the journal, by the phase before it
abbrev pub IsNoted : Plan → List Module → Phase → Turned → (old new : Stage) → Type 0
IsNoted plan modules phase (VersionsSpent guest quiet) old new = new ≡ dropped old.aim guest quiet old
IsNoted plan modules phases.Epoch answer old new = IsMade plan modules old.aim old new
IsNoted plan modules phase answer old new = new ≡ old

-- an access of the updater, with what it means for the journal
pub record IsUpdateEvent (plan : Plan) (modules : List Module) (old new : Stage) : Type 0 where
  pub busy : phase_of old.world.tables ≢ phases.Idle
  pub is : (let turn = turn_of old.world events.Update in
      IsNoted plan modules (phase_of old.world.tables) turn.answer (after_event turn.world old) new)

-- ---- an update that begins

-- it does, or no epoch is left
abbrev pub Begins : Aim → JournalLine → (old new : Stage) → Option Image → Turned → World → Type 0
Begins aim spent old new image Did world = new ≡ record (after_event world old) { aim = Some aim }
Begins aim spent old new image EpochsSpent world = new ≡ with_journal_line spent (after_event world old)
Begins aim spent old new image answer world = ⊥

-- an update begins, or is told that no epoch is left
abbrev pub IsBeginning : Aim → (spent : JournalLine) → Option Image → (old new : Stage) → Type 0
IsBeginning aim spent image old new =
    let turn = turn_of old.world (events.Begin image) in Begins aim spent old new image turn.answer turn.world

-- a refresh begins so
abbrev pub IsRefreshEvent : (old new : Stage) → Type 0
IsRefreshEvent old new = IsBeginning Refreshing lines.RefreshEpochs None old new

-- ---- a load

-- lines of a load that is told at once, without an event: a case a line
abbrev pub TellsLoad : JournalLine → (number : ℕ) → Type 0
TellsLoad (lines.LoadOk asked epoch policy) number = ⊥
TellsLoad (lines.LoadAgain asked policy) number = asked ≡ number
TellsLoad (lines.LoadFull asked) number = asked ≡ number
TellsLoad (lines.LoadPlace asked fault) number = asked ≡ number
TellsLoad (lines.LoadVerify asked fault place) number = asked ≡ number
TellsLoad (lines.LoadVersions asked guest quiet) number = ⊥
TellsLoad (lines.LoadEpochs asked) number = ⊥
TellsLoad (lines.LoadRetired asked) number = ⊥
TellsLoad (lines.RefreshOk epoch) number = ⊥
TellsLoad (lines.RefreshVersions guest quiet) number = ⊥
TellsLoad lines.RefreshEpochs number = ⊥
TellsLoad (lines.RetireOk asked epoch policy) number = ⊥
TellsLoad (lines.RetireNotLive asked) number = ⊥
TellsLoad (lines.RetireInUse asked user) number = ⊥
TellsLoad (lines.RetireVersions asked guest quiet) number = ⊥
TellsLoad (lines.RetireEpochs asked) number = ⊥

-- the journal has such a line more, which is legal
pub record IsToldLoad (plan : Plan) (modules : List Module) (number : ℕ) (old new : Stage) : Type 0 where
  pub line : JournalLine
  pub told : TellsLoad line number
  pub legal : LineLeads plan modules old.state line old.state
  pub is : new ≡ with_journal_line line old

-- or the module has no fault, and an update to the image of all begins
pub record IsBegunLoad (plan : Plan) (modules : List Module) (number : ℕ) (old new : Stage) : Type 0 where
  pub clean : IsClean plan modules old.state number
  pub image : Image
  pub of_all : (let all = placed_modules old.state.loaded ++ clean.placed ∷ [] in
      IsImage (DirectEdge all) all plan.code_words image)
  pub ordered : IsOrderedImage (placed_modules old.state.loaded ++ clean.placed ∷ []) image
  pub begins : IsBeginning (Loading number) (lines.LoadEpochs number) (Some image) old new

-- a load is told at once, or begins
abbrev pub IsLoadEvent : Plan → List Module → (number : ℕ) → (old new : Stage) → Type 0
IsLoadEvent plan modules number old new =
    IsToldLoad plan modules number old new ⊎ IsBegunLoad plan modules number old new

-- ---- a release

-- a guest is let out of its service
pub record IsReleaseEvent (guest : ℕ) (old new : Stage) : Type 0 where
  pub happens : (turn_of old.world (events.Release guest)).answer ≡ Did
  pub is : new ≡ after_event (turn_of old.world (events.Release guest)).world old
