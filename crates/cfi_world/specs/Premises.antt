-- What a world is opened for, and which events it may be given.
use Rattle.std.specs.Prelude.{◌≡◌, ◌≢◌, ℕ, ◌≤◌, ◌<◌, List, length, slice_get, Option, Some, None, ⊤}
use Rattle.std.specs.List.{All}
use Rattle.cfi_unit.specs.declared.fill.Fill.{Fill}
use Rattle.cfi_word.specs.declared.lists.Image.{Image}
use Rattle.cfi_word.specs.declared.services.TheConstants.{TOO_MANY}
use Rattle.cfi_word.specs.declared.limits.TheConstants.{GUESTS, MAX_EPOCH, MIN_VERSIONS, MAX_VERSIONS}
use Rattle.cfi_model.specs.Closed.{IsClosed, IsStartIn}
use Rattle.cfi_model.specs.Data.{LiesInData}
use Rattle.cfi_model.specs.Raw.{Raw, raw_opened}
use Rattle.cfi_model.specs.Service.{Reply}
use Rattle.cfi_model.specs.Tables.{IsLoad}
use Rattle.cfi_model.specs.Words.{Tables, entry_at, newest, policy_in_force}
use Rattle.cfi_model.specs.World.{World}
use Rattle.cfi_world.specs.Turns.{reply_in}
use Rattle.cfi_world.specs.Updates.{asked_entry}
use Rattle.cfi_world.specs.declared.event.Event.{Event}
use Rattle.cfi_world.specs.declared.event.Event.TheVariants as events

-- a guest as it is opened with a number, at a start of the image
pub record IsOpened (image : Image) (number : ℕ) (r : Raw) : Type 0 where
  pub entry : ℕ
  pub fills : List Fill
  pub inside : All LiesInData fills
  pub is : r ≡ raw_opened number entry fills
  pub start : IsStartIn image entry

-- what a world may be opened for: a closed image and guests that are opened in it
pub record CanOpen (code_words versions first : ℕ) (image : Image) (guests : List Raw) (fuel : ℕ) : Type 0 where
  pub versions_least : MIN_VERSIONS ≤ versions
  pub versions_most : versions ≤ MAX_VERSIONS
  pub first_most : first ≤ MAX_EPOCH
  pub closed : IsClosed code_words image
  pub few : length guests ≤ GUESTS
  pub opened : (number : ℕ) (r : Raw) → slice_get guests number ≡ Some r → IsOpened image number r
  pub fuel_least : 1 ≤ fuel

-- an image may be loaded: it is closed and keeps the code, and there is a next policy
abbrev pub MayBegin : Tables → Option Image → Type 0
MayBegin t None = ⊤
MayBegin t (Some image) = IsLoad t.code_words (entry_at t (newest t)) (asked_entry t (Some image))

-- an update may begin, and is not one too many
pub record HasRoom (w : World) (image : Option Image) : Type 0 where
  pub room : w.updates < w.room
  pub may : MayBegin w.tables image

-- An answer has the policy in force, and its fills lie inside private data. That there are too many opens is never the
-- answer to one that asks: the world itself answers that, where no more can be logged.
pub record MayAnswer (w : World) (reply : Reply) : Type 0 where
  pub policy : reply.policy ≡ policy_in_force w.tables
  pub few : reply.cause ≢ TOO_MANY
  pub inside : All LiesInData reply.fills

-- the event is one that the world may be given: images fit its tables, and answers its guests
abbrev pub MayTurn : World → Event → Type 0
MayTurn w (events.Guest guest) = ⊤
MayTurn w (events.Begin image) = HasRoom w image
MayTurn w events.Update = ⊤
MayTurn w (events.Answer guest answer) = MayAnswer w (reply_in answer)
MayTurn w (events.Release guest) = ⊤
