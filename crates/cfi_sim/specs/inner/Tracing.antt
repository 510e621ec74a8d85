-- What a simulation under way tells while it makes the lines of a schedule.
use Rattle.std.specs.Prelude.{◌≡◌, ℕ, Bool, true, false, List, ◌++◌}
use Rattle.cfi_sim.specs.Schedule.{PassesNoLimit, Makes, Repeats}
use Rattle.cfi_sim.specs.Events.{IsGuestEvent}
use Rattle.cfi_sim.specs.Trace.{Tracing, tracing, TellsEvent, TellEvents, Tells, LinesTell}
use Rattle.cfi_sim.specs.declared.line.Line.{Line}
use Rattle.cfi_sim.specs.inner.Making.{Cannot}
use Rattle.cfi_sim.specs.inner.Standing.{Whole, IsUnderWay}
use Rattle.cfi_text.specs.Lines.{numbered_lines}
use Rattle.cfi_world.specs.Turns.{turn_of}
use Rattle.cfi_world.specs.declared.event.Event.TheVariants as events
use Rattle.cfi_world.specs.declared.event.Turned.TheVariants.{Nothing}

-- something was told, and has led from one text and stage to others, within the limits
pub record HasTold (P : (old new : Tracing) → Type 0) (old : Whole) (before : List ℕ) (new : Whole) (text : List ℕ)
    : Type 0 where
  pub told : P (tracing old.stage before) (tracing new.stage text)
  pub plan : new.plan ≡ old.plan
  pub modules : new.modules ≡ old.modules
  pub under_way : IsUnderWay new
  pub within : PassesNoLimit new.stage

-- an event of a guest was told, or there was none
abbrev pub TellsBy : (guest : ℕ) → (old : Whole) → (before : List ℕ) → (new : Whole) → (text : List ℕ)
    → (happened : Bool) → Type 0
TellsBy guest old before new text true = HasTold (TellsEvent old.plan guest) old before new text
TellsBy guest old before new text false = (turn_of old.stage.world (events.Guest guest)).answer ≡ Nothing

-- so many were told, or there are fewer
abbrev pub TellManyBy : (guest count : ℕ) → (old : Whole) → (before : List ℕ) → (new : Whole) → (text : List ℕ)
    → (happened : Bool) → Type 0
TellManyBy guest count old before new text true = HasTold (TellEvents old.plan guest count) old before new text
TellManyBy guest count old before new text false = Cannot (Repeats (IsGuestEvent old.plan guest) count) old

-- what a line makes was told, or it makes nothing
abbrev pub TellsLineBy : Line → (old : Whole) → (before : List ℕ) → (new : Whole) → (text : List ℕ)
    → (happened : Bool) → Type 0
TellsLineBy line old before new text true = HasTold (Tells old.plan old.modules line) old before new text
TellsLineBy line old before new text false = Cannot (Makes old.plan old.modules line) old

-- some lines were told, and these are left
pub record TracesTo (schedule : List ℕ) (left : List (ℕ × List ℕ)) (old : Whole) (before : List ℕ) (new : Whole)
    (text : List ℕ) : Type 0 where
  pub done : List (ℕ × List ℕ)
  pub lines : numbered_lines schedule ≡ done ++ left
  pub told : HasTold (LinesTell old.plan old.modules done) old before new text
