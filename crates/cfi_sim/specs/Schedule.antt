-- What the lines of a schedule make of its stage. A line for which there is no such stage is a bad one.
use Rattle.std.specs.Prelude.{◌≡◌, ℕ, zero, suc, ◌≤◌, List, [], ◌∷◌}
use Rattle.cfi_aux.specs.declared.modules.Module.{Module}
use Rattle.cfi_plan.specs.declared.plan.Plan.{Plan}
use Rattle.cfi_sim.specs.declared.limits.TheConstants.{MAX_EVENTS, MAX_UPDATES}
use Rattle.cfi_sim.specs.declared.line.Line.{Line}
use Rattle.cfi_sim.specs.declared.line.Line.TheVariants.{Blank, Guest, Load, Refresh, Update, UpdateAll, Release}
use Rattle.cfi_sim.specs.Events.{IsIdle, IsGuestEvent, IsUpdateEvent, IsRefreshEvent, IsLoadEvent, IsReleaseEvent}
use Rattle.cfi_sim.specs.Line.{Says}
use Rattle.cfi_sim.specs.Stage.{Stage}
use Rattle.cfi_text.specs.Lines.{numbered_lines, statement_of}
use Rattle.cfi_text.specs.Words.{words_in}

-- so many events of one kind
abbrev pub Repeats : (Happens : (old new : Stage) → Type 0) → (count : ℕ) → (old new : Stage) → Type 0
Repeats Happens zero old new = new ≡ old
Repeats Happens (suc count) old new = (mid : Stage) × Repeats Happens count old mid × Happens mid new

-- the events of the updater that are left of an update: none where none is under way, since each one has an update
pub record IsWholeUpdate (plan : Plan) (modules : List Module) (old new : Stage) : Type 0 where
  pub count : ℕ
  pub events : Repeats (IsUpdateEvent plan modules) count old new
  pub idle : IsIdle new.world

-- what a line makes, a case a line
abbrev pub Makes : Plan → List Module → Line → (old new : Stage) → Type 0
Makes plan modules Blank old new = new ≡ old
Makes plan modules (Guest guest count) old new = Repeats (IsGuestEvent plan guest) count old new
Makes plan modules (Load number) old new = IsLoadEvent plan modules number old new
Makes plan modules Refresh old new = IsRefreshEvent old new
Makes plan modules (Update count) old new = Repeats (IsUpdateEvent plan modules) count old new
Makes plan modules UpdateAll old new = IsWholeUpdate plan modules old new
Makes plan modules (Release guest) old new = IsReleaseEvent guest old new

-- no limit is passed
pub record PassesNoLimit (s : Stage) : Type 0 where
  pub events : s.events ≤ MAX_EVENTS
  pub updates : s.world.updates ≤ MAX_UPDATES

-- the text of a line is one, and leads from one stage to another
pub record LineMakes (plan : Plan) (modules : List Module) (text : List ℕ) (old new : Stage) : Type 0 where
  pub line : Line
  pub says : Says plan (words_in (statement_of text)) line
  pub makes : Makes plan modules line old new
  pub within : PassesNoLimit new

-- lines with their numbers do, one after the other
abbrev pub LinesMake : Plan → List Module → (texts : List (ℕ × List ℕ)) → (old new : Stage) → Type 0
LinesMake plan modules [] old new = new ≡ old
LinesMake plan modules (text ∷ texts) old new =
    (mid : Stage) × LineMakes plan modules text.1 old mid × LinesMake plan modules texts mid new

-- a whole schedule does
abbrev pub ScheduleMakes : Plan → List Module → (schedule : List ℕ) → (old new : Stage) → Type 0
ScheduleMakes plan modules schedule old new = LinesMake plan modules (numbered_lines schedule) old new
