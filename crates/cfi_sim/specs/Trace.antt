-- Traces: what is told of a schedule, line by line, and of each event of its guests. A line that has a word is told
-- first, with its number; of the updater's events, loads and releases nothing else is told.
use Rattle.std.specs.Prelude.{◌≡◌, ℕ, zero, suc, List, [], ◌∷◌, ◌++◌, slice_get, option_map, codes, Option, Some}
use Rattle.cfi_aux.specs.declared.modules.Module.{Module}
use Rattle.cfi_model.specs.Raw.{Raw}
use Rattle.cfi_model.specs.Words.{Tables}
use Rattle.cfi_model.specs.World.{World, point_of}
use Rattle.cfi_plan.specs.declared.plan.Plan.{Plan}
use Rattle.cfi_sim.specs.declared.line.Line.{Line}
use Rattle.cfi_sim.specs.declared.line.Line.TheVariants.{Blank, Guest, Load, Refresh, Update, UpdateAll, Release}
use Rattle.cfi_sim.specs.Events.{IsGuestEvent}
use Rattle.cfi_sim.specs.Line.{Says}
use Rattle.cfi_sim.specs.Schedule.{Makes, PassesNoLimit}
use Rattle.cfi_sim.specs.Stage.{Stage}
use Rattle.cfi_sim.specs.Valid.{IsStart}
use Rattle.cfi_sim.specs.declared.seen.Seen.{Seen}
use Rattle.cfi_sim.specs.Step.{seen_of, step_text}
use Rattle.cfi_text.specs.Decimal.{dec_text}
use Rattle.cfi_text.specs.Lines.{numbered_lines, statement_of}
use Rattle.cfi_text.specs.Words.{unblanked, words_in}

-- how far a trace has come: the stage, and the text so far
pub record Tracing : Type 0 where
  pub stage : Stage
  pub text : List ℕ

-- a stage, and what was told so far
abbrev pub tracing : Stage → (text : List ℕ) → Tracing
tracing stage text = record { stage = stage; text = text }

-- ---- events of guests

-- what is told of an event of a guest, by the guest before and after it, and by how far it was in a service
abbrev pub told_of : Tables → (guest : ℕ) → Option Seen → Option Raw → List ℕ
told_of t guest (Some old) (Some new) = step_text t guest old new
told_of t guest old new = []

-- what is told of an event of a guest
abbrev pub event_text : (guest : ℕ) → (old new : World) → List ℕ
event_text guest old new =
    told_of new.tables guest (option_map (seen_of (point_of old guest)) (slice_get old.guests guest))
    (slice_get new.guests guest)

-- a guest's event, and what is told of it behind what was told before
pub record TellsEvent (plan : Plan) (guest : ℕ) (old new : Tracing) : Type 0 where
  pub event : IsGuestEvent plan guest old.stage new.stage
  pub text : new.text ≡ old.text ++ event_text guest old.stage.world new.stage.world

-- so many of them
abbrev pub TellEvents : Plan → (guest count : ℕ) → (old new : Tracing) → Type 0
TellEvents plan guest zero old new = new ≡ old
TellEvents plan guest (suc count) old new =
    (mid : Tracing) × TellEvents plan guest count old mid × TellsEvent plan guest mid new

-- ---- lines

-- something happens of which nothing is told
pub record IsSilent (Happens : (old new : Stage) → Type 0) (old new : Tracing) : Type 0 where
  pub happens : Happens old.stage new.stage
  pub text : new.text ≡ old.text

-- what is told of what a line makes, a case a line
abbrev pub Tells : Plan → List Module → Line → (old new : Tracing) → Type 0
Tells plan modules (Guest guest count) old new = TellEvents plan guest count old new
Tells plan modules Blank old new = IsSilent (Makes plan modules Blank) old new
Tells plan modules (Load number) old new = IsSilent (Makes plan modules (Load number)) old new
Tells plan modules Refresh old new = IsSilent (Makes plan modules Refresh) old new
Tells plan modules (Update count) old new = IsSilent (Makes plan modules (Update count)) old new
Tells plan modules UpdateAll old new = IsSilent (Makes plan modules UpdateAll) old new
Tells plan modules (Release guest) old new = IsSilent (Makes plan modules (Release guest)) old new

-- the line itself, which is told where it has a word
abbrev pub named_text : (number : ℕ) → (statement : List ℕ) → List ℕ
named_text number statement = codes "line " ++ dec_text number ++ codes " " ++ unblanked statement ++ codes "\n"

-- the head of a line: its number and its statement, where it has one
abbrev pub heading_text : (number : ℕ) → (statement : List ℕ) → Line → List ℕ
heading_text number statement Blank = []
heading_text number statement (Guest guest count) = named_text number statement
heading_text number statement (Load module_number) = named_text number statement
heading_text number statement Refresh = named_text number statement
heading_text number statement (Update count) = named_text number statement
heading_text number statement UpdateAll = named_text number statement
heading_text number statement (Release guest) = named_text number statement

-- the text of a line is one, which is told, and what it makes
pub record LineTells (plan : Plan) (modules : List Module) (number : ℕ) (text : List ℕ) (old new : Tracing)
    : Type 0 where
  pub line : Line
  pub says : Says plan (words_in (statement_of text)) line
  pub tells : Tells plan modules line
      (tracing old.stage (old.text ++ heading_text number (statement_of text) line)) new
  pub within : PassesNoLimit new.stage

-- lines with their numbers, one after the other
abbrev pub LinesTell : Plan → List Module → (texts : List (ℕ × List ℕ)) → (old new : Tracing) → Type 0
LinesTell plan modules [] old new = new ≡ old
LinesTell plan modules (text ∷ texts) old new =
    (mid : Tracing) × LineTells plan modules text.0 text.1 old mid × LinesTell plan modules texts mid new

-- ---- a whole schedule

-- the text is what is told of a schedule from the stage before its first line on
pub record IsTrace (plan : Plan) (modules : List Module) (schedule text : List ℕ) : Type 0 where
  pub start : Stage
  pub starts : IsStart plan modules start
  pub end : Stage
  pub tells : LinesTell plan modules (numbered_lines schedule) (tracing start []) (tracing end text)
