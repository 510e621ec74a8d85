-- What holds before the first line, and is kept by each event, holds after each line.
use Rattle.std.proofs.Common.{ℕ, zero, suc, List, [], ◌∷◌, sym, subst}
use Rattle.std.specs.List.{All}
use Rattle.cfi_aux.specs.declared.modules.Module.{Module}
use Rattle.cfi_aux.specs.Sound.{IsSoundModule}
use Rattle.cfi_plan.specs.declared.plan.Plan.{Plan}
use Rattle.cfi_plan.specs.Plan.{IsPlan}
use Rattle.cfi_sim.specs.declared.line.Line.{Line}
use Rattle.cfi_sim.specs.declared.line.Line.TheVariants.{Blank, Guest, Load, Refresh, Update, UpdateAll, Release}
use Rattle.cfi_sim.specs.Reach.{Happening, OfGuest, OfUpdate, OfLoad, OfRefresh, OfRelease, Happens, SchedulesJournal}
use Rattle.cfi_sim.specs.Schedule.{Repeats, Makes, LineMakes, LinesMake, ScheduleMakes}
use Rattle.cfi_sim.specs.Stage.{Stage}
use Rattle.cfi_sim.specs.Stands.{Holds}
use Rattle.cfi_sim.specs.Valid.{IsStart}
use Rattle.cfi_sim.proofs.journal.HappensLemmas.{HasRoomFor, holds_after}
use Rattle.cfi_sim.proofs.journal.StartLemmas.{start_holds}
use Rattle.cfi_text.specs.Lines.{numbered_lines}

module _ (plan : Plan) (modules : List Module) (P : Stage → Type 0)
    (kept : (old : Stage) → P old → (happening : Happening) (new : Stage) → Happens plan modules old new happening
    → HasRoomFor happening new → P new) where
  -- events of one kind that begins no update
  repeated : (happening : Happening) → ((s : Stage) → HasRoomFor happening s) → (count : ℕ) (old new : Stage)
      → Repeats (λ (a b : Stage). Happens plan modules a b happening) count old new → P old → P new
  repeated happening free zero old new same holds = subst P (sym same) holds
  repeated happening free (suc count) old new more holds =
      kept more.0 (repeated happening free count old more.0 more.1 holds) happening new more.2 (free new)

  pub line_keeps : (line : Line) (old new : Stage) → Makes plan modules line old new
      → ((happening : Happening) → HasRoomFor happening new) → P old → P new
  line_keeps Blank old new makes few holds = subst P (sym makes) holds
  line_keeps (Guest guest count) old new makes few holds =
      repeated (OfGuest guest) (λ s. tt) count old new makes holds
  line_keeps (Load number) old new makes few holds = kept old holds (OfLoad number) new makes (few (OfLoad number))
  line_keeps Refresh old new makes few holds = kept old holds OfRefresh new makes (few OfRefresh)
  line_keeps (Update count) old new makes few holds = repeated OfUpdate (λ s. tt) count old new makes holds
  line_keeps UpdateAll old new makes few holds =
      repeated OfUpdate (λ s. tt) makes.count old new makes.events holds
  line_keeps (Release guest) old new makes few holds = kept old holds (OfRelease guest) new makes tt

  pub made_keeps : (text : List ℕ) (old new : Stage) → LineMakes plan modules text old new → P old → P new
  made_keeps text old new makes holds = line_keeps makes.line old new makes.makes room holds
    where
      room : (happening : Happening) → HasRoomFor happening new
      room (OfGuest guest) = tt
      room OfUpdate = tt
      room (OfLoad number) = makes.within.updates
      room OfRefresh = makes.within.updates
      room (OfRelease guest) = tt

  pub lines_keep : (texts : List (ℕ × List ℕ)) (old new : Stage) → LinesMake plan modules texts old new → P old
      → P new
  lines_keep [] old new same holds = subst P (sym same) holds
  lines_keep (text ∷ texts) old new makes holds =
      lines_keep texts makes.0 new makes.2 (made_keeps text.1 old makes.0 makes.1 holds)

-- ---- what each stage keeps

-- the stage at the end of a schedule
pub end_holds : (plan : Plan) (modules : List Module) (schedule : List ℕ) (start end : Stage) → IsPlan plan
    → All IsSoundModule modules → IsStart plan modules start → ScheduleMakes plan modules schedule start end
    → Holds plan modules start.state end
end_holds plan modules schedule start end is sound starts makes =
    lines_keep plan modules (Holds plan modules start.state)
    (λ old holds happening new event room.
    holds_after plan modules sound start.state old holds happening new event room)
    (numbered_lines schedule) start end makes (start_holds plan modules is sound start starts)

pub journal : SchedulesJournal
journal = λ plan modules schedule start end is sound starts makes.
    let holds = end_holds plan modules schedule start end is sound starts makes in
    record { opening = start.state; opens = starts.opens; leads = holds.stands.leads }
