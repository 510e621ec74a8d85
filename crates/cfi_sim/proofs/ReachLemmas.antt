-- A schedule goes event by event.
use Rattle.std.proofs.Common.{◌≡◌, ℕ, zero, suc, List, [], ◌∷◌, refl, sym, subst}
use Rattle.cfi_aux.specs.declared.modules.Module.{Module}
use Rattle.cfi_plan.specs.declared.plan.Plan.{Plan}
use Rattle.cfi_sim.specs.declared.line.Line.{Line}
use Rattle.cfi_sim.specs.declared.line.Line.TheVariants.{Blank, Guest, Load, Refresh, Update, UpdateAll, Release}
use Rattle.cfi_sim.specs.Reach.{Happening, OfGuest, OfUpdate, OfLoad, OfRefresh, OfRelease, Happens, IsNext, EventsReach, SchedulesReach}
use Rattle.cfi_sim.specs.Schedule.{Repeats, Makes, LinesMake}
use Rattle.cfi_sim.specs.Stage.{Stage}
use Rattle.cfi_text.specs.Lines.{numbered_lines}

module _ (plan : Plan) (modules : List Module) where
  none : (old new : Stage) → new ≡ old → EventsReach plan modules old new
  none old new same = (0, same)

  one : (old mid new : Stage) → EventsReach plan modules old mid → (happening : Happening)
      → Happens plan modules mid new happening → EventsReach plan modules old new
  one old mid new reached happening happens = (suc reached.0, (mid, reached.1, (happening, happens)))

  further : (count : ℕ) (old mid new : Stage) → EventsReach plan modules old mid
      → Repeats (IsNext plan modules) count mid new → EventsReach plan modules old new
  further zero old mid new reached same = subst (EventsReach plan modules old) (sym same) reached
  further (suc count) old mid new reached more =
      one old more.0 new (further count old mid more.0 reached more.1) more.2.0 more.2.1

  -- events of one kind
  alike : (happening : Happening) (count : ℕ) (old new : Stage)
      → Repeats (λ (a b : Stage). Happens plan modules a b happening) count old new → EventsReach plan modules old new
  alike happening zero old new same = none old new same
  alike happening (suc count) old new more =
      one old more.0 new (alike happening count old more.0 more.1) happening more.2

  line_reaches : (line : Line) (old new : Stage) → Makes plan modules line old new → EventsReach plan modules old new
  line_reaches Blank old new makes = none old new makes
  line_reaches (Guest guest count) old new makes = alike (OfGuest guest) count old new makes
  line_reaches (Load number) old new makes = one old old new (none old old refl) (OfLoad number) makes
  line_reaches Refresh old new makes = one old old new (none old old refl) OfRefresh makes
  line_reaches (Update count) old new makes = alike OfUpdate count old new makes
  line_reaches UpdateAll old new makes = alike OfUpdate makes.count old new makes.events
  line_reaches (Release guest) old new makes = one old old new (none old old refl) (OfRelease guest) makes

  lines_reach : (texts : List (ℕ × List ℕ)) (old new : Stage) → LinesMake plan modules texts old new
      → EventsReach plan modules old new
  lines_reach [] old new same = none old new same
  lines_reach (text ∷ texts) old new makes =
      let rest = lines_reach texts makes.0 new makes.2 in
      further rest.0 old makes.0 new (line_reaches makes.1.line old makes.0 makes.1.makes) rest.1

pub reach : SchedulesReach
reach = λ plan modules schedule old new makes. lines_reach plan modules (numbered_lines schedule) old new makes
