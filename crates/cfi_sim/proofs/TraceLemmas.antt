-- Traces, as a simulation under way tells them.
use Rattle.std.specs.Prelude.{IfSome, option_map}
use Rattle.std.proofs.Common.{◌≡◌, ℕ, zero, suc, ◌+◌, ◌<◌, ◌≤◌, ◌++◌, Bool, true, false, Option, Some, List, [], ◌∷◌, slice_get, add-one, refl, sym, ◌∙◌, ap, subst, arith, append_assoc}
use Rattle.std.proofs.lemmas.List.{append-nil}
use Rattle.cfi_aux.specs.declared.modules.Module.{Module}
use Rattle.cfi_model.specs.World.{point_of}
use Rattle.cfi_plan.specs.declared.plan.Plan.{Plan}
use Rattle.cfi_sim.specs.declared.fault.SimFault.{SimFault}
use Rattle.cfi_sim.specs.declared.limits.TheConstants.{MAX_EVENTS}
use Rattle.cfi_sim.specs.declared.line.Line.{Line}
use Rattle.cfi_sim.specs.declared.line.Line.TheVariants.{Blank, Guest, Load, Refresh, Update, UpdateAll, Release}
use Rattle.cfi_sim.specs.Events.{IsGuestEvent}
use Rattle.cfi_sim.specs.Line.{Says}
use Rattle.cfi_sim.specs.Schedule.{Repeats, Makes, LineMakes, LinesMake, PassesNoLimit}
use Rattle.cfi_sim.specs.Stage.{Stage}
use Rattle.cfi_sim.specs.Trace.{Tracing, tracing, told_of, heading_text, TellsEvent, TellEvents, Tells, LineTells, LinesTell, IsTrace}
use Rattle.cfi_sim.specs.inner.Following.{FollowsTo, IsLineFault, IsScheduleFault}
use Rattle.cfi_sim.specs.inner.Making.{HasMadeWithin, MakesBy}
use Rattle.cfi_sim.specs.inner.Opening.{IsOpened}
use Rattle.cfi_sim.specs.inner.Standing.{Whole, GoesBy, IsUnderWay}
use Rattle.cfi_sim.specs.inner.Tracing.{HasTold, TellsBy, TellManyBy, TellsLineBy, TracesTo}
use Rattle.cfi_sim.proofs.FollowLemmas.{follows_fault}
use Rattle.cfi_sim.proofs.RepeatLemmas.{goes_made}
use Rattle.cfi_sim.specs.declared.seen.Seen.{Seen}
use Rattle.cfi_sim.specs.Step.{seen_of}
use Rattle.cfi_text.specs.Lines.{numbered_lines, statement_of}
use Rattle.cfi_text.specs.Words.{words_in}
use Rattle.cfi_world.specs.Turns.{turn_of}
use Rattle.cfi_world.specs.declared.event.Event.TheVariants as events
use Rattle.cfi_world.specs.declared.event.Turned.TheVariants.{Nothing}

-- ---- what is told of leads as it is made

pub events_repeat : (plan : Plan) (guest count : ℕ) (old new : Tracing) → TellEvents plan guest count old new
    → Repeats (IsGuestEvent plan guest) count old.stage new.stage
events_repeat plan guest zero old new same = ap (λ (t : Tracing). t.stage) same
events_repeat plan guest (suc count) old new more =
    (more.0.stage, events_repeat plan guest count old more.0 more.1, more.2.event)

pub tells_make : (plan : Plan) (modules : List Module) (line : Line) (old new : Tracing)
    → Tells plan modules line old new → Makes plan modules line old.stage new.stage
tells_make plan modules (Guest guest count) old new tells = events_repeat plan guest count old new tells
tells_make plan modules Blank old new tells = tells.happens
tells_make plan modules (Load number) old new tells = tells.happens
tells_make plan modules Refresh old new tells = tells.happens
tells_make plan modules (Update count) old new tells = tells.happens
tells_make plan modules UpdateAll old new tells = tells.happens
tells_make plan modules (Release guest) old new tells = tells.happens

pub line_makes : (plan : Plan) (modules : List Module) (number : ℕ) (text : List ℕ) (old new : Tracing)
    → LineTells plan modules number text old new → LineMakes plan modules text old.stage new.stage
line_makes plan modules number text old new tells = record {
  line = tells.line;
  says = tells.says;
  makes = tells_make plan modules tells.line
      (tracing old.stage (old.text ++ heading_text number (statement_of text) tells.line)) new tells.tells;
  within = tells.within;
}

pub lines_make : (plan : Plan) (modules : List Module) (texts : List (ℕ × List ℕ)) (old new : Tracing)
    → LinesTell plan modules texts old new → LinesMake plan modules texts old.stage new.stage
lines_make plan modules [] old new same = ap (λ (t : Tracing). t.stage) same
lines_make plan modules (text ∷ texts) old new tells = (
  tells.0.stage,
  line_makes plan modules text.0 text.1 old tells.0 tells.1,
  lines_make plan modules texts tells.0 new tells.2,
)

-- ---- events of guests

-- an event, or none
pub event_told : (x y : Whole) (guest : ℕ) (before text : List ℕ) (seen : Option Seen) (went : Bool)
    → x.stage.events < MAX_EVENTS → GoesBy guest x y went → went ≡ true
    → seen ≡ option_map (seen_of (point_of x.stage.world guest)) (slice_get x.stage.world.guests guest)
    → text ≡ before ++ told_of y.stage.world.tables guest seen (slice_get y.stage.world.guests guest)
    → HasTold (TellsEvent x.plan guest) x before y text
event_told x y guest before text seen went few goes is kept told =
    let made = goes_made x y guest few went is goes in
    record {
      told = record {
        event = made.done.event;
        text = told ∙ ap (λ (o : Option Seen). before
            ++ told_of y.stage.world.tables guest o (slice_get y.stage.world.guests guest)) kept;
      };
      plan = made.done.plan;
      modules = made.done.modules;
      under_way = made.done.under_way;
      within = made.within;
    }

pub told_by : (x y : Whole) (guest : ℕ) (before text : List ℕ) (went : Bool) → went ≡ true
    → HasTold (TellsEvent x.plan guest) x before y text → TellsBy guest x before y text went
told_by x y guest before text true is told = told
told_by x y guest before text false is told = absurd (cc)

pub told_none : (x y : Whole) (guest : ℕ) (before text : List ℕ) (went : Bool) → went ≡ false
    → GoesBy guest x y went → TellsBy guest x before y text went
told_none x y guest before text true is goes = absurd (cc)
told_none x y guest before text false is goes = goes

pub by_told : (x y : Whole) (guest : ℕ) (before text : List ℕ) (went : Bool) → went ≡ true
    → TellsBy guest x before y text went → HasTold (TellsEvent x.plan guest) x before y text
by_told x y guest before text true is told = told
by_told x y guest before text false is told = absurd (cc)

pub by_none : (x y : Whole) (guest : ℕ) (before text : List ℕ) (went : Bool) → went ≡ false
    → TellsBy guest x before y text went → (turn_of x.stage.world (events.Guest guest)).answer ≡ Nothing
by_none x y guest before text true is told = absurd (cc)
by_none x y guest before text false is told = told

-- many
pub none_told : (x : Whole) (guest : ℕ) (before : List ℕ) → IsUnderWay x → PassesNoLimit x.stage
    → HasTold (TellEvents x.plan guest 0) x before x before
none_told x guest before under within =
    record { told = refl; plan = refl; modules = refl; under_way = under; within = within }

pub one_told : (x y z : Whole) (guest n : ℕ) (before mid text : List ℕ)
    → HasTold (TellEvents x.plan guest n) x before y mid → HasTold (TellsEvent y.plan guest) y mid z text
    → HasTold (TellEvents x.plan guest (n + 1)) x before z text
one_told x y z guest n before mid text so_far more =
    let old = tracing x.stage before in
    let new = tracing z.stage text in
    let here : TellsEvent x.plan guest (tracing y.stage mid) new =
    subst (λ (p : Plan). TellsEvent p guest (tracing y.stage mid) new) so_far.plan more.told in
    let all : TellEvents x.plan guest (suc n) old new = (tracing y.stage mid, so_far.told, here) in
    record {
      told = subst (λ (m : ℕ). TellEvents x.plan guest m old new) (sym (add-one n)) all;
      plan = more.plan ∙ so_far.plan;
      modules = more.modules ∙ so_far.modules;
      under_way = more.under_way;
      within = more.within;
    }

pub events_made : (x y : Whole) (guest n : ℕ) (before text : List ℕ)
    → HasTold (TellEvents x.plan guest n) x before y text → HasMadeWithin (Repeats (IsGuestEvent x.plan guest) n) x y
events_made x y guest n before text told = record {
  done = record {
    event = events_repeat x.plan guest n (tracing x.stage before) (tracing y.stage text) told.told;
    plan = told.plan;
    modules = told.modules;
    under_way = told.under_way;
  };
  within = told.within;
}

pub all_told : (x y : Whole) (guest n count : ℕ) (before text : List ℕ) → n ≤ count → count ≤ n
    → HasTold (TellEvents x.plan guest n) x before y text → HasTold (TellEvents x.plan guest count) x before y text
all_told x y guest n count before text most least told =
    let same : n ≡ count = omega (arith, most, least) in
    subst (λ (m : ℕ). HasTold (TellEvents x.plan guest m) x before y text) same told

-- ---- a line

-- a line of a guest
pub guest_line : (x y : Whole) (line : Line) (guest count : ℕ) (before text : List ℕ) (happened : Bool)
    → line ≡ Guest guest count → TellManyBy guest count x before y text happened
    → TellsLineBy line x before y text happened
guest_line x y line guest count before text true is told =
    subst (λ (l : Line). HasTold (Tells x.plan x.modules l) x before y text) (sym is) told
guest_line x y line guest count before text false is told =
    subst (λ (l : Line). TellsLineBy l x before y text false) (sym is) told

-- any other
silent : (plan : Plan) (modules : List Module) (line : Line) (a b : Stage) (text : List ℕ)
    → ((guest count : ℕ) → line ≡ Guest guest count → ⊥) → Makes plan modules line a b
    → Tells plan modules line (tracing a text) (tracing b text)
silent plan modules Blank a b text other makes = record { happens = makes; text = refl }
silent plan modules (Guest guest count) a b text other makes = absurd (other guest count refl)
silent plan modules (Load number) a b text other makes = record { happens = makes; text = refl }
silent plan modules Refresh a b text other makes = record { happens = makes; text = refl }
silent plan modules (Update count) a b text other makes = record { happens = makes; text = refl }
silent plan modules UpdateAll a b text other makes = record { happens = makes; text = refl }
silent plan modules (Release guest) a b text other makes = record { happens = makes; text = refl }

pub other_line : (x y : Whole) (line : Line) (text : List ℕ) (happened : Bool)
    → ((guest count : ℕ) → line ≡ Guest guest count → ⊥) → MakesBy (Makes x.plan x.modules line) x y happened
    → TellsLineBy line x text y text happened
other_line x y line text true other made = record {
  told = silent x.plan x.modules line x.stage y.stage text other made.done.event;
  plan = made.done.plan;
  modules = made.done.modules;
  under_way = made.done.under_way;
  within = made.within;
}
other_line x y line text false other made = made

module _ (x : Whole) (number : ℕ) (text : List ℕ) (read : Option Line)
    (some : IfSome read (Says x.plan (words_in (statement_of text)))) where
  -- what a line makes was told
  pub line_told : (line : Line) → read ≡ Some line → (y : Whole) (before mid after : List ℕ) (made : Bool) → made ≡ true
      → mid ≡ before ++ heading_text number (statement_of text) line → TellsLineBy line x mid y after made
      → HasTold (LineTells x.plan x.modules number text) x before y after
  line_told line is y before mid after true was head has = record {
    told = record {
      line = line;
      says = subst (λ o. IfSome o (Says x.plan (words_in (statement_of text)))) is some;
      tells = subst (λ (t : List ℕ). Tells x.plan x.modules line (tracing x.stage t) (tracing y.stage after)) head
          has.told;
      within = has.within;
    };
    plan = has.plan;
    modules = has.modules;
    under_way = has.under_way;
    within = has.within;
  }
  line_told line is y before mid after false was head has = absurd (cc)

-- or makes nothing
pub no_line : (x y : Whole) (line : Line) (mid after : List ℕ) (made : Bool) → made ≡ false
    → TellsLineBy line x mid y after made → MakesBy (Makes x.plan x.modules line) x y false
no_line x y line mid after true is has = absurd (cc)
no_line x y line mid after false is has = has

-- ---- lines

lines_more : (plan : Plan) (modules : List Module) (done : List (ℕ × List ℕ)) (text : ℕ × List ℕ)
    (old mid new : Tracing) → LinesTell plan modules done old mid → LineTells plan modules text.0 text.1 mid new
    → LinesTell plan modules (done ++ text ∷ []) old new
lines_more plan modules [] text old mid new same tells =
    (new, subst (λ (t : Tracing). LineTells plan modules text.0 text.1 t new) same tells, refl)
lines_more plan modules (first ∷ done) text old mid new more tells =
    (more.0, more.1, lines_more plan modules done text more.0 mid new more.2 tells)

module _ (schedule : List ℕ) (left : List (ℕ × List ℕ)) (old mid : Whole) (before so_far : List ℕ)
    (is_far : TracesTo schedule left old before mid so_far)
  where
    follows : FollowsTo schedule left old mid
    follows = record {
      before = is_far.done;
      lines = is_far.lines;
      leads = lines_make old.plan old.modules is_far.done (tracing old.stage before) (tracing mid.stage so_far)
          is_far.told.told;
      plan = is_far.told.plan;
      modules = is_far.told.modules;
      under_way = is_far.told.under_way;
      within = is_far.told.within;
    }

    module _ (number : ℕ) (text : List ℕ) (after : List (ℕ × List ℕ)) (is : left ≡ (number, text) ∷ after) where
      -- one line more
      pub traces_more : (new : Whole) (told : List ℕ)
          → HasTold (LineTells mid.plan mid.modules number text) mid so_far new told
          → TracesTo schedule after old before new told
      traces_more new told more =
          let start = tracing mid.stage so_far in
          let end = tracing new.stage told in
          let here : LineTells old.plan old.modules number text start end =
          subst (λ (ms : List Module). LineTells old.plan ms number text start end) is_far.told.modules
          (subst (λ (p : Plan). LineTells p mid.modules number text start end) is_far.told.plan more.told) in
          record {
            done = is_far.done ++ (number, text) ∷ [];
            lines = is_far.lines ∙ ap (λ (ls : List (ℕ × List ℕ)). is_far.done ++ ls) is
                ∙ sym (append_assoc is_far.done ((number, text) ∷ []) after);
            told = record {
              told = lines_more old.plan old.modules is_far.done (number, text) (tracing old.stage before) start end
                  is_far.told.told here;
              plan = more.plan ∙ is_far.told.plan;
              modules = more.modules ∙ is_far.told.modules;
              under_way = more.under_way;
              within = more.within;
            };
          }

      -- the line leads nowhere
      pub traces_fault : (fault : SimFault) → IsLineFault mid number text fault → IsScheduleFault old schedule fault
      traces_fault fault lost = follows_fault schedule left old mid follows number text after is fault lost

-- no line yet
pub no_lines : (schedule : List ℕ) (x : Whole) (before : List ℕ) → IsUnderWay x → PassesNoLimit x.stage
    → TracesTo schedule (numbered_lines schedule) x before x before
no_lines schedule x before under within = record {
  done = [];
  lines = refl;
  told = record { told = refl; plan = refl; modules = refl; under_way = under; within = within };
}

-- ---- a whole schedule

pub schedule_told : (plan : Plan) (modules : List Module) (schedule : List ℕ) (x : Whole) → IsOpened plan modules x
    → (y : Whole) (text : List ℕ) → TracesTo schedule [] x [] y text → IsTrace plan modules schedule text
schedule_told plan modules schedule x opened y text traces =
    let start = tracing x.stage [] in
    let end = tracing y.stage text in
    let lines : traces.done ≡ numbered_lines schedule = sym (append-nil traces.done) ∙ sym traces.lines in
    let own : LinesTell plan modules traces.done start end =
    subst (λ (ms : List Module). LinesTell plan ms traces.done start end) opened.modules_are
    (subst (λ (p : Plan). LinesTell p x.modules traces.done start end) opened.plan_is traces.told.told) in
    record {
      start = x.stage;
      starts = opened.starts;
      end = y.stage;
      tells = subst (λ (ls : List (ℕ × List ℕ)). LinesTell plan modules ls start end) lines own;
    }
