-- A trace is one.
use Rattle.std.proofs.Common.{◌≡◌, ℕ, zero, suc, ◌++◌, List, [], ◌∷◌, Some, All, sym, ap, subst, ◌∙◌}
use Rattle.cfi_aux.specs.declared.modules.Module.{Module}
use Rattle.cfi_aux.specs.Sound.{IsSoundModule}
use Rattle.cfi_plan.specs.declared.plan.Plan.{Plan}
use Rattle.cfi_sim.specs.Agrees.{NumbersAreApart}
use Rattle.cfi_sim.specs.declared.line.Line.{Line}
use Rattle.cfi_sim.specs.declared.line.Line.TheVariants.{Blank, Guest, Load, Refresh, Update, UpdateAll, Release}
use Rattle.cfi_sim.specs.Stage.{Stage}
use Rattle.cfi_sim.specs.Stands.{Holds}
use Rattle.cfi_sim.specs.Trace.{Tracing, tracing, event_text, heading_text, TellEvents, Tells, LineTells, LinesTell}
use Rattle.cfi_sim.specs.TraceOnce.{TracesAreOne, TracesFollow}
use Rattle.cfi_sim.proofs.FormLemmas.{says_form}
use Rattle.cfi_sim.proofs.LinesLemmas.{made_keeps}
use Rattle.cfi_sim.proofs.LinesOnce.{line_once}
use Rattle.cfi_sim.proofs.OnceLemmas.{guests_once}
use Rattle.cfi_sim.proofs.SimOnce.{start_once}
use Rattle.cfi_sim.proofs.TraceLemmas.{events_repeat, line_makes, lines_make}
use Rattle.cfi_sim.proofs.journal.HappensLemmas.{holds_after}
use Rattle.cfi_sim.proofs.journal.StartLemmas.{start_holds}
use Rattle.cfi_text.specs.Lines.{numbered_lines, statement_of}
use Rattle.cfi_text.specs.Words.{words_in}
use Rattle.cfi_valid.specs.Journal.{JournalState}

same_tracing : (x y : Tracing) → x.stage ≡ y.stage → x.text ≡ y.text → x ≡ y
same_tracing x y stage text = λ i. record { stage = stage i; text = text i }

module _ (plan : Plan) (modules : List Module) where
  -- ---- events of guests

  events_one : (guest count : ℕ) (old x y : Tracing) → NumbersAreApart old.stage.state.loaded
      → TellEvents plan guest count old x → TellEvents plan guest count old y → x ≡ y
  events_one guest zero old x y apart p q = p ∙ sym q
  events_one guest (suc count) old x y apart p q =
      let mid : p.0 ≡ q.0 = events_one guest count old p.0 q.0 apart p.1 q.1 in
      let stage : x.stage ≡ y.stage =
      guests_once plan guest (suc count) old.stage x.stage y.stage apart (events_repeat plan guest (suc count) old x p)
      (events_repeat plan guest (suc count) old y q) in
      same_tracing x y stage
      (p.2.text
      ∙ ap (λ (t : Tracing). t.text ++ event_text guest t.stage.world x.stage.world) mid
      ∙ ap (λ (s : Stage). q.0.text ++ event_text guest q.0.stage.world s.world) stage
      ∙ sym q.2.text)

  -- ---- a line

  tells_one : (line : Line) (old x y : Tracing) → NumbersAreApart old.stage.state.loaded → x.stage ≡ y.stage
      → Tells plan modules line old x → Tells plan modules line old y → x ≡ y
  tells_one (Guest guest count) old x y apart stage p q = events_one guest count old x y apart p q
  tells_one Blank old x y apart stage p q = same_tracing x y stage (p.text ∙ sym q.text)
  tells_one (Load number) old x y apart stage p q = same_tracing x y stage (p.text ∙ sym q.text)
  tells_one Refresh old x y apart stage p q = same_tracing x y stage (p.text ∙ sym q.text)
  tells_one (Update count) old x y apart stage p q = same_tracing x y stage (p.text ∙ sym q.text)
  tells_one UpdateAll old x y apart stage p q = same_tracing x y stage (p.text ∙ sym q.text)
  tells_one (Release guest) old x y apart stage p q = same_tracing x y stage (p.text ∙ sym q.text)

  module _ (sound : All IsSoundModule modules) (opening : JournalState) where
    line_one : (number : ℕ) (text : List ℕ) (old x y : Tracing) → Holds plan modules opening old.stage
        → LineTells plan modules number text old x → LineTells plan modules number text old y → x ≡ y
    line_one number text old x y holds p q =
        let words = words_in (statement_of text) in
        let both : Some p.line ≡ Some q.line =
        sym (says_form plan words p.line p.says) ∙ says_form plan words q.line q.says in
        let same : p.line ≡ q.line = cc in
        let headed : Line → Tracing = λ l. tracing old.stage (old.text ++ heading_text number (statement_of text) l) in
        let stage : x.stage ≡ y.stage =
        line_once plan modules sound opening text old.stage x.stage y.stage holds
        (line_makes plan modules number text old x p) (line_makes plan modules number text old y q) in
        tells_one q.line (headed q.line) x y holds.agrees.tables.apart stage
        (subst (λ (l : Line). Tells plan modules l (headed l) x) same p.tells) q.tells

    -- ---- lines

    after_line : (number : ℕ) (text : List ℕ) (old new : Tracing) → Holds plan modules opening old.stage
        → LineTells plan modules number text old new → Holds plan modules opening new.stage
    after_line number text old new holds tells =
        made_keeps plan modules (Holds plan modules opening)
        (λ a has happening b event room. holds_after plan modules sound opening a has happening b event room)
        text old.stage new.stage (line_makes plan modules number text old new tells) holds

    pub lines_one : (texts : List (ℕ × List ℕ)) (old x y : Tracing) → Holds plan modules opening old.stage
        → LinesTell plan modules texts old x → LinesTell plan modules texts old y → x ≡ y
    lines_one [] old x y holds p q = p ∙ sym q
    lines_one (text ∷ texts) old x y holds p q =
        let same : p.0 ≡ q.0 = line_one text.0 text.1 old p.0 q.0 holds p.1 q.1 in
        lines_one texts q.0 x y (after_line text.0 text.1 old q.0 holds q.1)
        (subst (λ (t : Tracing). LinesTell plan modules texts t x) same p.2) q.2

pub one : TracesAreOne
one = λ plan modules schedule a b is sound p q.
    let texts = numbered_lines schedule in
    let start = start_once plan modules is sound p.start q.start p.starts q.starts in
    ap (λ (t : Tracing). t.text)
    (lines_one plan modules sound q.start.state texts (tracing q.start []) (tracing p.end a) (tracing q.end b)
    (start_holds plan modules is sound q.start q.starts)
    (subst (λ (s : Stage). LinesTell plan modules texts (tracing s []) (tracing p.end a)) start p.tells) q.tells)

pub follow : TracesFollow
follow = λ plan modules schedule text trace.
    lines_make plan modules (numbered_lines schedule) (tracing trace.start []) (tracing trace.end text) trace.tells
