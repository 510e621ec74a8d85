-- A schedule makes one stage.
use Rattle.std.proofs.Common.{◌≡◌, ℕ, zero, suc, ◌<◌, ◌++◌, List, [], ◌∷◌, Some, None, All, sym, ap, subst, ◌∙◌, ⊎_elim}
use Rattle.std.proofs.lemmas.Bool.{cases_order}
use Rattle.cfi_aux.specs.declared.modules.Module.{Module}
use Rattle.cfi_aux.specs.Sound.{IsSoundModule}
use Rattle.cfi_model.specs.Phases.{phase_of}
use Rattle.cfi_plan.specs.declared.journal.JournalLine.TheVariants.{RefreshEpochs}
use Rattle.cfi_plan.specs.declared.plan.Plan.{Plan}
use Rattle.cfi_sim.specs.declared.aim.Aim.TheVariants.{Refreshing}
use Rattle.cfi_sim.specs.declared.line.Line.{Line}
use Rattle.cfi_sim.specs.declared.line.Line.TheVariants.{Blank, Guest, Load, Refresh, Update, UpdateAll, Release}
use Rattle.cfi_sim.specs.Events.{IsUpdateEvent}
use Rattle.cfi_sim.specs.Schedule.{Repeats, IsWholeUpdate, Makes, LineMakes, LinesMake}
use Rattle.cfi_sim.specs.Stage.{Stage}
use Rattle.cfi_sim.specs.Stands.{Holds}
use Rattle.cfi_sim.proofs.FormLemmas.{says_form}
use Rattle.cfi_sim.proofs.HappensOnce.{beginning_once, update_once, load_once}
use Rattle.cfi_sim.proofs.LinesLemmas.{made_keeps}
use Rattle.cfi_sim.proofs.OnceLemmas.{guests_once}
use Rattle.cfi_sim.proofs.RepeatLemmas.{earlier}
use Rattle.cfi_sim.proofs.journal.HappensLemmas.{holds_after}
use Rattle.cfi_sim.proofs.journal.NotedLemmas.{update_counts}
use Rattle.cfi_text.specs.Lines.{statement_of}
use Rattle.cfi_text.specs.Words.{words_in}
use Rattle.cfi_valid.specs.Journal.{JournalState}

module _ (plan : Plan) (modules : List Module) where
  -- ---- accesses of the updater

  abbrev Updates : (count : ℕ) (old new : Stage) → Type 0
  Updates count old new = Repeats (IsUpdateEvent plan modules) count old new

  updates_once : (count : ℕ) (old x y : Stage) → Updates count old x → Updates count old y → x ≡ y
  updates_once zero old x y p q = p ∙ sym q
  updates_once (suc count) old x y p q =
      let same : p.0 ≡ q.0 = updates_once count old p.0 q.0 p.1 q.1 in
      update_once plan modules q.0 x y (subst (λ (s : Stage). IsUpdateEvent plan modules s x) same p.2) q.2

  -- a whole update is over where none is under way
  not_sooner : (old x y : Stage) (p : IsWholeUpdate plan modules old x) (q : IsWholeUpdate plan modules old y)
      → p.count < q.count → ⊥
  not_sooner old x y p q less =
      let of = earlier (IsUpdateEvent plan modules) (update_counts plan modules) q.count p.count old y less q.events in
      let same : of.mid ≡ x = updates_once p.count old of.mid x of.before p.events in
      of.event.busy (ap (λ (s : Stage). phase_of s.world.tables) same ∙ p.idle)

  whole_once : (old x y : Stage) → IsWholeUpdate plan modules old x → IsWholeUpdate plan modules old y → x ≡ y
  whole_once old x y p q =
      ⊎_elim
      (λ (same : p.count ≡ q.count).
      updates_once q.count old x y (subst (λ (n : ℕ). Updates n old x) same p.events) q.events)
      (λ apart. ⊎_elim
      (λ (less : p.count < q.count). absurd (not_sooner old x y p q less))
      (λ (more : q.count < p.count). absurd (not_sooner old y x q p more))
      apart)
      (cases_order p.count q.count)

  module _ (sound : All IsSoundModule modules) (opening : JournalState) where
    -- ---- a line

    makes_once : (line : Line) (old x y : Stage) → Holds plan modules opening old → Makes plan modules line old x
        → Makes plan modules line old y → x ≡ y
    makes_once Blank old x y holds p q = p ∙ sym q
    makes_once (Guest guest count) old x y holds p q =
        guests_once plan guest count old x y holds.agrees.tables.apart p q
    makes_once (Load number) old x y holds p q = load_once plan modules sound opening old holds number x y p q
    makes_once Refresh old x y holds p q = beginning_once Refreshing RefreshEpochs None old x y p q
    makes_once (Update count) old x y holds p q = updates_once count old x y p q
    makes_once UpdateAll old x y holds p q = whole_once old x y p q
    makes_once (Release guest) old x y holds p q = p.is ∙ sym q.is

    pub line_once : (text : List ℕ) (old x y : Stage) → Holds plan modules opening old
        → LineMakes plan modules text old x → LineMakes plan modules text old y → x ≡ y
    line_once text old x y holds p q =
        let words = words_in (statement_of text) in
        let both : Some p.line ≡ Some q.line =
        sym (says_form plan words p.line p.says) ∙ says_form plan words q.line q.says in
        let same : p.line ≡ q.line = cc in
        makes_once q.line old x y holds (subst (λ (l : Line). Makes plan modules l old x) same p.makes) q.makes

    -- ---- lines

    after_line : (text : List ℕ) (old new : Stage) → Holds plan modules opening old
        → LineMakes plan modules text old new → Holds plan modules opening new
    after_line text old new holds makes =
        made_keeps plan modules (Holds plan modules opening)
        (λ a has happening b event room. holds_after plan modules sound opening a has happening b event room)
        text old new makes holds

    pub lines_once : (texts : List (ℕ × List ℕ)) (old x y : Stage) → Holds plan modules opening old
        → LinesMake plan modules texts old x → LinesMake plan modules texts old y → x ≡ y
    lines_once [] old x y holds p q = p ∙ sym q
    lines_once (text ∷ texts) old x y holds p q =
        let same : p.0 ≡ q.0 = line_once text.1 old p.0 q.0 holds p.1 q.1 in
        lines_once texts q.0 x y (after_line text.1 old q.0 holds q.1)
        (subst (λ (s : Stage). LinesMake plan modules texts s x) same p.2) q.2

    -- a line to which others lead leads on to no stage, and so no schedule with it does
    pub stuck_never : (before : List (ℕ × List ℕ)) (text : ℕ × List ℕ) (later : List (ℕ × List ℕ)) (old mid new : Stage)
        → Holds plan modules opening old → LinesMake plan modules before old mid
        → ((s : Stage) → ¬ LineMakes plan modules text.1 mid s)
        → LinesMake plan modules (before ++ text ∷ later) old new → ⊥
    stuck_never [] text later old mid new holds leads stuck makes =
        stuck makes.0 (subst (λ (s : Stage). LineMakes plan modules text.1 s makes.0) (sym leads) makes.1)
    stuck_never (first ∷ before) text later old mid new holds leads stuck makes =
        let same : leads.0 ≡ makes.0 = line_once first.1 old leads.0 makes.0 holds leads.1 makes.1 in
        stuck_never before text later makes.0 mid new (after_line first.1 old makes.0 holds makes.1)
        (subst (λ (s : Stage). LinesMake plan modules before s mid) same leads.2) stuck makes.2
