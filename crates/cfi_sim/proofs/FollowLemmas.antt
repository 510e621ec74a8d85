-- Lines of a schedule, one after the other.
use Rattle.std.specs.Prelude.{IfSome}
use Rattle.std.proofs.Common.{Bool, true, false, Option, Some, None, ◌≡◌, ℕ, ◌++◌, List, [], ◌∷◌, refl, sym, ap, subst, ◌∙◌, append_assoc}
use Rattle.cfi_aux.specs.declared.modules.Module.{Module}
use Rattle.cfi_plan.specs.declared.plan.Plan.{Plan}
use Rattle.cfi_sim.specs.Line.{Says}
use Rattle.cfi_sim.specs.declared.line.Line.{Line}
use Rattle.cfi_sim.specs.Schedule.{LineMakes, LinesMake, Makes}
use Rattle.cfi_sim.specs.Stage.{Stage}
use Rattle.cfi_sim.specs.declared.fault.SimFault.{SimFault}
use Rattle.cfi_sim.specs.declared.fault.SimFault.TheVariants.{Open, BadEvent, Memory}
use Rattle.cfi_sim.specs.inner.Following.{FollowsTo, IsLineFault, IsScheduleFault}
use Rattle.cfi_sim.specs.inner.Making.{HasMadeWithin, MakesBy}
use Rattle.cfi_sim.specs.inner.Standing.{Whole}
use Rattle.cfi_text.specs.Lines.{numbered_lines, statement_of}
use Rattle.cfi_text.specs.Words.{words_in}

-- one line more
lines_more : (plan : Plan) (modules : List Module) (before : List (ℕ × List ℕ)) (text : ℕ × List ℕ)
    (old mid new : Stage) → LinesMake plan modules before old mid → LineMakes plan modules text.1 mid new
    → LinesMake plan modules (before ++ text ∷ []) old new
lines_more plan modules [] text old mid new same makes =
    (new, subst (λ (s : Stage). LineMakes plan modules text.1 s new) same makes, refl)
lines_more plan modules (first ∷ before) text old mid new more makes =
    (more.0, more.1, lines_more plan modules before text more.0 mid new more.2 makes)

module _ (schedule : List ℕ) (left : List (ℕ × List ℕ)) (old mid : Whole) (so_far : FollowsTo schedule left old mid)
    (number : ℕ) (text : List ℕ) (after : List (ℕ × List ℕ)) (is : left ≡ (number, text) ∷ after) where
  lines : numbered_lines schedule ≡ so_far.before ++ (number, text) ∷ after
  lines = so_far.lines ∙ ap (λ (ls : List (ℕ × List ℕ)). so_far.before ++ ls) is

  pub follows_more : (new : Whole) → HasMadeWithin (LineMakes mid.plan mid.modules text) mid new
      → FollowsTo schedule after old new
  follows_more new made =
      let here : LineMakes old.plan old.modules text mid.stage new.stage =
      subst (λ (ms : List Module). LineMakes old.plan ms text mid.stage new.stage) so_far.modules
      (subst (λ (p : Plan). LineMakes p mid.modules text mid.stage new.stage) so_far.plan made.done.event) in
      record {
        before = so_far.before ++ (number, text) ∷ [];
        lines = lines ∙ sym (append_assoc so_far.before ((number, text) ∷ []) after);
        leads = lines_more old.plan old.modules so_far.before (number, text) old.stage mid.stage new.stage so_far.leads
            here;
        plan = made.done.plan ∙ so_far.plan;
        modules = made.done.modules ∙ so_far.modules;
        under_way = made.done.under_way;
        within = made.within;
      }

  -- the line leads nowhere
  pub follows_fault : (fault : SimFault) → IsLineFault mid number text fault → IsScheduleFault old schedule fault
  follows_fault (Open fault) lost = lost
  follows_fault (BadEvent bad) lost = record {
    before = so_far.before;
    text = text;
    after = after;
    lines = lines ∙ ap (λ (n : ℕ). so_far.before ++ (n, text) ∷ after) (sym lost.0);
    mid = mid.stage;
    leads = so_far.leads;
    stuck = λ new makes. lost.1 new
        (subst (λ (ms : List Module). LineMakes mid.plan ms text mid.stage new) (sym so_far.modules)
        (subst (λ (p : Plan). LineMakes p old.modules text mid.stage new) (sym so_far.plan) makes));
  }
  follows_fault Memory lost = tt

-- ---- a line

module _ (x : Whole) (text : List ℕ) (read : Option Line)
    (some : IfSome read (Says x.plan (words_in (statement_of text))))
    (only : (line : Line) → Says x.plan (words_in (statement_of text)) line → read ≡ Some line) where
  -- it is none
  pub none_follows : read ≡ None → (new : Stage) → LineMakes x.plan x.modules text x.stage new → ⊥
  none_follows none new makes =
      let both : None ≡ Some makes.line = sym none ∙ only makes.line makes.says in
      absurd (cc)

  -- what it says makes nothing
  pub line_stuck : (line : Line) → read ≡ Some line → (y : Whole) (made : Bool) → made ≡ false
      → MakesBy (Makes x.plan x.modules line) x y made → (new : Stage)
      → LineMakes x.plan x.modules text x.stage new → ⊥
  line_stuck line is y true made has = absurd (cc)
  line_stuck line is y false made has = λ new makes.
      let both : Some line ≡ Some makes.line = sym is ∙ only makes.line makes.says in
      let same : line ≡ makes.line = cc in
      has new (subst (λ (l : Line). Makes x.plan x.modules l x.stage new) (sym same) makes.makes) makes.within

  -- or leads on
  pub line_made : (line : Line) → read ≡ Some line → (y : Whole) (made : Bool) → made ≡ true
      → MakesBy (Makes x.plan x.modules line) x y made → HasMadeWithin (LineMakes x.plan x.modules text) x y
  line_made line is y true made has = record {
    done = record {
      event = record {
        line = line;
        says = subst (λ o. IfSome o (Says x.plan (words_in (statement_of text)))) is some;
        makes = has.done.event;
        within = has.within;
      };
      plan = has.done.plan;
      modules = has.done.modules;
      under_way = has.done.under_way;
    };
    within = has.within;
  }
  line_made line is y false made has = absurd (cc)
