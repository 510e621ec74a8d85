-- One unit of a machine that follows a log.
use Rattle.std.proofs.Common.{◌≡◌, ℕ, Bool, true, false, cond, List, Option, Some, None, refl, sym, ap, subst, ◌∙◌}
use Rattle.std.proofs.lemmas.Bool.{false≢true}
use Rattle.cfi_model.specs.Effect.{effect, is_in_code}
use Rattle.cfi_model.specs.Log.{picked}
use Rattle.cfi_model.specs.Plain.{PlainState, IsTurn, asks_of, has_one_class}
use Rattle.cfi_model.specs.Service.{Reply, Service, Ends, Puts, Quiets, Opens, Unknown, asked, served_log, service_of, too_many}
use Rattle.cfi_model.specs.State.{State, register, displaced}
use Rattle.cfi_model.specs.declared.step.PlainStep.{PlainStep}
use Rattle.cfi_unit.specs.declared.log.Log.{Log}
use Rattle.cfi_unit.specs.declared.log.Log.TheVariants.{Pick, Open, Cause}
use Rattle.cfi_unit.specs.declared.unit.Unit.{Unit as CodeUnit}
use Rattle.cfi_unit.specs.declared.unit.Unit.TheVariants as units
use Rattle.cfi_valid.specs.Loaded.{Members, Filled}
use Rattle.cfi_valid.specs.Replay.{IsReplyOf, TakesAnswer, TakesFrom, TakesPick}
use Rattle.cfi_word.specs.declared.lists.Labels.{Labels}
use Rattle.cfi_labels.specs.Labels.{AreLabelsAt}
use Rattle.cfi_replay.proofs.PlaceLemmas.{single_by}

-- ---- how a unit ended

module _ (code : List ℕ) (policy : ℕ) (allows : ℕ → ℕ → Bool) (old new : PlainState) (step : PlainStep)
    (turn : IsTurn code policy allows old new step) (idle : old.waits ≡ false) where
  -- it asks for a module
  pub as_asked : asks_of turn.unit old.state ≡ true → new ≡ record old { waits = true }
  as_asked is =
      turn.is ∙ ap (λ (b : Bool). cond b (record old { waits = true })
      (record old { state = effect turn.unit policy allows too_many old.state })) is

  -- it has ended
  pub as_ended : asks_of turn.unit old.state ≡ false
      → new ≡ record old { state = effect turn.unit policy allows too_many old.state }
  as_ended is =
      turn.is ∙ ap (λ (b : Bool). cond b (record old { waits = true })
      (record old { state = effect turn.unit policy allows too_many old.state })) is

  waits_by : (b : Bool) → asks_of turn.unit old.state ≡ b → new.waits ≡ b
  waits_by true is = ap (λ (m : PlainState). m.waits) (as_asked is)
  waits_by false is = ap (λ (m : PlainState). m.waits) (as_ended is) ∙ idle

  -- it waits where it asks
  pub waits_is : new.waits ≡ asks_of turn.unit old.state
  waits_is = waits_by (asks_of turn.unit old.state) refl

-- ---- what it logs

-- it is a check of a target in the code
abbrev pub picks : CodeUnit → State → Bool
picks (units.Check link rs1 imm slot) s = is_in_code (displaced (register s rs1) imm)
picks unit s = false

served_unlogged : (service : Service) (s : State) → served_log service too_many s ≡ s.log
served_unlogged Ends s = refl
served_unlogged Puts s = refl
served_unlogged Quiets s = refl
served_unlogged Opens s = refl
served_unlogged Unknown s = refl

pub effect_log : (unit : CodeUnit) (policy : ℕ) (allows : ℕ → ℕ → Bool) (s : State)
    → (effect unit policy allows too_many s).log ≡ cond (picks unit s) (picked policy s.log) s.log
effect_log (units.Plain insn) policy allows s = refl
effect_log (units.Load kind rd rs1 imm) policy allows s = refl
effect_log (units.Store kind rs1 rs2 imm) policy allows s = refl
effect_log (units.Branch cond rs1 rs2 off) policy allows s = refl
effect_log (units.Jump link off) policy allows s = refl
effect_log (units.Check link rs1 imm slot) policy allows s = refl
effect_log units.Service policy allows s = served_unlogged (service_of (asked s)) s

-- ---- what it takes

-- whether a check is let through
abbrev pub lets : Labels → CodeUnit → State → Bool
lets labels (units.Check link rs1 imm slot) s = has_one_class labels slot (displaced (register s rs1) imm)
lets labels unit s = true

pub effect_lets : (labels : Labels) (unit : CodeUnit) (policy : ℕ) (reply : Reply) (s : State)
    → effect unit policy (has_one_class labels) reply s ≡ effect unit policy (λ slot target. lets labels unit s) reply s
effect_lets labels (units.Plain insn) policy reply s = refl
effect_lets labels (units.Load kind rd rs1 imm) policy reply s = refl
effect_lets labels (units.Store kind rs1 rs2 imm) policy reply s = refl
effect_lets labels (units.Branch cond rs1 rs2 off) policy reply s = refl
effect_lets labels (units.Jump link off) policy reply s = refl
effect_lets labels (units.Check link rs1 imm slot) policy reply s = refl
effect_lets labels units.Service policy reply s = refl

module _ (members : Members) (next : Option Log) (s : State) (policy : ℕ) (labels : Labels) where
  pub takes_nothing : (unit : CodeUnit) → asks_of unit s ≡ false → picks unit s ≡ false
      → TakesFrom Filled members next unit s policy (lets labels unit s) too_many
  takes_nothing (units.Plain insn) idle none = tt
  takes_nothing (units.Load kind rd rs1 imm) idle none = tt
  takes_nothing (units.Store kind rs1 rs2 imm) idle none = tt
  takes_nothing (units.Branch cond rs1 rs2 off) idle none = tt
  takes_nothing (units.Jump link off) idle none = tt
  takes_nothing (units.Check link rs1 imm slot) idle none =
      let target = displaced (register s rs1) imm in
      let taken : TakesPick false members next slot target policy (has_one_class labels slot target) = tt in
      subst (λ (b : Bool). TakesPick b members next slot target policy (has_one_class labels slot target)) (sym none)
      taken
  takes_nothing units.Service idle none =
      let taken : TakesAnswer Filled false members s next too_many = refl in
      subst (λ (b : Bool). TakesAnswer Filled b members s next too_many) (sym idle) taken

  pub takes_pick : (unit : CodeUnit) → picks unit s ≡ true → next ≡ Some (Pick policy 1)
      → AreLabelsAt members policy labels → TakesFrom Filled members next unit s policy (lets labels unit s) too_many
  takes_pick (units.Plain insn) one is labels_are = tt
  takes_pick (units.Load kind rd rs1 imm) one is labels_are = tt
  takes_pick (units.Store kind rs1 rs2 imm) one is labels_are = tt
  takes_pick (units.Branch cond rs1 rs2 off) one is labels_are = tt
  takes_pick (units.Jump link off) one is labels_are = tt
  takes_pick (units.Check link rs1 imm slot) one is labels_are =
      let target = displaced (register s rs1) imm in
      let taken : TakesPick true members next slot target policy (has_one_class labels slot target) =
      record { is = is; exact = labels_are slot target one } in
      subst (λ (b : Bool). TakesPick b members next slot target policy (has_one_class labels slot target)) (sym one)
      taken
  takes_pick units.Service one is labels_are = absurd (false≢true one)

-- a check of a target in the code takes a pick
pub pick_taken : (members : Members) (next : Option Log) (s : State) (unit : CodeUnit) → picks unit s ≡ true
    → (pick : ℕ) (allowed : Bool) (reply : Reply) → TakesFrom Filled members next unit s pick allowed reply
    → next ≡ Some (Pick pick 1)
pick_taken members next s (units.Plain insn) one pick allowed reply takes = absurd (false≢true one)
pick_taken members next s (units.Load kind rd rs1 imm) one pick allowed reply takes = absurd (false≢true one)
pick_taken members next s (units.Store kind rs1 rs2 imm) one pick allowed reply takes = absurd (false≢true one)
pick_taken members next s (units.Branch cond rs1 rs2 off) one pick allowed reply takes = absurd (false≢true one)
pick_taken members next s (units.Jump link off) one pick allowed reply takes = absurd (false≢true one)
pick_taken members next s (units.Check link rs1 imm slot) one pick allowed reply takes =
    let target = displaced (register s rs1) imm in
    (subst (λ (b : Bool). TakesPick b members next slot target pick allowed) one takes).is
pick_taken members next s units.Service one pick allowed reply takes = absurd (false≢true one)

-- an open that can be logged takes a reply
pub reply_taken : (members : Members) (next : Option Log) (s : State) (unit : CodeUnit)
    → asks_of unit s ≡ true → (pick : ℕ) (allowed : Bool) (reply : Reply)
    → TakesFrom Filled members next unit s pick allowed reply → IsReplyOf Filled members s next reply
reply_taken members next s (units.Plain insn) one pick allowed reply takes = absurd (false≢true one)
reply_taken members next s (units.Load kind rd rs1 imm) one pick allowed reply takes = absurd (false≢true one)
reply_taken members next s (units.Store kind rs1 rs2 imm) one pick allowed reply takes = absurd (false≢true one)
reply_taken members next s (units.Branch cond rs1 rs2 off) one pick allowed reply takes = absurd (false≢true one)
reply_taken members next s (units.Jump link off) one pick allowed reply takes = absurd (false≢true one)
reply_taken members next s (units.Check link rs1 imm slot) one pick allowed reply takes = absurd (false≢true one)
reply_taken members next s units.Service one pick allowed reply takes =
    subst (λ (b : Bool). TakesAnswer Filled b members s next reply) one takes

-- the next single entry is a pick where the entry is
pub single_pick : (entry : Option Log) (policy : ℕ) → single_by entry ≡ Some (Pick policy 1)
    → (count : ℕ) × (entry ≡ Some (Pick policy count))
single_pick None policy is = absurd (cc)
single_pick (Some (Pick other count)) policy is =
    let same : other ≡ policy = cc in
    (count, ap (λ (n : ℕ). Some (Pick n count)) same)
single_pick (Some (Open number address other)) policy is = absurd (cc)
single_pick (Some (Cause number cause)) policy is = absurd (cc)
