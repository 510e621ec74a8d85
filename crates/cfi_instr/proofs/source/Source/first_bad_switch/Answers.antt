-- The number is that of the next indirect jump.
use Rattle.std.proofs.Common.{◌≡◌, ◌+◌, ◌<◌, ◌∙◌, ℕ, true, false, sym, ap, below_more, arith}
use Rattle.cfi_instr.specs.inner.Jumps.{has_bad_switch_by}
use Rattle.cfi_instr.specs.Fault.{jump_number}
use Rattle.cfi_instr.proofs.DecideLemmas.{each-from, break-from}
use Rattle.cfi_instr.proofs.JumpLemmas.{has_bad_switch, ordinal-more}
use Rattle.cfi_instr.proofs.JumpTests.{switches}
use Rattle.cfi_instr.proofs.source.Source.first_bad_switch.Goals as goal
use Rattle.cfi_instr.proofs.source.Source.first_bad_switch.Goals.{then-is_indirect, else-is_indirect}

pub loop-w-preserved : goal.loop-w-preserved
loop-w-preserved c =
    let t = c.args.self.now in
    let branches = c.args.branches.now in
    let w = c.loop-w.w in
    let functions = c.args.functions.now in
    let here : has_bad_switch t functions branches w ≡ false =
    ap (has_bad_switch_by t functions branches w) (sym c.loop-w.invariant.1) ∙ sym c.if-has_bad_switch.ensures in
    let none : (j : ℕ) → j < w + 1 → has_bad_switch t functions branches j ≡ false =
    below_more (λ j. has_bad_switch t functions branches j ≡ false) w c.loop-w.invariant.0 here in
    elim c.if-is_indirect.branch [
      | then-is_indirect v ↦
          let more = ordinal-more t w true v.if-is_indirect.ensures in
          (none, omega (arith, more, v.number-is, c.loop-w.invariant.1), omega (arith, v.number-is, c.loop-w.invariant.2))
      | else-is_indirect v ↦
          let more = ordinal-more t w false v.if-is_indirect.ensures in
          (none, omega (arith, more, v.number-is, c.loop-w.invariant.1), omega (arith, v.number-is, c.loop-w.invariant.2))
    ]

pub returns-then-has_bad_switch-clause-some : goal.returns-then-has_bad_switch-clause-some
returns-then-has_bad_switch-clause-some c =
    let t = c.args.self.now in
    let branches = c.args.branches.now in
    let functions = c.args.functions.now in
    let w = c.loop-w.w in
    break-from t.insns _ _ (switches t functions branches) (jump_number t) w c.loop-w.number
    (omega (arith, c.count-w-end.ensures, c.loop-w-test.true, c.loop-w.auto.w-end))
    (ap (has_bad_switch_by t functions branches w) (sym c.loop-w.invariant.1) ∙ sym c.if-has_bad_switch.ensures)
    c.loop-w.invariant.0 (λ x. c.loop-w.invariant.1)

pub returns-clause-none : goal.returns-clause-none
returns-clause-none c =
    let t = c.args.self.now in
    each-from t.insns _ _ (switches t c.args.functions.now c.args.branches.now) (λ j less.
    c.loop-w.invariant.0 j (omega (arith, less, c.count-w-end.ensures, c.loop-w-test.false, c.loop-w.auto.w-end)))
