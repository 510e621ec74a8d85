-- The number is that of the next indirect jump.
use Rattle.std.proofs.Common.{◌≡◌, ◌+◌, ◌<◌, ℕ, true, false, below_more, arith}
use Rattle.cfi_instr.specs.Words.{count_of}
use Rattle.cfi_instr.proofs.DecideLemmas.{each-from}
use Rattle.cfi_instr.proofs.JumpLemmas.{lacks_kind, ordinal-more, kind-here, rest-here}
use Rattle.cfi_instr.proofs.JumpTests.{records}
use Rattle.cfi_instr.proofs.RowTests.{bare-first}
use Rattle.cfi_instr.proofs.source.Source.first_unkind.Goals as goal
use Rattle.cfi_instr.proofs.source.Source.first_unkind.Goals.{then-is_indirect, else-is_indirect}

pub loop-w-preserved : goal.loop-w-preserved
loop-w-preserved c =
    let t = c.args.self.now in
    let branches = c.args.branches.now in
    let w = c.loop-w.w in
    let lt : w < count_of t = omega (arith, c.count-w-end.ensures) in
    let none : (j : ℕ) → j < w + 1 → lacks_kind t branches j ≡ false =
    below_more (λ j. lacks_kind t branches j ≡ false) w c.loop-w.invariant.0
    (kind-here t branches w c.loop-w.number false lt c.loop-w.invariant.1 c.if-lacks_kind.ensures) in
    elim c.if-is_indirect.branch [
      | then-is_indirect v ↦
          let more = ordinal-more t w true v.if-is_indirect.ensures in
          (none, omega (arith, more, v.number-is, c.loop-w.invariant.1), omega (arith, v.number-is, c.loop-w.invariant.2))
      | else-is_indirect v ↦
          let more = ordinal-more t w false v.if-is_indirect.ensures in
          (none, omega (arith, more, v.number-is, c.loop-w.invariant.1), omega (arith, v.number-is, c.loop-w.invariant.2))
    ]

pub returns-then-lacks_kind-clause-some : goal.returns-then-lacks_kind-clause-some
returns-then-lacks_kind-clause-some c =
    let t = c.args.self.now in
    let lt : c.loop-w.w < count_of t = omega (arith, c.count-w-end.ensures, c.loop-w-test.true, c.loop-w.auto.w-end) in
    bare-first t c.args.branches.now c.loop-w.w (record {
      within = omega (arith, lt);
      here =
          kind-here t c.args.branches.now c.loop-w.w c.loop-w.number true lt c.loop-w.invariant.1
          c.if-lacks_kind.ensures;
      before = c.loop-w.invariant.0;
    })

pub returns-then-number-branches-clause-some : goal.returns-then-number-branches-clause-some
returns-then-number-branches-clause-some c =
    let t = c.args.self.now in
    bare-first t c.args.branches.now c.count.result
    (rest-here t c.args.branches.now c.loop-w.w c.loop-w.number c.count.result c.loop-w.invariant.0
    (omega (arith, c.count-w-end.ensures, c.loop-w-test.false, c.loop-w.auto.w-end)) c.count.ensures
    c.loop-w.invariant.1 c.if-number-branches.true)

pub returns-clause-none : goal.returns-clause-none
returns-clause-none c =
    let t = c.args.self.now in
    let branches = c.args.branches.now in
    each-from t.insns (lacks_kind t branches) _ (records t branches) (λ j less.
    c.loop-w.invariant.0 j (omega (arith, less, c.count-w-end.ensures, c.loop-w-test.false, c.loop-w.auto.w-end)))
