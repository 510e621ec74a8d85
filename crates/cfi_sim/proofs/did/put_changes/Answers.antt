use Rattle.std.proofs.Common.{◌≡◌, ◌++◌, ℕ, List, slice_index, ap, ◌∙◌, arith}
use Rattle.cfi_model.specs.Raw.{reg}
use Rattle.cfi_sim.specs.Step.{change_text, changes_text}
use Rattle.cfi_sim.proofs.StepLemmas.{no_changes, changes_more}
use Rattle.cfi_unit.specs.declared.unit.TheConstants.{FREE_REGISTERS}
use Rattle.cfi_sim.proofs.did.put_changes.Goals as goal

pub loop-k-init : goal.loop-k-init
loop-k-init c = no_changes c.args.old.now c.args.new.now c.args.out.now.items

-- one more
pub loop-k-preserved : goal.loop-k-preserved
loop-k-preserved c =
    let old = c.args.old.now in
    let new = c.args.new.now in
    let k = c.loop-k.k in
    changes_more old new k c.args.out.now.items c.loop-k.out.items c.put_change.new.out.items c.loop-k.invariant
    (c.in_ok-put_change.ensures
    ∙ ap (λ (x : ℕ). c.loop-k.out.items ++ change_text k x c.register.result) c.held.ensures
    ∙ ap (λ (x : ℕ). c.loop-k.out.items ++ change_text k (slice_index old.registers k) x) c.register.ensures)

pub returns : goal.returns
returns c =
    let all : c.loop-k.k ≡ FREE_REGISTERS = omega (arith, c.loop-k-test.false, c.loop-k.auto.k-end) in
    c.loop-k.invariant ∙ ap (λ (n : ℕ). c.args.out.now.items ++ changes_text c.args.old.now c.args.new.now n) all
