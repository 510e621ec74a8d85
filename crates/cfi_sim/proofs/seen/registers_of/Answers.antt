use Rattle.std.proofs.Common.{◌≡◌, ◌++◌, ◌∷◌, [], ℕ, List, ap, ◌∙◌, arith}
use Rattle.cfi_model.specs.Raw.{reg}
use Rattle.cfi_sim.specs.Step.{first_registers}
use Rattle.cfi_sim.proofs.StepLemmas.{no_registers, registers_more}
use Rattle.cfi_unit.specs.declared.unit.TheConstants.{FREE_REGISTERS}
use Rattle.cfi_sim.proofs.seen.registers_of.Goals as goal

pub loop-k-init : goal.loop-k-init
loop-k-init c = c.new-registers.ensures.items ∙ no_registers c.args.guest.now

-- one more
pub loop-k-preserved : goal.loop-k-preserved
loop-k-preserved c =
    let r = c.args.guest.now in
    c.in_ok-push.ensures.items
    ∙ ap (λ (xs : List ℕ). xs ++ c.register.result ∷ []) c.loop-k.invariant
    ∙ ap (λ (x : ℕ). first_registers r c.loop-k.k ++ x ∷ []) c.register.ensures
    ∙ registers_more r c.loop-k.k

pub returns : goal.returns
returns c =
    let all : c.loop-k.k ≡ FREE_REGISTERS = omega (arith, c.loop-k-test.false, c.loop-k.auto.k-end) in
    c.loop-k.invariant ∙ ap (λ (n : ℕ). first_registers c.args.guest.now n) all
