-- What the test decides of each function.
use Rattle.std.proofs.Common.{◌≡◌, false, length, sym, below_more, arith}
use Rattle.cfi_instr.specs.inner.Functions.{is_malformed}
use Rattle.cfi_instr.proofs.DecideLemmas.{each-from}
use Rattle.cfi_instr.proofs.FunctionTests.{formed, end-holds}
use Rattle.cfi_instr.proofs.RowTests.{malformed-first}
use Rattle.cfi_instr.proofs.source.Source.first_malformed.Goals as goal

pub returns-then-is_malformed-clause-some : goal.returns-then-is_malformed-clause-some
returns-then-is_malformed-clause-some c =
    malformed-first c.args.self.now c.args.functions.now c.loop-k.k (record {
      within = omega (arith, c.loop-k-test.true, c.loop-k.auto.k-end);
      here = sym c.if-is_malformed.ensures;
      before = c.loop-k.invariant;
    })

pub loop-k-preserved : goal.loop-k-preserved
loop-k-preserved c =
    below_more (λ j. is_malformed c.args.self.now c.args.functions.now j ≡ false) c.loop-k.k c.loop-k.invariant
    (sym c.if-is_malformed.ensures)

pub returns-clause-none : goal.returns-clause-none
returns-clause-none c =
    let functions = c.args.functions.now in
    each-from functions (is_malformed c.args.self.now functions) _ (formed c.args.self.now functions)
    (λ j less. c.loop-k.invariant j (omega (arith, less, c.loop-k-test.false, c.loop-k.auto.k-end)))

pub returns-clause-padding : goal.returns-clause-padding
returns-clause-padding c =
    let functions = c.args.functions.now in
    end-holds c.args.self.now functions
    (c.loop-k.invariant (length functions) (omega (arith, c.loop-k-test.false, c.loop-k.auto.k-end)))
