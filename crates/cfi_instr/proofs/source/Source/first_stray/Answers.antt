-- What the test decides of each word.
use Rattle.std.proofs.Common.{◌≡◌, false, sym, below_more, arith}
use Rattle.cfi_instr.specs.Leads.{WordLeadsWell}
use Rattle.cfi_instr.specs.inner.Stray.{is_stray}
use Rattle.cfi_instr.proofs.DecideLemmas.{each-from}
use Rattle.cfi_instr.proofs.LeadTests.{targets}
use Rattle.cfi_instr.proofs.RowTests.{word-from}
use Rattle.cfi_instr.proofs.source.Source.first_stray.Goals as goal

pub returns-then-is_stray-clause-some : goal.returns-then-is_stray-clause-some
returns-then-is_stray-clause-some c =
    let t = c.args.self.now in
    let symbols = c.args.symbols.now in
    let functions = c.args.functions.now in
    word-from t (is_stray t symbols functions) (WordLeadsWell t symbols functions) (targets t symbols functions)
    c.loop-w.w (record {
      within = omega (arith, c.count-w-end.ensures, c.loop-w-test.true, c.loop-w.auto.w-end);
      here = sym c.if-is_stray.ensures;
      before = c.loop-w.invariant;
    })

pub loop-w-preserved : goal.loop-w-preserved
loop-w-preserved c =
    below_more (λ j. is_stray c.args.self.now c.args.symbols.now c.args.functions.now j ≡ false) c.loop-w.w
    c.loop-w.invariant (sym c.if-is_stray.ensures)

pub returns-clause-none : goal.returns-clause-none
returns-clause-none c =
    let t = c.args.self.now in
    let symbols = c.args.symbols.now in
    let functions = c.args.functions.now in
    each-from t.insns (is_stray t symbols functions) _ (targets t symbols functions) (λ j less.
    c.loop-w.invariant j (omega (arith, less, c.count-w-end.ensures, c.loop-w-test.false, c.loop-w.auto.w-end)))
