use Rattle.std.proofs.Common.{ap}
use Rattle.cfi_plan.specs.declared.journal.ModuleLine.{ModuleLine}
use Rattle.cfi_judge.specs.inner.Told.{origin_by}
use Rattle.cfi_judge.proofs.NextLemmas.{line_told}
use Rattle.cfi_judge.proofs.RefutesLemmas.{not_answered, refuted}
use Rattle.cfi_judge.proofs.next.Next.has_line.Goals as goal

pub returns-then-line-load-clause-same : goal.returns-then-line-load-clause-same
returns-then-line-load-clause-same c =
    refuted _ (λ same. c.if-line-load.true (ap (λ (l : ModuleLine). l.number) same))

pub returns-then-line-load-2-clause-same : goal.returns-then-line-load-2-clause-same
returns-then-line-load-2-clause-same c =
    refuted _ (λ same. c.if-line-load-2.true (ap (λ (l : ModuleLine). l.policy) same))

pub returns-then-not-is_here-clause-same : goal.returns-then-not-is_here-clause-same
returns-then-not-is_here-clause-same c =
    refuted _ (λ same. not_answered c.is_here.result _ c.if-not-is_here.true c.is_here.ensures.here
    (record {
      base = ap (λ (l : ModuleLine). l.base) same;
      slot = ap (λ (l : ModuleLine). l.slot) same;
      data_base = ap (λ (l : ModuleLine). l.data_base) same;
    }))

pub returns-clause-same : goal.returns-clause-same
returns-clause-same c = (
  λ yes.
      line_told c.args.plan.now c.args.self.now (origin_by c.args.load) c.args.line.now c.if-line-load.false
      (c.is_named.ensures.0 yes) c.if-line-load-2.false (c.is_here.ensures.here.0 c.if-not-is_here.false),
  λ same. c.is_named.ensures.1 (ap (λ (l : ModuleLine). l.name) same),
)
