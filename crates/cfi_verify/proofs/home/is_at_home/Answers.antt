use Rattle.std.proofs.Common.{inl, inr, arith}
use Rattle.std.proofs.lemmas.Bool.{false≢true}
use Rattle.cfi_verify.proofs.FunctionLemmas.{not_home}
use Rattle.cfi_verify.proofs.home.is_at_home.Goals as goal

pub returns-then-to-from : goal.returns-then-to-from
returns-then-to-from c = (
  λ is. absurd (false≢true is),
  λ home.
      absurd (not_home c.args.functions.now c.args.spots.now c.args.at c.args.to c.in-Some.first c.in-Some.end
      c.in-Some.ensures.only (inl (omega arith)) home),
)

pub returns-then-from-to : goal.returns-then-from-to
returns-then-from-to c = (
  λ is. absurd (false≢true is),
  λ home.
      absurd (not_home c.args.functions.now c.args.spots.now c.args.at c.args.to c.in-Some.first c.in-Some.end
      c.in-Some.ensures.only (inr (omega arith)) home),
)
