use Rattle.std.proofs.Common.{◌∷◌, [], get_or, ◌∙◌}
use Rattle.cfi_types.specs.inner.Leader.{first_of}
use Rattle.cfi_types.proofs.LeastLemmas.{least_more}
use Rattle.cfi_types.proofs.dividing.least_of.Goals as goal

pub loop-a-preserved : goal.loop-a-preserved
loop-a-preserved c = record {
  so_far =
      least_more (λ b. get_or c.args.parts.now b 0 ∷ []) c.loop-a.a c.alone.result (first_of c.loop-a.firsts)
      (first_of c.alone.new.self) c.loop-a.least.items c.push.new.self.items c.loop-a.invariant.so_far
      c.alone.ensures.first c.in_ok-push.ensures.items;
  len = c.alone.ensures.len ∙ c.loop-a.invariant.len;
}
