use Rattle.std.proofs.Common.{◌++◌, ◌∙◌}
use Rattle.cfi_class.proofs.kept.Kept.joined.Goals as goal

pub invariant_of-result : goal.invariant_of-result
invariant_of-result c =
    let kept = c.in_ok-labels.ensures c.self.invariant.edges c.self.invariant.are in record {
      len = kept.size ∙ c.self.invariant.len;
      edges = c.self.invariant.edges ++ c.args.fresh.now;
      are = kept.labels;
    }

pub returns-clause-labels : goal.returns-clause-labels
returns-clause-labels c = rw (← c.self.view_is) c.in_ok-labels.ensures

pub returns-clause-size : goal.returns-clause-size
returns-clause-size c =
    rw (← c.self.view_is) (c.in_ok-labels.ensures c.self.invariant.edges c.self.invariant.are).size
