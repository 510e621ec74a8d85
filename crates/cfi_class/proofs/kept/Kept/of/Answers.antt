use Rattle.cfi_class.proofs.ExtendedLemmas.{labels_of_label}
use Rattle.cfi_class.proofs.kept.Kept.of.Goals as goal

pub invariant_of-result : goal.invariant_of-result
invariant_of-result c =
    let labels = c.in_ok-label.ensures.labels in record {
      len = labels.words;
      edges = c.args.edges.now;
      are = labels_of_label c.args.edges.now c.args.slots c.args.layout.now c.in_ok-label.field-0 c.requires labels;
    }

pub returns-clause-all : goal.returns-clause-all
returns-clause-all c =
    labels_of_label c.args.edges.now c.args.slots c.args.layout.now c.in_ok-label.field-0 c.requires
    c.in_ok-label.ensures.labels
