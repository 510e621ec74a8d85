use Rattle.cfi_class.proofs.KeptOnceLemmas.{labels_once}
use Rattle.cfi_class.proofs.laws.kept_labels_are_one.Goals as goal

pub returns : goal.returns
returns c = labels_once
