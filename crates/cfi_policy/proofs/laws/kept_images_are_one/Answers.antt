use Rattle.cfi_policy.proofs.KeptOnceLemmas.{kept_once}
use Rattle.cfi_policy.proofs.laws.kept_images_are_one.Goals as goal

pub returns : goal.returns
returns c = kept_once c.kept_labels_are_one.ensures
