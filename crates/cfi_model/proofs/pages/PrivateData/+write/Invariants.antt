use Rattle.std.proofs.Common.{length}
use Rattle.cfi_model.proofs.pages.PrivateData.+write.Given as goal

abbrev pub decreases-write : goal.decreases-write
decreases-write l = length l.bytes.now
