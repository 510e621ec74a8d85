use Rattle.std.proofs.Common.{take}
use Rattle.cfi_policy.specs.inner.ByClass.{AreLinksBy}
use Rattle.cfi_policy.proofs.by_class.links_by.Given as goal

abbrev pub invariant-loop-place : goal.invariant-loop-place
invariant-loop-place l = AreLinksBy l.step l.count (take l.place l.numbers) l.links.items
