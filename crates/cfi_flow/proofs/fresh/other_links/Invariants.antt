use Rattle.std.proofs.Common.{take}
use Rattle.cfi_flow.specs.Fresh.{AreOthers}
use Rattle.cfi_flow.proofs.fresh.other_links.Given as goal

abbrev pub invariant-loop-link : goal.invariant-loop-link
invariant-loop-link l = AreOthers (take l.link-index l.links) l.fn.known l.others.items
