use Rattle.std.proofs.Common.{◌≡◌, ◌++◌, take}
use Rattle.cfi_flow.specs.inner.Star.{IsStar}
use Rattle.cfi_flow.proofs.star.Star.grown.Given as goal

abbrev pub invariant-loop-link : goal.invariant-loop-link
invariant-loop-link l =
    (l.links.items ≡ l.fn.self ++ take l.link-index l.more) × IsStar l.links.items l.lasts.items l.befores.items
