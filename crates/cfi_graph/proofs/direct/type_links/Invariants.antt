use Rattle.std.proofs.Common.{◌≡◌, map, take}
use Rattle.cfi_graph.specs.Links.{type_link}
use Rattle.cfi_graph.proofs.direct.type_links.Given as goal

abbrev pub invariant-loop-link : goal.invariant-loop-link
invariant-loop-link l = l.widenings.items ≡ map type_link (take l.link-index l.links)
