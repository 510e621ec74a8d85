use Rattle.std.proofs.Common.{◌≡◌, ◌++◌, [], rules}
use Rattle.cfi_flow.proofs.star.Star.grown.Goals as goal

pub loop-link-init : goal.loop-link-init
loop-link-init c =
    let all : c.self.inside.links.items ≡ c.args.self ++ [] = search rules in
    (all, c.self.invariant)
