use Rattle.std.proofs.Common.{ℕ, List, subst}
use Rattle.cfi_types.specs.inner.Splitting.{IsStill}
use Rattle.cfi_types.proofs.Steps.{leaders}
use Rattle.cfi_types.proofs.refining.leaders.Goals as goal

pub returns-then-are_still : goal.returns-then-are_still
returns-then-are_still c =
    let nodes = c.args.nodes.now in
    let classes = c.in_ok-sifted.sifted.items in
    let still : IsStill nodes classes =
    subst (λ (l : List ℕ). IsStill c.args.nodes.now l) c.as_slice.ensures.value
    (c.are_still.ensures.still c.if-are_still.true) in
    leaders nodes classes c.requires.closed c.in_ok-sifted.ensures still
