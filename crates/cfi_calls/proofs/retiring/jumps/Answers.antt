use Rattle.std.proofs.Common.{All, [], ◌∷◌, sym, subst}
use Rattle.cfi_graph.specs.Shaped.{IsShaped}
use Rattle.cfi_graph.proofs.HandMadeLemmas.{all_by_recursion}
use Rattle.cfi_calls.proofs.retiring.jumps.Goals as goal

pub returns-clause-shaped : goal.returns-clause-shaped
returns-clause-shaped c =
    let modules = c.in_ok-first.first ∷ c.in_ok-second.second ∷ c.in_ok-third.third ∷ c.in_ok-fourth.fourth ∷ [] in
    subst (All IsShaped) (sym c.in_ok-vec.ensures.items) (all_by_recursion IsShaped modules (
      c.in_ok-first.ensures,
      (c.in_ok-second.ensures, (c.in_ok-third.ensures, (c.in_ok-fourth.ensures, tt))),
    ))
