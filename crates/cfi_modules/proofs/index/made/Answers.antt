use Rattle.std.proofs.Common.{◌∙◌, ℕ, List, take, ap, arith}
use Rattle.std.specs.List.{flat_map}
use Rattle.cfi_aux.specs.declared.placed.Placed.{Placed}
use Rattle.cfi_place.specs.Names.{first_in}
use Rattle.cfi_modules.proofs.NamesLemmas.{one_module_more}
use Rattle.cfi_modules.proofs.index.made.Goals as goal

-- the names of one module more, after those that were there
pub loop-number-preserved : goal.loop-number-preserved
loop-number-preserved c =
    let placed = c.args.placed.now in
    let i = c.loop-number.number in
    let was = c.loop-number.invariant.1 in (
      λ name.
          c.in_ok-add_module.ensures.names (flat_map (λ (p : Placed). p.exports) (take i placed))
          c.loop-number.invariant.0 name
          ∙ ap (λ (pairs : List (List ℕ × ℕ)). first_in pairs name)
          (one_module_more placed i c.index-placed-number.result c.loop-number-test.true c.index-placed-number.is),
      c.in_ok-add_module.ensures.below (λ d p has. let low = was d p has in omega (arith, low)),
    )
