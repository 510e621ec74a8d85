use Rattle.std.proofs.Common.{rules}
use Rattle.cfi_unit.specs.declared.spot.Spot.{Spot}
use Rattle.cfi_aux.proofs.SplitLemmas.{splits_below}
use Rattle.cfi_verify.proofs.PlaceLemmas.{at_rises}
use Rattle.cfi_verify.proofs.search.number_at.Goals as goal

pub returns : goal.returns
returns c =
    splits_below (λ (s : Spot). s.at) _ _ _ c.partition_point.ensures.bound (at_rises _ c.requires)
    c.partition_point.ensures.partitioned (λ a r q k. search rules)
