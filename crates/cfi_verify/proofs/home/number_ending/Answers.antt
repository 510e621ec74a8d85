use Rattle.std.proofs.Common.{rules}
use Rattle.cfi_aux.specs.Extent.{end_of}
use Rattle.cfi_aux.proofs.SplitLemmas.{splits_up_to}
use Rattle.cfi_verify.proofs.FunctionLemmas.{ends_rise}
use Rattle.cfi_verify.proofs.home.number_ending.Goals as goal

pub returns : goal.returns
returns c =
    splits_up_to end_of _ _ _ c.partition_point.ensures.bound (ends_rise _ c.requires)
    c.partition_point.ensures.partitioned (λ a r q k. search rules)
