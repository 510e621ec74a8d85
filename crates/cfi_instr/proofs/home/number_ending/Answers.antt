use Rattle.std.proofs.Common.{rules}
use Rattle.cfi_aux.specs.Extent.{byte_end}
use Rattle.cfi_aux.proofs.SplitLemmas.{splits_up_to}
use Rattle.cfi_instr.proofs.HomeLemmas.{ends_rise}
use Rattle.cfi_instr.proofs.home.number_ending.Goals as goal

pub returns : goal.returns
returns c =
    splits_up_to byte_end _ _ _ c.partition_point.ensures.bound (ends_rise _ c.requires)
    c.partition_point.ensures.partitioned (λ a r q k. search rules)
