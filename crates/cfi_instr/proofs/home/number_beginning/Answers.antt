use Rattle.std.proofs.Common.{rules}
use Rattle.cfi_aux.specs.declared.records.Function.{Function}
use Rattle.cfi_aux.proofs.SplitLemmas.{splits_below}
use Rattle.cfi_instr.proofs.HomeLemmas.{starts_rise}
use Rattle.cfi_instr.proofs.home.number_beginning.Goals as goal

pub returns : goal.returns
returns c =
    splits_below (λ (f : Function). f.offset) _ _ _ c.partition_point.ensures.bound (starts_rise _ c.requires)
    c.partition_point.ensures.partitioned (λ a r q k. search rules)
