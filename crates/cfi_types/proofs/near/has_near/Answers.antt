use Rattle.std.proofs.Common.{◌∙◌, length, sym, ap}
use Rattle.cfi_types.specs.declared.near.TheConstants.{DEPTH}
use Rattle.cfi_types.proofs.DepthLemmas.{length-digests}
use Rattle.cfi_types.proofs.near.has_near.Goals as goal

pub is_near-requires : goal.is_near-requires
is_near-requires c =
    ap length c.as_slice.ensures.value ∙ ap length c.in_ok-digests.ensures ∙ length-digests DEPTH c.args.table.now
    ∙ sym c.requires.len
