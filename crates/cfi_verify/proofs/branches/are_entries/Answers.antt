use Rattle.std.proofs.Common.{get_or}
use Rattle.std.proofs.lemmas.List.{get_or_default}
use Rattle.std.proofs.lemmas.List.Elements.{AllWithin-more, at_read}
use Rattle.cfi_verify.specs.Branches.{IsEntry}
use Rattle.cfi_verify.proofs.branches.are_entries.Goals as goal

-- this one is an entry too
pub loop-offset-preserved : goal.loop-offset-preserved
loop-offset-preserved c =
    let xs = c.args.offsets.now in
    let i = c.loop-offset.offset-index in
    let fits = IsEntry c.args.placed.now c.args.spots.now c.args.at in
    AllWithin-more fits xs 0 i c.loop-offset.invariant
    (at_read xs fits i (get_or xs i 0) c.loop-offset-test.true
    (get_or_default xs i 0 (get_or xs i 0) c.loop-offset-test.true) (c.is_entry.ensures.0 c.if-not-is_entry.false))
