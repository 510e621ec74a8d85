use Rattle.std.proofs.Common.{rules}
use Rattle.cfi_flow.proofs.ListLemmas.{empty_rows}
use Rattle.cfi_flow.proofs.rows.Rows.empty.Goals as goal

pub returns : goal.returns
returns c = empty_rows _ _ _ (c.in_ok-places.ensures.items_if_clones_equal (search rules))
