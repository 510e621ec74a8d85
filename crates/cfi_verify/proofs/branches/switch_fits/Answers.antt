use Rattle.cfi_verify.proofs.branches.switch_fits.Goals as goal

pub returns-in-Switch : goal.returns-in-Switch
returns-in-Switch c =
    let all = rw c.as_slice.ensures at c.are_entries.ensures in
    rw c.in-Switch.is all
