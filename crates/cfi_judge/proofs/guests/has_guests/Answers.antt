use Rattle.std.proofs.Common.{arith}
use Rattle.cfi_judge.proofs.GuestLemmas.{guests_told}
use Rattle.cfi_judge.proofs.guests.has_guests.Goals as goal

pub returns : goal.returns
returns c = λ course starts.
    guests_told c.args.plan.now c.args.starts.now c.args.report.now course starts
    (omega (arith, c.len.ensures, c.len-2.ensures, c.if-len.false)) c.as_slice.result.now c.as_slice.ensures
    c.are_guests.result c.are_guests.ensures
