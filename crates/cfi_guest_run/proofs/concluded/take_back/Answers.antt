use Rattle.cfi_guest_run.proofs.EndedLemmas.{said_back, slip_seat, taken_back, told_back}
use Rattle.cfi_guest_run.proofs.concluded.take_back.Goals as goal

-- the part says the runner's guest
pub returns-clause-says : goal.returns-clause-says
returns-clause-says g c =
    said_back g.N.TableName.key g.N.LoaderName.plan g.N.LoaderName.modules c.args.loader.now c.plan.ensures.law
    c.args.runner.pass c.args.runner.guest c.into_parts-guest.ensures.law.is c.requires c.into_parts-guest.result.1
    c.into_parts-guest.result.0 c.guest-number.result c.plan.result.now c.as_slice.result.now
    c.index-as_slice-number.result c.as_str-entry.result.now c.in_ok-part.part c.into_parts-guest.ensures.guest
    c.into_parts-guest.ensures.pass c.guest-number.ensures c.plan.ensures.value c.as_slice.ensures
    c.index-as_slice-number.is c.as_str-entry.ensures c.in_ok-part.ensures.says c.args.runner.slip

-- which has run over the history of the ledger
pub returns-clause-part : goal.returns-clause-part
returns-clause-part g c =
    taken_back g.N.TableName.key g.N.LoaderName.plan g.N.LoaderName.modules c.args.loader.now c.plan.ensures.law
    c.args.runner.pass c.args.runner.guest c.into_parts-guest.ensures.law.is c.requires c.into_parts-guest.result.1
    c.into_parts-guest.result.0 c.guest-number.result c.plan.result.now c.as_slice.result.now
    c.index-as_slice-number.result c.as_str-entry.result.now c.in_ok-part.part c.into_parts-guest.ensures.guest
    c.into_parts-guest.ensures.pass c.guest-number.ensures c.plan.ensures.value c.as_slice.ensures
    c.index-as_slice-number.is c.as_str-entry.ensures c.in_ok-part.ensures.says
    c.release.ensures.agrees

-- its slip is that of the same guest, and has said the lines of its opens
pub release-requires : goal.release-requires
release-requires g c =
    slip_seat c.args.runner.pass c.into_parts-guest.result.1 c.args.runner.guest c.args.runner.slip
    c.into_parts-guest.result.2 c.into_parts-guest.ensures.law.slip c.into_parts-guest.ensures.slip
    c.into_parts-guest.ensures.pass

pub returns-clause-opens : goal.returns-clause-opens
returns-clause-opens g c =
    told_back c.args.runner.pass c.args.runner.guest c.args.runner.slip c.into_parts-guest.result.2
    c.args.loader.now.course.journal c.guest-number.result c.as_str-entry.result.now c.into_parts-guest.result.0
    c.in_ok-part.part c.into_parts-guest.ensures.law.slip c.into_parts-guest.ensures.slip
    c.into_parts-guest.ensures.guest c.in_ok-part.ensures.says c.release.ensures.says
