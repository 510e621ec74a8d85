use Rattle.std.proofs.Common.{◌≤◌, sym, ap, subst, ◌∙◌}
use Rattle.cfi_loader.specs.Ledger.{Ledger}
use Rattle.cfi_loader.specs.Passes.{heard_from, reply_with}
use Rattle.cfi_model.specs.Log.{last_policy}
use Rattle.cfi_model.specs.Run.{serve_of}
use Rattle.cfi_model.specs.Service.{argument}
use Rattle.cfi_plan.specs.declared.journal.Who.TheVariants.{Guest}
use Rattle.cfi_word.specs.declared.services.TheConstants.{OPEN}
use Rattle.cfi_tables.specs.declared.view.PassView.{PassView}
use Rattle.cfi_guest_run.proofs.AnsweredLemmas.{slip_loaded, slip_refused, slip_same, slip_starved}
use Rattle.cfi_guest_run.proofs.OpenLemmas.{asked_runner, asked_waits, loaded_as, may_load, may_refuse, opens_loaded, opens_refused, refused_as, rises, told_of}
use Rattle.cfi_guest_run.proofs.KeepsLemmas.{keeps_told, keeps_trans}
use Rattle.cfi_guest_run.proofs.OpensLemmas.{asked_loaded, asked_refused}
use Rattle.cfi_guest_run.proofs.serving.open_at.Goals as goal

-- no policy that the guest has logged is above the one in force
pub give-requires-clause-rises : goal.give-requires-clause-rises
give-requires-clause-rises g c =
    let first = heard_from c.args.pass.now c.args.desk.now in
    let k = g.N.TableName.key in
    let plan = g.N.LoaderName.plan in
    let modules = g.N.LoaderName.modules in
    let guest = c.args.guest.now in
    let of = told_of k plan modules c.args.pass.now c.tell.new.pass guest c.args.desk.now c.requires.runner
    c.requires.asked c.tell.ensures.told in
    subst (λ (l : Ledger). last_policy guest.base.log ≤ l.course.end.policy) (sym c.tell-in-Ok.ensures.kept)
    (rises k plan modules c.tell.new.pass c.tell-in-Ok.new.pass guest first c.ask.new.desk of c.requires.few
    c.tell-in-Ok.ensures.told)

-- the slip's guest is one of the plan
pub ask-requires-clause-asks : goal.ask-requires-clause-asks
ask-requires-clause-asks g c =
    let k = g.N.TableName.key in
    let plan = g.N.LoaderName.plan in
    let modules = g.N.LoaderName.modules in
    let guest = c.args.guest.now in
    let first = heard_from c.args.pass.now c.args.desk.now in
    let of = told_of k plan modules c.args.pass.now c.tell.new.pass guest c.args.desk.now c.requires.runner
    c.requires.asked c.tell.ensures.told in
    may_load k plan modules c.tell.new.pass guest c.tell.new.desk first of c.tell.ensures.kept c.args.slip.now.guest
    (slip_same c.args.pass.now c.tell.new.pass guest c.args.slip.now
    (ap (λ (v : PassView). v.guest) c.tell.ensures.told.is) c.requires.slip).guest

-- there was no memory for the load
pub returns-in_default-clause-runner : goal.returns-in_default-clause-runner
returns-in_default-clause-runner g c =
    let k = g.N.TableName.key in
    let of = told_of k g.N.LoaderName.plan g.N.LoaderName.modules c.args.pass.now c.tell.new.pass c.args.guest.now
    c.args.desk.now c.requires.runner c.requires.asked c.tell.ensures.told in
    asked_runner k g.N.LoaderName.plan g.N.LoaderName.modules c.tell.new.pass c.args.guest.now OPEN
    (heard_from c.args.pass.now c.args.desk.now) of.asked of.at

-- a refusal may be answered
pub refuse-requires : goal.refuse-requires
refuse-requires g c =
    let first = heard_from c.args.pass.now c.args.desk.now in
    let k = g.N.TableName.key in
    let plan = g.N.LoaderName.plan in
    let modules = g.N.LoaderName.modules in
    let guest = c.args.guest.now in
    let of = told_of k plan modules c.args.pass.now c.tell.new.pass guest c.args.desk.now c.requires.runner
    c.requires.asked c.tell.ensures.told in
    may_refuse k plan modules c.tell.new.pass c.tell-in-Err.new.pass guest first c.ask.new.desk of
    c.requires.few c.tell-in-Err.ensures.told c.in-Some.cause c.force.result.policy
    (c.force.ensures.policy ∙ ap (λ (l : Ledger). l.course.end.policy) c.tell-in-Err.ensures.kept)

-- the module is loaded
pub returns-in-Ok-clause-ended : goal.returns-in-Ok-clause-ended
returns-in-Ok-clause-ended g c =
    let first = heard_from c.args.pass.now c.args.desk.now in
    let k = g.N.TableName.key in
    let plan = g.N.LoaderName.plan in
    let modules = g.N.LoaderName.modules in
    let guest = c.args.guest.now in
    let of = told_of k plan modules c.args.pass.now c.tell.new.pass guest c.args.desk.now c.requires.runner
    c.requires.asked c.tell.ensures.told in
    let has = loaded_as k c.tell.new.desk c.ask.new.desk first c.args.slip.now.guest c.tell.new.pass
    guest c.in-Ok.loaded c.tell.ensures.kept
    (slip_same c.args.pass.now c.tell.new.pass guest c.args.slip.now
    (ap (λ (v : PassView). v.guest) c.tell.ensures.told.is) c.requires.slip).guest
    c.in-Ok.ensures.ok in
    opens_loaded k plan modules c.tell.new.pass c.tell-in-Ok.new.pass guest first c.ask.new.desk of
    c.requires.few c.tell-in-Ok.ensures.told c.in-Ok.loaded has c.give.new.guest
    (c.give.ensures
    ∙ ap (λ (l : Ledger). serve_of guest (reply_with l guest.base.log c.in-Ok.loaded.address))
    c.tell-in-Ok.ensures.kept)

-- and that is the answer
pub returns-in-Ok-clause-answer : goal.returns-in-Ok-clause-answer
returns-in-Ok-clause-answer g c =
    let first = heard_from c.args.pass.now c.args.desk.now in
    let guest = c.args.guest.now in
    let has = loaded_as g.N.TableName.key c.tell.new.desk c.ask.new.desk first c.args.slip.now.guest c.tell.new.pass
    guest c.in-Ok.loaded c.tell.ensures.kept
    (slip_same c.args.pass.now c.tell.new.pass guest c.args.slip.now
    (ap (λ (v : PassView). v.guest) c.tell.ensures.told.is) c.requires.slip).guest
    c.in-Ok.ensures.ok in
    asked_loaded g.N.TableName.key g.N.LoaderName.plan g.N.LoaderName.modules c.args.pass.now c.tell.new.pass
    c.tell-in-Ok.new.pass guest c.give.new.guest c.args.desk.now c.ask.new.desk c.tell.ensures.told
    c.tell-in-Ok.ensures.told c.in-Ok.loaded has
    (c.give.ensures
    ∙ ap (λ (l : Ledger). serve_of guest (reply_with l guest.base.log c.in-Ok.loaded.address))
    c.tell-in-Ok.ensures.kept)

-- or it was refused
pub returns-in-Some-clause-ended : goal.returns-in-Some-clause-ended
returns-in-Some-clause-ended g c =
    let first = heard_from c.args.pass.now c.args.desk.now in
    let k = g.N.TableName.key in
    let plan = g.N.LoaderName.plan in
    let modules = g.N.LoaderName.modules in
    let guest = c.args.guest.now in
    let of = told_of k plan modules c.args.pass.now c.tell.new.pass guest c.args.desk.now c.requires.runner
    c.requires.asked c.tell.ensures.told in
    let has = refused_as k c.tell.new.desk c.ask.new.desk first c.args.slip.now.guest c.tell.new.pass
    guest c.in-Err.fault c.tell.ensures.kept
    (slip_same c.args.pass.now c.tell.new.pass guest c.args.slip.now
    (ap (λ (v : PassView). v.guest) c.tell.ensures.told.is) c.requires.slip).guest
    c.in-Err.ensures.fault in
    opens_refused k plan modules c.tell.new.pass c.tell-in-Err.new.pass guest first c.ask.new.desk of
    c.requires.few c.tell-in-Err.ensures.told c.in-Err.fault c.in-Some.cause c.force.result.policy
    (sym c.cause_by.ensures ∙ c.in-Some.is) has
    (c.force.ensures.policy ∙ ap (λ (l : Ledger). l.course.end.policy) c.tell-in-Err.ensures.kept)
    c.refuse.new.guest c.refuse.ensures

-- with the cause of its fault
pub returns-in-Some-clause-answer : goal.returns-in-Some-clause-answer
returns-in-Some-clause-answer g c =
    let first = heard_from c.args.pass.now c.args.desk.now in
    let guest = c.args.guest.now in
    let has = refused_as g.N.TableName.key c.tell.new.desk c.ask.new.desk first c.args.slip.now.guest c.tell.new.pass
    guest c.in-Err.fault c.tell.ensures.kept
    (slip_same c.args.pass.now c.tell.new.pass guest c.args.slip.now
    (ap (λ (v : PassView). v.guest) c.tell.ensures.told.is) c.requires.slip).guest
    c.in-Err.ensures.fault in
    asked_refused g.N.TableName.key g.N.LoaderName.plan g.N.LoaderName.modules c.args.pass.now c.tell.new.pass
    c.tell-in-Err.new.pass guest c.refuse.new.guest c.args.desk.now c.ask.new.desk c.tell.ensures.told
    c.tell-in-Err.ensures.told c.in-Err.fault c.in-Some.cause c.force.result.policy
    (sym c.cause_by.ensures ∙ c.in-Some.is) has
    (c.force.ensures.policy ∙ ap (λ (l : Ledger). l.course.end.policy) c.tell-in-Err.ensures.kept) c.refuse.ensures

-- ---- the pass goes on with each note

pub returns-in_default-clause-keeps : goal.returns-in_default-clause-keeps
returns-in_default-clause-keeps g c =
    keeps_told g.N.TableName.key g.N.LoaderName.plan g.N.LoaderName.modules c.args.desk.now c.args.pass.now
    c.tell.new.pass c.tell.ensures.told

pub returns-in-Ok-clause-keeps : goal.returns-in-Ok-clause-keeps
returns-in-Ok-clause-keeps g c =
    let k = g.N.TableName.key in
    let plan = g.N.LoaderName.plan in
    let modules = g.N.LoaderName.modules in
    keeps_trans c.args.pass.now c.tell.new.pass c.tell-in-Ok.new.pass
    (keeps_told k plan modules c.args.desk.now c.args.pass.now c.tell.new.pass c.tell.ensures.told)
    (keeps_told k plan modules c.ask.new.desk c.tell.new.pass c.tell-in-Ok.new.pass c.tell-in-Ok.ensures.told)

pub returns-in-Some-clause-keeps : goal.returns-in-Some-clause-keeps
returns-in-Some-clause-keeps g c =
    let k = g.N.TableName.key in
    let plan = g.N.LoaderName.plan in
    let modules = g.N.LoaderName.modules in
    keeps_trans c.args.pass.now c.tell.new.pass c.tell-in-Err.new.pass
    (keeps_told k plan modules c.args.desk.now c.args.pass.now c.tell.new.pass c.tell.ensures.told)
    (keeps_told k plan modules c.ask.new.desk c.tell.new.pass c.tell-in-Err.new.pass c.tell-in-Err.ensures.told)

-- ---- a note leaves it parked

pub returns-in_default-clause-stays : goal.returns-in_default-clause-stays
returns-in_default-clause-stays g c = ap (λ (v : PassView). v.parked) c.tell.ensures.told.is

pub returns-in-Ok-clause-stays : goal.returns-in-Ok-clause-stays
returns-in-Ok-clause-stays g c =
    ap (λ (v : PassView). v.parked) c.tell-in-Ok.ensures.told.is
    ∙ ap (λ (v : PassView). v.parked) c.tell.ensures.told.is

pub returns-in-Some-clause-stays : goal.returns-in-Some-clause-stays
returns-in-Some-clause-stays g c =
    ap (λ (v : PassView). v.parked) c.tell-in-Err.ensures.told.is
    ∙ ap (λ (v : PassView). v.parked) c.tell.ensures.told.is

-- ---- the slip has the line of the answer

pub returns-in_default-clause-slip : goal.returns-in_default-clause-slip
returns-in_default-clause-slip g c =
    slip_starved c.args.pass.now c.tell.new.pass c.args.guest.now c.args.slip.now c.ask.new.slip
    (argument c.args.guest.now.base) (ap (λ (v : PassView). v.guest) c.tell.ensures.told.is) c.requires.slip
    c.in-Err.fault (sym c.cause_by.ensures ∙ c.in_default.is) c.in-Err.ensures.told

pub returns-in-Ok-clause-slip : goal.returns-in-Ok-clause-slip
returns-in-Ok-clause-slip g c =
    let guest = c.args.guest.now in
    slip_loaded c.args.pass.now c.tell-in-Ok.new.pass guest c.give.new.guest c.args.slip.now
    (ap (λ (v : PassView). v.guest) c.tell-in-Ok.ensures.told.is
    ∙ ap (λ (v : PassView). v.guest) c.tell.ensures.told.is)
    c.requires.slip
    (asked_waits g.N.TableName.key g.N.LoaderName.plan.fuel c.args.pass.now guest OPEN c.requires.asked)
    c.ask.new.slip c.ask.new.desk c.in-Ok.loaded c.in-Ok.ensures.ok.policy_is
    (c.give.ensures
    ∙ ap (λ (l : Ledger). serve_of guest (reply_with l guest.base.log c.in-Ok.loaded.address))
    c.tell-in-Ok.ensures.kept) c.in-Ok.ensures.told

pub returns-in-Some-clause-slip : goal.returns-in-Some-clause-slip
returns-in-Some-clause-slip g c =
    let guest = c.args.guest.now in
    slip_refused c.args.pass.now c.tell-in-Err.new.pass guest c.refuse.new.guest c.args.slip.now
    (ap (λ (v : PassView). v.guest) c.tell-in-Err.ensures.told.is
    ∙ ap (λ (v : PassView). v.guest) c.tell.ensures.told.is)
    c.requires.slip
    (asked_waits g.N.TableName.key g.N.LoaderName.plan.fuel c.args.pass.now guest OPEN c.requires.asked)
    c.ask.new.slip g.N.TableName.key (Guest c.args.slip.now.guest) c.tell.new.desk c.ask.new.desk c.in-Some.cause
    c.force.result.policy c.refuse.ensures c.in-Err.fault (sym c.cause_by.ensures ∙ c.in-Some.is)
    c.in-Err.ensures.fault c.in-Err.ensures.told
