use Rattle.std.proofs.Common.{sym, subst, not}
use Rattle.std.specs.Prelude.{◌↔◌, IsTrue}
use Rattle.cfi_plan.specs.declared.journal.JournalLine.{JournalLine}
use Rattle.cfi_valid.specs.Journal.{live_in}
use Rattle.cfi_judge.specs.Reached.{state_of}
use Rattle.cfi_judge.specs.inner.Lines.{IsRefusal}
use Rattle.cfi_judge.proofs.LiveLemmas.{has_live}
use Rattle.cfi_judge.proofs.RefutesLemmas.{both, no_is}
use Rattle.cfi_judge.proofs.reached.Reached.is_refusal.Goals as goal

pub is_again-requires : goal.is_again-requires
is_again-requires c = has_live c.args.plan.now c.args.self.now c.requires.kept c.requires.policies

pub returns-in-LoadRetired : goal.returns-in-LoadRetired
returns-in-LoadRetired c =
    let plan = c.args.plan.now in
    let r = c.args.self.now in
    subst (λ (line : JournalLine). IsTrue c.is_gone.result ↔ IsRefusal plan c.args.modules.now (state_of r) line)
    (sym c.in-LoadRetired.is)
    (c.is_gone.ensures (live_in (state_of r)) (has_live plan r c.requires.kept c.requires.policies))

pub returns-in-RetireNotLive : goal.returns-in-RetireNotLive
returns-in-RetireNotLive c =
    let plan = c.args.plan.now in
    let r = c.args.self.now in
    subst (λ (line : JournalLine).
    IsTrue (not c.is_live.result) ↔ IsRefusal plan c.args.modules.now (state_of r) line)
    (sym c.in-RetireNotLive.is)
    (no_is c.is_live.result _
    (c.is_live.ensures (live_in (state_of r)) (has_live plan r c.requires.kept c.requires.policies)))

pub returns-in-RetireInUse : goal.returns-in-RetireInUse
returns-in-RetireInUse c =
    let plan = c.args.plan.now in
    let ms = c.args.modules.now in
    subst (λ (line : JournalLine).
    IsTrue c.is_used_by.result ↔ IsRefusal plan ms (state_of c.args.self.now) line)
    (sym c.in-RetireInUse.is) (c.is_used_by.ensures plan ms c.requires)

pub returns-then-is_too_old-2 : goal.returns-then-is_too_old-2
returns-then-is_too_old-2 c =
    let plan = c.args.plan.now in
    let ms = c.args.modules.now in
    subst (λ (line : JournalLine). IsTrue c.is_unused.result ↔ IsRefusal plan ms (state_of c.args.self.now) line)
    (sym c.in-RetireVersions.is)
    (both c.is_unused.result (c.is_too_old-in-RetireVersions.ensures.0 c.if-is_too_old-2.true)
    (c.is_unused.ensures plan ms c.requires))

pub returns-then-is_last_epoch-2 : goal.returns-then-is_last_epoch-2
returns-then-is_last_epoch-2 c =
    let plan = c.args.plan.now in
    let ms = c.args.modules.now in
    let unused = c.is_unused-then-is_last_epoch-2 in
    subst (λ (line : JournalLine). IsTrue unused.result ↔ IsRefusal plan ms (state_of c.args.self.now) line)
    (sym c.in-RetireEpochs.is)
    (both unused.result (c.is_last_epoch-in-RetireEpochs.ensures.0 c.if-is_last_epoch-2.true)
    (unused.ensures plan ms c.requires))

pub returns-then-is_too_old : goal.returns-then-is_too_old
returns-then-is_too_old c =
    let plan = c.args.plan.now in
    let ms = c.args.modules.now in
    let clean = c.meets-then-is_too_old in
    subst (λ (line : JournalLine). IsTrue clean.result ↔ IsRefusal plan ms (state_of c.args.self.now) line)
    (sym c.in-LoadVersions.is)
    (both clean.result (c.is_too_old.ensures.0 c.if-is_too_old.true) (clean.ensures plan ms c.requires))

pub returns-then-is_last_epoch : goal.returns-then-is_last_epoch
returns-then-is_last_epoch c =
    let plan = c.args.plan.now in
    let ms = c.args.modules.now in
    let clean = c.meets-then-is_last_epoch in
    subst (λ (line : JournalLine). IsTrue clean.result ↔ IsRefusal plan ms (state_of c.args.self.now) line)
    (sym c.in-LoadEpochs.is)
    (both clean.result (c.is_last_epoch.ensures.0 c.if-is_last_epoch.true) (clean.ensures plan ms c.requires))
