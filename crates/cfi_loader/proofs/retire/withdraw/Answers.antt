use Rattle.std.proofs.Common.{ℕ, ◌+◌, arith, ap, sym, subst, ◌∙◌}
use Rattle.cfi_model.specs.Tables.{IsUpdate}
use Rattle.cfi_plan.specs.declared.journal.JournalLine.{JournalLine}
use Rattle.cfi_plan.specs.declared.journal.Who.TheVariants.{Script}
use Rattle.cfi_tables.specs.Faults.{FaultIs}
use Rattle.cfi_tables.specs.Keeping.{entry_by, grown_by, last_of}
use Rattle.cfi_word.specs.declared.lists.Image.{Image}
use Rattle.cfi_ledger.specs.declared.books.Books.{Books}
use Rattle.cfi_ledger.specs.Journal.{asked_by, HasLine}
use Rattle.cfi_loader.specs.declared.retire.RetireFault.{RetireFault}
use Rattle.cfi_loader.specs.inner.Retirements.{RefusesRetirement}
use Rattle.cfi_loader.proofs.DepartLemmas.{made_retires, retirement_update, unmade_refuses}
use Rattle.cfi_loader.proofs.UpdateLemmas.{epoch_left, not_spent, right_fault}
use Rattle.cfi_loader.proofs.retire.withdraw.Goals as goal

pub retirement_mark-mark-requires : goal.retirement_mark-mark-requires
retirement_mark-mark-requires g c =
    omega (arith, c.requires.known, c.requires.kept.ledger.can_start.most_modules)

-- the next image keeps the code
pub update-requires : goal.update-requires
update-requires g c =
    let k = g.N.TableName.key in
    let b = c.args.books.now in
    let keeping = c.args.keeper.now in
    let req = c.requires in
    let d = c.in-Ok.ensures in
    let mark = c.retirement_mark-mark.result in
    let book = c.in-Ok.departure.book in
    let follows = retirement_update k b keeping req.kept c.args.number req.due c.args.place req.listed req.live req.unused
    c.in-Ok.departure.roster d.ok book d.book mark in
    let force = sym (ap (λ (m : Books). m.force.policy) d.lent) in
    record {
      follows = subst (λ (i : Image). IsUpdate k.code_words (last_of keeping.entries)
          (entry_by (c.depart.new.self.force.policy + 1) i mark)) (sym c.image.ensures)
          (subst (λ (n : ℕ). IsUpdate k.code_words (last_of keeping.entries) (entry_by (n + 1) book.image mark)) force
          follows);
    }

-- it is in force
pub returns-in-Ok-update-clause-ok : goal.returns-in-Ok-update-clause-ok
returns-in-Ok-update-clause-ok g c =
    let k = g.N.TableName.key in
    let b = c.args.books.now in
    let keeping = c.args.keeper.now in
    let req = c.requires in
    let d = c.in-Ok.ensures in
    let mid = c.depart.new.self in
    let after = c.update.new.self in
    let book = c.in-Ok.departure.book in
    let grown = c.in-Ok-update.ensures.new
    ∙ ap (λ (i : Image). grown_by (entry_by (mid.force.policy + 1) i c.retirement_mark-mark.result) after.quiets keeping)
    c.image.ensures
    ∙ ap (λ (n : ℕ). grown_by (entry_by (mid.force.policy + 1) book.image n) after.quiets keeping)
    c.retirement_mark-mark.ensures in
    made_retires k b keeping req.kept c.args.number req.due c.args.place req.listed req.live req.unused
    c.in-Ok.departure.roster d.ok mid c.commit_departure.new.self d.lent after d.cells book d.book req.left
    c.commit_departure.ensures.line c.commit_departure.ensures.same grown

-- the keeper has refused it: the books are as they were, but for the line
pub returns-in-Err-update-clause-fault : goal.returns-in-Err-update-clause-fault
returns-in-Err-update-clause-fault g c =
    let k = g.N.TableName.key in
    let b = c.args.books.now in
    let keeping = c.args.keeper.now in
    let req = c.requires in
    let d = c.in-Ok.ensures in
    let mid = c.depart.new.self in
    let after = c.update.new.self in
    let new = c.tell.new.self in
    let fault = c.in-Err-update.fault in
    let u = c.in-Err-update.ensures in
    let is = subst (λ (n : ℕ). FaultIs k n keeping after fault) c.retirement_mark-mark.ensures u.fault in
    let has = subst (λ (what : JournalLine). HasLine (asked_by Script what) mid.force.journal new.force.journal)
    c.refused_retirement.ensures c.tell.ensures.line in
    let before = c.discard.result in
    subst (λ (f : RetireFault). RefusesRetirement k c.args.number f b new keeping after) (sym c.retire_fault_by.ensures)
    (unmade_refuses k b keeping req.kept c.args.number req.due c.args.place req.listed req.live req.unused
    c.in-Ok.departure.roster d.ok mid new d.lent after before (c.discard.ensures ∙ d.before) fault
    (λ spent. right_fault fault (u.spent spent)) is has c.tell.ensures.same)
