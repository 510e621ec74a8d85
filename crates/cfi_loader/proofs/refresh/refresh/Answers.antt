use Rattle.std.proofs.Common.{sym, ap, subst, ◌∙◌, arith}
use Rattle.std.proofs.lemmas.Option.{slice_get_within}
use Rattle.cfi_model.specs.Tables.{IsUpdate}
use Rattle.cfi_plan.specs.declared.journal.JournalLine.{JournalLine}
use Rattle.cfi_plan.specs.declared.journal.Who.TheVariants.{Script}
use Rattle.cfi_valid.specs.Script.{Refresh}
use Rattle.cfi_word.specs.declared.lists.Image.{Image}
use Rattle.cfi_ledger.specs.declared.books.Books.{Books}
use Rattle.cfi_ledger.specs.declared.force.Force.{Force}
use Rattle.cfi_ledger.specs.Journal.{HasLine, asked_by}
use Rattle.cfi_tables.specs.Keeping.{entry_by, grown_by, last_of}
use Rattle.cfi_loader.specs.Results.{refused_refresh}
use Rattle.cfi_loader.specs.declared.mark.TheConstants.{REFRESH_MARK}
use Rattle.cfi_loader.specs.inner.Books.{IsAfter}
use Rattle.cfi_loader.proofs.UpdateLemmas.{epoch_left, refresh_follows, refresh_made, after_refresh_refused, not_spent, right_fault}
use Rattle.cfi_loader.proofs.refresh.refresh.Goals as goal

-- the image in force follows itself
pub update-requires : goal.update-requires
update-requires g c =
    let k = g.N.TableName.key in
    let b = c.args.books.now in
    record {
      follows = subst (λ (i : Image). IsUpdate k.code_words (last_of c.args.keeper.now.entries)
          (entry_by b.force.policy i REFRESH_MARK)) (sym c.image.ensures)
          (refresh_follows k b c.args.keeper.now c.requires.kept REFRESH_MARK);
    }

-- there is room for the script's line, and an epoch is left
pub put_refresh-requires : goal.put_refresh-requires
put_refresh-requires g c =
    let b = c.args.books.now in
    let u = c.in-Ok.ensures in
    record {
      room = omega (arith, slice_get_within b.force.journal.left 0 Refresh c.requires.due);
      left = epoch_left g.N.TableName.key b c.args.keeper.now c.requires.kept
          (λ spent. not_spent c.in-Ok.field-0 (u.spent spent));
    }

pub tell-requires : goal.tell-requires
tell-requires g c =
    record { room = omega (arith, slice_get_within c.args.books.now.force.journal.left 0 Refresh c.requires.due) }

-- a new epoch is in force
pub returns-in-Ok-clause-ok : goal.returns-in-Ok-clause-ok
returns-in-Ok-clause-ok g c =
    let k = g.N.TableName.key in
    let b = c.args.books.now in
    let keeping = c.args.keeper.now in
    let u = c.in-Ok.ensures in
    let left = epoch_left k b keeping c.requires.kept (λ spent. not_spent c.in-Ok.field-0 (u.spent spent)) in
    let grown = u.new
    ∙ ap (λ (i : Image). grown_by (entry_by b.force.policy i REFRESH_MARK) c.update.new.self.quiets keeping)
    c.image.ensures in
    refresh_made k b keeping c.requires.kept (record b { force = c.put_refresh.new.self }) c.update.new.self left
    c.put_refresh.ensures.line (ap (λ (f : Force). record b { force = f }) c.put_refresh.ensures.same) grown
    c.requires.due

-- the keeper has refused it
pub returns-in-Err-clause-fault : goal.returns-in-Err-clause-fault
returns-in-Err-clause-fault g c =
    let k = g.N.TableName.key in
    let b = c.args.books.now in
    let fault = c.in-Err.fault in
    let u = c.in-Err.ensures in
    let new = c.tell.new.self in
    let has = subst (λ (what : JournalLine). HasLine (asked_by Script what) b.force.journal new.force.journal)
    c.refused_refresh.ensures c.tell.ensures.line in
    let all = after_refresh_refused k b c.args.keeper.now c.requires.kept new.force.journal c.update.new.self fault
    (λ spent. right_fault fault (u.spent spent)) u.fault has c.requires.due in
    subst (λ (nb : Books). IsAfter k (asked_by Script (refused_refresh fault)) b nb c.args.keeper.now
    c.update.new.self) (sym c.tell.ensures.same) all
