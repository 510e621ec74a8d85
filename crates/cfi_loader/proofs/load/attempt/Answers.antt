use Rattle.std.proofs.Common.{◌+◌, ◌<◌, ℕ, refl, ap, sym, subst, ◌∙◌, arith}
use Rattle.cfi_model.specs.Tables.{IsUpdate}
use Rattle.cfi_modules.specs.Examples.{sized}
use Rattle.cfi_tables.specs.Faults.{FaultIs}
use Rattle.cfi_tables.specs.Keeping.{entry_by, grown_by, last_of}
use Rattle.cfi_valid.specs.Script.{Load}
use Rattle.cfi_word.specs.declared.limits.TheConstants.{MAX_EPOCH}
use Rattle.cfi_word.specs.declared.lists.Image.{Image}
use Rattle.cfi_ledger.specs.declared.books.Books.{Books}
use Rattle.cfi_loader.specs.declared.fault.LoadFault.{LoadFault}
use Rattle.cfi_loader.specs.Told.{MayAskFor}
use Rattle.cfi_loader.specs.inner.Books.{BooksAgree, ledger_of}
use Rattle.cfi_ledger.specs.Finding.{AreFindings, DoesJoin}
use Rattle.cfi_ledger.specs.Loads.{IsAbsent, IsUnprepared}
use Rattle.cfi_loader.specs.inner.Loads.{Refuses}
use Rattle.cfi_loader.proofs.JoiningLemmas.{keeps_classes, made_answers, turned_down, unmade_refuses}
use Rattle.cfi_loader.proofs.FindingLemmas.{refuses_then}
use Rattle.cfi_loader.proofs.PrepareLemmas.{load_update}
use Rattle.cfi_loader.proofs.UpdateLemmas.{epoch_left, not_spent, right_fault}
use Rattle.cfi_ledger.specs.Books.{end_of_books}
use Rattle.cfi_ledger.proofs.PolicyLemmas.{policies_left}
use Rattle.cfi_loader.proofs.load.attempt.Goals as goal

pub prepare-requires-clause-few : goal.prepare-requires-clause-few
prepare-requires-clause-few g c =
    policies_left c.args.books.now.plan (end_of_books c.args.books.now) c.requires.kept.ledger.policies

-- what was found is true of the books as they were
pub refuse_unjoined-requires-clause-found : goal.refuse_unjoined-requires-clause-found
refuse_unjoined-requires-clause-found g c =
    subst (λ (nb : Books). AreFindings nb.modules nb.force.policy nb.force.roster nb.found.items) (sym c.in-Err.ensures.same)
    c.requires.kept.found_are

pub refuse_unjoined-requires-clause-unprepared : goal.refuse_unjoined-requires-clause-unprepared
refuse_unjoined-requires-clause-unprepared g c =
    subst (λ (nb : Books). IsUnprepared nb c.args.number c.in-Err.fault) (sym c.in-Err.ensures.same)
    c.in-Err.ensures.fault

-- it does not join
pub returns-in-Err-clause-fault : goal.returns-in-Err-clause-fault
returns-in-Err-clause-fault g c =
    let k = g.N.TableName.key in
    let keeping = c.args.keeper.now in
    let same = c.in-Err.ensures.same in
    let refused = c.refuse_unjoined in
    subst (λ (nb : Books). Refuses k c.args.who c.args.number refused.result nb refused.new.books keeping keeping) same
    (refused.ensures.after k keeping (subst (λ (nb : Books). BooksAgree k nb keeping) (sym same) c.requires.kept)
    (subst (λ (nb : Books). MayAskFor (ledger_of nb keeping) c.args.who (Load c.args.number)) (sym same)
    c.requires.asks)
    (subst (λ (nb : Books). IsAbsent nb c.args.number) (sym same) c.requires.absent))

-- the next image keeps the code
pub update-requires : goal.update-requires
update-requires g c =
    let k = g.N.TableName.key in
    let b = c.args.books.now in
    let keeping = c.args.keeper.now in
    let p = c.in-Ok.ensures in
    let candidate = c.in-Ok.candidate in
    let mark = c.load_mark-mark.result in
    let follows = load_update k b keeping c.requires.kept c.args.number candidate.roster p.ok c.requires.absent
    candidate.book p.book mark in
    let force = sym (ap (λ (m : Books). m.force.policy) p.lent) in
    record {
      follows = subst (λ (i : Image). IsUpdate k.code_words (last_of keeping.entries)
          (entry_by (c.prepare.new.self.force.policy + 1) i mark)) (sym c.image.ensures)
          (subst (λ (n : ℕ). IsUpdate k.code_words (last_of keeping.entries) (entry_by (n + 1)
          candidate.book.image mark))
          force follows);
    }

-- an epoch is left for it
pub commit-requires-clause-left : goal.commit-requires-clause-left
commit-requires-clause-left g c =
    let u = c.in-Ok-update.ensures in
    subst (λ (m : Books). m.force.epoch < MAX_EPOCH) (sym c.in-Ok.ensures.lent)
    (epoch_left g.N.TableName.key c.args.books.now c.args.keeper.now c.requires.kept
    (λ spent. not_spent c.in-Ok-update.field-0 (u.spent spent)))

-- it is in force
pub returns-in-Ok-update-clause-ok : goal.returns-in-Ok-update-clause-ok
returns-in-Ok-update-clause-ok g c =
    let k = g.N.TableName.key in
    let b = c.args.books.now in
    let keeping = c.args.keeper.now in
    let kept = c.requires.kept in
    let p = c.in-Ok.ensures in
    let candidate = c.in-Ok.candidate in
    let mid = c.prepare.new.self in
    let u = c.in-Ok-update.ensures in
    let left = epoch_left k b keeping kept (λ spent. not_spent c.in-Ok-update.field-0 (u.spent spent)) in
    let grown = u.new
    ∙ ap (λ (i : Image). grown_by (entry_by (mid.force.policy + 1) i c.load_mark-mark.result)
    c.update.new.self.quiets keeping)
    c.image.ensures
    ∙ ap (λ (n : ℕ). grown_by (entry_by (mid.force.policy + 1) candidate.book.image n) c.update.new.self.quiets keeping)
    c.load_mark-mark.ensures in
    let one = sized 0 0 0 0 0 0 refl in
    made_answers k b keeping kept c.args.who c.args.number c.requires.asks c.requires.absent mid c.commit.new.books
    p.lent candidate.roster p.ok c.update.new.self p.cells candidate.book p.book left c.commit.ensures.line
    c.commit.ensures.same grown c.commit.result c.commit.ensures.again c.commit.ensures.epoch
    c.commit.ensures.policy one
    (c.commit.ensures.address one)

-- and its image keeps the class numbers
pub returns-in-Ok-update-clause-kept : goal.returns-in-Ok-update-clause-kept
returns-in-Ok-update-clause-kept g c =
    let candidate = c.in-Ok.candidate in
    let made = returns-in-Ok-update-clause-ok g c in
    let same = c.commit.ensures.same in
    keeps_classes g.N.TableName.key c.args.books.now c.commit.new.books c.args.keeper.now c.update.new.self
    candidate.roster candidate.book c.requires.kept made.all.kept (ap (λ (m : Books). m.force.roster) same)
    (ap (λ (m : Books). m.book) same) c.in-Ok.ensures.kept

-- the keeper has refused it: the books are as they were, but for the line
pub keep_joining-requires-clause-found : goal.keep_joining-requires-clause-found
keep_joining-requires-clause-found g c =
    let k = g.N.TableName.key in
    let p = c.in-Ok.ensures in
    let back = turned_down k c.args.books.now c.args.keeper.now c.requires.kept c.args.who c.args.number c.requires.asks
    c.requires.absent c.prepare.new.self c.turn_down-fault.new.books p.lent c.in-Ok.candidate.roster p.ok
    c.update.new.self c.in-Ok.candidate.before p.before c.turn_down-fault.ensures.same in
    subst (λ (nb : Books). AreFindings nb.modules nb.force.policy nb.force.roster nb.found.items) (sym back) c.requires.kept.found_are

pub keep_joining-requires-clause-joins : goal.keep_joining-requires-clause-joins
keep_joining-requires-clause-joins g c =
    let k = g.N.TableName.key in
    let p = c.in-Ok.ensures in
    let back = turned_down k c.args.books.now c.args.keeper.now c.requires.kept c.args.who c.args.number c.requires.asks
    c.requires.absent c.prepare.new.self c.turn_down-fault.new.books p.lent c.in-Ok.candidate.roster p.ok
    c.update.new.self c.in-Ok.candidate.before p.before c.turn_down-fault.ensures.same in
    subst (λ (nb : Books). DoesJoin nb.modules nb.force.roster c.args.number) (sym back) (record {
      unplaced = p.ok.unplaced;
      is = p.ok.is;
      placed = p.ok.joined.one;
      joins = p.ok.joined.joins;
    })

pub returns-in-Err-update-clause-fault : goal.returns-in-Err-update-clause-fault
returns-in-Err-update-clause-fault g c =
    let k = g.N.TableName.key in
    let b = c.args.books.now in
    let keeping = c.args.keeper.now in
    let p = c.in-Ok.ensures in
    let candidate = c.in-Ok.candidate in
    let fault = c.in-Err-update.fault in
    let u = c.in-Err-update.ensures in
    let down = c.turn_down-fault in
    let is = subst (λ (n : ℕ). FaultIs k n keeping c.update.new.self fault) c.load_mark-mark.ensures u.fault in
    let refused = subst (λ (f : LoadFault). Refuses k c.args.who c.args.number f b down.new.books keeping c.update.new.self)
    (sym down.ensures.fault)
    (unmade_refuses k b keeping c.requires.kept c.args.who c.args.number c.requires.asks c.requires.absent
    c.prepare.new.self down.new.books p.lent candidate.roster p.ok c.update.new.self candidate.before p.before fault
    (λ spent. right_fault fault (u.spent spent)) is down.ensures.line down.ensures.same) in
    refuses_then k down.new.books c.keep_joining.new.self c.keep_joining.ensures.same c.args.who c.args.number down.result
    keeping c.update.new.self b refused c.keep_joining.ensures.found
