use Rattle.std.proofs.Common.{ℕ, List, sym, ap, subst, ◌∙◌}
use Rattle.cfi_plan.specs.declared.journal.Entry.{Entry}
use Rattle.cfi_plan.specs.declared.journal.JournalLine.{JournalLine}
use Rattle.cfi_plan.specs.declared.journal.Who.TheVariants.{Guest}
use Rattle.cfi_slips.specs.Lines.{lines_of}
use Rattle.cfi_slips.specs.Stubs.{with_lines, with_told}
use Rattle.cfi_loader.specs.Results.{told_lines}
use Rattle.cfi_loader.specs.inner.Books.{StubsAgree, ledger_of}
use Rattle.cfi_loader.proofs.SlipLemmas.{agree_told, entries_by, load_kept, load_more, more_new, of_guest}
use Rattle.cfi_loader.proofs.loader.Loader.load_for.Goals as goal

-- what was told by the slip is what the journal has more
pub invariant_of-self : goal.invariant_of-self
invariant_of-self g c =
    let k = g.N.TableName.key in
    let a = c.self.inside in
    let n = c.args.number in
    let who = Guest c.guest.result in
    let l = c.load-answer.ensures in
    let new = c.load-answer.new in
    let more = entries_by who (told_lines n c.load-answer.result) in
    let has = load_more k who n a.books new.books a.keeper new.keeper c.load-answer.result l.ok l.fault in
    record {
      kept = load_kept k who n a.books new.books a.keeper new.keeper c.load-answer.result l.ok l.fault;
      plan_is = l.same.plan_is ∙ c.self.invariant.plan_is;
      modules_are = l.same.modules_are ∙ c.self.invariant.modules_are;
      slips = subst (StubsAgree (ledger_of new.books new.keeper))
          (sym (c.tell.ensures.told
          ∙ ap (λ (xs : List Entry). with_told xs a.stubs)
          (more_new more (ledger_of a.books a.keeper) (ledger_of new.books new.keeper) has c.lines-before.result.now
          c.lines.result.now c.lines-before.ensures c.lines.ensures)))
          (agree_told more (ledger_of a.books a.keeper) (ledger_of new.books new.keeper) a.stubs has
          c.self.invariant.slips);
    }

-- and the slip has the line
pub returns-clause-told : goal.returns-clause-told
returns-clause-told g c =
    let k = g.N.TableName.key in
    let a = c.self.inside in
    let n = c.args.number in
    let who = Guest c.guest.result in
    let slip = c.args.slip.now in
    let l = c.load-answer.ensures in
    let new = c.load-answer.new in
    let lines = told_lines n c.load-answer.result in
    let has = load_more k who n a.books new.books a.keeper new.keeper c.load-answer.result l.ok l.fault in
    let told = more_new (entries_by who lines) (ledger_of a.books a.keeper) (ledger_of new.books new.keeper) has
    c.lines-before.result.now c.lines.result.now c.lines-before.ensures c.lines.ensures in
    c.tell.ensures.slip
    ∙ ap (λ (xs : List Entry). with_lines (lines_of slip.guest xs) slip) told
    ∙ ap (λ (g : ℕ). with_lines (lines_of g (entries_by who lines)) slip) (sym c.guest.ensures)
    ∙ ap (λ (xs : List JournalLine). with_lines xs slip) (of_guest c.guest.result lines)
