use Rattle.std.proofs.Common.{sym, subst, ◌∙◌}
use Rattle.cfi_plan.specs.declared.journal.JournalLine.{JournalLine}
use Rattle.cfi_modules.specs.Numbers.{numbers_of}
use Rattle.cfi_ledger.specs.declared.books.Books.{Books}
use Rattle.cfi_loader.specs.declared.fault.LoadFault.{LoadFault}
use Rattle.cfi_ledger.specs.Journal.{asked_by, HasLine}
use Rattle.cfi_loader.specs.inner.Loads.{Refuses, load_fault_of}
use Rattle.cfi_loader.proofs.AddLemmas.{told_refuses, starved_refuses}
use Rattle.cfi_ledger.proofs.NumberedLemmas.{from_numbers, from_none}
use Rattle.cfi_loader.proofs.told.refuse.Goals as goal
use Rattle.cfi_loader.proofs.told.refuse.Goals.{in-Some, in-None}

pub returns-clause-after : goal.returns-clause-after
returns-clause-after c = λ k keeping kept asks absent.
    let b = c.args.books.now in
    let fault = c.args.fault in
    subst (λ (f : LoadFault). Refuses k c.args.who c.args.number f b c.match-join_line.books keeping keeping)
    (sym c.load_fault_of.ensures) (elim c.match-join_line.branch [
      | in-Some w ↦
          let told = from_numbers c.args.number (numbers_of fault) w.in-Some.line
          (sym c.join_line.ensures ∙ w.in-Some.is) in
          let new = w.tell.new.self in
          let has = subst (λ (line : JournalLine). HasLine (asked_by c.args.who line) b.force.journal new.force.journal)
          told.2
          w.tell.ensures.line in
          subst (λ (nb : Books). Refuses k c.args.who c.args.number (load_fault_of fault) b nb keeping keeping)
          (sym w.books-is)
          (told_refuses k b keeping kept c.args.who c.args.number asks absent new fault told.0 c.requires.unprepared
          told.1 has w.tell.ensures.same)
      | in-None w ↦
          let none = from_none c.args.number (numbers_of fault) (sym c.join_line.ensures ∙ w.in-None.is) in
          starved_refuses k b keeping kept c.args.who c.args.number asks absent c.match-join_line.books fault
          c.requires.unprepared none w.books-is
    ])
