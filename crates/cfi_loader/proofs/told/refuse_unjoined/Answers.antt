use Rattle.std.proofs.Common.{sym, subst}
use Rattle.cfi_ledger.specs.declared.books.Books.{Books}
use Rattle.cfi_ledger.specs.Loads.{IsUnprepared}
use Rattle.cfi_loader.proofs.FindingLemmas.{refuses_as_noted}
use Rattle.cfi_loader.proofs.told.refuse_unjoined.Goals as goal

-- what was found stands of the books as they are noted
pub refuse-requires-clause-unprepared : goal.refuse-requires-clause-unprepared
refuse-requires-clause-unprepared c =
    let its = c.requires.unprepared in
    subst (λ (nb : Books). IsUnprepared nb c.args.number c.args.fault) (sym c.keep.ensures.same)
    (record { unplaced = its.unplaced; is = its.is; why = its.why })

pub returns-clause-after : goal.returns-clause-after
returns-clause-after c = λ k keeping kept asks absent.
    refuses_as_noted k c.args.books.now c.keep.new.self c.keep.ensures.same c.args.who c.args.number c.refuse.result
    c.refuse.new.books keeping kept asks absent c.keep.ensures.found (c.refuse.ensures.after k keeping)
