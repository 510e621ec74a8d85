use Rattle.std.proofs.Common.{sym, subst}
use Rattle.cfi_ledger.specs.Loads.{IsAbsent}
use Rattle.cfi_ledger.specs.declared.books.Books.{Books}
use Rattle.cfi_loader.specs.Told.{MayAskFor}
use Rattle.cfi_loader.specs.inner.Books.{BooksAgree, ledger_of}
use Rattle.cfi_loader.specs.inner.Loads.{Refuses}
use Rattle.cfi_loader.proofs.FindingLemmas.{refuses_as_noted}
use Rattle.cfi_loader.proofs.load.refuse_last.Goals as goal
use Rattle.cfi_valid.specs.Script.{Load}

-- it does not join
pub returns-in-Err-clause-after : goal.returns-in-Err-clause-after
returns-in-Err-clause-after c = λ k keeping kept asks absent.
    let same = c.joins.ensures.same in
    let result = c.refuse_unjoined.result in
    let new = c.refuse_unjoined.new.books in
    subst (λ (b : Books). Refuses k c.args.who c.args.number result b new keeping keeping) same
    (c.refuse_unjoined.ensures.after k keeping (subst (λ (b : Books). BooksAgree k b keeping) (sym same) kept)
    (subst (λ (b : Books). MayAskFor (ledger_of b keeping) c.args.who (Load c.args.number)) (sym same) asks)
    (subst (λ (b : Books). IsAbsent b c.args.number) (sym same) absent))

-- it joins
pub returns-clause-after : goal.returns-clause-after
returns-clause-after c = λ k keeping kept asks absent.
    let same = c.joins.ensures.same in
    let result = c.refuse_spent.result in
    let new = c.refuse_spent.new.books in
    subst (λ (b : Books). Refuses k c.args.who c.args.number result b new keeping keeping) same
    (refuses_as_noted k c.joins.new.self c.keep_joining.new.self c.keep_joining.ensures.same c.args.who c.args.number
    result new keeping (subst (λ (b : Books). BooksAgree k b keeping) (sym same) kept)
    (subst (λ (b : Books). MayAskFor (ledger_of b keeping) c.args.who (Load c.args.number)) (sym same) asks)
    (subst (λ (b : Books). IsAbsent b c.args.number) (sym same) absent) c.keep_joining.ensures.found
    (c.refuse_spent.ensures.after k keeping))
