use Rattle.std.proofs.Common.{true, refl, ap, subst, get_or}
use Rattle.cfi_modules.specs.Examples.{sized}
use Rattle.cfi_ledger.specs.declared.books.Books.{Books}
use Rattle.cfi_ledger.specs.Opens.{IsFirstGlobal}
use Rattle.cfi_loader.proofs.AddLemmas.{again_answers}
use Rattle.cfi_loader.proofs.told.again.Goals as goal

pub returns-clause-after : goal.returns-clause-after
returns-clause-after c = λ k keeping kept asks.
    let b = c.args.books.now in
    let p = sized 0 0 0 0 0 0 refl in
    let same = c.tell.ensures.same in
    let first : IsFirstGlobal (get_or b.force.roster.placed c.args.at p) c.address_at.result =
    subst (λ (nb : Books). IsFirstGlobal (get_or nb.force.roster.placed c.args.at p) c.address_at.result) same
    (c.address_at.ensures p) in
    again_answers k b keeping kept c.args.who c.args.number asks c.tell.new.self c.args.at c.tell.ensures.line same
    c.requires.listed c.requires.live (record {
      again = true;
      epoch = c.tell.new.self.force.epoch;
      policy = b.force.policy;
      address = c.address_at.result;
    }) refl (ap (λ (nb : Books). nb.force.epoch) same) refl p first
