use Rattle.std.proofs.Common.{◌/◌, sym}
use Rattle.cfi_model.specs.declared.pages.TheConstants.{PAGE_BYTES}
use Rattle.cfi_model.proofs.MakeLemmas.{made_again, numbered_made, seen_size}
use Rattle.cfi_model.proofs.pages.PrivateData.touch.Goals as goal

pub returns-else-self-place-eq0-clause-made : goal.returns-else-self-place-eq0-clause-made
returns-else-self-place-eq0-clause-made c =
    let place = c.args.offset / PAGE_BYTES in
    sym (made_again c.args.self.now.made place
    (numbered_made c.self.inside.numbers c.self.inside.pool.items _ place c.self.view_is c.if-self-place-eq0.false))

pub returns-then-self-place-eq0-clause-size : goal.returns-then-self-place-eq0-clause-size
returns-then-self-place-eq0-clause-size c = seen_size _ _ _ c.self.view_is

pub returns-else-self-place-eq0-clause-size : goal.returns-else-self-place-eq0-clause-size
returns-else-self-place-eq0-clause-size c = seen_size _ _ _ c.self.view_is
