use Rattle.std.proofs.Common.{◌∙◌, ap, sym, subst, take}
use Rattle.cfi_aux.specs.declared.modules.Module.{Module}
use Rattle.cfi_link.specs.Joined.{Joined, joined_of, with_module}
use Rattle.cfi_link.specs.inner.Room.{HasRoom}
use Rattle.std.proofs.lemmas.List.{take_all}
use Rattle.cfi_link.proofs.JoinedLemmas.{joined-more}
use Rattle.cfi_link.proofs.LimitLemmas.{room}
use Rattle.cfi_link.proofs.joined.join.Goals as goal

pub add-requires-clause-room : goal.add-requires-clause-room
add-requires-clause-room c =
    let modules = c.args.modules.now in
    let i = c.loop-added.added-index in
    let item = c.added-item.result in
    subst (λ (joined : Joined). HasRoom joined item) (sym c.loop-added.invariant)
    (subst (λ (m : Module). HasRoom (joined_of (take i modules)) m) (sym c.added-item.is)
    (room modules i item c.loop-added-test.true c.requires.count c.requires.within))

pub loop-added-preserved : goal.loop-added-preserved
loop-added-preserved c =
    let modules = c.args.modules.now in
    let i = c.loop-added.added-index in
    let item = c.added-item.result in
    c.in_ok-add.ensures
    ∙ ap (λ (joined : Joined). with_module joined item) c.loop-added.invariant
    ∙ ap (λ (m : Module). with_module (joined_of (take i modules)) m) c.added-item.is
    ∙ sym (joined-more modules i item c.loop-added-test.true)

pub returns : goal.returns
returns c =
    c.loop-added.invariant ∙ ap joined_of (take_all c.loop-added.added-index c.args.modules.now c.loop-added-test.false)
