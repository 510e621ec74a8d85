use Rattle.cfi_link.specs.Chosen.{twice_in}
use Rattle.cfi_link.proofs.ChosenLemmas.{has_none, has_more, has_all, once_all, twice_is, twice_fault}
use Rattle.cfi_link.proofs.chosen.choose.Goals as goal

pub loop-k-init : goal.loop-k-init
loop-k-init c =
    has_none c.args.symbols.now c.new-definitions.result c.new-definitions.ensures.globals
    c.new-definitions.ensures.weaks

pub loop-k-preserved : goal.loop-k-preserved
loop-k-preserved c =
    has_more c.args.symbols.now c.loop-k.k c.loop-k.definitions c.add.new.self c.index-symbols-k.result
    c.loop-k-test.true c.index-symbols-k.is c.loop-k.invariant c.in_default.ensures.globals c.in_default.ensures.weaks
    c.in_default.ensures.once

pub returns-in-Err-clause-fault : goal.returns-in-Err-clause-fault
returns-in-Err-clause-fault c =
    twice_fault c.in-Err.fault _ (twice_in c.args.symbols.now) c.in-Err.ensures.fault
    (twice_is c.args.symbols.now c.loop-k.k c.loop-k.definitions c.index-symbols-k.result c.loop-k-test.true
    c.index-symbols-k.is c.loop-k.invariant)

pub returns-clause-ok : goal.returns-clause-ok
returns-clause-ok c =
    has_all c.args.symbols.now c.loop-k.k c.loop-k.definitions c.loop-k-test.false c.loop-k.invariant

pub returns-clause-once : goal.returns-clause-once
returns-clause-once c =
    once_all c.args.symbols.now c.loop-k.k c.loop-k.definitions c.loop-k-test.false c.loop-k.invariant
