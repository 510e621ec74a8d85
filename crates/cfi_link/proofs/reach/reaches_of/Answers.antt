use Rattle.std.proofs.Common.{ap}
use Rattle.elf_read.specs.declared.object.Symbol.{Symbol}
use Rattle.cfi_link.specs.Chosen.{settled_symbol, reach_of}
use Rattle.cfi_link.specs.inner.Kept.{chosen_by}
use Rattle.cfi_link.proofs.SettledLemmas.{reaches-more}
use Rattle.cfi_link.proofs.reach.reaches_of.Goals as goal

pub loop-k-preserved : goal.loop-k-preserved
loop-k-preserved c =
    let chosen = chosen_by c.args.definitions.now in
    let symbols = c.args.symbols.now in
    let k = c.loop-k.k in
    let item = c.index-symbols-k.result in
    let pushed = c.in_ok-push.ensures.items in
    let found = c.reach_of.ensures in
    let same = ap (λ (s : Symbol). reach_of symbols chosen (settled_symbol chosen (k, s))) c.index-symbols-k.is in
    let more = reaches-more chosen symbols symbols k item c.loop-k-test.true in
    let before = c.loop-k.invariant in
    cc
