-- The branches are ready where the set is within each one that is enough, and stay so.
use Rattle.std.proofs.Common.{◌∙◌, ◌+◌, ℕ, List, length, ap}
use Rattle.std.proofs.lemmas.List.FromFn.{length-map-range_with_len}
use Rattle.cfi_instr.specs.Words.{count_of}
use Rattle.cfi_instr.specs.Sizes.{offset_of}
use Rattle.cfi_instr.proofs.HopLemmas.{both-ok, ready-first}
use Rattle.cfi_instr.proofs.stretch.stretch.Goals as goal

pub hops_of-requires-clause-size : goal.hops_of-requires-clause-size
hops_of-requires-clause-size c =
    let t = c.args.source.now in
    ap (λ (xs : List ℕ). length xs) c.requires.placed
    ∙ length-map-range_with_len (offset_of t c.args.long.now.items) 0 (count_of t + 1)

pub returns-clause-size : goal.returns-clause-size
returns-clause-size c =
    let t = c.args.source.now in
    let symbols = c.args.symbols.now in
    let ready = ready-first t symbols c.in_ok-hops.hops.items c.args.long.now.items c.args.offsets.now c.requires.size
    c.requires.placed c.in_ok-hops.ensures c.requires.within in
    both-ok c.lengthen_all.result c.lengthen_all.ensures c.lengthen_all.ensures (λ keeps same. (keeps t symbols ready).size)

pub returns-clause-within : goal.returns-clause-within
returns-clause-within c =
    let t = c.args.source.now in
    let symbols = c.args.symbols.now in
    let ready = ready-first t symbols c.in_ok-hops.hops.items c.args.long.now.items c.args.offsets.now c.requires.size
    c.requires.placed c.in_ok-hops.ensures c.requires.within in
    both-ok c.lengthen_all.result c.lengthen_all.ensures c.lengthen_all.ensures (λ keeps same. (keeps t symbols ready).within)
