use Rattle.std.proofs.Common.{◌≡◌, ◌∙◌, length, take, sym, ap, subst, arith}
use Rattle.std.proofs.Math.Seq.{take-length}
use Rattle.std.specs.Option.{option_or}
use Rattle.cfi_graph.specs.Shaped.{IsShaped}
use Rattle.cfi_graph.specs.Named.{entry_in, entry_among}
use Rattle.cfi_graph.proofs.FirstLemmas.{first_more}
use Rattle.cfi_graph.proofs.imports.imports_named.Goals as goal

pub add_named-requires : goal.add_named-requires
add_named-requires c =
    let m = c.placed-item.result in
    subst IsShaped (sym c.placed-item.is) (c.requires c.loop-placed.placed-index m c.loop-placed-test.true)

-- this turn's module is looked at too
pub loop-placed-preserved : goal.loop-placed-preserved
loop-placed-preserved c = λ name has.
    let ms = c.args.modules.now in
    let k = c.loop-placed.placed-index in
    let m = c.placed-item.result in
    let more = first_more (λ o. entry_in o name) ms k m c.loop-placed-test.true in
    c.in_ok-add_named.ensures name has
    ∙ ap (λ o. option_or o (entry_in m name)) (c.loop-placed.invariant name has)
    ∙ ap (λ o. option_or (entry_among (take k ms) name) (entry_in o name)) c.placed-item.is
    ∙ sym more

pub returns : goal.returns
returns c = λ name has.
    let ms = c.args.modules.now in
    let all : c.loop-placed.placed-index ≡ length ms = omega arith in
    c.loop-placed.invariant name has ∙ ap (λ xs. entry_among xs name) (ap (λ k. take k ms) all ∙ take-length ms)

pub returns-then-is_empty : goal.returns-then-is_empty
returns-then-is_empty c = λ name has. absurd (c.is_empty.ensures c.if-is_empty.true name has)
