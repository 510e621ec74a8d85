use Rattle.std.proofs.Common.{◌≡◌, ◌∙◌, ◌<◌, false, length, refl, sym, arith}
use Rattle.std.proofs.lemmas.List.{get_or_read}
use Rattle.cfi_instr.specs.Sizes.{is_long}
use Rattle.cfi_instr.proofs.HopLemmas.{both-ok, ready-next}
use Rattle.cfi_instr.proofs.stretch.lengthen.Goals as goal

pub returns : goal.returns
returns c =
    let hops = c.args.hops.now.items in
    let long = c.args.long.now.items in
    let hop = c.index-hop.result.now in
    let inside : c.args.number < length hops = omega (arith, c.if-number-len.false, c.len.ensures) in
    let at_inside : hop.at < length long = omega (arith, c.if-at-len.false, c.len-else-hop-ne0.ensures) in
    let none : hop.left ≡ 0 = omega (arith, c.if-hop-ne0.false) in
    let short : is_long long hop.at ≡ false =
    sym (get_or_read long hop.at c.index.result.now at_inside c.index.ensures false) ∙ c.if-index.false in
    both-ok c.push_others.result c.push_others.ensures.size c.push_others.ensures.each
    (λ size each t symbols ready.
    ready-next t symbols hops c.push_others.new.hops.items long _ c.args.number hop ready inside c.index-hop.ensures none
    short refl size each)
