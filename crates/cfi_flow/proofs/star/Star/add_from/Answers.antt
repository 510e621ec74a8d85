use Rattle.std.proofs.Common.{◌≡◌, ◌-◌, ◌<◌, ◌++◌, ◌∷◌, [], suc, length, get_or, ap, rules, arith, sym, subst, vec_len, ◌∙◌}
use Rattle.std.proofs.lemmas.List.{get_or_read}
use Rattle.cfi_flow.specs.inner.Star.{no_link, link_at}
use Rattle.cfi_flow.proofs.StarLemmas.{IsFrom, from_begins, found_within, next_less, from_goes_on, from_ends}
use Rattle.cfi_flow.proofs.star.Star.add_from.Goals as goal

pub loop-at-init : goal.loop-at-init
loop-at-init c =
    let is : c.last_at-at.result ≡ get_or c.self.inside.lasts.items c.args.node 0 =
    c.last_at-at.ensures ∙ ap (λ xs. get_or xs c.args.node 0) c.deref.ensures.value in
    from_begins c.self.inside.links.items c.self.inside.lasts.items c.self.inside.befores.items c.self.invariant
    c.args.node c.last_at-at.result c.args.list.now.items is

pub index-requires : goal.index-requires
index-requires c =
    let inside = c.self.inside in
    let number = c.loop-at.at - 1 in
    let is : c.loop-at.at ≡ suc number = omega (arith, c.loop-at-test.true) in
    let count : vec_len inside.links ≡ length inside.links.items = search rules in
    let within = found_within inside.links.items inside.lasts.items inside.befores.items c.self.invariant c.args.node
    c.loop-at.at number c.args.list.now.items c.loop-at.list.items c.loop-at.invariant is in
    omega (arith, count, within)

pub index-at-requires : goal.index-at-requires
index-at-requires c =
    let inside = c.self.inside in
    let number = c.loop-at.at - 1 in
    let is : c.loop-at.at ≡ suc number = omega (arith, c.loop-at-test.true) in
    let count : vec_len inside.befores ≡ length inside.befores.items = search rules in
    let within = found_within inside.links.items inside.lasts.items inside.befores.items c.self.invariant c.args.node
    c.loop-at.at number c.args.list.now.items c.loop-at.list.items c.loop-at.invariant is in
    omega (arith, count, within, c.self.invariant.len)

pub loop-at-smaller : goal.loop-at-smaller
loop-at-smaller c =
    let inside = c.self.inside in
    let number = c.loop-at.at - 1 in
    let is : c.loop-at.at ≡ suc number = omega (arith, c.loop-at-test.true) in
    let within = found_within inside.links.items inside.lasts.items inside.befores.items c.self.invariant c.args.node
    c.loop-at.at number c.args.list.now.items c.loop-at.list.items c.loop-at.invariant is in
    let below : number < length inside.befores.items = omega (arith, within, c.self.invariant.len) in
    let read : c.index-at.result.now ≡ get_or inside.befores.items number 0 =
    get_or_read inside.befores.items number c.index-at.result.now below c.index-at.ensures 0 in
    let less = next_less inside.links.items inside.lasts.items inside.befores.items c.self.invariant c.args.node
    c.loop-at.at number c.args.list.now.items c.loop-at.list.items c.loop-at.invariant is in
    omega (arith, read, less)

pub loop-at-preserved : goal.loop-at-preserved
loop-at-preserved c =
    let inside = c.self.inside in
    let links = inside.links.items in
    let number = c.loop-at.at - 1 in
    let old = c.args.list.now.items in
    let list = c.loop-at.list.items in
    let is : c.loop-at.at ≡ suc number = omega (arith, c.loop-at-test.true) in
    let within = found_within links inside.lasts.items inside.befores.items c.self.invariant c.args.node
    c.loop-at.at number old list c.loop-at.invariant is in
    let below : number < length inside.befores.items = omega (arith, within, c.self.invariant.len) in
    let read : c.index-at.result.now ≡ get_or inside.befores.items number 0 =
    get_or_read inside.befores.items number c.index-at.result.now below c.index-at.ensures 0 in
    let link : c.index.result.now ≡ link_at links number =
    get_or_read links number c.index.result.now within c.index.ensures no_link in
    let list_is : c.push.new.self.items ≡ list ++ link_at links number ∷ [] =
    c.in_ok-push.ensures.items ∙ ap (λ l. list ++ l ∷ []) link in
    subst (λ n. IsFrom links c.args.node n old c.push.new.self.items) (sym read)
    (subst (λ ls. IsFrom links c.args.node (get_or inside.befores.items number 0) old ls) (sym list_is)
    (from_goes_on links inside.lasts.items inside.befores.items c.self.invariant c.args.node c.loop-at.at number old list
    c.loop-at.invariant is))

pub returns : goal.returns
returns c =
    let inside = c.self.inside in
    rw (← c.self.view_is)
    (from_ends inside.links.items inside.lasts.items inside.befores.items c.self.invariant c.args.node c.loop-at.at
    c.args.list.now.items c.loop-at.list.items c.loop-at.invariant (let none = c.loop-at-test.false in omega (arith, none)))
