use Rattle.std.proofs.Common.{◌≡◌, ◌+◌, ◌<◌, ◌++◌, ◌∷◌, [], length, set, get_or, ap, rules, arith, sym, subst, vec_len}
use Rattle.std.proofs.lemmas.List.{get_or_read, length-append}
use Rattle.cfi_flow.specs.inner.Star.{IsStar}
use Rattle.cfi_flow.proofs.StarLemmas.{star_more}
use Rattle.cfi_flow.proofs.star.add.Goals as goal

pub returns-clause-star : goal.returns-clause-star
returns-clause-star c =
    let links = c.args.links.now.items in
    let befores = c.args.befores.now.items in
    let roomy = c.make_room.new.lasts.items in
    let link = c.args.link in
    let all = links ++ link ∷ [] in
    let made = c.in_ok-make_room.ensures.room in
    let room : link.from < length roomy = omega (arith, made) in
    let read : c.index.result.now ≡ get_or roomy link.from 0 =
    get_or_read roomy link.from c.index.result.now room c.index.ensures 0 in
    let links_is : c.push-2.new.self.items ≡ all = c.in_ok-push-2.ensures.items in
    let befores_is : c.push.new.self.items ≡ befores ++ c.index.result.now ∷ [] = c.in_ok-push.ensures.items in
    let count : vec_len c.push-2.new.self ≡ length c.push-2.new.self.items = search rules in
    let more : length all ≡ length links + 1 = length-append links (link ∷ []) in
    let len : c.len.result ≡ length links + 1 = omega (arith, c.len.ensures, count, ap length links_is, more) in
    subst (λ ls. IsStar ls (set roomy link.from c.len.result) c.push.new.self.items) (sym links_is)
    (subst (λ n. IsStar all (set roomy link.from n) c.push.new.self.items) (sym len)
    (subst (λ bs. IsStar all (set roomy link.from (length links + 1)) bs) (sym befores_is)
    (subst (λ b. IsStar all (set roomy link.from (length links + 1)) (befores ++ b ∷ [])) (sym read)
    (star_more links c.args.lasts.now.items befores c.requires link roomy room c.in_ok-make_room.ensures.same))))
