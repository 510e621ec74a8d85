use Rattle.std.proofs.Common.{◌≡◌, ◌∙◌, ◌++◌, ◌∷◌, ℕ, List, [], take, sym, ap, subst}
use Rattle.std.proofs.lemmas.List.{take_all, take_more}
use Rattle.cfi_place.specs.Names.{find_in, first_in}
use Rattle.cfi_judge.specs.declared.next.Stood.{Stood}
use Rattle.cfi_judge.specs.inner.Next.{exports_left}
use Rattle.cfi_judge.proofs.NextLemmas.{left_one}
use Rattle.cfi_judge.proofs.next.names_left.Goals as goal

pub loop-one-init : goal.loop-one-init
loop-one-init c = c.new-names.ensures

-- those of one more
pub loop-one-preserved : goal.loop-one-preserved
loop-one-preserved c = λ name.
    let flags = c.args.gone.now in
    let before = take c.loop-one.one-index c.args.stood.now in
    c.in_ok-add_left.ensures (exports_left flags before) c.loop-one.invariant name
    ∙ ap (λ (pairs : List (List ℕ × ℕ)). first_in pairs name)
    (left_one flags before c.one-item.result
    ∙ ap (exports_left flags) (sym (take_more c.args.stood.now c.loop-one.one-index c.one-item.result
    c.loop-one-test.true
    ∙ ap (λ (s : Stood). before ++ s ∷ []) (sym c.one-item.is))))

pub returns : goal.returns
returns c =
    subst (λ (stood : List Stood). (name : List ℕ) → find_in c.loop-one.names name
    ≡ first_in (exports_left c.args.gone.now stood) name)
    (take_all c.loop-one.one-index c.args.stood.now c.loop-one-test.false) c.loop-one.invariant
