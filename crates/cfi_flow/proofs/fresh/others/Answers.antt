use Rattle.std.proofs.Common.{◌≡◌, ◌∙◌, ◌+◌, ◌++◌, ◌∷◌, [], take, get_or, sym, ap, subst}
use Rattle.std.specs.List.{Contains}
use Rattle.std.proofs.lemmas.Bool.{false≢true}
use Rattle.std.proofs.lemmas.List.{take_more, take_all}
use Rattle.cfi_flow.specs.Fresh.{AreOthers}
use Rattle.cfi_flow.proofs.OtherLemmas.{known_more, other_more, others_by}
use Rattle.cfi_flow.proofs.fresh.others.Goals as goal
use Rattle.cfi_flow.proofs.fresh.others.Goals.{then-not-is_known+in_ok-push, else-not-is_known}

pub loop-number-preserved : goal.loop-number-preserved
loop-number-preserved c =
    let i = c.loop-number.number-index in
    let numbers = c.args.numbers.now in
    let x = get_or c.args.numbers.now c.loop-number.number-index 0 in
    let known = c.in_ok-known.known.items in
    let more : take (i + 1) numbers ≡ take i numbers ++ x ∷ [] = take_more numbers i 0 c.loop-number-test.true in
    elim c.if-not-is_known.branch [
      | then-not-is_known+in_ok-push w ↦
          let new : Contains known x → ⊥ = λ h.
          false≢true (sym w.if-not-is_known.true
          ∙ c.is_known.ensures.1 (subst (λ ks. Contains ks x) (sym c.as_slice.ensures.value) h)) in
          let is = ap (λ v. v.items) w.others-is ∙ w.in_ok-push.ensures.items in
          subst (λ ns. AreOthers ns known c.if-not-is_known.others.items) (sym more)
          (subst (λ os. AreOthers (take i numbers ++ x ∷ []) known os) (sym is)
          (other_more _ _ _ x c.loop-number.invariant new))
      | else-not-is_known w ↦
          let has : Contains known x =
          subst (λ ks. Contains ks x) c.as_slice.ensures.value (c.is_known.ensures.0 w.if-not-is_known.false) in
          let is = ap (λ v. v.items) w.others-is in
          subst (λ ns. AreOthers ns known c.if-not-is_known.others.items) (sym more)
          (subst (λ os. AreOthers (take i numbers ++ x ∷ []) known os) (sym is)
          (known_more _ _ _ x c.loop-number.invariant has))
    ]

pub returns : goal.returns
returns c =
    let numbers = c.args.numbers.now in
    let done = take_all c.loop-number.number-index numbers c.loop-number-test.false in
    others_by _ numbers c.in_ok-known.known.items c.args.known.now _ done c.in_ok-known.ensures.same c.loop-number.invariant
