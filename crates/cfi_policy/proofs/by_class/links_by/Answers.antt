use Rattle.std.proofs.Common.{◌≡◌, ◌∙◌, ◌+◌, ◌*◌, ◌<◌, ◌≤◌, [], ◌∷◌, ◌++◌, length, take, get_or, sym, ap, subst, arith}
use Rattle.std.proofs.lemmas.List.{take_more, length-take-le}
use Rattle.cfi_policy.specs.inner.ByClass.{AreLinksBy}
use Rattle.cfi_policy.proofs.MemberLemmas.{place_passed, place_linked}
use Rattle.cfi_policy.proofs.by_class.links_by.Goals as goal
use Rattle.cfi_policy.proofs.by_class.links_by.Goals.{then-number-ge1+then-number-count+in_ok-push, else-number-ge1, else-number-ge1-via-then-number-ge1+else-number-count, else-number-ge1-via-else-number-ge1}

-- this turn's place has its link, where it has a class
pub loop-place-preserved : goal.loop-place-preserved
loop-place-preserved c =
    let step = c.args.step in
    let count = c.args.count in
    let numbers = c.args.numbers.now in
    let place = c.loop-place.place in
    let number = get_or c.args.numbers.now c.loop-place.place 0 in
    let links = c.loop-place.links.items in
    let within : place < length numbers = c.loop-place-test.true in
    let more : take (place + 1) numbers ≡ take place numbers ++ number ∷ [] = take_more numbers place 0 within in
    let len : length (take place numbers) ≡ place = length-take-le place numbers (omega (arith, within)) in
    subst (λ list. AreLinksBy step count list c.if-number-ge1.links.items) (sym more)
    (elim c.if-number-ge1.branch [
      | then-number-ge1+then-number-count+in_ok-push w ↦
          subst (AreLinksBy step count (take place numbers ++ number ∷ []))
          (sym (ap (λ v. v.items) w.links-is ∙ w.in_ok-push.ensures.items))
          (subst (λ n. AreLinksBy step count (take place numbers ++ number ∷ [])
          (links ++ record { from = number; to = step * n } ∷ [])) len
          (place_linked step count (take place numbers) links number c.loop-place.invariant c.requires.step
          w.if-number-ge1.true w.if-number-count.true))
      | else-number-ge1 w ↦
          let none : (1 ≤ number) × (number ≤ count) → ⊥ = λ both. elim w.else-number-ge1.branch [
            | else-number-ge1-via-then-number-ge1+else-number-count v ↦ omega (arith, both.1, v.if-number-count.false)
            | else-number-ge1-via-else-number-ge1 v ↦ omega (arith, both.0, v.if-number-ge1.false)
          ] in
          subst (AreLinksBy step count (take place numbers ++ number ∷ [])) (sym (ap (λ v. v.items) w.links-is))
          (place_passed step count (take place numbers) links number c.loop-place.invariant none)
    ])
