use Rattle.std.proofs.Common.{◌≡◌, ℕ, ◌+◌, ◌∙◌, List, sym, ap, length, drop, get_or, arith, rules}
use Rattle.cfi_types.specs.inner.Extending.{back_from, put_one}
use Rattle.cfi_types.proofs.BackLemmas.{back_step, back_end, put_is, put_not}
use Rattle.cfi_types.proofs.extending.put_back.Goals as goal
use Rattle.cfi_types.proofs.extending.put_back.Goals.{then-own-a+in_ok-push, else-own-a}

pub loop-a-preserved : goal.loop-a-preserved
loop-a-preserved c =
    let own = c.args.own.now in
    let kept = c.args.kept.now in
    let a = c.loop-a.a in
    let back = c.loop-a.back.items in
    let len : c.len.result ≡ length back = c.len.ensures ∙ search rules in
    let one : put_one back (get_or own a 0) (get_or kept a 0) ≡ c.if-own-a.back.items =
    elim c.if-own-a.branch [
      | then-own-a+in_ok-push w ↦
          put_is back c.if-own-a.back.items (get_or own a 0) (get_or kept a 0) c.len.result w.if-own-a.true len
          (ap (λ v. v.items) w.back-is ∙ w.in_ok-push.ensures.items)
      | else-own-a w ↦
          put_not back c.if-own-a.back.items (get_or own a 0) (get_or kept a 0) c.len.result w.if-own-a.false len
          (ap (λ v. v.items) w.back-is)
    ] in
    c.loop-a.invariant ∙ back_step back own kept a c.loop-a-test.true c.requires
    ∙ ap (λ (xs : List ℕ). back_from xs (drop (a + 1) own) (drop (a + 1) kept)) one

pub returns : goal.returns
returns c =
    sym (c.loop-a.invariant
    ∙ back_end c.loop-a.back.items c.args.own.now c.args.kept.now c.loop-a.a (omega (arith, c.loop-a-test.false)))
