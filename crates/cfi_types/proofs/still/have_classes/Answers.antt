use Rattle.std.proofs.Common.{◌≡◌, ◌∙◌, ◌<◌, ℕ, length, map, get_or, sym, subst, ap, arith, inl, inr}
use Rattle.std.proofs.lemmas.Bool.{cases_lt}
use Rattle.std.proofs.lemmas.List.{ext_get_or, get_or-map, length-map}
use Rattle.cfi_types.proofs.still.have_classes.Goals as goal

pub loop-i-init : goal.loop-i-init
loop-i-init c = λ j lt. absurd (omega (arith, lt))

-- lists of one number at each place are one list, so two numbers at this place make two lists
pub returns-then-classes-at-clause-differ : goal.returns-then-classes-at-clause-differ
returns-then-classes-at-clause-differ c = λ fails e.
    let i = c.loop-i.i in
    let f : ℕ → ℕ = λ k. get_or c.args.classes.now k 0 in
    let below : i < length c.args.named.now = omega (arith, c.loop-i-test.true, c.len-i-end.ensures) in
    let other : i < length c.args.others.now =
    omega (arith, below, c.if-len.false, c.len.ensures, c.len-2.ensures) in
    c.if-classes-at.true
    (ap f c.at.ensures ∙ sym (get_or-map f c.args.named.now i 0 0 below) ∙ ap (λ l. get_or l i 0) e
    ∙ get_or-map f c.args.others.now i 0 0 other ∙ sym (ap f c.at-in-loop-i.ensures))

pub loop-i-preserved : goal.loop-i-preserved
loop-i-preserved c = λ j lt.
    let i = c.loop-i.i in
    let f : ℕ → ℕ = λ k. get_or c.args.classes.now k 0 in
    let at : ℕ → Type 0 = λ k. get_or c.args.classes.now (get_or c.args.named.now k 0) 0
    ≡ get_or c.args.classes.now (get_or c.args.others.now k 0) 0 in
    elim (cases_lt j i) [
      | inl before ↦ c.loop-i.invariant j before
      | inr last ↦
          let here : i ≡ j = omega (arith, lt, last) in
          subst at here (sym (ap f c.at.ensures) ∙ c.if-classes-at.false ∙ ap f c.at-in-loop-i.ensures)
    ]

pub returns-clause-same : goal.returns-clause-same
returns-clause-same c = λ holds.
    let named = c.args.named.now in
    let others = c.args.others.now in
    let f : ℕ → ℕ = λ k. get_or c.args.classes.now k 0 in
    let len = length-map named f in
    let other_len = length-map others f in
    let same : length named ≡ length others = omega (arith, c.if-len.false, c.len.ensures, c.len-2.ensures) in
    ext_get_or 0 (map f named) (map f others) (omega (arith, len, other_len, same))
    (λ j lt.
    let below : j < length named = omega (arith, lt, len) in
    get_or-map f named j 0 0 below
    ∙ c.loop-i.invariant j (omega (arith, below, c.loop-i-test.false, c.len-i-end.ensures))
    ∙ sym (get_or-map f others j 0 0 (omega (arith, below, same))))
