use Rattle.std.proofs.Common.{◌≡◌, ◌∙◌, ◌<◌, ℕ, [], length, get_or, sym, ap, subst, arith, inl, inr}
use Rattle.std.proofs.lemmas.Bool.{cases_lt}
use Rattle.std.proofs.lemmas.List.{get_or_read}
use Rattle.cfi_type_table.specs.Node.{make_node, node_of}
use Rattle.cfi_types.specs.inner.Splitting.{signature}
use Rattle.cfi_types.proofs.still.are_still.Goals as goal
use Rattle.cfi_types.proofs.still.are_still.Goals.{else-leader-a-via-then-leader-a+else-not-are_alike, else-leader-a-via-else-leader-a}

pub loop-a-init : goal.loop-a-init
loop-a-init c = λ b lt. absurd (omega (arith, lt))

pub loop-a-preserved : goal.loop-a-preserved
loop-a-preserved c = λ b lt.
    let nodes = c.args.nodes.now in
    let classes = c.args.classes.now in
    let a = c.loop-a.a in
    let alike : ℕ → Type 0 = λ k. signature c.args.classes.now (node_of c.args.nodes.now (get_or c.args.classes.now k 0))
    ≡ signature c.args.classes.now (node_of c.args.nodes.now k) in
    elim (cases_lt b a) [
      | inl before ↦ c.loop-a.invariant b before
      | inr last ↦
          let here : a ≡ b = omega (arith, lt, last) in
          subst alike here
          (elim c.else-leader-a.branch [
            | else-leader-a-via-then-leader-a+else-not-are_alike w ↦
                let low : get_or classes a 0 < length nodes =
                omega (arith, c.requires.low a (omega (arith, c.requires.len, c.loop-a-test.true)), c.loop-a-test.true) in
                let one = get_or_read nodes (get_or classes a 0) w.index-nodes-leader.result low w.index-nodes-leader.is
                (make_node 0 []) in
                let other = get_or_read nodes a w.index-nodes-a.result c.loop-a-test.true w.index-nodes-a.is
                (make_node 0 []) in
                sym (ap (signature classes) one) ∙ w.are_alike.ensures.same w.if-not-are_alike.false
                ∙ ap (signature classes) other
            | else-leader-a-via-else-leader-a w ↦ ap (λ k. signature classes (node_of nodes k)) w.if-leader-a.false
          ])
    ]

pub returns-clause-still : goal.returns-clause-still
returns-clause-still c = λ holds b lt. c.loop-a.invariant b (omega (arith, lt, c.loop-a-test.false))
