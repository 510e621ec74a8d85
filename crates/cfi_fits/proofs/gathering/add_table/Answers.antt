use Rattle.std.proofs.Common.{◌≡◌, ◌∙◌, ◌+◌, [], length, get_or, sym, ap, subst, inl, inr, arith}
use Rattle.std.proofs.lemmas.Bool.{cases_lt, true≢false}
use Rattle.std.proofs.lemmas.List.{get_or_read}
use Rattle.cfi_type_table.specs.Node.{make_node, node_of}
use Rattle.cfi_types.specs.Classes.{table_of, class_of}
use Rattle.cfi_types.specs.inner.Extending.{next_at}
use Rattle.cfi_fits.specs.Fits.{IsCallable}
use Rattle.cfi_fits.specs.inner.Signatures.{AreGathered}
use Rattle.cfi_fits.proofs.TypeLemmas.{names_at, row_length}
use Rattle.cfi_fits.proofs.GatheringLemmas.{whole_at, signature_at, gather_skip, gather_more, gather_next}
use Rattle.cfi_fits.proofs.gathering.add_table.Goals as goal
use Rattle.cfi_fits.proofs.gathering.add_table.Goals.{then-comes+in_ok-signature_of+in_ok-push, else-comes}

pub bounds-row-a : goal.bounds-row-a
bounds-row-a c =
    let row = ap (λ l. length l) c.row-row.ensures in
    let len = row_length c.args.book.now c.args.classes.now c.requires.classes c.args.table c.requires.table in
    let nodes = ap (λ l. length l) c.nodes-node-items.ensures.nodes in
    omega (arith, row, len, nodes, c.loop-a-test.true)

pub signature_of-requires-clause-names : goal.signature_of-requires-clause-names
signature_of-requires-clause-names c =
    let row = ap (λ l. length l) c.row-row.ensures in
    let len = row_length c.args.book.now c.args.classes.now c.requires.classes c.args.table c.requires.table in
    let nodes = ap (λ l. length l) c.nodes-node-items.ensures.nodes in
    names_at c.nodes-node-items.result.now c.loop-a.a (length c.row-row.result.now) c.node-item.result
    c.loop-a-test.true c.node-item.is c.nodes-node-items.ensures.types (omega (arith, row, len, nodes))

pub loop-a-preserved : goal.loop-a-preserved
loop-a-preserved c =
    let book = c.args.book.now in
    let classes = c.args.classes.now in
    let table = c.args.table in
    let a = c.loop-a.a in
    elim c.if-comes.branch [
      | then-comes+in_ok-signature_of+in_ok-push w ↦
          let s = w.in_ok-signature_of.field-0 in
          let new = signature_at book classes table a c.row-row.result.now c.nodes-node-items.result.now
          c.node-item.result s c.requires.table c.loop-a-test.true c.row-row.ensures
          c.nodes-node-items.ensures.nodes c.node-item.is c.nodes-node-items.ensures.types
          w.in_ok-signature_of.ensures in
          let items = ap (λ v. v.items) w.signatures-is ∙ w.in_ok-push.ensures.items in
          subst (λ l. AreGathered c.args.book.now c.args.classes.now c.args.table (c.loop-a.a + 1) l) (sym items)
          (gather_more book classes table a c.loop-a.signatures.items s c.loop-a.invariant new)
      | else-comes w ↦
          let x = c.node-item.result in
          let nodes = c.nodes-node-items.result.now in
          let node = get_or_read nodes a x c.loop-a-test.true c.node-item.is (make_node 0 [])
          ∙ ap (λ l. node_of l a) c.nodes-node-items.ensures.nodes in
          let at = whole_at book table a nodes x c.requires.table c.loop-a-test.true c.nodes-node-items.ensures.nodes
          c.node-item.is c.nodes-node-items.ensures.types in
          subst (λ v. AreGathered c.args.book.now c.args.classes.now c.args.table (c.loop-a.a + 1) v.items)
          (sym w.signatures-is)
          (gather_skip book classes c.requires.classes table a at c.loop-a.signatures.items c.loop-a.invariant
          (λ callable.
          let is : IsCallable c.kind.result =
          subst (λ k. IsCallable k) (sym (c.kind.ensures ∙ ap (λ n. n.kind) node)) callable in
          let number : get_or c.row-row.result.now a 0 ≡ class_of classes table a =
          ap (λ l. get_or l a 0) c.row-row.ensures in
          elim (cases_lt (class_of classes table a) (next_at classes table)) [
            | inl low ↦ low
            | inr new ↦ absurd (true≢false (sym (c.comes.ensures.only is (omega (
              arith,
              new,
              c.requires.next,
              number,
            ))) ∙ w.if-comes.false))
          ]))
    ]

pub returns : goal.returns
returns c =
    let nodes = ap (λ l. length l) c.nodes-node-items.ensures.nodes in
    let last : c.loop-a.a ≡ length (table_of c.args.book.now c.args.table) =
    omega (arith, nodes, c.loop-a-test.false, c.loop-a.auto.a-end) in
    gather_next c.args.book.now c.args.classes.now c.args.table c.loop-a.signatures.items c.requires.table
    (subst (λ k. AreGathered c.args.book.now c.args.classes.now c.args.table k c.loop-a.signatures.items) last
    c.loop-a.invariant)
