use Rattle.std.proofs.Common.{◌≡◌, ℕ, ◌+◌, ◌<◌, [], ◌∷◌, ◌++◌, List, length, get_or, ap, sym, subst, IsTrue, ◌∙◌, arith}
use Rattle.std.specs.List.{Contains}
use Rattle.std.specs.BTreeSet.{contains}
use Rattle.std.specs.Ordering.{nat_cmp}
use Rattle.std.proofs.lemmas.Bool.{false≢true}
use Rattle.std.proofs.lemmas.List.{get_or_read}
use Rattle.cfi_type_table.specs.Node.{Node}
use Rattle.cfi_types.specs.Classes.{table_of}
use Rattle.cfi_types.specs.inner.Depth.{digests_to}
use Rattle.cfi_types.specs.inner.Extending.{IsNew, next_after}
use Rattle.cfi_types.specs.declared.near.TheConstants.{DEPTH}
use Rattle.cfi_types.proofs.NearLemmas.{NearSoFar, one_near, none_more, all_near, row_many, rows_many, small_row, told_in_set}
use Rattle.cfi_types.proofs.near.near_tables.Goals as goal
use Rattle.cfi_types.proofs.near.near_tables.Goals.{then-branch+in_ok-push+in_ok-push-2, else-branch}

pub has_near-requires-clause-len : goal.has_near-requires-clause-len
has_near-requires-clause-len c =
    let tables = c.args.tables.now in
    let i = c.loop-number.number in
    let table = c.index-tables-number.result in
    let is : table ≡ get_or tables i [] = get_or_read tables i table c.loop-number-test.true c.index-tables-number.is [] in
    ap length c.row-row.ensures ∙ row_many tables c.args.kept.now i c.requires.kept c.loop-number-test.true
    ∙ sym (ap length is)

pub next_after-requires : goal.next_after-requires
next_after-requires c =
    small_row c.args.tables.now c.args.kept.now c.loop-number.number c.row-row.result.now c.requires.kept
    c.loop-number-test.true c.requires.fits c.row-row.ensures

pub loop-number-preserved : goal.loop-number-preserved
loop-number-preserved c =
    let tables = c.args.tables.now in
    let kept = c.args.kept.now in
    let digests = digests_to DEPTH c.args.table.now in
    let i = c.loop-number.number in
    let lt = c.loop-number-test.true in
    let old = c.loop-number.near in
    let rows : i < length kept = omega (arith, lt, rows_many tables kept c.requires.kept) in
    let table = c.index-tables-number.result in
    let is : table ≡ get_or tables i [] = get_or_read tables i table lt c.index-tables-number.is [] in
    let row = c.row-row.result.now in
    elim c.if-branch.branch [
      | then-branch+in_ok-push+in_ok-push-2 w ↦
          let numbers = ap (λ n. n.numbers.items) w.near-is ∙ w.in_ok-push-2.ensures.items in
          let near = ap (λ n. n.tables.items) w.near-is ∙ w.in_ok-push.ensures.items in
          let follows = c.next_after.ensures ∙ ap (λ n. next_after n.next row) w.near-is in
          let made =
          one_near tables kept digests i old.numbers.items old.tables.items old.next c.next_after.result row
          c.loop-number.invariant lt rows c.row-row.ensures follows w.again.result (w.again.ensures ∙ is) in
          subst (λ (ns : List ℕ). NearSoFar tables kept digests (i + 1) ns c.if-branch.near.tables.items c.next_after.result)
          (sym numbers)
          (subst (λ (xs : List (List Node)). NearSoFar tables kept digests (i + 1) (old.numbers.items ++ i ∷ []) xs c.next_after.result)
          (sym near) made)
      | else-branch w ↦
          let follows = c.next_after.ensures ∙ ap (λ n. next_after n.next row) w.near-is in
          let none : (a : ℕ) → ¬ IsNew (Contains digests) old.next row (digests_to DEPTH (table_of tables i)) a =
          λ a new.
          let told : ℕ → Type 0 = λ d. IsTrue (contains nat_cmp c.in_ok-told.told d) in
          let seen : IsNew told old.next row (digests_to DEPTH table) a =
          subst (λ (t : List Node). IsNew told old.next row (digests_to DEPTH t) a) (sym is)
          (told_in_set told digests old.next row (digests_to DEPTH (table_of tables i)) a c.in_ok-told.ensures new) in
          false≢true (sym w.if-branch.false ∙ c.in_ok-has_near.ensures a seen) in
          let made =
          none_more tables kept digests i old.numbers.items old.tables.items old.next c.next_after.result row
          c.loop-number.invariant lt rows c.row-row.ensures follows none in
          subst (λ (ns : List ℕ). NearSoFar tables kept digests (i + 1) ns c.if-branch.near.tables.items c.next_after.result)
          (sym (ap (λ n. n.numbers.items) w.near-is))
          (subst (λ (xs : List (List Node)). NearSoFar tables kept digests (i + 1) old.numbers.items xs c.next_after.result)
          (sym (ap (λ n. n.tables.items) w.near-is)) made)
    ]

pub returns-clause-near : goal.returns-clause-near
returns-clause-near c =
    all_near c.args.tables.now c.args.kept.now (digests_to DEPTH c.args.table.now) c.loop-number.number
    c.loop-number.near.numbers.items c.loop-number.near.tables.items c.loop-number.near.next c.loop-number.invariant
    (omega (arith, c.loop-number-test.false))
