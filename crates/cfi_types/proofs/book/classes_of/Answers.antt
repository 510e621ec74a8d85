use Rattle.std.proofs.Common.{◌≡◌, ℕ, List, length, ap, sym, ◌∙◌, subst, arith}
use Rattle.std.specs.Prelude.{IfOk}
use Rattle.cfi_type_table.specs.Node.{Node}
use Rattle.cfi_types.specs.inner.Joined.{joined_from}
use Rattle.cfi_types.specs.inner.Splitting.{IsClosed}
use Rattle.cfi_types.specs.inner.Refining.{AreLeaders}
use Rattle.cfi_types.specs.Numbering.{AreNumbers}
use Rattle.cfi_types.proofs.Places.{flat, length_joined, closed_joined}
use Rattle.cfi_types.proofs.Whole.{classes_by_table}
use Rattle.cfi_types.proofs.book.classes_of.Goals as goal

pub leaders-requires-clause-fits : goal.leaders-requires-clause-fits
leaders-requires-clause-fits c =
    omega (
      arith,
      ap length (c.as_slice.ensures.value ∙ c.in_ok-nodes.ensures),
      length_joined 0 c.args.tables.now,
      c.requires.fits,
    )

pub leaders-requires-clause-closed : goal.leaders-requires-clause-closed
leaders-requires-clause-closed c =
    subst IsClosed (sym (c.as_slice.ensures.value ∙ c.in_ok-nodes.ensures))
    (closed_joined c.args.tables.now c.requires.types)

pub number-requires-clause-fits : goal.number-requires-clause-fits
number-requires-clause-fits c =
    omega (
      arith,
      ap length c.as_slice-2.ensures.value,
      c.in_ok-leaders.ensures.len,
      ap length (c.as_slice.ensures.value ∙ c.in_ok-nodes.ensures),
      length_joined 0 c.args.tables.now,
      c.requires.fits,
    )

pub by_table-requires : goal.by_table-requires
by_table-requires c =
    ap length c.as_slice-3.ensures.value ∙ c.in_ok-numbers.ensures.len ∙ ap length c.as_slice-2.ensures.value
    ∙ c.in_ok-leaders.ensures.len ∙ ap length (c.as_slice.ensures.value ∙ c.in_ok-nodes.ensures)
    ∙ length_joined 0 c.args.tables.now

pub returns : goal.returns
returns c =
    let lead : AreLeaders (joined_from 0 c.args.tables.now) c.in_ok-leaders.leaders.items =
    subst (λ (nodes : List Node). AreLeaders nodes c.in_ok-leaders.leaders.items) (c.as_slice.ensures.value
    ∙ c.in_ok-nodes.ensures) c.in_ok-leaders.ensures in
    let number : AreNumbers c.in_ok-leaders.leaders.items c.in_ok-numbers.numbers.items =
    subst (λ (leaders : List ℕ). AreNumbers leaders c.in_ok-numbers.numbers.items) c.as_slice-2.ensures.value
    c.in_ok-numbers.ensures in
    let numbers : IfOk c.by_table.result (λ classes. flat classes ≡ c.in_ok-numbers.numbers.items) =
    subst (λ (l : List ℕ). IfOk c.by_table.result (λ classes. flat classes ≡ l)) c.as_slice-3.ensures.value
    c.by_table.ensures.numbers in
    classes_by_table c.args.tables.now c.in_ok-leaders.leaders.items c.in_ok-numbers.numbers.items c.by_table.result
    c.requires.types lead number numbers c.by_table.ensures.shape
