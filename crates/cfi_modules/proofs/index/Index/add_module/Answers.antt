use Rattle.std.proofs.Common.{◌∙◌, ℕ, ◌+◌, List, ap, arith}
use Rattle.cfi_place.specs.Names.{with_name}
use Rattle.cfi_modules.specs.inner.Index.{address_in}
use Rattle.cfi_modules.proofs.NamesLemmas.{one_name_more}
use Rattle.cfi_modules.proofs.index.Index.add_module.Goals as goal

-- one name more, after those that were there
pub loop-export-preserved : goal.loop-export-preserved
loop-export-preserved c =
    let placed = c.args.placed.now in
    let e = c.index-exports-export.result in
    let old = address_in placed c.loop-export.self in (
      λ before was.
          one_name_more before c.as_slice-exports.result.now c.loop-export.export e old
          (address_in placed c.add.new.self) c.loop-export-test.true c.index-exports-export.is
          (c.loop-export.invariant.0 before was) (λ q.
          c.in_ok-add.ensures.names q ∙ ap (λ (n : List ℕ). with_name n e.1 old q) c.as_str.ensures),
      λ was. c.in_ok-add.ensures.below (c.args.number + 1) (omega arith) (c.loop-export.invariant.1 was),
    )
