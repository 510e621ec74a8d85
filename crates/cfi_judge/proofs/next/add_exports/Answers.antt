use Rattle.std.proofs.Common.{◌∙◌, ℕ, List, ap}
use Rattle.cfi_place.specs.Names.{find_in, with_name}
use Rattle.cfi_modules.proofs.NamesLemmas.{one_name_more}
use Rattle.cfi_judge.proofs.next.add_exports.Goals as goal

-- one name more, after those that were there
pub loop-name-preserved : goal.loop-name-preserved
loop-name-preserved c = λ before was.
    let e = c.loop-name-item.result in
    let old = find_in c.loop-name.names in
    one_name_more before c.args.exports.now c.loop-name.name-index e old (find_in c.add.new.self) c.loop-name-test.true
    c.loop-name-item.is (c.loop-name.invariant before was) (λ q.
    c.in_ok-add.ensures.ok q ∙ ap (λ (n : List ℕ). with_name n e.1 old q) c.as_str.ensures)
