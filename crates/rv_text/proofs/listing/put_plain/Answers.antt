use Rattle.std.proofs.Common.{◌≡◌, ◌++◌, ◌+◌, ◌-◌, ◌*◌, [], ap, sym, ◌∙◌}
use Rattle.std.specs.Prelude.{slice_index}
use mathlib.Core.List.{append_assoc}
use Rattle.rv_text.specs.Listing.{line_of, plain_lines}
use Rattle.rv_text.proofs.ListingLemmas.{plain_lines-step}
use Rattle.rv_text.proofs.listing.put_plain.Goals as goal

-- the next line moves from those that are left to those that are there
pub loop-k-preserved : goal.loop-k-preserved
loop-k-preserved c =
    let words = c.args.words.now in
    let end = c.args.at + c.args.count in
    let line = line_of (slice_index words c.loop-k.k) (4 * c.loop-k.k) [] in
    let rest = plain_lines words (c.loop-k.k + 1) (end - (c.loop-k.k + 1)) in
    let grown : c.put_line.new.out.items ≡ c.loop-k.out.items ++ line = c.in_ok-put_line.ensures in
    ap (λ xs. xs ++ rest) grown ∙ append_assoc c.loop-k.out.items line rest
    ∙ ap (λ xs. c.loop-k.out.items ++ xs) (sym (plain_lines-step words c.loop-k.k end c.loop-k-test.true))
    ∙ c.loop-k.invariant
