use Rattle.std.proofs.Common.{◌≡◌, ◌++◌, ◌+◌, sym, subst, rules}
use Rattle.rv_text.specs.Listing.{marked_lines}
use Rattle.rv_text.proofs.ListingLemmas.{Listed, Listed-step, Listed-ok, Listed-only}
use Rattle.rv_text.proofs.listing.list.Goals as goal

-- the lines of the next piece are there too
pub loop-at-preserved : goal.loop-at-preserved
loop-at-preserved c =
    let words = c.args.words.now in
    let lines = c.put_piece.new.out.items in
    let text : lines ≡ marked_lines words c.loop-at.at c.piece_at-size.result.0.now c.piece_at-size.result.1 =
    search rules in
    let grown : c.extend_from_slice-in-loop-at.new.self.items ≡ c.loop-at.out.items ++ lines = search rules in
    subst (λ xs. Listed words c.args.out.now.items xs (c.loop-at.at + c.piece_at-size.result.1)) (sym grown)
    (Listed-step _ _ _ lines _ _ _ c.piece_at-size.ensures text c.loop-at.invariant)

-- all was read
pub returns-clause-ok : goal.returns-clause-ok
returns-clause-ok c = Listed-ok _ _ _ _ (search rules) c.loop-at.invariant

pub returns-clause-only : goal.returns-clause-only
returns-clause-only c = Listed-only _ _ _ _ (search rules) c.loop-at.invariant
