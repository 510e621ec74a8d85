use Rattle.std.proofs.Common.{rules}
use Rattle.cfi_text.proofs.LinesLemmas.{lines_of-split, lines_of-last}
use Rattle.cfi_text.proofs.lines.split_line.Goals as goal

pub returns-then-end-text-clause-first : goal.returns-then-end-text-clause-first
returns-then-end-text-clause-first c =
    lines_of-last c.args.text.now _ (search rules) c.place_of-end.ensures.place c.if-end-text.true

pub returns-clause-first : goal.returns-clause-first
returns-clause-first c = lines_of-split c.args.text.now _ (search rules) c.place_of-end.ensures.place
