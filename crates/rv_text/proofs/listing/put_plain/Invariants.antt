use Rattle.std.proofs.Common.{◌≡◌, ◌++◌, ◌-◌}
use Rattle.rv_text.specs.Listing.{plain_lines}
use Rattle.rv_text.proofs.listing.put_plain.Given as goal

abbrev pub invariant-loop-k : goal.invariant-loop-k
invariant-loop-k l =
    l.out.items ++ plain_lines l.words l.k (l.k-end - l.k) ≡ l.initial.out.items ++ plain_lines l.words l.at l.count
