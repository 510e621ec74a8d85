use Rattle.std.proofs.Common.{◌≡◌, take}
use Rattle.cfi_link.specs.Applied.{kept_in}
use Rattle.cfi_link.proofs.kept.kept_in.Given as goal

abbrev pub invariant-loop-own : goal.invariant-loop-own
invariant-loop-own l =
    l.kept.items ≡ kept_in l.reaches l.numbers (take l.own-index l.relocs)
