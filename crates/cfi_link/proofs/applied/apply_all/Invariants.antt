use Rattle.std.proofs.Common.{◌≡◌, drop}
use Rattle.cfi_link.specs.Applied.{applied_from}
use Rattle.cfi_link.proofs.applied.apply_all.Given as goal

abbrev pub invariant-loop-own : goal.invariant-loop-own
invariant-loop-own l =
    applied_from l.reaches l.relocs l.initial.text ≡ applied_from l.reaches (drop l.own-index l.relocs) l.text
