use Rattle.std.proofs.Common.{◌≡◌, ◌≤◌, length}
use Rattle.elf_read.specs.Lists.{EachBelow}
use Rattle.cfi_verify.specs.Functions.{end_before, FitsBehind}
use Rattle.cfi_verify.proofs.functions.first_unfit.Given as goal

abbrev pub invariant-loop-number : goal.invariant-loop-number
invariant-loop-number l =
    record {
      here : l.before ≡ end_before l.placed.functions l.number;
      within : l.before ≤ length l.placed.words;
      fits : EachBelow l.placed.functions (FitsBehind l.placed l.spots) l.number;
    }
