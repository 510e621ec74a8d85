use Rattle.std.proofs.Common.{◌≡◌, take}
use Rattle.std.specs.List.{fold}
use Rattle.cfi_types.specs.inner.Digest.{mixed}
use Rattle.cfi_types.proofs.digest.mix_words.Given as goal

abbrev pub invariant-loop-word : goal.invariant-loop-word
invariant-loop-word l = l.digest ≡ fold mixed l.start (take l.word-index l.words)
