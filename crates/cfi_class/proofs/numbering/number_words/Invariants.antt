use Rattle.std.proofs.Common.{◌≡◌, ℕ, ◌+◌, ◌<◌, length, get_or}
use Rattle.cfi_class.specs.inner.Forest.{HasSameRoots, root_of}
use Rattle.cfi_class.proofs.numbering.number_words.Given as goal

abbrev pub invariant-loop-word : goal.invariant-loop-word
invariant-loop-word l = record {
  place : length l.numbers.items ≡ l.word;
  len : length l.forest ≡ length l.initial.forest;
  roots : HasSameRoots l.initial.forest l.forest;
  root : (word : ℕ) → word < l.word
      → get_or l.numbers.items word 0 ≡ get_or l.slots (root_of l.initial.forest (length l.slots + word)) 0;
}
