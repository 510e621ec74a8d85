use Rattle.std.proofs.Common.{◌≡◌, ℕ, ◌<◌, length, get_or}
use Rattle.cfi_class.specs.inner.Forest.{HasSameRoots, root_of}
use Rattle.cfi_class.specs.inner.Nodes.{word_node}
use Rattle.cfi_class.specs.inner.Renumbering.{number_at}
use Rattle.cfi_class.proofs.renumbering.number_kept_words.Given as goal

abbrev pub invariant-loop-word : goal.invariant-loop-word
invariant-loop-word l = record {
  place : length l.words.items ≡ l.word;
  len : length l.forest ≡ length l.initial.forest;
  roots : HasSameRoots l.initial.forest l.forest;
  each : (word : ℕ) → word < l.word → get_or l.words.items word 0
      ≡ number_at l.numbers (root_of l.initial.forest (word_node l.tary (length l.numbers) word));
}
