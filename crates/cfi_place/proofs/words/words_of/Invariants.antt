use Rattle.std.proofs.Common.{◌≡◌, ◌*◌, map}
use Rattle.std.specs.List.{range_with_len}
use Rattle.rv_reloc.specs.Bytes.{word_at}
use Rattle.cfi_place.proofs.words.words_of.Given as goal

abbrev pub invariant-loop-k : goal.invariant-loop-k
invariant-loop-k l = l.words.items ≡ map (λ k. word_at (4 * k) l.bytes) (range_with_len 0 l.k)
