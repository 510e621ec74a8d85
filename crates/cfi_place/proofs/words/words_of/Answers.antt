use Rattle.std.proofs.Common.{◌≡◌, ℕ, ◌+◌, ◌*◌, map, ◌++◌, ◌∷◌, [], arith}
use Rattle.std.specs.List.{range_with_len}
use Rattle.std.proofs.lemmas.List.FromFn.{map-range_with_len_more}
use Rattle.rv_reloc.specs.Bytes.{word_at}
use Rattle.cfi_place.proofs.words.words_of.Goals as goal

pub loop-k-preserved : goal.loop-k-preserved
loop-k-preserved c =
    let bytes = c.args.bytes.now in
    let k = c.loop-k.k in
    let more : map (λ (n : ℕ). word_at (4 * n) bytes) (range_with_len 0 (k + 1))
    ≡ map (λ (n : ℕ). word_at (4 * n) bytes) (range_with_len 0 k) ++ word_at (4 * k) bytes ∷ [] =
    map-range_with_len_more (λ (n : ℕ). word_at (4 * n) bytes) 0 k k (omega arith) in
    let pushed = c.in_ok-push.ensures.items in
    let word = c.word_at.ensures in
    let before = c.loop-k.invariant in
    cc
