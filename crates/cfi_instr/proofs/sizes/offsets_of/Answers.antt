use Rattle.std.proofs.Common.{◌≡◌, ◌∙◌, ◌+◌, ◌*◌, ◌≤◌, ℕ, List, map, ◌++◌, ◌∷◌, [], sym, ap, subst, arith}
use Rattle.std.specs.List.{range_with_len}
use Rattle.std.proofs.lemmas.List.FromFn.{map-range_with_len_more}
use Rattle.cfi_instr.specs.Words.{count_of}
use Rattle.cfi_instr.specs.declared.sizes.TheConstants.{MAX_WORDS}
use Rattle.cfi_instr.specs.Sizes.{size_at, words_before, offset_of, offsets_of, AreSmall}
use Rattle.cfi_instr.proofs.SizeLemmas.{total-grows, place-more, offsets-small}
use Rattle.cfi_instr.proofs.sizes.offsets_of.Goals as goal

pub returns-then-place-gt-MAX_WORDS-clause-fault : goal.returns-then-place-gt-MAX_WORDS-clause-fault
returns-then-place-gt-MAX_WORDS-clause-fault c =
    let t = c.args.source.now in
    let long = c.args.long.now in
    let more = place-more t long c.loop-w.w in
    let grows : words_before t long (c.loop-w.w + 1) ≤ words_before t long (count_of t) =
    total-grows (size_at t long) (c.loop-w.w + 1) (count_of t) (omega (arith, c.loop-w-test.true, c.count-count.ensures)) in
    omega (arith, more, grows, c.loop-w.invariant.here, c.size_at-place.ensures.same, c.if-place-gt-MAX_WORDS.true)

pub loop-w-preserved : goal.loop-w-preserved
loop-w-preserved c =
    let t = c.args.source.now in
    let long = c.args.long.now in
    let w = c.loop-w.w in
    let size : c.size_at-place.result ≡ size_at t long w = c.size_at-place.ensures.same in
    let here : c.loop-w.place + c.size_at-place.result ≡ words_before t long (w + 1) =
    omega (arith, place-more t long w, c.loop-w.invariant.here, size) in
    let more : map (offset_of t long) (range_with_len 0 (w + 1 + 1))
    ≡ map (offset_of t long) (range_with_len 0 (w + 1)) ++ offset_of t long (w + 1) ∷ [] =
    map-range_with_len_more (offset_of t long) 0 (w + 1) (w + 1) (omega arith) in
    let pushed = c.in_ok-push-2.ensures.items in
    let before = c.loop-w.invariant.each in
    let last : 4 * (c.loop-w.place + c.size_at-place.result) ≡ offset_of t long (w + 1) = ap (λ (n : ℕ). 4 * n) here in
    record {
      each = cc;
      here = here;
      fits = omega (arith, c.if-place-gt-MAX_WORDS.false);
    }

pub returns-clause-small : goal.returns-clause-small
returns-clause-small c =
    let t = c.args.source.now in
    let long = c.args.long.now in
    let end : c.loop-w.w ≡ count_of t = omega (arith, c.loop-w-test.false, c.loop-w.auto.w-end, c.count-count.ensures) in
    let fits : words_before t long (count_of t) ≤ MAX_WORDS =
    subst (λ (n : ℕ). n ≤ MAX_WORDS) (c.loop-w.invariant.here ∙ ap (words_before t long) end) c.loop-w.invariant.fits in
    let all : c.loop-w.offsets.items ≡ offsets_of t long =
    c.loop-w.invariant.each ∙ ap (λ (n : ℕ). map (offset_of t long) (range_with_len 0 (n + 1))) end in
    subst (λ (xs : List ℕ). AreSmall xs) (sym all) (offsets-small t long fits)
