use Rattle.std.proofs.Common.{◌≡◌, ◌/◌, ◌∙◌, ap, length, arith}
use Rattle.cfi_place.proofs.PlacingLemmas.{length-words_in}
use Rattle.cfi_place.proofs.words.placed_words.Goals as goal

pub set_slots-requires-clause-small : goal.set_slots-requires-clause-small
set_slots-requires-clause-small c =
    let count : length c.deref.result.now ≡ length c.args.source.now / 4 =
    ap length c.deref.ensures.value ∙ ap length c.in_ok-source.ensures ∙ length-words_in c.args.source.now in
    omega (arith, c.requires.small)
