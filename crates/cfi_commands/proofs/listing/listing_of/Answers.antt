use Rattle.std.proofs.Common.{◌%◌, ◌∙◌, ℕ, List, length, ap, arith}
use Rattle.cfi_commands.proofs.ListingLemmas.{whole_text, short_text}
use Rattle.cfi_commands.proofs.listing.listing_of.Goals as goal

-- the text is whole words
pub words_of-requires : goal.words_of-requires
words_of-requires c =
    let whole = whole_text c.args.bytes.now c.in-Ok.object c.in-Ok.ensures.ok in
    record { whole = ap (λ (n : ℕ). n % 4) (ap length c.as_slice.ensures) ∙ whole }

-- they are few enough to be listed
pub list-requires : goal.list-requires
list-requires c =
    let short = short_text c.args.bytes.now c.in-Ok.object c.in-Ok.ensures.ok in
    let count = ap (λ (words : List ℕ). length words) c.deref.ensures.value in
    record { fits = omega (arith, count, c.in_ok-words.ensures.ok.whole, (ap length c.as_slice.ensures), short) }
