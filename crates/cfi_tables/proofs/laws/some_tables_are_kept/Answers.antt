use Rattle.std.proofs.Common.{inl, refl}
use Rattle.cfi_tables.specs.inner.Opening.{opened_words}
use Rattle.cfi_tables.proofs.OpeningLemmas.{opening_kept}
use Rattle.cfi_tables.proofs.laws.some_tables_are_kept.Goals as goal

pub returns-clause-opens : goal.returns-clause-opens
returns-clause-opens c = λ k is small.
    (let words = opened_words (record { epoch = k.first; policy = 0; versions = k.versions }) k.image in
    (words, opening_kept k is small words refl))

pub returns-clause-refresh : goal.returns-clause-refresh
returns-clause-refresh c = λ code_words last mark. inl (record { policy = refl; image = refl })
