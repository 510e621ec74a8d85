-- Rows that say so of a module, one by one.
use Rattle.std.proofs.Common.{◌≡◌, ℕ, ◌+◌, ◌<◌, ◌≤◌, List, length, Some, sym, ap, subst, ◌∙◌, ⊎_elim, arith}
use Rattle.std.specs.List.{slice_get}
use Rattle.std.proofs.lemmas.Bool.{cases_lt}
use Rattle.std.proofs.lemmas.Option.{slice_get_within}
use Rattle.cfi_judge.specs.inner.Rows.{HasMeeting, Shows}
use Rattle.cfi_judge.specs.declared.meeting.Kind.{Kind}
use Rattle.cfi_judge.specs.declared.meeting.Meeting.{Meeting}

module _ (least : ℕ) (rows : List (List Meeting)) (number : ℕ) (kind : Kind) where
  -- none of the rows from the least one up to this one does
  abbrev pub NoneShows : (at : ℕ) → Type 0
  NoneShows at =
      (k : ℕ) (row : List Meeting) → least ≤ k → k < at → slice_get rows k ≡ Some row → ¬ Shows row number kind

  pub shows_next : (at : ℕ) (row : List Meeting) → slice_get rows at ≡ Some row → ¬ Shows row number kind
      → NoneShows at → NoneShows (at + 1)
  shows_next at row is never none = λ k other above less other_is. ⊎_elim
      (λ (early : k < at). none k other above early other_is)
      (λ (late : at ≤ k).
      let same : at ≡ k = omega (arith, less, late) in
      let both : Some row ≡ Some other = sym is ∙ ap (slice_get rows) same ∙ other_is in
      let row_same : row ≡ other = cc in
      subst (λ (r : List Meeting). ¬ Shows r number kind) row_same never)
      (cases_lt k at)

  module _ (most at : ℕ) (none : NoneShows at) (has : HasMeeting least most rows number kind) where
    -- they end behind the last one
    pub past_most : most < at → ⊥
    past_most past =
        none has.policy has.row has.above (omega (arith, has.below, past)) has.has has.shows

    pub past_all : length rows ≤ at → ⊥
    past_all past =
        none has.policy has.row has.above (omega (arith, past, slice_get_within rows has.policy has.row has.has))
        has.has has.shows
