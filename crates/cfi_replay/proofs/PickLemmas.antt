-- What a pick more tells of a log.
use Rattle.std.proofs.Common.{◌≡◌, ◌≢◌, ℕ, ◌+◌, ◌-◌, ◌==◌, Bool, true, false, cond, List, [], ◌∷◌, ◌++◌, length, take, slice_set, Option, Some, None, refl, sym, ap, ◌∙◌, arith}
use Rattle.std.proofs.lemmas.Bool.{eqb-true}
use Rattle.std.proofs.lemmas.List.{length_push}
use Rattle.std.proofs.lemmas.List.Sums.{fold-append}
use Rattle.cfi_model.specs.Log.{last_of, is_pick_of, picks_of, picks_in, picked, last_picks, last_policy}
use Rattle.cfi_model.proofs.LogLemmas.{within, ends_with, set_last, last_push}
use Rattle.cfi_model.proofs.PickLemmas.{picked_is}
use Rattle.cfi_unit.specs.declared.log.Log.{Log}
use Rattle.cfi_unit.specs.declared.log.Log.TheVariants.{Pick, Open, Cause}
use Rattle.cfi_valid.specs.Replay.{given_after, given_by, singles}
use Rattle.cfi_valid.proofs.SinglesLemmas.{singles_picked}
use Rattle.cfi_replay.specs.inner.Cursor.{HasMark}
use Rattle.cfi_replay.specs.declared.cursor.Cursor.{Cursor}

pub given_push : (log : List Log) (x : Log) → given_by (log ++ x ∷ []) ≡ given_after (given_by log) x
given_push log x = fold-append given_after 0 log (x ∷ [])

module _ (policy : ℕ) (log : List Log) where
  -- a pick: the data stays as it was, and the log has an entry more, or one that counts more
  record Picked (new : List Log) : Type 0 where
    given : given_by new ≡ given_by log
    other : length new ≡ length log → last_picks new ≢ last_picks log

  pushed : Picked (log ++ Pick policy 1 ∷ [])
  pushed = record {
    given = given_push log (Pick policy 1);
    other = λ same. absurd (omega (arith, same, length_push log (Pick policy 1)));
  }

  counted : (count : ℕ) → last_of log ≡ Some (Pick policy count)
      → Picked (slice_set log (length log - 1) (Pick policy (count + 1)))
  counted count is =
      let front : List Log = take (length log - 1) log in
      let old = ends_with log (Pick policy count) is in
      let new = set_last log (Pick policy (count + 1)) (within log (Pick policy count) is) in
      record {
        given = ap given_by new ∙ given_push front (Pick policy (count + 1))
            ∙ sym (ap given_by old ∙ given_push front (Pick policy count));
        other = λ same picks.
            let before : last_picks log ≡ count = ap picks_in is in
            let after : last_picks (slice_set log (length log - 1) (Pick policy (count + 1))) ≡ count + 1 =
            ap last_picks new ∙ ap picks_in (last_push front (Pick policy (count + 1))) in
            omega (arith, before, after, picks);
      }

  by_policy : (last : Option Log) (other count : ℕ) → last ≡ Some (Pick other count) → last_of log ≡ last
      → (same : Bool) → other == policy ≡ same
      → Picked (cond same
      (slice_set log (length log - 1) (Pick policy (cond same count 0 + 1)))
      (log ++ Pick policy 1 ∷ []))
  by_policy last other count here is true equal =
      let one : other ≡ policy = eqb-true other policy equal in
      counted count (is ∙ here ∙ ap (λ (n : ℕ). Some (Pick n count)) one)
  by_policy last other count here is false equal = pushed

  by_last : (last : Option Log) → last_of log ≡ last
      → Picked (cond (is_pick_of policy last)
      (slice_set log (length log - 1) (Pick policy (picks_of policy last + 1)))
      (log ++ Pick policy 1 ∷ []))
  by_last None is = pushed
  by_last (Some (Open number address other)) is = pushed
  by_last (Some (Cause number cause)) is = pushed
  by_last (Some (Pick other count)) is =
      by_policy (Some (Pick other count)) other count refl is (other == policy) refl

  pub given_picked : given_by (picked policy log) ≡ given_by log
  given_picked = (by_last (last_of log) refl).given

  pub policy_picked : last_policy (picked policy log) ≡ policy
  policy_picked = (picked_is log policy).last

  pub many_picked : length (singles (picked policy log)) ≡ length (singles log) + 1
  many_picked =
      ap length (singles_picked policy log) ∙ length_push (singles log) (Pick policy 1)

  -- so what was noted of it shows the pick
  pub mark_differs : (cursor : Cursor) → HasMark log cursor → ¬ HasMark (picked policy log) cursor
  mark_differs cursor old new =
      (by_last (last_of log) refl).other (sym new.entries ∙ old.entries) (sym new.picks ∙ old.picks)
