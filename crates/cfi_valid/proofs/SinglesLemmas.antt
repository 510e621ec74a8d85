-- A log one entry at a time: what is logged stands behind what was.
use Rattle.std.proofs.Common.{◌≡◌, ℕ, ◌+◌, ◌-◌, ◌==◌, Bool, true, false, cond, List, [], ◌∷◌, ◌++◌, length, take, replicate, slice_set, Option, Some, None, refl, sym, ap, ◌∙◌, append_assoc}
use Rattle.std.proofs.lemmas.Bool.{eqb-true}
use Rattle.std.proofs.lemmas.List.{append-nil, replicate-append-replicate}
use Rattle.std.proofs.lemmas.List.Concat.{flat_map-append}
use Rattle.cfi_unit.specs.declared.log.Log.{Log}
use Rattle.cfi_unit.specs.declared.log.Log.TheVariants.{Pick, Open, Cause}
use Rattle.cfi_model.specs.Log.{last_of, is_pick_of, picks_of, picked}
use Rattle.cfi_model.proofs.LogLemmas.{within, ends_with, set_last}
use Rattle.cfi_valid.specs.Replay.{singles_of, singles}

-- an entry more
pub singles_more : (log : List Log) (entry : Log) → singles (log ++ entry ∷ []) ≡ singles log ++ singles_of entry
singles_more log entry =
    flat_map-append singles_of log (entry ∷ [])
    ∙ ap (λ (rest : List Log). singles log ++ rest) (append-nil (singles_of entry))

-- the last entry counts one pick more
module _ (policy : ℕ) (log : List Log) where
  one_more : (count : ℕ) → last_of log ≡ Some (Pick policy count)
      → singles (slice_set log (length log - 1) (Pick policy (count + 1))) ≡ singles log ++ Pick policy 1 ∷ []
  one_more count is =
      let front : List Log = take (length log - 1) log in
      let old = ends_with log (Pick policy count) is in
      let new = set_last log (Pick policy (count + 1)) (within log (Pick policy count) is) in
      let picks : List Log = replicate count (Pick policy 1) in
      ap singles new
      ∙ singles_more front (Pick policy (count + 1))
      ∙ ap (λ (rest : List Log). singles front ++ rest) (sym (replicate-append-replicate count 1 (Pick policy 1)))
      ∙ sym (append_assoc (singles front) picks (Pick policy 1 ∷ []))
      ∙ ap (λ (all : List Log). all ++ Pick policy 1 ∷ [])
      (sym (ap singles old ∙ singles_more front (Pick policy count)))

  by_last : (last : Option Log) → last_of log ≡ last
      → singles (cond (is_pick_of policy last)
      (slice_set log (length log - 1) (Pick policy (picks_of policy last + 1)))
      (log ++ Pick policy 1 ∷ []))
      ≡ singles log ++ Pick policy 1 ∷ []
  by_last None is = singles_more log (Pick policy 1)
  by_last (Some (Open number address other)) is = singles_more log (Pick policy 1)
  by_last (Some (Cause number cause)) is = singles_more log (Pick policy 1)
  by_last (Some (Pick other count)) is = by_policy (other == policy) refl
    where
      by_policy : (same : Bool) → other == policy ≡ same
          → singles (cond same
          (slice_set log (length log - 1) (Pick policy (cond same count 0 + 1)))
          (log ++ Pick policy 1 ∷ []))
          ≡ singles log ++ Pick policy 1 ∷ []
      by_policy true equal =
          let one : other ≡ policy = eqb-true other policy equal in
          one_more count (is ∙ ap (λ (n : ℕ). Some (Pick n count)) one)
      by_policy false equal = singles_more log (Pick policy 1)

  pub singles_picked : singles (picked policy log) ≡ singles log ++ Pick policy 1 ∷ []
  singles_picked = by_last (last_of log) refl
