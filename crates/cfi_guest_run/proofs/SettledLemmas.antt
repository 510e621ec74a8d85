-- What is logged between two notes, with picks more.
use Rattle.std.proofs.Common.{◌≡◌, ◌≤◌, ℕ, List, [], ◌∷◌, ◌++◌, map, refl, sym, ap, ◌∙◌, arith}
use Rattle.std.proofs.lemmas.List.Sums.{fold-append}
use Rattle.cfi_model.specs.Log.{picked}
use Rattle.cfi_plan.specs.declared.plan.Plan.{Plan}
use Rattle.cfi_runner.specs.Picks.{HasPicked, RiseBetween, picked_all}
use Rattle.cfi_runner.specs.Seen.{policy_seen}
use Rattle.cfi_tables.specs.Key.{Key}
use Rattle.cfi_tables.specs.declared.view.Sight.{Sight}
use Rattle.cfi_unit.specs.declared.log.Log.{Log}
use Rattle.cfi_unit.specs.declared.log.Log.TheVariants.{Pick, Open, Cause}
use Rattle.cfi_loader.specs.Ledger.{Ledger}
use Rattle.cfi_guest_run.specs.Settled.{ComeBetween, FitsSettled, log_with, log_with_all}

abbrev pub pick_of : (policy : ℕ) → Log
pick_of policy = Pick policy 1

picks_are : (policies : List ℕ) (log : List Log) → picked_all policies log ≡ log_with_all (map pick_of policies) log
picks_are [] log = refl
picks_are (policy ∷ policies) log = picks_are policies (picked policy log)

picks_come : (plan : Plan) (least most : ℕ) (policies : List ℕ) → RiseBetween least most policies
    → ComeBetween plan least most (map pick_of policies)
picks_come plan least most [] rise = rise
picks_come plan least most (policy ∷ policies) rise = (rise.0, picks_come plan policy most policies rise.1)

come_lower : (plan : Plan) (less least most : ℕ) (policies : List ℕ) → less ≤ least → RiseBetween least most policies
    → ComeBetween plan less most (map pick_of policies)
come_lower plan less least most [] low rise = omega (arith, low, rise)
come_lower plan less least most (policy ∷ policies) low rise =
    (omega (arith, low, rise.0), picks_come plan policy most policies rise.1)

come_more : (plan : Plan) (least mid most : ℕ) (more : List Log) (policies : List ℕ) → ComeBetween plan least mid more
    → RiseBetween mid most policies → ComeBetween plan least most (more ++ map pick_of policies)
come_more plan least mid most [] policies come rise = come_lower plan least mid most policies come rise
come_more plan least mid most (Pick policy count ∷ more) policies come rise =
    (come.0, come_more plan policy mid most more policies come.1 rise)
come_more plan least mid most (Open number address policy ∷ more) policies come rise = absurd come
come_more plan least mid most (Cause number cause ∷ more) policies come rise =
    (come.0, come_more plan least mid most more policies come.1 rise)

-- a guest has logged picks more
pub fits_picked : (k : Key) (old new : Sight) (guest : ℕ) (l : Ledger) (log after : List Log)
    → FitsSettled k old guest l log → HasPicked (policy_seen k old) (policy_seen k new) log after
    → FitsSettled k new guest l after
fits_picked k old new guest l log after fits picked = record {
  told = fits.told;
  logged = fits.logged;
  more = fits.more ++ map pick_of picked.policies;
  between = come_more l.course.plan l.course.end.policy (policy_seen k old) (policy_seen k new) fits.more
      picked.policies fits.between picked.rise;
  is = picked.is
      ∙ (picks_are picked.policies log
      ∙ (ap (log_with_all (map pick_of picked.policies)) fits.is
      ∙ sym (fold-append log_with fits.told fits.more (map pick_of picked.policies))));
}

-- its pass sees a later policy in force
come_wide : (plan : Plan) (least most above : ℕ) (more : List Log) → ComeBetween plan least most more → most ≤ above
    → ComeBetween plan least above more
come_wide plan least most above [] come up = omega (arith, come, up)
come_wide plan least most above (Pick policy count ∷ more) come up =
    (come.0, come_wide plan policy most above more come.1 up)
come_wide plan least most above (Open number address policy ∷ more) come up = absurd come
come_wide plan least most above (Cause number cause ∷ more) come up =
    (come.0, come_wide plan least most above more come.1 up)

pub fits_wide : (k : Key) (old new : Sight) (guest : ℕ) (l : Ledger) (log : List Log) → FitsSettled k old guest l log
    → policy_seen k old ≤ policy_seen k new → FitsSettled k new guest l log
fits_wide k old new guest l log fits up = record {
  told = fits.told;
  logged = fits.logged;
  more = fits.more;
  between = come_wide l.course.plan l.course.end.policy (policy_seen k old) (policy_seen k new) fits.more
      fits.between up;
  is = fits.is;
}
