-- A world as it is opened is one.
use Rattle.std.proofs.Common.{◌≡◌, ℕ, ◌+◌, ◌-◌, ◌^◌, ◌<◌, ◌≤◌, List, [], length, length-append, replicate, slice_get, slice_index_or, Some, None, refl, sym, ◌∙◌, ap, subst, arith, inl, inr}
use Rattle.std.proofs.lemmas.Bool.{cases_lt}
use Rattle.std.proofs.lemmas.List.{get_or_append_left, get_or-append_right, get_or_past, get_or-replicate, length-replicate}
use Rattle.std.proofs.lemmas.Option.{slice_get_within, slice_get-get_or, none-some}
use Rattle.cfi_word.specs.declared.lists.Image.{Image}
use Rattle.cfi_word.specs.declared.limits.TheConstants.{GUESTS}
use Rattle.cfi_model.specs.declared.quiet.Point.TheVariants.{Outside}
use Rattle.cfi_model.specs.declared.quiet.Quiet.{Quiet}
use Rattle.cfi_model.specs.declared.quiet.Quiet.TheVariants.{Unregistered, Published}
use Rattle.cfi_model.specs.InForce.{in_force, history_of, code_in_force}
use Rattle.cfi_unit.specs.declared.fill.Fill.{Fill}
use Rattle.cfi_unit.specs.declared.log.Stop.TheVariants.{Fuel}
use Rattle.cfi_word.specs.Table.{IsSize}
use Rattle.cfi_model.specs.Closed.{IsStartIn}
use Rattle.cfi_model.specs.Log.{last_policy}
use Rattle.cfi_model.specs.Running.{IsRunning}
use Rattle.cfi_model.proofs.InForceLemmas.{force_within}
use Rattle.cfi_model.proofs.RunningLemmas.{opened_runs}
use Rattle.cfi_model.proofs.TableLemmas.{force_epoch, opened_are}
use Rattle.cfi_model.specs.Raw.{Raw, raw_opened}
use Rattle.cfi_model.specs.State.{opened as opened_state}
use Rattle.cfi_model.specs.Tables.{IsTables}
use Rattle.cfi_model.specs.Words.{Tables, entry_at, policy_in_force}
use Rattle.cfi_model.specs.World.{World, opened_world, quiet_of}
use Rattle.cfi_world.specs.Premises.{CanOpen, IsOpened}
use Rattle.cfi_world.specs.Seats.{seat_of}
use Rattle.cfi_world.specs.Worlds.{QuietFits, FitsPoint, IsWorld, settled_epoch}
use Rattle.cfi_world.proofs.SeatLemmas.{AreSeated}
use Rattle.cfi_world.proofs.SettledLemmas.{settled_near, settled_reach}

back_is : (first : ℕ) → 0 ≡ first + 0 - first
back_is first = omega arith

never_spent : (r : Raw) (number entry : ℕ) (fills : List Fill) → r ≡ raw_opened number entry fills
    → r.base.stop ≡ Some Fuel → ⊥
never_spent r number entry fills is stop =
    let none : r.base.stop ≡ None = ap (λ x. x.base.stop) is in
    absurd (cc)

no_bary : (r : Raw) (word number entry : ℕ) (fills : List Fill) → r ≡ raw_opened number entry fills
    → r.bary ≡ Some word → ⊥
no_bary r word number entry fills is e =
    let none : r.bary ≡ None = ap (λ x. x.bary) is in
    absurd (cc)

module _ (code_words versions first : ℕ) (image : Image) (guests : List Raw) (room fuel : ℕ) (size : IsSize code_words)
    (can : CanOpen code_words versions first image guests fuel) (room_fits : room < 2 ^ 32)
    (fuel_fits : fuel < 2 ^ 32) where
  abbrev opened : World
  opened = opened_world code_words versions first image guests room fuel

  abbrev tables : Tables
  tables = opened.tables

  tables_are : IsTables tables
  tables_are =
      opened_are code_words versions first image size can.versions_least can.versions_most can.first_most can.closed

  number_none : in_force tables ≡ 0
  number_none = (let within = force_within tables tables_are in omega (arith, within))

  -- what each QUIET word tells
  pub quiet_is : (guest : ℕ) → guest < length guests → quiet_of opened guest ≡ Published first
  quiet_is guest there =
      let some : List Quiet = replicate (length guests) (Published first) in
      let none : List Quiet = replicate (GUESTS - length guests) Unregistered in
      get_or_append_left some none Unregistered guest
      (omega (arith, length-replicate (length guests) (Published first), there))
      ∙ get_or-replicate (length guests) guest (Published first) Unregistered there

  -- no other number is registered
  pub absent_is : (guest : ℕ) → slice_get guests guest ≡ None → quiet_of opened guest ≡ Unregistered
  absent_is guest none =
      let some : List Quiet = replicate (length guests) (Published first) in
      let rest : List Quiet = replicate (GUESTS - length guests) Unregistered in
      let past : length guests ≤ guest = elim (cases_lt guest (length guests)) [
        | inl inside ↦ absurd (none-some _ (sym none ∙ slice_get-get_or guests guest (raw_opened 0 0 []) inside))
        | inr past ↦ past
      ] in
      get_or-append_right some rest (length guests) guest Unregistered
      (length-replicate (length guests) (Published first)) past
      ∙ rest_of (GUESTS - length guests) (guest - length guests)
    where
      rest_of : (n k : ℕ) → slice_index_or (replicate n Unregistered) k Unregistered ≡ Unregistered
      rest_of n k = elim (cases_lt k n) [
        | inl inside ↦ get_or-replicate n k Unregistered Unregistered inside
        | inr past ↦ get_or_past (replicate n Unregistered) k Unregistered
            (omega (arith, past, length-replicate n Unregistered))
      ]

  -- a guest runs from where it is opened
  opened_from : (guest : ℕ) (r : Raw) (from : IsOpened image guest r)
      → IsRunning (history_of tables) (code_in_force tables) 0 (opened_state guest from.entry from.fills)
      (raw_opened guest from.entry from.fills)
  opened_from guest r from =
      opened_runs (history_of tables) (code_in_force tables) guest from.entry from.fills (record {
        epoch = first + 0;
        known = record { least = omega arith; most = omega (arith, number_none) };
        starts = subst (λ n. IsStartIn (entry_at tables n).image from.entry) (back_is first) from.start;
      })

  pub opened_guest : (guest : ℕ) (r : Raw) → slice_get guests guest ≡ Some r
      → IsRunning (history_of tables) (code_in_force tables) 0 r.base r
  opened_guest guest r here =
      let from = can.opened guest r here in
      subst (λ x. IsRunning (history_of tables) (code_in_force tables) 0 x.base x) (sym from.is)
      (opened_from guest r from)

  settled_least : first ≤ settled_epoch tables + 1
  settled_least = omega (arith, settled_near tables tables_are, force_epoch tables tables_are, number_none)

  opened_seat : (guest : ℕ) (r : Raw) → slice_get guests guest ≡ Some r
      → AreSeated tables tables_are fuel guest (seat_of opened guest r)
  opened_seat guest r here =
      let inside = slice_get_within guests guest r here in
      let from = can.opened guest r here in
      let quiet = quiet_is guest inside in
      let runs = opened_from guest r from in
      let none : (seat_of opened guest r).point ≡ Outside = get_or-replicate GUESTS guest Outside Outside
      (omega (arith, inside, can.few)) in
      record {
        seat = record {
          steps_most = subst (λ x. x.base.steps ≤ fuel) (sym from.is) (omega arith);
          steps_left = λ going idle outside.
              subst (λ x. x.base.steps < fuel) (sym from.is) (omega (arith, can.fuel_least));
          stopped = λ stops. absurd (stops (ap (λ x. x.base.stop) from.is));
          point = subst (FitsPoint tables r) (sym none) tt;
          logged = subst (λ x. last_policy x.base.log ≤ policy_in_force tables) (sym from.is) (omega arith);
        };
        running = record {
          retries = 0;
          shown = _;
          runs = inl (subst (IsRunning (history_of tables) (code_in_force tables) 0 _) (sym from.is) runs);
          spent = λ stop. absurd (never_spent r guest from.entry from.fills from.is stop);
          quiet = subst (QuietFits tables guest (seat_of opened guest r)) (sym quiet) (
            none,
            record {
              published = omega (arith, force_epoch tables tables_are, number_none);
              floor = settled_epoch tables;
              least = settled_least;
              settled = omega arith;
              newest = settled_reach tables tables_are;
              next = λ asked. absurd (asked refl);
              kept = λ word e. absurd (no_bary r word guest from.entry from.fills from.is e);
            },
          );
        };
      }

  pub opened_is : IsWorld opened
  opened_is = record {
    tables = tables_are;
    quiets_many = length-append (replicate (length guests) (Published first)) _
        ∙ omega (
          arith,
          length-replicate (length guests) (Published first),
          length-replicate (GUESTS - length guests) Unregistered,
          can.few,
        );
    points_many = length-replicate GUESTS Outside;
    few = can.few;
    absent = absent_is;
    room = omega arith;
    room_fits = room_fits;
    fuel_fits = fuel_fits;
    entries_few = omega arith;
    seats = λ guest r e. (opened_seat guest r e).seat;
    running = λ guest r e. (opened_seat guest r e).running;
  }
