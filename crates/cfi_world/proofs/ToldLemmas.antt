-- The present store of a guest's QUIET word.
use Rattle.std.proofs.Common.{◌≡◌, ℕ, zero, suc, ◌+◌, ◌≤◌, List, slice_get, Option, Some, None, inl, inr, refl, sym, ap, ◌∙◌, subst, arith}
use Rattle.std.proofs.lemmas.Bool.{cases_eq}
use Rattle.cfi_model.specs.declared.quiet.Point.TheVariants.{Found}
use Rattle.cfi_model.specs.declared.quiet.Quiet.{Quiet}
use Rattle.cfi_model.specs.declared.quiet.Quiet.TheVariants.{Parked, Published}
use Rattle.cfi_model.specs.Raw.{Raw}
use Rattle.cfi_model.specs.World.{World, point_of, quiet_of}
use Rattle.cfi_world.specs.Bounds.{IsBehindStore, IsToldFrom}
use Rattle.cfi_world.specs.Laws.{MayTurns}
use Rattle.cfi_world.specs.Moments.{world_at}
use Rattle.cfi_world.specs.Turns.{turn_of}
use Rattle.cfi_world.specs.Worlds.{FitsPoint, IsWorld, settled_epoch}
use Rattle.cfi_world.specs.declared.event.Event.{Event}
use Rattle.cfi_world.specs.declared.event.Event.TheVariants as events
use Rattle.cfi_world.proofs.MomentLemmas.{next_world, past_world, world_is}
use Rattle.cfi_world.proofs.MovesLemmas.{Moves, quiet_moves}
use Rattle.cfi_world.proofs.SettledLemmas.{settled_cases, settled_near}
use Rattle.cfi_world.proofs.LastLemmas.{IsFirst}
use Rattle.cfi_world.proofs.LoadedLemmas.{settles}

told_same : (one other : ℕ) → Published one ≡ Published other → one ≡ other
told_same one other e = cc

module _ (w : World) (is : IsWorld w) (opening : IsFirst w) (run : List Event) (may : MayTurns w run) (guest : ℕ) where
  abbrev at : (moment : ℕ) → World
  at moment = world_at w run moment

  at_is : (moment : ℕ) → IsWorld (at moment)
  at_is moment = world_is w is run may moment

  abbrev settled : (moment : ℕ) → ℕ
  settled moment = settled_epoch (at moment).tables

  pub record Told (now quiet : ℕ) : Type 0 where
    pub from : ℕ
    pub since : IsToldFrom w run guest quiet from now
    pub low : quiet ≤ settled from + 1

  abbrev TellsAt : (now : ℕ) → Type 0
  TellsAt now = (quiet : ℕ) → quiet_of (at now) guest ≡ Published quiet → Told now quiet

  -- the word stays
  more_told : (now quiet : ℕ) → Told now quiet → quiet_of (at (now + 1)) guest ≡ Published quiet → Told (now + 1) quiet
  more_told now quiet before here =
      let past = before.since.past in
      record {
        from = before.from;
        since = record {
          behind = before.since.behind;
          past = omega (arith, past);
          told = λ moment after until. elim (cases_eq moment (now + 1)) [
            | inl last ↦ subst (λ k. quiet_of (at k) guest ≡ Published quiet) (sym last) here
            | inr earlier ↦ before.since.told moment after (omega (arith, until, earlier))
          ];
        };
        low = before.low;
      }

  -- or is stored
  stored_told : (now quiet : ℕ) (event : Event) → slice_get run now ≡ Some event → event ≡ events.Guest guest
      → point_of (at now) guest ≡ Found quiet → quiet_of (at (now + 1)) guest ≡ Published quiet
      → quiet ≤ settled now + 1 → Told (now + 1) quiet
  stored_told now quiet event comes own found here low =
      let up = settles w is run may guest now (now + 1) (omega arith) in
      let same : suc now ≡ now + 1 = omega arith in
      record {
        from = now + 1;
        since = record {
          behind = subst (IsBehindStore w run guest quiet) same
              (record { event = comes ∙ ap Some own; found = found });
          past = omega arith;
          told = λ moment after until.
              let last : moment ≡ now + 1 = omega (arith, after, until) in
              subst (λ k. quiet_of (at k) guest ≡ Published quiet) (sym last) here;
        };
        low = omega (arith, up, low);
      }

  -- what it is to publish is no later than what is in force
  found_low : (now quiet : ℕ) → point_of (at now) guest ≡ Found quiet → quiet_of (at now) guest ≡ Parked
      → quiet ≤ settled now + 1
  found_low now quiet found parked =
      let here = parked_guest (at now) (at_is now) parked (slice_get (at now).guests guest) refl in
      let fits = subst (FitsPoint (at now).tables here.0) found ((at_is now).seats guest here.0 here.1).point in
      let low = fits.1 in
      let near = settled_near (at now).tables (at_is now).tables in
      omega (arith, low, near)
    where
      parked_guest : (v : World) → IsWorld v → quiet_of v guest ≡ Parked → (o : Option Raw)
          → slice_get v.guests guest ≡ o → (r : Raw) × (slice_get v.guests guest ≡ Some r)
      parked_guest v is_v told None none = (let both = sym (is_v.absent guest none) ∙ told in absurd (cc))
      parked_guest v is_v told (Some r) there = (r, there)

  module _ (now : ℕ) (before : TellsAt now) (event : Event) (comes : slice_get run now ≡ Some event) (quiet : ℕ)
      (here : quiet_of (at (now + 1)) guest ≡ Published quiet) where
    moves_told : (told : Quiet) → told ≡ Published quiet → (point : _)
        → Moves (at now) (at_is now) guest event told point → Told (now + 1) quiet
    moves_told told says point (inl stays) =
        more_told now quiet (before quiet (sym stays.0 ∙ says)) here
    moves_told told says point (inr (inl tells)) =
        let same : tells.epoch ≡ quiet = told_same tells.epoch quiet (sym tells.says ∙ says) in
        let found : point_of (at now) guest ≡ Found quiet = tells.found ∙ ap Found same in
        stored_told now quiet event comes tells.own found here (found_low now quiet found tells.parked)
    moves_told told says point (inr (inr (inl parks))) = (let both = sym parks.0 ∙ says in absurd (cc))
    moves_told told says point (inr (inr (inr gone))) = (let both = sym gone ∙ says in absurd (cc))

    event_told : Told (now + 1) quiet
    event_told =
        let v : World = (turn_of (at now) event).world in
        moves_told (quiet_of v guest)
        (ap (λ (u : World). quiet_of u guest) (sym (next_world w run now event comes)) ∙ here)
        (point_of v guest) (quiet_moves (at now) (at_is now) guest event)

  next_told : (now : ℕ) → TellsAt now → (o : Option Event) → slice_get run now ≡ o → TellsAt (now + 1)
  next_told now before (Some event) comes = λ quiet here. event_told now before event comes quiet here
  next_told now before None none = λ quiet here.
      more_told now quiet
      (before quiet (sym (ap (λ (u : World). quiet_of u guest) (past_world w run now none)) ∙ here)) here

  first_told : (quiet : ℕ) → quiet_of w guest ≡ Published quiet → quiet ≡ w.tables.first
  first_told quiet here = elim (opening.quiets guest) [
    | inl none ↦ (let both = sym none ∙ here in absurd (cc))
    | inr first ↦ told_same quiet w.tables.first (sym here ∙ first)
  ]

  pub told_at : (now : ℕ) → TellsAt now
  told_at zero = λ quiet here.
      let same = first_told quiet here in
      let first = opening.first in
      record {
        from = 0;
        since = record {
          behind = tt;
          past = omega arith;
          told = λ moment after until.
              let last : moment ≡ 0 = omega (arith, until) in
              subst (λ k. quiet_of (at k) guest ≡ Published quiet) (sym last) here;
        };
        low = elim (settled_cases w.tables) [
          | inl some ↦ (let n = some.1 in omega (arith, same, first, n))
          | inr all ↦ (let n = all.1 in omega (arith, same, first, n))
        ];
      }
  told_at (suc now) =
      let same : now + 1 ≡ suc now = omega arith in
      subst TellsAt same (next_told now (told_at now) (slice_get run now) refl)
