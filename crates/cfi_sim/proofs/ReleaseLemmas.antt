-- A release, as a simulation under way makes it.
use Rattle.std.proofs.Common.{◌≡◌, ℕ, ◌&&◌, ◌⊎◌, inl, inr, cond, Bool, true, false, slice_get, slice_set, is_some, Option, Some, None, refl, sym, ◌∙◌, ap, subst}
use Rattle.cfi_model.specs.Phases.{phase_of}
use Rattle.cfi_model.specs.Raw.{Raw}
use Rattle.cfi_model.specs.World.{World, quiet_of}
use Rattle.cfi_model.specs.declared.quiet.Quiet.TheVariants.{Unregistered}
use Rattle.cfi_sim.specs.Events.{IsReleaseEvent}
use Rattle.cfi_sim.specs.Reach.{OfRelease}
use Rattle.cfi_sim.specs.Stage.{after_event}
use Rattle.cfi_sim.specs.inner.Standing.{Whole, HasDone, IsUnderWay}
use Rattle.cfi_sim.proofs.GoLemmas.{all_sound, with_world, one_event}
use Rattle.cfi_sim.proofs.journal.HappensLemmas.{holds_after}
use Rattle.cfi_world.specs.Turns.{Turns, did, nothing, is_registered, release_turn}
use Rattle.cfi_world.specs.Updates.{is_idle}
use Rattle.cfi_world.specs.declared.event.Event.TheVariants as events
use Rattle.cfi_world.specs.declared.event.Turned.{Turned}
use Rattle.cfi_world.specs.declared.event.Turned.TheVariants.{Nothing, Did, Asks, VersionsSpent, EpochsSpent}

abbrev pub IsOneOf : Turned → Type 0
IsOneOf Nothing = Unit {0}
IsOneOf Did = Unit {0}
IsOneOf (Asks guest number) = ⊥
IsOneOf (VersionsSpent guest quiet) = ⊥
IsOneOf EpochsSpent = ⊥

only_does : (w : World) (guest : ℕ) (o : Option Raw) → IsOneOf (release_turn w guest o).answer
only_does w guest None = tt
only_does w guest (Some r) =
    by_may (is_some r.base.stop && (is_registered (quiet_of w guest) && is_idle (phase_of w.tables)))
  where
    by_may : (may : Bool)
        → IsOneOf (cond may (did (record w { quiets = slice_set w.quiets guest Unregistered })) (nothing w)).answer
    by_may true = tt
    by_may false = tt

module _ (old : Whole) (under : IsUnderWay old) (guest : ℕ) (mid : World) (turned : Turned)
    (turns : Turns old.stage.world (events.Release guest) mid turned) where
  one_of : IsOneOf turned
  one_of = subst IsOneOf (sym turns.answer) (only_does old.stage.world guest (slice_get old.stage.world.guests guest))

  did_so : turned ≡ Did
      ⊎ ((a : ℕ) × (b : ℕ) × (turned ≡ Asks a b)) ⊎ ((a : ℕ) × (b : ℕ) × (turned ≡ VersionsSpent a b))
      ⊎ turned ≡ EpochsSpent
      → turned ≡ Did
  did_so (inl is) = is
  did_so (inr (inl (a, b, is))) = absurd (subst IsOneOf is one_of)
  did_so (inr (inr (inl (a, b, is)))) = absurd (subst IsOneOf is one_of)
  did_so (inr (inr (inr is))) = absurd (subst IsOneOf is one_of)

  pub released : turned ≡ Did
      ⊎ ((a : ℕ) × (b : ℕ) × (turned ≡ Asks a b)) ⊎ ((a : ℕ) × (b : ℕ) × (turned ≡ VersionsSpent a b))
      ⊎ turned ≡ EpochsSpent
      → HasDone (IsReleaseEvent guest) old (one_event (with_world mid old))
  released it =
      let event : IsReleaseEvent guest old.stage (after_event mid old.stage) =
      record {
        happens = sym turns.answer ∙ did_so it;
        is = ap (λ (w : World). after_event w old.stage) turns.world;
      } in
      record {
        event = event;
        plan = refl;
        modules = refl;
        under_way = record {
          plan = under.plan;
          taken = under.taken;
          named = under.named;
          going = record {
            opening = under.going.opening;
            opens = under.going.opens;
            holds = holds_after old.plan old.modules (all_sound old.modules under.taken) under.going.opening old.stage
                under.going.holds (OfRelease guest) (after_event mid old.stage) event tt;
          };
        };
      }
