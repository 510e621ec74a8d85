-- A world that agrees with the journal says of epochs and versions what the journal does.
use Rattle.std.proofs.Common.{◌≡◌, ◌≢◌, ℕ, ◌+◌, ◌<◌, ◌≤◌, ◌==◌, Bool, true, false, List, Option, Some, None, refl, subst, arith}
use Rattle.std.proofs.lemmas.Bool.{eqb-false}
use Rattle.cfi_aux.specs.declared.modules.Module.{Module}
use Rattle.cfi_model.specs.declared.history.Entry.{Entry}
use Rattle.cfi_model.specs.declared.phase.Phase.TheVariants as phases
use Rattle.cfi_model.specs.Phases.{phase_of, phase_by, phase_after}
use Rattle.cfi_model.specs.Tables.{IsTables, IsAsked, MayBeAsked}
use Rattle.cfi_model.specs.Words.{Tables, epoch_in_force, next_epoch}
use Rattle.cfi_model.specs.World.{World}
use Rattle.cfi_model.proofs.PhaseLemmas.{phase_row}
use Rattle.cfi_model.proofs.TableLemmas.{force_epoch}
use Rattle.cfi_plan.specs.declared.plan.Plan.{Plan}
use Rattle.cfi_sim.specs.Agrees.{WorldAgrees, AgreeingTell}
use Rattle.cfi_sim.specs.Stage.{Stage}
use Rattle.cfi_valid.specs.Journal.{IsTooOld}
use Rattle.cfi_word.specs.declared.limits.TheConstants.{MAX_EPOCH}
use Rattle.cfi_word.specs.declared.lists.Image.{Image}
use Rattle.cfi_word.specs.Rank.{stores_of}
use Rattle.cfi_world.specs.declared.event.Event.TheVariants as events
use Rattle.cfi_world.specs.declared.event.Turned.TheVariants.{Did}
use Rattle.cfi_world.specs.Outcomes.{IsRefusal}
use Rattle.cfi_world.specs.Turns.{turn_of}
use Rattle.cfi_world.specs.Seats.{seat_of}
use Rattle.cfi_world.specs.Updates.{is_idle}
use Rattle.cfi_world.specs.Worlds.{IsWorld, IsQuietSince, QuietFits}
use Rattle.cfi_world.proofs.AskLemmas.{begin_by, epochs_only}
use Rattle.cfi_world.proofs.ChoiceLemmas.{row_none}
use Rattle.cfi_world.proofs.RefusalLemmas.{refusal_only}
use Rattle.cfi_world.proofs.StoringLemmas.{AreIdle, idle_is, force_newest}

-- an update begins where none is under way, and the epoch in force is not the greatest
did_by : (w : World) (image : Option Image) (a b : Bool) → (begin_by w image a b).answer ≡ Did
    → (a ≡ true) × (b ≡ false)
did_by w image true true is = absurd (cc)
did_by w image true false is = (refl, refl)
did_by w image false b is = absurd (cc)

-- where all stores were made, the epoch in force is the one before the next
force_is : (t : Tables) → IsTables t → stores_of t.code_words ≤ t.stored → epoch_in_force t + 1 ≡ next_epoch t
force_is t is idle = omega (arith, is.some, force_epoch t is, force_newest t idle)

begins : (w : World) (image : Option Image) → IsWorld w → (turn_of w (events.Begin image)).answer ≡ Did
    → epoch_in_force w.tables < MAX_EPOCH
begins w image is happens =
    let may = did_by w image (is_idle (phase_of w.tables)) (epoch_in_force w.tables == MAX_EPOCH) happens in
    let idle : AreIdle w.tables = idle_is w.tables may.0 in
    let left : epoch_in_force w.tables ≢ MAX_EPOCH = eqb-false (epoch_in_force w.tables) MAX_EPOCH may.1 in
    omega (arith, is.tables.epochs_fit, force_is w.tables is.tables idle.stored, left)

-- while a test is under way all stores were made, and there is a next epoch
tests : (t : Tables) (guest : ℕ) → IsTables t → (asked : Option Entry) → t.asked ≡ asked
    → phase_by asked t.tested t.code_words t.stored ≡ phases.Testing guest
    → (t.stored ≡ stores_of t.code_words) × (next_epoch t ≤ MAX_EPOCH)
tests t guest is None same at =
    absurd (row_none t.code_words t.stored (phase_after t.code_words t.stored) guest
    (phase_row t.code_words t.stored) at)
tests t guest is (Some entry) same at =
    let fits : IsAsked t entry = subst (MayBeAsked t) same is.asked_fits in (fits.idle, fits.fits)

-- the epoch in force is that of the journal
pub epoch_is : (plan : Plan) (modules : List Module) (s : Stage) → WorldAgrees plan modules s
    → epoch_in_force s.world.tables ≡ s.state.epoch
epoch_is plan modules s agrees =
    omega (arith, force_epoch s.world.tables agrees.world.tables, agrees.tables.first, agrees.tables.epoch)

late : (plan : Plan) (modules : List Module) (s : Stage) → WorldAgrees plan modules s → (guest quiet : ℕ)
    → IsRefusal s.world guest quiet → IsTooOld plan s.state guest quiet
late plan modules s agrees guest quiet refusal =
    let w : World = s.world in
    let epoch = epoch_is plan modules s agrees in
    let of = agrees.guests.quiets guest quiet refusal.published in
    let under = tests w.tables guest agrees.world.tables w.tables.asked refl refusal.tests in
    let force : epoch_in_force w.tables + 1 ≡ next_epoch w.tables =
    force_is w.tables agrees.world.tables (omega (arith, under.0)) in
    let since : IsQuietSince w.tables guest of.r quiet =
    (subst (QuietFits w.tables guest (seat_of w guest of.r)) refusal.published
    (agrees.world.running guest of.r of.there).quiet).1 in
    record {
      left = omega (arith, force, under.1, epoch);
      known = of.known;
      least = of.least;
      most = omega (arith, since.published, epoch);
      late = omega (arith, refusal.late, force, epoch, agrees.tables.versions);
    }

pub tell : AgreeingTell
tell = λ plan modules s agrees. record {
  begins = λ image happens. omega (arith, begins s.world image agrees.world happens, epoch_is plan modules s agrees);
  spent = λ image is. omega (arith, (epochs_only s.world image is).1, epoch_is plan modules s agrees);
  late = λ guest quiet is. late plan modules s agrees guest quiet (refusal_only s.world events.Update guest quiet is).1;
}
