-- The answer to an open is the reply to what it finds.
use Rattle.std.proofs.Common.{◌≡◌, ℕ, List, slice_get, Some, All, refl, ◌∙◌, ap, arith}
use Rattle.std.proofs.lemmas.List.Elements.{All-nil}
use Rattle.cfi_model.specs.Data.{LiesInData}
use Rattle.cfi_model.specs.Raw.{Raw}
use Rattle.cfi_model.specs.Words.{policy_in_force}
use Rattle.cfi_model.specs.World.{World}
use Rattle.cfi_sim.specs.Events.{IsFound, found_reply, reply_by}
use Rattle.cfi_sim.specs.inner.Standing.{Whole, AnswersOpen}
use Rattle.cfi_unit.specs.declared.fill.Answer.{Answer}
use Rattle.cfi_unit.specs.declared.fill.Fill.{Fill}
use Rattle.cfi_world.specs.Premises.{MayAnswer}
use Rattle.cfi_world.specs.Turns.{reply_in, answer_turn, turn_of}
use Rattle.cfi_world.specs.declared.event.Event.TheVariants as events
use Rattle.cfi_sim.specs.declared.found.Found.{Found}
use Rattle.cfi_sim.specs.declared.found.Found.TheVariants.{Unknown, Functionless, Opened, Unloaded}

-- a reply fits the world whose policy in force it tells, where its data lies in private data
pub found_may : (w : World) (found : Found) (policy : ℕ) (fills : List Fill) → policy ≡ policy_in_force w.tables
    → All LiesInData fills → MayAnswer w (found_reply found policy fills)
found_may w Unknown policy fills force all =
    record { policy = force; few = λ e. omega (arith, e); inside = All-nil LiesInData }
found_may w Functionless policy fills force all =
    record { policy = force; few = λ e. omega (arith, e); inside = All-nil LiesInData }
found_may w (Opened address) policy fills force all =
    record { policy = force; few = λ e. omega (arith, e); inside = all }
found_may w Unloaded policy fills force all =
    record { policy = force; few = λ e. omega (arith, e); inside = All-nil LiesInData }

-- an answer that is the reply to what its open finds
pub answers_open : (x : Whole) (guest number : ℕ) (r : Raw) → slice_get x.stage.world.guests guest ≡ Some r
    → (found : Found) → IsFound x.plan x.stage.world x.stage.state.loaded number found → (answer : Answer)
    → reply_in answer ≡ reply_by x.stage.state r.base found
    → (world : World) → world ≡ (turn_of x.stage.world (events.Answer guest answer)).world
    → AnswersOpen x (record x { stage = record x.stage { world = world } }) guest number
answers_open x guest number r there found is_found answer reply_is world is =
    let old = x.stage.world in
    record {
      world = world;
      answered = record {
        r = r;
        there = there;
        found = found;
        is_found = is_found;
        is = is ∙ ap (λ o. (answer_turn old guest (reply_in answer) o).world) there
            ∙ ap (λ reply. (answer_turn old guest reply (Some r)).world) reply_is;
      };
      is = refl;
    }
