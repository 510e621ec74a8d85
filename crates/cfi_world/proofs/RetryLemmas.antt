-- What comes of the check that is tried again.
use Rattle.std.proofs.Common.{◌≡◌, ℕ, zero, suc, ◌+◌, ◌*◌, ◌-◌, ◌<◌, ◌≤◌, List, [], ◌∷◌, ◌++◌, length, replicate, slice_get, slice_index_or, Option, Some, None, refl, sym, ◌∙◌, subst, arith, inr}
use Rattle.std.proofs.lemmas.Option.{slice_get-get_or}
use Rattle.rv_insn.specs.InsnOf as insns
use Rattle.cfi_word.specs.Word as words
use Rattle.cfi_word.specs.Ids as ids
use Rattle.cfi_word.specs.declared.limits.TheConstants.{MAX_VERSIONS, MIN_CODE_WORDS, MIN_VERSIONS}
use Rattle.cfi_word.specs.declared.map.TheConstants.{FIRST_BASE}
use Rattle.cfi_model.specs.declared.act.Wait.{Wait}
use Rattle.cfi_model.specs.declared.act.Wait.TheVariants.{Bary, Tary}
use Rattle.cfi_model.specs.declared.quiet.Point.TheVariants.{Outside}
use Rattle.cfi_model.specs.Raw.{Raw, raw_opened}
use Rattle.cfi_model.specs.World.{World, point_of}
use Rattle.cfi_world.specs.Example.{turned_after}
use Rattle.cfi_world.specs.Laws.{MayTurns, world_after}
use Rattle.cfi_world.specs.Moments.{ComesFor, world_at}
use Rattle.cfi_world.specs.Premises.{CanOpen, MayBegin, MayTurn, IsOpened}
use Rattle.cfi_world.specs.Turns.{turn_of}
use Rattle.cfi_world.specs.declared.event.Event.{Event}
use Rattle.cfi_world.specs.declared.event.Event.TheVariants.{Begin, Guest, Update}
use Rattle.cfi_world.proofs.CallLemmas.{call_closed, call_start, more_closed, more_keeps}
use Rattle.cfi_world.proofs.EventLemmas.{HasBegun, turn_in, few_after, has_room, refreshes_may, may_join}
use Rattle.cfi_world.proofs.OthersLemmas.{only_updates}
use Rattle.cfi_world.specs.Retry.{HasTry, call_guests, call_image, goes, more_image, to_bary, to_retry, call_world, endings_after, load_events, picked_ending, refresh_events, refresh_answers, parked_events, parked_answers, found_events, found_answers, kept_after, tried_words, retry_events, phases_along, forces_along, loads, load_count, load_phases, load_forces}

pub load_tries : kept_after (call_world MAX_VERSIONS) retry_events ≡ tried_words ∷ []
unfolding insns.insn_of words.epoch_in words.packed words.id_in ids.id_of words.policy_in
load_tries = refl

pub load_ends : endings_after (call_world MAX_VERSIONS) load_events ≡ picked_ending 1 ∷ []
unfolding insns.insn_of words.epoch_in words.packed words.id_in ids.id_of words.policy_in
load_ends = refl

pub load_goes : phases_along (call_world MAX_VERSIONS) (loads load_count) ≡ load_phases
unfolding words.epoch_in words.packed ids.id_of
load_goes = refl

pub load_rises : forces_along (call_world MAX_VERSIONS) (loads load_count) ≡ load_forces
unfolding words.epoch_in words.packed words.policy_in ids.id_of
load_rises = refl

pub refresh_turns : turned_after (call_world MIN_VERSIONS) refresh_events ≡ refresh_answers
unfolding insns.insn_of words.epoch_in words.packed words.id_in ids.id_of words.policy_in
refresh_turns = refl

pub parked_turns : turned_after (call_world MIN_VERSIONS) parked_events ≡ parked_answers
unfolding insns.insn_of words.epoch_in words.packed words.id_in ids.id_of words.policy_in
parked_turns = refl

pub parked_ends : endings_after (call_world MIN_VERSIONS) parked_events ≡ picked_ending 0 ∷ []
unfolding insns.insn_of words.epoch_in words.packed words.id_in ids.id_of words.policy_in
parked_ends = refl

pub found_turns : turned_after (call_world MIN_VERSIONS) found_events ≡ found_answers
unfolding insns.insn_of words.epoch_in words.packed words.id_in ids.id_of words.policy_in
found_turns = refl

pub refresh_ends : endings_after (call_world MIN_VERSIONS) refresh_events ≡ picked_ending 0 ∷ []
unfolding insns.insn_of words.epoch_in words.packed words.id_in ids.id_of words.policy_in
refresh_ends = refl

opened : (number : ℕ) (r : Raw) → slice_get call_guests number ≡ Some r → IsOpened call_image number r
opened zero r there = record {
  entry = 4 * FIRST_BASE;
  fills = [];
  inside = λ k d past. absurd (omega (arith, past));
  is = cc;
  start = call_start;
}
opened (suc number) r there = absurd (cc)

pub call_can : (versions : ℕ) → MIN_VERSIONS ≤ versions → versions ≤ MAX_VERSIONS
    → CanOpen MIN_CODE_WORDS versions 0 call_image call_guests 100
call_can versions least most = record {
  versions_least = least;
  versions_most = most;
  first_most = omega arith;
  closed = call_closed;
  few = omega arith;
  opened = opened;
  fuel_least = omega arith;
}

-- a guest's events leave the tables
tables_stay : (n : ℕ) (w : World) → (world_after w (goes n)).tables ≡ w.tables
tables_stay zero w = refl
tables_stay (suc n) w = tables_stay n (turn_of w (Guest 0)).world ∙ only_updates w (Guest 0) (λ none. none)

has_begun : (versions : ℕ) → HasBegun (call_world versions) 0 4
has_begun versions = record { began = omega arith; room = refl }

more_may : MayBegin (call_world MAX_VERSIONS).tables (Some more_image)
more_may = record { policy = refl; most = omega arith; closed = more_closed; keeps = more_keeps }

abbrev asked : World
asked = world_after (call_world MAX_VERSIONS) (goes to_bary)

asked_begun : HasBegun asked (0 + 0) 4
asked_begun = few_after (goes to_bary) (call_world MAX_VERSIONS) 0 4 (has_begun MAX_VERSIONS)

load_may : MayTurn asked (Begin (Some more_image))
load_may =
    has_room asked (Some more_image) 0 4 asked_begun (omega arith)
    (subst (λ t. MayBegin t (Some more_image)) (sym (tables_stay to_bary (call_world MAX_VERSIONS))) more_may)

pub loads_may : MayTurns (call_world MAX_VERSIONS) load_events
loads_may =
    may_join (goes to_bary) (call_world MAX_VERSIONS) (loads load_count ++ goes (to_retry + 29))
    (refreshes_may (goes to_bary) (call_world MAX_VERSIONS) 0 4 refl (has_begun MAX_VERSIONS) (omega arith)) (
      load_may,
      refreshes_may (replicate load_count Update ++ goes (to_retry + 29))
          (turn_of asked (Begin (Some more_image))).world 1 4 refl
          (turn_in asked 0 4 asked_begun (Begin (Some more_image))) (omega arith),
    )

pub refresh_may : MayTurns (call_world MIN_VERSIONS) refresh_events
refresh_may = refreshes_may refresh_events (call_world MIN_VERSIONS) 0 4 refl (has_begun MIN_VERSIONS) (omega arith)

pub parked_may : MayTurns (call_world MIN_VERSIONS) parked_events
parked_may = refreshes_may parked_events (call_world MIN_VERSIONS) 0 4 refl (has_begun MIN_VERSIONS) (omega arith)

pub found_may : MayTurns (call_world MIN_VERSIONS) found_events
found_may = refreshes_may found_events (call_world MIN_VERSIONS) 0 4 refl (has_begun MIN_VERSIONS) (omega arith)

-- ---- one try

abbrev one_run : List Event
one_run = goes (to_bary + 4)

abbrev guests_at : (moment : ℕ) → List Raw
guests_at moment = (world_at (call_world MAX_VERSIONS) one_run moment).guests

abbrev guest_at : (moment : ℕ) → Raw
guest_at moment = slice_index_or (guests_at moment) 0 (raw_opened 0 0 [])

comes_for : (wait : Option Wait) (moment : ℕ) → slice_get one_run moment ≡ Some (Guest 0) → length (guests_at moment) ≡ 1
    → (guest_at moment).base.stop ≡ None → point_of (world_at (call_world MAX_VERSIONS) one_run moment) 0 ≡ Outside
    → (guest_at moment).waits ≡ wait → ComesFor (call_world MAX_VERSIONS) one_run 0 wait moment
comes_for wait moment event one going outside waits_is = record {
  event = event;
  r = guest_at moment;
  there = slice_get-get_or (guests_at moment) 0 (raw_opened 0 0 []) (omega (arith, one));
  going = going;
  outside = outside;
  waits = waits_is;
}

fetch_five : ComesFor (call_world MAX_VERSIONS) one_run 0 None 8
unfolding insns.insn_of words.epoch_in words.packed words.id_in ids.id_of words.policy_in
fetch_five = comes_for None 8 refl refl refl refl refl

fetch_six : ComesFor (call_world MAX_VERSIONS) one_run 0 None 9
unfolding insns.insn_of words.epoch_in words.packed words.id_in ids.id_of words.policy_in
fetch_six = comes_for None 9 refl refl refl refl refl

fetch_seven : ComesFor (call_world MAX_VERSIONS) one_run 0 None 10
unfolding insns.insn_of words.epoch_in words.packed words.id_in ids.id_of words.policy_in
fetch_seven = comes_for None 10 refl refl refl refl refl

loads_slot : ComesFor (call_world MAX_VERSIONS) one_run 0 (Some (Bary 0 29)) 7
unfolding insns.insn_of words.epoch_in words.packed words.id_in ids.id_of words.policy_in
loads_slot = comes_for (Some (Bary 0 29)) 7 refl refl refl refl refl

loads_target : ComesFor (call_world MAX_VERSIONS) one_run 0 (Some (Tary 148 30)) 11
unfolding insns.insn_of words.epoch_in words.packed words.id_in ids.id_of words.policy_in
loads_target = comes_for (Some (Tary 148 30)) 11 refl refl refl refl refl

only_fetches : (k moment : ℕ) → moment ≡ 8 + k → k < 3
    → ComesFor (call_world MAX_VERSIONS) one_run 0 None moment
only_fetches zero moment at less = subst (ComesFor (call_world MAX_VERSIONS) one_run 0 None) (sym at) fetch_five
only_fetches (suc zero) moment at less = subst (ComesFor (call_world MAX_VERSIONS) one_run 0 None) (sym at) fetch_six
only_fetches (suc (suc zero)) moment at less =
    subst (ComesFor (call_world MAX_VERSIONS) one_run 0 None) (sym at) fetch_seven
only_fetches (suc (suc (suc k))) moment at less = absurd (omega (arith, less))

pub has_try : HasTry
has_try = record {
  bary = (29, loads_slot);
  tary = (30, loads_target);
  order = omega arith;
  between = λ moment after before.
      inr (only_fetches (moment - 8) moment (omega (arith, after)) (omega (arith, after, before)));
}
