-- A world that opens.
use Rattle.std.proofs.Common.{◌≡◌, ℕ, zero, suc, ◌+◌, ◌-◌, ◌*◌, ◌≤◌, List, [], ◌∷◌, length, slice_get, Some, ◌++◌, refl, sym, ◌∙◌, subst, arith, false, pos}
use Rattle.std.proofs.lemmas.List.{length-replicate}
use Rattle.cfi_unit.specs.declared.unit.Unit.{Unit as CodeUnit}
use Rattle.cfi_unit.specs.declared.unit.Unit.TheVariants as units
use Rattle.cfi_word.specs.Table.{slots_of}
use Rattle.cfi_word.specs.declared.ids.TheConstants.{FIELD_MAX}
use Rattle.cfi_word.specs.declared.limits.TheConstants.{MAX_EPOCH, MIN_CODE_WORDS, MIN_VERSIONS}
use Rattle.cfi_word.specs.declared.map.TheConstants.{FIRST_BASE}
use Rattle.cfi_model.specs.Closed.{IsReadAs, IsStartOf, IsStartIn, StandsIn, StaysInside, IsClosed}
use Rattle.cfi_model.specs.Raw.{Raw, raw_opened}
use Rattle.rv_insn.specs.InsnOf as insns
use Rattle.cfi_word.specs.Word as words
use Rattle.cfi_word.specs.Ids as ids
use Rattle.rv_insn.specs.declared.insn.Insn.TheVariants.{OpImm}
use Rattle.rv_insn.specs.declared.insn.ImmOp.TheVariants.{Addi}
use Rattle.cfi_world.proofs.ClassLemmas.{repeated_most, repeated_zero, repeated_is}
use Rattle.cfi_world.specs.Example.{last_answers, last_events, last_world, open_image, open_guests, open_world, open_events, open_answers, turned_after, unloaded, guest_events, refresh_events, refused_events}
use Rattle.cfi_world.proofs.EventLemmas.{few_after, refreshes_may}
use Rattle.cfi_world.specs.Laws.{MayTurns, world_after}
use Rattle.cfi_world.specs.Turns.{turn_of}
use Rattle.cfi_world.specs.declared.event.Event.{Event}
use Rattle.cfi_model.specs.World.{World}
use Rattle.cfi_world.specs.Premises.{CanOpen, IsOpened, MayTurn}
use Rattle.cfi_world.specs.declared.event.Event.TheVariants.{Begin, Guest}

abbrev body : List CodeUnit
body =
    units.Plain (OpImm Addi 17 0 (pos 4)) ∷ units.Service ∷ units.Jump false (pos 0) ∷ units.Jump false (pos 0) ∷ []

read : IsReadAs open_image.code body 0 (MIN_CODE_WORDS - FIRST_BASE - 4)
read = record {
  fit = ((omega arith, omega arith, omega arith), (tt, ((omega arith, refl), ((omega arith, refl), tt))));
  spelled = refl;
  busy = λ e. absurd (cc);
}

first : IsStartOf body (4 * FIRST_BASE)
first = (0, omega arith, refl)

second : IsStartOf body (4 * FIRST_BASE + 4)
second = (1, omega arith, refl)

third : IsStartOf body (4 * FIRST_BASE + 4 + 4)
third = (2, omega arith, refl)

fourth : IsStartOf body (4 * (FIRST_BASE + 3))
fourth = (3, omega arith, refl)

inside : (address : ℕ) (unit : CodeUnit) → StandsIn body address unit
    → StaysInside body (length open_image.bary) address unit
inside address unit (zero, there, at) =
    let same : units.Plain (OpImm Addi 17 0 (pos 4)) ≡ unit = cc in
    subst (λ u. StaysInside body (length open_image.bary) address u) same
    (subst (λ a. IsStartOf body (a + 4)) (sym at) second)
inside address unit (suc zero, there, at) =
    let same : units.Service ≡ unit = cc in
    subst (λ u. StaysInside body (length open_image.bary) address u) same
    (subst (λ a. IsStartOf body (a + 4)) (sym at) third)
inside address unit (suc (suc zero), there, at) =
    let same : units.Jump false (pos 0) ≡ unit = cc in
    subst (λ u. StaysInside body (length open_image.bary) address u) same
    (tt, subst (λ a. IsStartOf body (a + 0)) (sym at) third)
inside address unit (suc (suc (suc zero)), there, at) =
    let same : units.Jump false (pos 0) ≡ unit = cc in
    subst (λ u. StaysInside body (length open_image.bary) address u) same
    (tt, subst (λ a. IsStartOf body (a + 0)) (sym at) fourth)
inside address unit (suc (suc (suc (suc n))), there, at) = absurd (cc)

closed : IsClosed MIN_CODE_WORDS open_image
closed = (
  body,
  record {
    classes = record {
      tary_length = length-replicate {A = ℕ} MIN_CODE_WORDS 0;
      bary_length = length-replicate {A = ℕ} (slots_of MIN_CODE_WORDS) FIELD_MAX;
      code_length = refl;
      tary_most = λ k. repeated_most MIN_CODE_WORDS k FIELD_MAX 0 (omega arith);
      bary_most = λ slot. repeated_most (slots_of MIN_CODE_WORDS) slot FIELD_MAX FIELD_MAX (omega arith);
      bary_least = λ slot within e.
          (let is = sym (repeated_is (slots_of MIN_CODE_WORDS) slot FIELD_MAX within) ∙ e in absurd (cc));
    };
    idles = 0;
    zeros = MIN_CODE_WORDS - FIRST_BASE - 4;
    code = read;
    inside = inside;
    targets = λ k some. absurd (some (repeated_zero MIN_CODE_WORDS k));
  },
)

start : (entry : ℕ) → IsStartOf body entry → IsStartIn open_image entry
start entry starts = record {
  body = body;
  idles = 0;
  zeros = MIN_CODE_WORDS - FIRST_BASE - 4;
  code = read;
  starts = starts;
}

placed : (number entry : ℕ) (r : Raw) → IsStartOf body entry → r ≡ raw_opened number entry []
    → IsOpened open_image number r
placed number entry r starts is = record {
  entry = entry;
  fills = [];
  inside = λ k d past. absurd (omega (arith, past));
  is = is;
  start = start entry starts;
}

opened : (number : ℕ) (r : Raw) → slice_get open_guests number ≡ Some r → IsOpened open_image number r
opened zero r e = placed 0 (4 * FIRST_BASE) r first (cc)
opened (suc zero) r e = placed 1 (4 * (FIRST_BASE + 3)) r fourth (cc)
opened (suc (suc n)) r e = absurd (cc)

pub can_at : (first : ℕ) → first ≤ MAX_EPOCH → CanOpen MIN_CODE_WORDS MIN_VERSIONS first open_image open_guests 3
can_at first most = record {
  versions_least = omega arith;
  versions_most = omega arith;
  first_most = most;
  closed = closed;
  few = omega arith;
  opened = opened;
  fuel_least = omega arith;
}

pub some_can : CanOpen MIN_CODE_WORDS MIN_VERSIONS 0 open_image open_guests 3
some_can = can_at 0 (omega arith)

pub last_can : CanOpen MIN_CODE_WORDS MIN_VERSIONS MAX_EPOCH open_image open_guests 3
last_can = can_at MAX_EPOCH (omega arith)

pub last_turns : turned_after last_world last_events ≡ last_answers
unfolding words.epoch_in words.packed ids.id_of
last_turns = refl

pub last_events_may : MayTurns last_world last_events
unfolding words.epoch_in words.packed ids.id_of
last_events_may = (
  record { room = omega arith; may = tt },
  (
    record {
      room = omega arith;
      may = record { policy = refl; most = omega arith; closed = closed; keeps = λ k some. refl };
    },
    (tt, tt),
  ),
)

pub some_may_begin : MayTurn open_world (Begin (Some open_image))
some_may_begin = record {
  room = omega arith;
  may = record { policy = refl; most = omega arith; closed = closed; keeps = λ k some. refl };
}

pub some_turns : turned_after open_world open_events ≡ open_answers
unfolding insns.insn_of words.epoch_in words.packed ids.id_of
some_turns = refl

abbrev asked_by_guest : World
asked_by_guest = world_after open_world (Guest 2 ∷ Guest 0 ∷ Guest 0 ∷ Guest 0 ∷ Guest 0 ∷ [])

unloaded_may : MayTurn asked_by_guest unloaded
unfolding insns.insn_of words.epoch_in words.packed ids.id_of words.policy_in
unloaded_may = record { few = λ e. absurd (cc); policy = refl; inside = λ k d past. absurd (omega (arith, past)) }

again_may : MayTurn (turn_of asked_by_guest unloaded).world unloaded
unfolding insns.insn_of words.epoch_in words.packed ids.id_of words.policy_in
again_may = record { few = λ e. absurd (cc); policy = refl; inside = λ k d past. absurd (omega (arith, past)) }

-- the events after the guests' own: two refreshes at most begin
abbrev later_events : List Event
later_events = refresh_events ++ refused_events

later_may : MayTurns (world_after open_world guest_events) later_events
later_may =
    refreshes_may later_events (world_after open_world guest_events) 0 3 refl
    (few_after guest_events open_world 0 3 (record { began = omega arith; room = refl })) (omega arith)

pub some_events_may : MayTurns open_world open_events
some_events_may =
    (tt, (tt, (tt, (tt, (tt, (unloaded_may, (again_may, (tt, (tt, (tt, (tt, (tt, later_may))))))))))))
