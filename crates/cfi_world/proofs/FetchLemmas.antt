-- A seat after a fetch or a load of a table's word of its guest.
use Rattle.std.proofs.Common.{◌≡◌, ℕ, ◌/◌, ◌≤◌, List, Some, None, refl, sym, ◌∙◌, ap, subst, arith}
use Rattle.rv_insn.specs.InsnOf.{insn_of}
use Rattle.cfi_word.specs.Table.{Code, Tary, Bary}
use Rattle.cfi_model.specs.declared.act.Wait.{Wait}
use Rattle.cfi_model.specs.declared.act.Wait.TheVariants as waits
use Rattle.cfi_model.specs.declared.quiet.Point.TheVariants.{Outside}
use Rattle.cfi_model.specs.Begin.{begin_of}
use Rattle.cfi_model.specs.Fits.{Fits}
use Rattle.cfi_model.specs.History.{History}
use Rattle.cfi_model.specs.InForce.{history_of, code_in_force, tary_index}
use Rattle.cfi_model.specs.Raw.{Raw}
use Rattle.cfi_model.specs.Run.{Word, finish_as, finish_of, take_word}
use Rattle.cfi_model.specs.Running.{IsRunning}
use Rattle.cfi_model.specs.Tables.{IsTables}
use Rattle.cfi_model.specs.Words.{Tables, word_at}
use Rattle.cfi_model.proofs.AfterLemmas.{begin_counts}
use Rattle.cfi_model.proofs.BeginLemmas.{begin_keeps_bary}
use Rattle.cfi_model.proofs.InForceLemmas.{history_is}
use Rattle.cfi_model.proofs.RunningLemmas.{running_steps}
use Rattle.cfi_world.specs.Seats.{Seat, rested}
use Rattle.cfi_world.specs.Worlds.{IsKeptSince, QuietFits, FitsPoint}
use Rattle.cfi_world.proofs.FitLemmas.{fetch_fits, bary_fits, bary_since, slot_inside, tary_fits}
use Rattle.cfi_world.proofs.ParkLemmas.{HasPublished, has_published}
use Rattle.cfi_world.proofs.RestLemmas.{going_runs}
use Rattle.cfi_world.proofs.SeatLemmas.{AreSeated, FitsForce, HasGone, quiet_rests, seat_moved}

module _ (t : Tables) (is : IsTables t) where
  abbrev h : History
  h = history_of t

  abbrev code : List ℕ
  code = code_in_force t

  no_reply : (word : ℕ) → FitsForce t is None (Word word)
  no_reply word = λ reply came. absurd (cc)

  module _ (fuel guest : ℕ) (s : Seat) (both : AreSeated t is fuel guest s) (going : s.guest.base.stop ≡ None)
      (outside : s.point ≡ Outside) where
    abbrev r : Raw
    r = s.guest

    abbrev published : HasPublished t guest s s.quiet
    published = has_published t guest s s.quiet both.running.quiet going outside

    -- outside services the QUIET word stays as it is
    rests_outside : (new : Raw) → ((word : ℕ) → new.bary ≡ Some word → IsKeptSince t published.since.floor word)
        → QuietFits t guest (record s { guest = rested fuel new }) s.quiet
    rests_outside new keeps =
        subst (QuietFits t guest (record s { guest = rested fuel new })) (sym published.is)
        (outside, quiet_rests t is fuel guest r new published.epoch published.since keeps)

    point_rests : (new : Raw) → FitsPoint t new s.point
    point_rests new = subst (FitsPoint t new) (sym outside) tt

    runs : IsRunning h code both.running.retries both.running.shown r
    runs = going_runs h code both.running.retries both.running.shown r both.running.runs going

    -- a fetch
    pub fetched : r.waits ≡ None
        → HasGone t is None fuel guest s both
        (record s { guest = rested fuel (begin_of r (word_at t (Code (r.base.pc / 4)))) })
    fetched idle =
        let word : ℕ = word_at t (Code (r.base.pc / 4)) in
        let fits = fetch_fits t is both.running.retries both.running.shown r runs going idle in
        let has =
        running_steps h code (history_is t is) both.running.retries both.running.shown r runs idle word fits in
        let steps = begin_counts r (insn_of word) has in
        let few = both.seat.steps_left going idle outside in
        let new : Raw = begin_of r word in
        seat_moved t is None fuel guest s both going (Word word) fits (no_reply word) new
        (sym (ap (λ x. take_word x r word) idle)) (omega (arith, steps, few)) s.quiet s.point
        (point_rests (rested fuel new))
        (rests_outside new
        (λ found e. published.since.kept found (begin_keeps_bary r (insn_of word) found e)))

    -- a load of a table's word, with which the guest goes on
    found_word : (wait : Wait) → r.waits ≡ Some wait → (word : ℕ)
        → Fits h code r (Word word) → (finish_as (Some wait) r word).base.steps ≡ r.base.steps
        → ((found : ℕ) → (finish_as (Some wait) r word).bary ≡ Some found
        → IsKeptSince t published.since.floor found)
        → HasGone t is None fuel guest s both (record s { guest = rested fuel (finish_of r word) })
    found_word wait waits_is word fits steps keeps =
        let new : Raw = finish_of r word in
        let done : new ≡ finish_as (Some wait) r word = ap (λ x. finish_as x r word) waits_is in
        seat_moved t is None fuel guest s both going (Word word) fits (no_reply word) new
        (done ∙ sym (ap (λ x. take_word x r word) waits_is))
        (subst (λ n. n ≤ fuel) (sym (ap (λ x. x.base.steps) done ∙ steps)) both.seat.steps_most) s.quiet s.point
        (point_rests (rested fuel new))
        (rests_outside new (λ found e. keeps found (sym (ap (λ x. x.bary) done) ∙ e)))

    same_word : (a b : ℕ) → Some a ≡ Some b → b ≡ a
    same_word a b e = cc

    pub found_bary : (slot rd : ℕ) → r.waits ≡ Some (waits.Bary slot rd)
        → HasGone t is None fuel guest s both (record s { guest = rested fuel (finish_of r (word_at t (Bary slot))) })
    found_bary slot rd waits_is =
        let word : ℕ = word_at t (Bary slot) in
        let inside = slot_inside t is both.running.retries both.running.shown r slot rd runs waits_is in
        found_word (waits.Bary slot rd) waits_is word (bary_fits t is r slot rd waits_is) refl
        (λ found e. subst (IsKeptSince t published.since.floor) (sym (same_word word found e))
        (bary_since t is guest r published.epoch slot inside published.since))

    pub found_tary : (at rd : ℕ) → r.waits ≡ Some (waits.Tary at rd)
        → HasGone t is None fuel guest s both
        (record s { guest = rested fuel (finish_of r (word_at t (Tary (tary_index t.code_words at)))) })
    found_tary at rd waits_is =
        let word : ℕ = word_at t (Tary (tary_index t.code_words at)) in
        found_word (waits.Tary at rd) waits_is word
        (tary_fits t is guest r published.epoch at rd published.since both.seat.logged waits_is) refl
        (λ found e. published.since.kept found e)
