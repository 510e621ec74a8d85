-- What a check finds and picks over a run of events.
use Rattle.std.proofs.Common.{◌≡◌, ◌≢◌, ℕ, zero, suc, ◌+◌, ◌-◌, ◌%◌, ◌<◌, ◌≤◌, List, slice_get, Some, None, sym, ◌∙◌, ap, subst, arith, inl, inr}
use Rattle.std.proofs.lemmas.Bool.{cases_lt}
use Rattle.rv_insn.specs.InsnOf.{insn_of}
use Rattle.cfi_word.specs.Table.{Epoch, Tary, Bary, slots_of}
use Rattle.cfi_word.specs.Word.{epoch_in, policy_in}
use Rattle.cfi_model.specs.declared.act.Wait.TheVariants as waits
use Rattle.cfi_model.specs.Begin.{begin_of}
use Rattle.cfi_model.specs.History.{History}
use Rattle.cfi_model.specs.InForce.{GoesOn, history_of, code_in_force, tary_index}
use Rattle.cfi_model.specs.Raw.{Raw}
use Rattle.cfi_model.specs.Run.{take_word}
use Rattle.cfi_model.specs.Running.{IsRunning}
use Rattle.cfi_model.specs.State.{State, register, displaced}
use Rattle.cfi_model.specs.TableMoments.{IsInForce}
use Rattle.cfi_model.specs.Tables.{IsTables}
use Rattle.cfi_model.specs.Tries.{IsInWindow}
use Rattle.cfi_model.specs.Words.{Tables, entry_at, epoch_in_force, policy_in_force, next_epoch, number_at, word_at}
use Rattle.cfi_model.specs.World.{World}
use Rattle.cfi_model.proofs.BeginLemmas.{begin_keeps_bary}
use Rattle.cfi_model.proofs.IdLemmas.{tary_policy}
use Rattle.cfi_model.proofs.IdLemmas as found
use Rattle.cfi_model.proofs.InForceLemmas.{bary_epoch_is, tary_epoch_is, tary_is, history_is, force_rises, force_within}
use Rattle.cfi_model.proofs.RunningLemmas.{running_is}
use Rattle.cfi_model.proofs.TableLemmas.{force_epoch, force_policy}
use Rattle.cfi_world.specs.Checks.{bary_in, tary_in, HasStoredTary, HasBaryToStore, IsHeldThroughout, MeetsUpdate, PicksHoldThroughout, RepeatsMeetUpdates}
use Rattle.cfi_world.specs.Laws.{MayTurns}
use Rattle.cfi_world.specs.Moments.{ComesFor, IsTryOf, LeavesTry, world_at}
use Rattle.cfi_world.specs.Seats.{rested}
use Rattle.cfi_world.specs.Worlds.{IsWorld}
use Rattle.cfi_world.specs.declared.event.Event.{Event}
use Rattle.cfi_world.specs.declared.event.Event.TheVariants.{Guest}
use Rattle.cfi_world.proofs.FitLemmas.{slot_inside}
use Rattle.cfi_world.proofs.ForceLemmas.{bary_load, tary_load, picks}
use Rattle.cfi_world.proofs.SettledLemmas.{number_cases}
use Rattle.cfi_world.proofs.MomentLemmas.{next_world, on_between, world_is}
use Rattle.cfi_world.proofs.OwnLemmas.{after_own, taken, word_for}
use Rattle.cfi_world.proofs.ParkLemmas.{IsServing}
use Rattle.cfi_world.proofs.RestLemmas.{going_runs, same_bary}
use Rattle.cfi_world.proofs.WithinLemmas.{keeps_bary, waits_in_check}

-- the policy in force where the epoch in force is that of a target's word found later
policy_holds : (t u : Tables) (is : IsTables t) (then : IsTables u) → GoesOn t u → (target : ℕ)
    → epoch_in_force t ≡ epoch_in (word_at u (Tary (tary_index u.code_words target)))
    → policy_in_force t ≡ policy_in (word_at u (Tary (tary_index u.code_words target)))
policy_holds t u is then on target e =
    let word : ℕ = word_at u (Tary (tary_index u.code_words target)) in
    let at = tary_is u then target in
    let known = history_is u then in
    let policy = tary_policy (history_of u) (code_in_force u) target known at in
    let epoch = found.tary_epoch (history_of u) (code_in_force u) target known at in
    let n : at.epoch - u.first ≡ number_at t Epoch = omega (arith, epoch, e, force_epoch t is, on.first) in
    force_policy t is ∙ ap (λ x. x.policy) (sym (on.entries (number_at t Epoch) (force_within t is)))
    ∙ ap (λ k. (entry_at u k).policy) (sym n) ∙ sym policy

-- a try that has to be repeated
stored_tary : (t : Tables) (is : IsTables t) (target : ℕ)
    → t.first < epoch_in (word_at t (Tary (tary_index t.code_words target)))
    → HasStoredTary t (epoch_in (word_at t (Tary (tary_index t.code_words target))))
stored_tary t is target late =
    let index : ℕ = tary_index t.code_words target in
    let epoch = tary_epoch_is t is index in
    elim (number_cases t (Tary index)) [
      | inl new ↦ inr (omega (arith, epoch, new.1, is.some), omega (arith, new.0))
      | inr old ↦ inl (omega (arith, epoch, old.1, late))
    ]

bary_to_store : (t : Tables) (is : IsTables t) (slot epoch : ℕ) → slot < slots_of t.code_words
    → epoch_in (word_at t (Bary slot)) < epoch → HasBaryToStore t epoch
bary_to_store t is slot epoch inside early = elim (cases_lt epoch (next_epoch t)) [
  | inr none ↦ inl none
  | inl some ↦
      let now = bary_epoch_is t is slot in
      let unfinished = (bary_load t is slot inside).unfinished (omega (arith, early, some)) in
      elim (number_cases t (Bary slot)) [
        | inl new ↦ absurd (omega (arith, now, new.1, early, some, is.some))
        | inr old ↦ inr (omega (arith, now, old.1, early, some, is.some), unfinished)
      ]
]

-- ---- the words of a try

-- the slot's word that a guest keeps from its load to that of the target's word
module _ (w : World) (is : IsWorld w) (run : List Event) (may : MayTurns w run) (guest slot target from to : ℕ)
    (try : IsTryOf w run guest slot target from to) where
  abbrev at : (moment : ℕ) → World
  at moment = world_at w run moment

  at_is : (moment : ℕ) → IsWorld (at moment)
  at_is moment = world_is w is run may moment

  abbrev word : ℕ
  word = bary_in (at from) slot

  abbrev KeepsNoOther : (moment : ℕ) → Type 0
  KeepsNoOther moment =
      (r : Raw) → slice_get (at moment).guests guest ≡ Some r → (kept : ℕ) → r.bary ≡ Some kept → kept ≡ word

  same_guest : (x y : Raw) → Some x ≡ Some y → x ≡ y
  same_guest x y e = cc

  same_word : (x y : ℕ) → Some x ≡ Some y → x ≡ y
  same_word x y e = cc

  after_load : KeepsNoOther (from + 1)
  after_load r there kept keeps =
      let load = try.bary.1 in
      let other : IsServing load.r.waits → ⊥ = λ serving. subst IsServing load.waits serving in
      let next = ap (λ v. slice_get v.guests guest) (next_world w run from (Guest guest) load.event)
      ∙ after_own (at from) guest load.r load.there (at_is from) load.going load.outside other in
      let is_now = same_guest r (rested (at from).fuel (taken (at from) guest load.r load.there)) (sym there ∙ next) in
      let found : (taken (at from) guest load.r load.there).bary ≡ Some word =
      ap (λ x. (take_word x load.r (word_for (at from) guest load.r load.there x)).bary) load.waits in
      same_word kept word (sym keeps ∙ ap (λ x. x.bary) is_now ∙ same_bary _ (taken (at from) guest load.r load.there)
      ∙ found)

  after_fetch : (moment : ℕ) → ComesFor w run guest None moment → KeepsNoOther moment → KeepsNoOther (moment + 1)
  after_fetch moment load so_far r there kept keeps =
      let other : IsServing load.r.waits → ⊥ = λ serving. subst IsServing load.waits serving in
      let next = ap (λ v. slice_get v.guests guest) (next_world w run moment (Guest guest) load.event)
      ∙ after_own (at moment) guest load.r load.there (at_is moment) load.going load.outside other in
      let is_now = same_guest r (rested (at moment).fuel (taken (at moment) guest load.r load.there))
      (sym there ∙ next) in
      let found : ℕ = word_for (at moment) guest load.r load.there None in
      let begun : taken (at moment) guest load.r load.there ≡ begin_of load.r found =
      ap (λ x. take_word x load.r (word_for (at moment) guest load.r load.there x)) load.waits in
      let after : (begin_of load.r found).bary ≡ Some kept =
      sym (ap (λ x. x.bary) begun) ∙ sym (same_bary _ (taken (at moment) guest load.r load.there))
      ∙ sym (ap (λ x. x.bary) is_now) ∙ keeps in
      so_far load.r load.there kept (begin_keeps_bary load.r (insn_of found) kept after)

  one_on : (moment : ℕ) → LeavesTry w run guest moment → KeepsNoOther moment → KeepsNoOther (moment + 1)
  one_on moment (inl same) so_far = λ r there kept keeps. so_far r (sym same ∙ there) kept keeps
  one_on moment (inr load) so_far = after_fetch moment load so_far

  kept_on : (more : ℕ) → from + 1 + more ≤ to → KeepsNoOther (from + 1 + more)
  kept_on zero within =
      let same : from + 1 ≡ from + 1 + 0 = omega arith in
      subst KeepsNoOther same after_load
  kept_on (suc more) within =
      let same : from + 1 + more + 1 ≡ from + 1 + suc more = omega arith in
      subst KeepsNoOther same
      (one_on (from + 1 + more) (try.between (from + 1 + more) (omega arith) (omega (arith, within)))
      (kept_on more (omega (arith, within))))

  keeps_no_other : KeepsNoOther to
  keeps_no_other =
      let order = try.order in
      let same : from + 1 + (to - (from + 1)) ≡ to = omega (arith, order) in
      subst KeepsNoOther same (kept_on (to - (from + 1)) (omega (arith, order)))

  -- a guest that runs, where it waits for a table's word
  running_at : (moment : ℕ) (r : Raw) → slice_get (at moment).guests guest ≡ Some r → r.base.stop ≡ None
      → (retries : ℕ) × (s : State)
      × IsRunning (history_of (at moment).tables) (code_in_force (at moment).tables) retries s r
  running_at moment r there going =
      let seat = (at_is moment).running guest r there in (
        seat.retries,
        seat.shown,
        going_runs (history_of (at moment).tables) (code_in_force (at moment).tables) seat.retries seat.shown r
            seat.runs going,
      )

  kept_there : try.tary.1.r.bary ≡ Some word
  kept_there =
      let load = try.tary.1 in
      let t : Tables = (at to).tables in
      let h : History = history_of t in
      let code : List ℕ = code_in_force t in
      let of = running_at to load.r load.there load.going in
      let running = running_is h code (history_is t (at_is to).tables) of.0 of.1 load.r of.2 in
      let in_check = waits_in_check h code of.1 of.0 load.r (waits.Tary target try.tary.0) (λ serving. serving)
      load.waits running in
      let begun = in_check.begun in
      let keeps : load.r.bary ≡ Some begun.values.bary =
      ap (λ x. x.bary) begun.is ∙ keeps_bary of.1 (of.0 + begun.more) in_check.slot
      (displaced (register of.1 in_check.rs1) in_check.imm) target try.tary.0 begun.values begun.place
      (sym (ap (λ x. x.waits) begun.is) ∙ load.waits) in
      keeps ∙ ap Some (keeps_no_other load.r load.there begun.values.bary keeps)

  -- the slot is one of the table
  inside : slot < slots_of (at from).tables.code_words
  inside =
      let load = try.bary.1 in
      let t : Tables = (at from).tables in
      let of = running_at from load.r load.there load.going in
      slot_inside t (at_is from).tables of.0 of.1 load.r slot try.bary.0 of.2 load.waits

  -- ---- equal versions

  versions_are : (moment : ℕ) → (at moment).tables.versions ≡ w.tables.versions
  versions_are moment = (on_between w is run may 0 moment (omega arith)).versions

  module _ (same : epoch_in word % w.tables.versions ≡ epoch_in (tary_in (at to) target) % w.tables.versions) where
    same_there : epoch_in word % (at to).tables.versions ≡ epoch_in (tary_in (at to) target) % (at to).tables.versions
    same_there =
        subst (λ v. epoch_in word % v ≡ epoch_in (tary_in (at to) target) % v) (sym (versions_are to)) same

    picked : (epoch_in word ≡ epoch_in (tary_in (at to) target))
        × (epoch_in (tary_in (at to) target) ≡ epoch_in_force (at to).tables)
    picked =
        picks (at to) (at_is to) guest try.tary.1.r try.tary.1.there try.tary.1.going word target kept_there same_there

    force_at : (moment : ℕ) → IsInWindow from to moment
        → IsInForce (at moment).tables (epoch_in (tary_in (at to) target)) (policy_in (tary_in (at to) target))
    force_at moment window =
        let one = on_between w is run may from moment window.after in
        let other = on_between w is run may moment to window.until in
        let least = (bary_load (at from).tables (at_is from).tables slot inside).settled in
        let up = force_rises (at from).tables (at moment).tables (at_is from).tables (at_is moment).tables one in
        let on = force_rises (at moment).tables (at to).tables (at_is moment).tables (at_is to).tables other in
        let epoch : epoch_in_force (at moment).tables ≡ epoch_in (tary_in (at to) target) =
        omega (arith, picked.0, picked.1, least, up, on) in
        record {
          epoch_is = epoch;
          policy_is = policy_holds (at moment).tables (at to).tables (at_is moment).tables (at_is to).tables other
              target epoch;
        }

    pub held_throughout : IsHeldThroughout w run slot target from to
    held_throughout = record { one = picked.0; force = force_at }

  -- ---- different versions

  pub meets_update : epoch_in word % w.tables.versions ≢ epoch_in (tary_in (at to) target) % w.tables.versions
      → MeetsUpdate (at from) (at to) slot target
  meets_update apart =
      let old : Tables = (at from).tables in
      let new : Tables = (at to).tables in
      let order = try.order in
      let on = on_between w is run may from to (omega (arith, order)) in
      let least = (bary_load old (at_is from).tables slot inside).settled in
      let most = (tary_load new (at_is to).tables target).settled in
      let up = force_rises old new (at_is from).tables (at_is to).tables on in
      let first = bary_epoch_is old (at_is from).tables slot in
      let before : epoch_in word < epoch_in (tary_in (at to) target) =
      elim (cases_lt (epoch_in word) (epoch_in (tary_in (at to) target))) [
        | inl less ↦ less
        | inr more ↦
            let same : epoch_in word ≡ epoch_in (tary_in (at to) target) = omega (arith, more, least, up, most) in
            absurd (apart (ap (λ e. e % w.tables.versions) same))
      ] in
      record {
        later = before;
        stored = stored_tary new (at_is to).tables target (omega (arith, before, first, on.first));
        to_store = bary_to_store old (at_is from).tables slot (epoch_in (tary_in (at to) target)) inside before;
      }

pub picks_hold : PicksHoldThroughout
picks_hold w is run may guest slot target from to try same =
    held_throughout w is run may guest slot target from to try same

pub repeats_meet : RepeatsMeetUpdates
repeats_meet w is run may guest slot target from to try apart =
    meets_update w is run may guest slot target from to try apart
