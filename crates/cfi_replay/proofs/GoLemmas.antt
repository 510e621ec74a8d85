-- A machine that follows a log goes on by one unit.
use Rattle.std.proofs.Common.{◌≡◌, ℕ, ◌+◌, ◌^◌, ◌<◌, ◌≤◌, Bool, true, false, cond, List, length, drop, get_or, Option, Some, None, is_some, refl, sym, ap, subst, ◌∙◌, ⊎_elim, arith}
use Rattle.std.specs.Prelude.{IfSome, IsTrue}
use Rattle.std.specs.List.{slice_get}
use Rattle.std.proofs.lemmas.Bool.{cases_order, false≢true}
use Rattle.std.proofs.lemmas.Option.{slice_get-get_or}
use Rattle.cfi_model.specs.Effect.{effect}
use Rattle.cfi_model.specs.Log.{last_policy, picked}
use Rattle.cfi_model.specs.Plain.{PlainState, CanTurn, IsTurn, asks_of, has_one_class}
use Rattle.cfi_model.specs.Service.{too_many}
use Rattle.cfi_model.specs.State.{State}
use Rattle.cfi_model.specs.declared.step.PlainStep.{PlainStep}
use Rattle.cfi_unit.specs.declared.log.Log.{Log}
use Rattle.cfi_unit.specs.declared.log.Log.TheVariants.{Pick, Open, Cause}
use Rattle.cfi_unit.specs.declared.unit.Unit.{Unit as CodeUnit}
use Rattle.cfi_unit.proofs.CodeLemmas.{BeginsAt-one}
use Rattle.cfi_valid.specs.Loaded.{Filled}
use Rattle.cfi_valid.specs.Replay.{IsReplayed, TakesFrom, given_by, next_in, singles}
use Rattle.cfi_word.specs.declared.lists.Labels.{Labels}
use Rattle.cfi_replay.specs.Setting.{IsSetting, members_in}
use Rattle.cfi_replay.specs.declared.cursor.Cursor.{Cursor}
use Rattle.cfi_replay.specs.declared.setting.Setting.{Setting}
use Rattle.cfi_replay.specs.inner.Cursor.{HasCounted, HasMark, HasNoPick, HasPicked, marked}
use Rattle.cfi_replay.specs.inner.Follows.{Follows, HasGone, HasTurned, IsAt, Rises, next_policy}
use Rattle.cfi_replay.proofs.PickLemmas.{given_picked, many_picked, mark_differs, policy_picked}
use Rattle.cfi_replay.proofs.PlaceLemmas.{IsLeft, counted_left, counted_rises, next_by, next_policy_most, single_by}
use Rattle.cfi_replay.proofs.RestLemmas.{fold_above}
use Rattle.cfi_replay.proofs.UnitLemmas.{as_asked, as_ended, effect_lets, effect_log, lets, pick_taken, picks, single_pick, takes_nothing, takes_pick, waits_is}

counted_given : (log : List Log) (count : ℕ) (old mid : Cursor) → HasCounted log count old mid → mid.given ≡ old.given
counted_given log count old mid counted = ⊎_elim
    (λ (same : old.used + 1 ≡ count). ap (λ (x : Cursor). x.given) (counted.last same).is)
    (λ apart. ap (λ (x : Cursor). x.given)
    (counted.more (λ same. ⊎_elim
    (λ (less : old.used + 1 < count). absurd (omega (arith, less, same)))
    (λ (more : count < old.used + 1). absurd (omega (arith, more, same)))
    apart)))
    (cases_order (old.used + 1) count)

module _ (s : Setting) (log : List Log) (cursor : Cursor) where
  -- the policy of the next check
  pub policy_fits : Rises s.force cursor (drop cursor.at log) → (entry : Option Log) → slice_get log cursor.at ≡ entry
      → (cursor.policy ≤ next_policy cursor.policy entry) × (next_policy cursor.policy entry ≤ s.force)
  policy_fits rises (Some (Pick policy count)) is = next_policy_most s.force log cursor (Pick policy count) is rises
  policy_fits rises (Some (Open number address policy)) is =
      (omega arith, omega (arith, rises.most, fold_above cursor.policy (drop cursor.at log) rises.rises))
  policy_fits rises (Some (Cause number cause)) is =
      (omega arith, omega (arith, rises.most, fold_above cursor.policy (drop cursor.at log) rises.rises))
  policy_fits rises None is =
      (omega arith, omega (arith, rises.most, fold_above cursor.policy (drop cursor.at log) rises.rises))

  pub left_of : (state : State) → IsAt log cursor state → IsLeft log (length (singles state.log)) cursor
  left_of state at = record { within = at.within; rest = at.rest; settled = at.settled }

  pub next_of : (state : State) → IsAt log cursor state → next_in log state ≡ single_by (slice_get log cursor.at)
  next_of state at = next_by log (length (singles state.log)) cursor (left_of state at)

  -- a state with the same log is at the same place
  pub at_same : (old new : State) → new.log ≡ old.log → IsAt log cursor old → IsAt log cursor new
  at_same old new same at = record {
    within = at.within;
    rest = ap (λ (l : List Log). drop (length (singles l)) (singles log)) same ∙ at.rest;
    settled = at.settled;
    policy_is = at.policy_is ∙ ap last_policy (sym same);
    given_is = at.given_is ∙ ap given_by (sym same);
    mark = subst (λ (l : List Log). HasMark l cursor) (sym same) at.mark;
  }

  module _ (is : IsSetting s) (old : PlainState) (follows : Follows s log cursor old) (policy : ℕ)
      (policy_is : policy ≡ next_policy cursor.policy (slice_get log cursor.at)) where
    fits : (cursor.policy ≤ policy) × (policy ≤ s.force)
    fits =
        let both = policy_fits follows.rises (slice_get log cursor.at) refl in
        (omega (arith, both.0, policy_is), omega (arith, both.1, policy_is))

    pub labels_within : policy < length s.labels.now
    labels_within = omega (arith, fits.1, is.labels.count)

    pub can_turn : old.state.stop ≡ None → old.state.units + 1 < 2 ^ 32 → CanTurn policy old
    can_turn going few = record {
      going = going;
      idle = follows.idle;
      rises = omega (arith, fits.0, follows.at.policy_is);
      most = omega (arith, fits.1, is.few);
      few = few;
    }

    -- a unit is run under it
    pub turned : old.state.stop ≡ None → (none : Labels) (new : PlainState) (found : Option PlainStep)
        → is_some found ≡ true
        → IfSome found (IsTurn s.code.now policy (has_one_class (get_or s.labels.now policy none)) old new)
        → HasTurned s log cursor old new
    turned going none new None some turn = absurd (false≢true some)
    turned going none new (Some step) some turn =
        let labels : Labels = get_or s.labels.now policy none in
        record {
          going = going;
          follows = follows;
          policy = policy;
          policy_is = policy_is;
          labels = labels;
          labels_are = is.labels.each policy labels (slice_get-get_or s.labels.now policy none labels_within);
          step = step;
          turn = turn;
        }

-- ---- a unit was run

module _ {s : Setting} {log : List Log} {cursor : Cursor} {old new : PlainState} (t : HasTurned s log cursor old new)
  where
    asks_is : new.waits ≡ asks_of t.turn.unit old.state
    asks_is = waits_is s.code.now t.policy (has_one_class t.labels) old new t.step t.turn t.follows.idle

    -- the machine waits: the unit asks for a module
    pub turn_asks : new.waits ≡ true → asks_of t.turn.unit old.state ≡ true
    turn_asks waits = sym asks_is ∙ waits

    pub turn_waits : new.waits ≡ true → new ≡ record old { waits = true }
    turn_waits waits =
        as_asked s.code.now t.policy (has_one_class t.labels) old new t.step t.turn t.follows.idle (turn_asks waits)

    -- it does not: the unit has ended
    module _ (idle : new.waits ≡ false) where
      quiet : asks_of t.turn.unit old.state ≡ false
      quiet = sym asks_is ∙ idle

      state_is : new.state ≡ effect t.turn.unit t.policy (has_one_class t.labels) too_many old.state
      state_is =
          ap (λ (m : PlainState). m.state)
          (as_ended s.code.now t.policy (has_one_class t.labels) old new t.step t.turn t.follows.idle quiet)

      log_is : new.state.log ≡ cond (picks t.turn.unit old.state) (picked t.policy old.state.log) old.state.log
      log_is =
          ap (λ (st : State). st.log) state_is ∙ effect_log t.turn.unit t.policy (has_one_class t.labels) old.state

      replayed : TakesFrom Filled (members_in s) (next_in log old.state) t.turn.unit old.state t.policy
          (lets t.labels t.turn.unit old.state) too_many
          → IsReplayed Filled s.code.now (members_in s) log old.state new.state
      replayed takes = record {
        going = t.going;
        unit = t.turn.unit;
        stands = t.turn.stands;
        pick = t.policy;
        allowed = lets t.labels t.turn.unit old.state;
        reply = too_many;
        takes = takes;
        is = state_is ∙ effect_lets t.labels t.turn.unit t.policy too_many old.state;
      }

      -- it picks nothing
      log_same : picks t.turn.unit old.state ≡ false → new.state.log ≡ old.state.log
      log_same no_pick =
          log_is ∙ ap (λ (b : Bool). cond b (picked t.policy old.state.log) old.state.log) no_pick

      kept : picks t.turn.unit old.state ≡ false → HasGone s log old cursor new
      kept no_pick = record {
        unit = replayed (takes_nothing (members_in s) (next_in log old.state) old.state t.policy t.labels t.turn.unit
            quiet
            no_pick);
        follows = record {
          idle = idle;
          at = at_same s log cursor old.state new.state (log_same no_pick) t.follows.at;
          rises = t.follows.rises;
        };
      }

      -- it picks
      log_more : picks t.turn.unit old.state ≡ true → new.state.log ≡ picked t.policy old.state.log
      log_more one =
          log_is ∙ ap (λ (b : Bool). cond b (picked t.policy old.state.log) old.state.log) one

      took : picks t.turn.unit old.state ≡ true → (after : Cursor) → HasPicked log new.state.log cursor after
          → HasGone s log old after new
      took one after p =
          let n : ℕ = length (singles old.state.log) in
          let same : p.policy ≡ t.policy = sym (t.policy_is ∙ ap (next_policy cursor.policy) p.next) in
          let next : next_in log old.state ≡ Some (Pick t.policy 1) =
          next_of s log cursor old.state t.follows.at ∙ ap single_by p.next ∙ ap (λ (k : ℕ). Some (Pick k 1)) same in
          let more = log_more one in
          let mid_left = counted_left log n cursor p.policy p.count p.next
          (left_of s log cursor old.state t.follows.at) p.mid p.counted in
          let noted : Cursor = marked new.state.log (record p.mid { policy = p.policy }) in
          let noted_left : IsLeft log (n + 1) noted =
          record { within = mid_left.within; rest = mid_left.rest; settled = mid_left.settled } in
          let left = subst (IsLeft log (n + 1)) (sym p.is) noted_left in
          let noted_mark : HasMark new.state.log noted = record { entries = refl; picks = refl } in
          let policy_after_is : after.policy ≡ p.policy = ap (λ (x : Cursor). x.policy) p.is in
          let given_after_is : after.given ≡ cursor.given =
          ap (λ (x : Cursor). x.given) p.is ∙ counted_given log p.count cursor p.mid p.counted in
          let many : length (singles new.state.log) ≡ n + 1 =
          ap (λ (l : List Log). length (singles l)) more ∙ many_picked t.policy old.state.log in
          record {
            unit = replayed (takes_pick (members_in s) (next_in log old.state) old.state t.policy t.labels t.turn.unit
                one
                next t.labels_are);
            follows = record {
              idle = idle;
              at = record {
                within = left.within;
                rest = ap (λ (k : ℕ). drop k (singles log)) many ∙ left.rest;
                settled = left.settled;
                policy_is = policy_after_is ∙ same ∙ sym (ap last_policy more ∙ policy_picked t.policy old.state.log);
                given_is = given_after_is ∙ t.follows.at.given_is
                    ∙ sym (ap given_by more ∙ given_picked t.policy old.state.log);
                mark = subst (HasMark new.state.log) (sym p.is) noted_mark;
              };
              rises = counted_rises s.force log cursor p.policy p.count p.next t.follows.at.settled t.follows.rises
                  p.mid
                  p.counted after (ap (λ (x : Cursor). x.at) p.is) policy_after_is given_after_is;
            };
          }

      -- ---- what the cursor tells

      module _ (result : Bool) (after : Cursor) (logged : List Log) (logged_is : logged ≡ new.state.log)
          (same : HasMark logged cursor → IsTrue result × (after ≡ cursor))
          (took_it : ¬ HasMark logged cursor → IsTrue result → HasPicked log logged cursor after)
          (none_is : result ≡ false → ¬ HasMark logged cursor × HasNoPick log cursor) where
        mark_kept : picks t.turn.unit old.state ≡ false → HasMark logged cursor
        mark_kept no_pick =
            subst (λ (l : List Log). HasMark l cursor) (sym (logged_is ∙ log_same no_pick)) t.follows.at.mark

        mark_lost : picks t.turn.unit old.state ≡ true → HasMark logged cursor → ⊥
        mark_lost one mark =
            mark_differs t.policy old.state.log cursor t.follows.at.mark
            (subst (λ (l : List Log). HasMark l cursor) (logged_is ∙ log_more one) mark)

        went_by : (b : Bool) → picks t.turn.unit old.state ≡ b → IsTrue result → HasGone s log old after new
        went_by false no_pick done =
            subst (λ (x : Cursor). HasGone s log old x new) (sym (same (mark_kept no_pick)).1) (kept no_pick)
        went_by true one done =
            took one after
            (subst (λ (l : List Log). HasPicked log l cursor after) logged_is (took_it (mark_lost one) done))

        pub went : IsTrue result → HasGone s log old after new
        went done = went_by (picks t.turn.unit old.state) refl done

        stuck_by : (b : Bool) → picks t.turn.unit old.state ≡ b → result ≡ false → (last : State)
            → IsReplayed Filled s.code.now (members_in s) log old.state last → ⊥
        stuck_by false no_pick no_result last r = (none_is no_result).0 (mark_kept no_pick)
        stuck_by true one no_result last r =
            let unit : r.unit ≡ t.turn.unit =
            BeginsAt-one s.code.now _ r.unit t.turn.unit r.stands.begins t.turn.stands.begins in
            let one_there : picks r.unit old.state ≡ true = ap (λ (u : CodeUnit). picks u old.state) unit ∙ one in
            let next = pick_taken (members_in s) (next_in log old.state) old.state r.unit one_there r.pick r.allowed
            r.reply r.takes in
            let entry = single_pick (slice_get log cursor.at) r.pick
            (sym (next_of s log cursor old.state t.follows.at) ∙ next) in
            (none_is no_result).1 r.pick entry.0 entry.1

        pub stuck : result ≡ false → (last : State) → IsReplayed Filled s.code.now (members_in s) log old.state last → ⊥
        stuck no_result last r = stuck_by (picks t.turn.unit old.state) refl no_result last r
