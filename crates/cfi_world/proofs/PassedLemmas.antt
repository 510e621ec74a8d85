-- A guest on a check's last word, and one that goes back to a check's next try.
use Rattle.std.proofs.Common.{◌≡◌, ℕ, ℤ, ◌+◌, ◌*◌, ◌≤◌, Bool, is_some, List, Some, None, ◌⊎◌, inl, inr, sym, ap, ◌∙◌, subst, arith, slice_get}
use Rattle.rv_insn.specs.InsnOf.{insn_of}
use Rattle.cfi_unit.specs.declared.unit.Unit.TheVariants as units
use Rattle.cfi_word.specs.Ids.{low_half}
use Rattle.cfi_model.specs.Begin.{begin_of}
use Rattle.cfi_model.specs.Effect.{check_steps}
use Rattle.cfi_model.specs.Fits.{Fits}
use Rattle.cfi_model.specs.History.{History, IsEpoch, IsHistory, allows_at, slot_class, word_of}
use Rattle.cfi_model.specs.InForce.{history_of, code_in_force}
use Rattle.cfi_model.specs.Raw.{Raw}
use Rattle.cfi_model.specs.Run.{Word, take_one, take_word}
use Rattle.cfi_model.specs.Running.{IsGuest, IsSpent}
use Rattle.cfi_model.specs.Shows.{AreKept, IsBetween, Stands, end_of}
use Rattle.cfi_model.specs.State.{State, register, displaced}
use Rattle.cfi_model.specs.World.{World, point_of}
use Rattle.cfi_model.proofs.AdvanceLemmas.{Running, check_next}
use Rattle.cfi_model.proofs.BeginLemmas.{begin_keeps_bary, begin_keeps_tary}
use Rattle.cfi_model.proofs.CheckPlaces.{CheckPlace, Lowered, Trying, Allowed, Values, check_raw, CheckHolds, CheckAt, CheckStops}
use Rattle.cfi_model.proofs.IdLemmas.{equal-allows, one_epoch}
use Rattle.cfi_model.proofs.InForceLemmas.{history_is}
use Rattle.cfi_model.proofs.LawLemmas.{At, Begun}
use Rattle.cfi_model.proofs.RunningLemmas.{running_is}
use Rattle.cfi_model.proofs.ShownLemmas.{shows_running, shown_stop}
use Rattle.cfi_world.specs.Counts.{HasTried}
use Rattle.cfi_world.specs.Checks.{GoesBack, HasPassed, IsRepeatedFor, LastWordsAreLedTo, RepeatsAreForOwnWords}
use Rattle.cfi_world.specs.Seats.{rested, is_asking}
use Rattle.cfi_world.specs.Turns.{turn_of}
use Rattle.cfi_world.specs.Worlds.{IsWorld}
use Rattle.cfi_world.proofs.ParkLemmas.{IsServing}
use Rattle.cfi_world.specs.declared.event.Event.TheVariants.{Guest}
use Rattle.cfi_world.proofs.ChoiceLemmas.{neither, not_some}
use Rattle.cfi_world.proofs.CountLemmas.{begun_check}
use Rattle.cfi_world.proofs.OwnLemmas.{Left, Rested, Took, TakesOwn, not_rested, own_event, own_fits, own_is, taken, word_for}
use Rattle.cfi_world.proofs.RestLemmas.{going_runs, same_pc}
use Rattle.cfi_world.proofs.TriesLemmas.{many_of, steps_after, steps_by}
use Rattle.cfi_world.proofs.WithinLemmas.{is_allowed, is_lowered, is_trying, place_pc, stands_in_check, word_of_place}

module _ (h : History) (code : List ℕ) (known : IsHistory h code) (p : State) (retries : ℕ) (r : Raw) (link : Bool)
    (rs1 : ℕ) (imm : ℤ) (slot : ℕ) where
  abbrev target : ℕ
  target = displaced (register p rs1) imm

  abbrev IsIn : Type 0
  IsIn = At h code p (units.Check link rs1 imm slot) × Begun h p (units.Check link rs1 imm slot) retries r

  -- ---- the last word

  passed_at : (more : ℕ) (v : Values) (place : CheckPlace) → r ≡ check_raw p (retries + more) slot target v place
      → CheckHolds h p more slot target v place → place ≡ Allowed → HasPassed h slot target r
  passed_at more v place is holds last =
      let now : r ≡ check_raw p (retries + more) slot target v Allowed =
      is ∙ ap (check_raw p (retries + more) slot target v) last in
      let all = subst (CheckHolds h p more slot target v) last holds in
      let words = all.0.words in
      let one = one_epoch h code slot target v.bary v.tary known words (ap low_half (sym all.1)) in
      record {
        epoch = words.goal.epoch;
        known = subst (IsEpoch h) one words.branch.known;
        tried = record {
          bary = ap (λ x. x.bary) now
              ∙ ap Some (words.branch.is ∙ ap (λ e. word_of h e (slot_class h e slot)) one);
          tary = ap (λ x. x.tary) now ∙ ap Some words.goal.is;
        };
        same = equal-allows h code slot target v.bary v.tary known words all.1;
      }

  word_here : (n : ℕ) (more : ℕ) (v : Values) (place : CheckPlace)
      → r ≡ check_raw p (retries + more) slot target v place → r.base.pc ≡ p.pc + 4 * n → word_of_place place ≡ n
  word_here n more v place is pc =
      let here = ap (λ x. x.base.pc) is ∙ place_pc p (retries + more) slot target v place in
      omega (arith, here, pc)

  passed_in : IsIn → r.base.pc ≡ p.pc + 4 * 13 → HasPassed h slot target r
  passed_in both pc =
      let begun = both.1 in
      passed_at begun.more begun.values begun.place begun.is begun.holds
      (is_allowed begun.place (word_here 13 begun.more begun.values begun.place begun.is pc))

  not_between : IsBetween retries p r → p.stop ≡ None → (n : ℕ) → 1 ≤ n → r.base.pc ≡ p.pc + 4 * n → ⊥
  not_between between going n some pc =
      let start = (between.fresh going).0 in
      omega (arith, start, pc, some)

  -- a running guest that is past the first word of a check is within it
  within_check : Stands code p.pc (units.Check link rs1 imm slot) → p.stop ≡ None → (n : ℕ) → 1 ≤ n
      → r.base.pc ≡ p.pc + 4 * n → Running h code p retries r → IsIn
  within_check stands going n some pc (inl rests) = absurd (not_between rests.1 going n some pc)
  within_check stands going n some pc (inr within) =
      stands_in_check h code p retries r link rs1 imm slot stands within.0 within.1 within.2

  pub passed : Stands code p.pc (units.Check link rs1 imm slot) → p.stop ≡ None → r.base.pc ≡ p.pc + 4 * 13
      → Running h code p retries r → HasPassed h slot target r
  passed stands going pc running = passed_in (within_check stands going 13 (omega arith) pc running) pc

  -- ---- back to the next try

  module _ (word : ℕ) (both : IsIn) (running : Running h code p retries r) (fits : Fits h code r (Word word)) where
    abbrev now : Raw
    now = take_one r (Word word)

    abbrev more : ℕ
    more = both.1.more

    -- how many instructions are done by then
    steps_now : both.1.place ≡ Lowered → now.base.steps ≡ p.steps + 9 * (retries + more) + 12
    steps_now last =
        steps_after h code known p retries r running more slot target both.1.values (Word word) fits Lowered
        (both.1.is ∙ ap (check_raw p (retries + more) slot target both.1.values) last)

    -- the check has not ended
    never_ended : both.1.place ≡ Lowered
        → CheckStops h p retries slot target link both.1.place (end_of r (Word word)) now → ⊥
    never_ended last stops =
        let holds = subst (CheckHolds h p more slot target both.1.values) last both.1.holds in
        let e = stops.ended in
        let steps : ℕ = check_steps target (allows_at h e.epoch slot target) in
        let all = ap (λ b. b.steps) e.ends.base in
        let here = steps_now last in
        elim (many_of h p slot target both.1.values.bary both.1.values.tary steps holds.0
        (steps_by target (allows_at h e.epoch slot target))) [
          | inl ten ↦ omega (arith, all, here, ten)
          | inr last ↦ omega (arith, all, here, last)
        ]

    -- it has one repeated try more
    gone_back : both.1.place ≡ Lowered → r.waits ≡ None → now.base.pc ≡ p.pc + 4 * 3
        → (next : CheckAt h p retries slot target now) → IsRepeatedFor h code retries p slot target r now
    gone_back last idle pc next =
        let here = ap (λ x. x.base.pc) next.is ∙ place_pc p (retries + next.more) slot target next.values next.place in
        let trying = is_trying next.place (omega (arith, here, pc)) in
        let is : now ≡ check_raw p (retries + next.more) slot target next.values Trying =
        next.is ∙ ap (check_raw p (retries + next.more) slot target next.values) trying in
        let steps = ap (λ x. x.base.steps) is in
        let before = steps_now last in
        let one : next.more ≡ more + 1 = omega (arith, steps, before) in
        let holds = subst (CheckHolds h p next.more slot target next.values) trying next.holds in
        let words = holds.words (λ none. absurd (omega (arith, one, none))) in
        let kept : AreKept h slot target now.bary now.tary =
        subst (λ x. AreKept h slot target x.bary x.tary) (sym is) words in
        let same : now ≡ begin_of r word = ap (λ x. take_word x r word) idle in
        let bary = begin_keeps_bary r (insn_of word) words.words.bary (sym (ap (λ x. x.bary) same) ∙ kept.kept) in
        let tary = begin_keeps_tary r (insn_of word) words.words.tary (sym (ap (λ x. x.tary) same) ∙ kept.last) in
        record {
          tries = more;
          before = inr (begun_check h code p retries link rs1 imm slot both.0 r both.1);
          after = inr (subst (λ n. HasTried h code retries p now n) one
              (begun_check h code p retries link rs1 imm slot both.0 now next));
          kept = kept;
          bary = kept.kept ∙ sym bary;
          tary = kept.last ∙ sym tary;
        }

    lowered : r.base.pc ≡ p.pc + 4 * 11 → both.1.place ≡ Lowered
    lowered pc =
        is_lowered both.1.place (word_here 11 more both.1.values both.1.place both.1.is pc)

    idle_there : both.1.place ≡ Lowered → r.waits ≡ None
    idle_there last =
        ap (λ x. x.waits) (both.1.is ∙ ap (check_raw p (retries + more) slot target both.1.values) last)

    pub goes_back : r.base.pc ≡ p.pc + 4 * 11 → now.base.pc ≡ p.pc + 4 * 3
        → IsRepeatedFor h code retries p slot target r now
    goes_back from to =
        let last = lowered from in
        elim (check_next h code p retries link rs1 imm slot both.0 r both.1 (Word word) fits) [
          | inl next ↦ gone_back last (idle_there last) to next.now
          | inr stops ↦ absurd (never_ended last stops)
        ]

-- ---- in a world

placed_pc : (last r : Raw) → (r ≡ last) ⊎ IsSpent last r → r.base.pc ≡ last.base.pc
placed_pc last r (inl same) = ap (λ x. x.base.pc) same
placed_pc last r (inr spent) = ap (λ x. x.base.pc) spent.is

placed_bary : (last r : Raw) → (r ≡ last) ⊎ IsSpent last r → last.bary ≡ r.bary
placed_bary last r (inl same) = sym (ap (λ x. x.bary) same)
placed_bary last r (inr spent) = sym (ap (λ x. x.bary) spent.is)

placed_tary : (last r : Raw) → (r ≡ last) ⊎ IsSpent last r → last.tary ≡ r.tary
placed_tary last r (inl same) = sym (ap (λ x. x.tary) same)
placed_tary last r (inr spent) = sym (ap (λ x. x.tary) spent.is)

pub last_words : LastWordsAreLedTo
last_words w is r placed link rs1 imm slot stands going pc =
    let h : History = history_of w.tables in
    let code : List ℕ = code_in_force w.tables in
    let known = history_is w.tables is in
    let there : placed.last.base.pc ≡ placed.s.pc + 4 * 13 = sym (placed_pc placed.last r placed.is) ∙ pc in
    let has = passed h code known placed.s placed.retries placed.last link rs1 imm slot stands going there
    (running_is h code known placed.retries placed.s placed.last placed.led) in
    record {
      epoch = has.epoch;
      known = has.known;
      tried = record {
        bary = sym (placed_bary placed.last r placed.is) ∙ has.tried.bary;
        tary = sym (placed_tary placed.last r placed.is) ∙ has.tried.tary;
      };
      same = has.same;
    }

same_guest : (x y : Raw) → Some x ≡ Some y → x ≡ y
same_guest x y e = cc

module _ (w : World) (is : IsWorld w) (guest : ℕ) (r now : Raw) (here : slice_get w.guests guest ≡ Some r)
    (there : slice_get (turn_of w (Guest guest)).world.guests guest ≡ Some now) (retries : ℕ) (s : State)
    (guest_is : IsGuest (history_of w.tables) (code_in_force w.tables) retries s r) (link : Bool) (rs1 : ℕ) (imm : ℤ)
    (slot : ℕ) (stands : Stands (code_in_force w.tables) s.pc (units.Check link rs1 imm slot)) (back : GoesBack r now s)
  where
    abbrev h : History
    h = history_of w.tables

    abbrev code : List ℕ
    code = code_in_force w.tables

    -- it had an event
    moved : now.base.pc ≡ r.base.pc → ⊥
    moved one =
        let from = back.from in
        let to = back.to in
        omega (arith, one, from, to)

    back_going : r.base.stop ≡ None
    back_going = elim (own_event w guest r here) [
      | inl same ↦ absurd (moved (ap (λ x. x.base.pc) (same_guest now r (sym there ∙ same))))
      | inr goes ↦ not_some r.base.stop (neither (is_some r.base.stop) (is_asking (point_of w guest)) goes.0).0
    ]

    -- and takes a word with it
    takes_own : (IsServing r.waits → ⊥) → TakesOwn w guest r here
    takes_own other = elim (own_is w guest r here is other) [
      | Left same ↦ absurd (moved (ap (λ x. x.base.pc) (same_guest now r (sym there ∙ same))))
      | Rested rests ↦
          absurd (moved (ap (λ x. x.base.pc) (same_guest now (rested w.fuel r) (sym there ∙ rests)) ∙ same_pc w.fuel r))
      | Took takes ↦ takes
    ]

    back_by : (idle : r.waits ≡ None) → Running h code s retries r → s.stop ≡ None
        → IsRepeatedFor h code retries s slot (displaced (register s rs1) imm) r now
    back_by idle running going =
        let known = history_is w.tables is.tables in
        let from = back.from in
        let both = within_check h code known s retries r link rs1 imm slot stands going 11 (omega arith) from running in
        let other : IsServing r.waits → ⊥ = λ serving. subst IsServing idle serving in
        let runs = going_runs h code retries s r guest_is back_going in
        let takes = takes_own other in
        let fits = own_fits w guest r here is takes.going takes.outside retries s runs other in
        let after = same_guest now (rested w.fuel (taken w guest r here)) (sym there ∙ takes.after) in
        let same : now ≡ taken w guest r here =
        after ∙ not_rested w.fuel (taken w guest r here) (sym (ap (λ x. x.base.stop) after) ∙ back.going) in
        subst (IsRepeatedFor h code retries s slot (displaced (register s rs1) imm) r) (sym same)
        (goes_back h code known s retries r link rs1 imm slot (word_for w guest r here r.waits) both running fits from
        (sym (ap (λ x. x.base.pc) same) ∙ back.to))

    pub repeated_for : IsRepeatedFor h code retries s slot (displaced (register s rs1) imm) r now
    repeated_for =
        let known = history_is w.tables is.tables in
        let runs = going_runs h code retries s r guest_is back_going in
        let running = running_is h code known retries s r runs in
        let going : s.stop ≡ None =
        sym (shown_stop h code retries s r (shows_running h code s retries r running)) ∙ back_going in
        let from = back.from in
        let both = within_check h code known s retries r link rs1 imm slot stands going 11 (omega arith) from running in
        let last = is_lowered both.1.place
        (word_here h code known s retries r link rs1 imm slot 11 both.1.more both.1.values both.1.place both.1.is
        from) in
        let idle : r.waits ≡ None =
        ap (λ x. x.waits) (both.1.is ∙ ap (check_raw s (retries + both.1.more) slot (displaced (register s rs1) imm)
        both.1.values) last) in
        back_by idle running going

pub own_words : RepeatsAreForOwnWords
own_words w is guest r now here there retries s guest_is link rs1 imm slot stands back =
    repeated_for w is guest r now here there retries s guest_is link rs1 imm slot stands back
