-- A check that asks a policy asks it in its window.
use Rattle.std.proofs.Common.{◌≡◌, ℕ, ◌+◌, ◌-◌, ◌*◌, ◌<◌, ◌≤◌, List, ◌++◌, slice_get, Some, refl, sym, ap, ◌∙◌, subst, arith}
use Rattle.std.proofs.lemmas.Option.{same_Some}
use Rattle.cfi_word.specs.Table.{Place, Tary, Bary, IsPlace, IsBary, IsTary, bary_word, slots_of, tary_word, word_number}
use Rattle.cfi_word.specs.Word.{epoch_in}
use Rattle.cfi_model.specs.declared.history.Access.{Access}
use Rattle.cfi_model.specs.declared.history.Moment.{Moment}
use Rattle.cfi_model.specs.Came.{LoadedEnd}
use Rattle.cfi_model.specs.History.{History, IsEpoch, IsHistory, slot_class, target_class, word_of}
use Rattle.cfi_model.specs.InForce.{history_of, tary_index}
use Rattle.cfi_model.specs.Shows.{IsTriedIn}
use Rattle.cfi_model.specs.TableMoments.{AreTimed, IsBy, IsInForce, IsMoment, IsOfTables, IsTimed, tables_at}
use Rattle.cfi_model.specs.Tables.{IsTables}
use Rattle.cfi_model.specs.Words.{Tables, entry_at, epoch_in_force, policy_in_force, word_at}
use Rattle.cfi_model.proofs.IdLemmas.{bary_epoch, seen_of, tary_epoch}
use Rattle.cfi_model.proofs.InForceLemmas.{force_within, index_within}
use Rattle.cfi_model.proofs.PhaseLemmas.{same_place}
use Rattle.cfi_model.proofs.TableLemmas.{force_epoch}
use Rattle.cfi_model.proofs.TableMomentLemmas.{entry_then, goes_on_at}
use Rattle.cfi_model_law.specs.Force.{AreMoments}
use Rattle.cfi_model_law.specs.Window.{IsWindow}
use Rattle.cfi_model_law.proofs.ForceLemmas.{held}
use Rattle.cfi_model_law.proofs.TryLemmas.{HasBoth, in_first, last_try}

module _ (t : Tables) (is : IsTables t) (h : History) (code : List ℕ) (known : IsHistory h code) (of : IsOfTables t h code)
  where
    -- what was loaded of a place is the word there
    word_then : (access : Access) (timed : IsTimed t access) (place : Place) → IsPlace t.code_words place
        → access.word ≡ word_number t.code_words place → access.found ≡ word_at (tables_at t access.moment) place
    word_then access timed place at word =
        let same = same_place t.code_words timed.place place timed.within at (sym timed.word ∙ word) in
        timed.found ∙ ap (word_at (tables_at t access.moment)) same

    -- between two moments at which a slot's word and a target's are of one epoch
    module _ (one other : Moment) (early : IsMoment t one) (late : IsMoment t other) (order : IsBy one other)
        (epoch slot index : ℕ) (inside : index < t.code_words)
        (bary : epoch_in (word_at (tables_at t one) (Bary slot)) ≡ epoch)
        (tary : epoch_in (word_at (tables_at t other) (Tary index)) ≡ epoch) where
      pub in_force_between : (now : Moment) → IsMoment t now → IsBy one now → IsBy now other
          → IsInForce (tables_at t now) epoch (h.policy epoch)
      in_force_between now moment from until =
          let are : AreMoments (tables_at t one) (tables_at t now) (tables_at t other) = record {
            early_is = early.tables;
            mid_is = moment.tables;
            late_is = late.tables;
            first = goes_on_at t one now early moment from;
            then = goes_on_at t now other moment late until;
          } in
          let holds = held (tables_at t one) (tables_at t now) (tables_at t other) are epoch slot index inside bary tary in
          let number = force_epoch (tables_at t now) moment.tables in
          let within = force_within (tables_at t now) moment.tables in
          let long = (goes_on_at t now other moment late until).longer in
          let same = entry_then t other late (epoch - t.first) (omega (arith, number, within, long, holds.epoch_is)) in
          record {
            epoch_is = holds.epoch_is;
            policy_is = holds.policy_is ∙ ap (λ e. e.policy) same ∙ sym (of.policy epoch);
          }

    -- a check that has found both words, of one epoch
    module _ (all : List Access) (timed : AreTimed t all) (one : LoadedEnd) (later : List Access)
        (whole : one.loads ++ later ≡ all) (slot target : ℕ) (low : slot < slots_of t.code_words) (bary tary : ℕ)
        (has : HasBoth t.code_words one.loads slot target bary tary) (bary_is : one.end.bary ≡ Some bary)
        (tary_is : one.end.tary ≡ Some tary) (epoch : ℕ) (epoch_known : IsEpoch h epoch)
        (tried : IsTriedIn h epoch slot target one.end) where
      there : (number : ℕ) (access : Access) → slice_get one.loads number ≡ Some access → slice_get all number ≡ Some access
      there number access at = subst (λ (l : List Access). slice_get l number ≡ Some access) whole
          (in_first one.loads later access number at)

      first_timed : IsTimed t has.first
      first_timed = timed.each has.from has.first (there has.from has.first has.first_is)

      second_timed : IsTimed t has.second
      second_timed = timed.each has.to has.second (there has.to has.second has.second_is)

      index : ℕ
      index = tary_index t.code_words target

      inside : tary_index t.code_words target < t.code_words
      inside = index_within t is target

      -- both are of the epoch
      bary_of : epoch_in (word_at (tables_at t has.first.moment) (Bary slot)) ≡ epoch
      bary_of =
          let word = word_then has.first first_timed (Bary slot) low has.slot_is in
          let same = same_Some bary (word_of h epoch (slot_class h epoch slot)) (sym bary_is ∙ tried.bary) in
          ap epoch_in (sym word ∙ has.bary_is ∙ same)
          ∙ bary_epoch h code slot known (record { epoch = epoch; known = epoch_known; is = refl })

      tary_of : epoch_in (word_at (tables_at t has.second.moment) (Tary (tary_index t.code_words target))) ≡ epoch
      tary_of =
          let word = word_then has.second second_timed (Tary (tary_index t.code_words target)) inside has.target_is in
          let same = same_Some tary (word_of h epoch (target_class h epoch target)) (sym tary_is ∙ tried.tary) in
          ap epoch_in (sym word ∙ has.tary_is ∙ same)
          ∙ tary_epoch h code target known (record { epoch = epoch; known = seen_of h epoch epoch_known; is = refl })

      order : IsBy has.first.moment has.second.moment
      order = timed.order has.from has.to has.first has.second has.order (there has.from has.first has.first_is)
          (there has.to has.second has.second_is)

      in_bary : IsBary t.code_words has.first.word
      in_bary = (omega (arith, has.slot_is), omega (arith, has.slot_is, low))

      in_tary : IsTary t.code_words has.second.word
      in_tary = (omega (arith, has.target_is), omega (arith, has.target_is, inside))

      pub window_is : IsWindow t slot target one epoch (h.policy epoch)
      window_is = record {
        from = has.from;
        to = has.to;
        last = last_try t.code_words one.loads slot target bary tary has in_bary in_tary;
        slot_is = has.slot_is;
        target_is = has.target_is;
        bary = bary_is ∙ ap (λ w. Some w) (sym has.bary_is);
        tary = tary_is ∙ ap (λ w. Some w) (sym has.tary_is);
        order = order;
        holds = in_force_between has.first.moment has.second.moment first_timed.moment second_timed.moment order epoch slot
            (tary_index t.code_words target) inside bary_of tary_of;
      }
