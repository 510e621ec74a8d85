-- A guest on its way finds the table word for which it waits.
use Rattle.std.proofs.Common.{◌≡◌, ◌≤◌, ℕ, ◌+◌, ◌-◌, ◌*◌, ◌/◌, ◌<◌, nat_le, cond, true, false, Option, Some, None, length, refl, sym, ap, subst, ◌∙◌, arith, inl, inr}
use Rattle.std.proofs.lemmas.Bool.Decides.{nat_tests}
use Rattle.cfi_word.specs.Table.{slots_of, code_word, tary_word, bary_word}
use Rattle.cfi_word.specs.Table as places
use Rattle.cfi_word.specs.Word.{policy_in}
use Rattle.cfi_word.specs.declared.map.TheConstants.{TARY, BARY, CODE_BYTES}
use Rattle.cfi_model.specs.declared.act.Wait.{Wait}
use Rattle.cfi_model.specs.declared.act.Wait.TheVariants as waits
use Rattle.cfi_model.specs.Fits.{FitsWord}
use Rattle.cfi_model.specs.InForce.{tary_index}
use Rattle.cfi_model.specs.Log.{last_policy}
use Rattle.cfi_model.specs.Raw.{Raw}
use Rattle.cfi_model.specs.Run.{take_word, finish_as, finish_of}
use Rattle.cfi_model.proofs.InForceLemmas.{index_within}
use Rattle.cfi_tables.specs.Fair.{history_at, kept_of}
use Rattle.cfi_tables.specs.Key.{Key}
use Rattle.cfi_tables.specs.Loads.{IsTableAddress, IsLoad, access_of, place_at}
use Rattle.cfi_tables.specs.declared.view.PassView.{PassView}
use Rattle.cfi_tables.proofs.FairLemmas.{kept_snoc}
use Rattle.cfi_tables.proofs.Prefixes.{prefix_length}
use Rattle.cfi_tables.specs.Views.{last_moment, tables_with}
use Rattle.rv_guest.specs.Guest.{MayLoad}
use Rattle.cfi_runner.specs.Seen.{history_seen, code_seen, policy_seen, SeesMore}
use Rattle.cfi_model.specs.Came.{AsksFor}
use Rattle.cfi_runner.specs.Run.{CanRunOn, HasTaken, KeepsSeat}
use Rattle.cfi_runner.proofs.ActLemmas.{WaitsAt}
use Rattle.cfi_runner.proofs.PickedLemmas.{logs_same, logs_found}
use Rattle.cfi_runner.proofs.SeenLemmas.{sees_trans, policy_later, bary_seen, tary_seen, tary_rises, word_later}
use Rattle.cfi_runner.proofs.NeedLemmas.{MayNeed, fair_in, fair_kept}
use Rattle.cfi_runner.proofs.WayLemmas.{IsOnWay, IsUnderWay, low, needs, takes_more}

module _ (k : Key) (fuel : ℕ) (p : PassView) (old : Raw) (can : CanRunOn k fuel p old) where
  -- where the guest waits for the word of an address
  module _ (q : PassView) (now : Raw) (way : IsOnWay k p old q now) where
    -- what a load makes of the way, by what is waited for
    pub record HasFound (new : PassView) (found : ℕ) : Type 0 where
      pub may : MayLoad now.waits now.base.log found
      pub under : IsUnderWay k p old new (finish_of now found)

    more_seen : (new : PassView) (place : places.Place) (found : ℕ) → IsLoad k place found q new
        → q.sight.latest ≤ new.sight.latest → new.sight.latest < k.first + length new.sight.entries
        → SeesMore k q.sight new.sight
    more_seen new place found load latest most = record {
      entries = load.grows;
      latest = latest;
      is = record { tables = load.tables; least = omega (arith, way.keeps.sees.is.least, latest); most = most };
    }

    on_keeps : (new : PassView) (place : places.Place) (found : ℕ) → IsLoad k place found q new
        → SeesMore k q.sight new.sight → KeepsSeat k p new
    on_keeps new place found load sees = record {
      guest = load.guest ∙ way.keeps.guest;
      quiet = load.quiet ∙ way.keeps.quiet;
      parked = load.parked ∙ way.keeps.parked;
      refusals = load.refusals ∙ way.keeps.refusals;
      sees = sees_trans k p.sight q.sight new.sight way.keeps.sees sees;
    }

    bary_more : (new : PassView) (slot found : ℕ) (load : IsLoad k (places.Bary slot) found q new)
        → SeesMore k q.sight new.sight
    bary_more new slot found load =
        more_seen new (places.Bary slot) found load (omega (arith, load.tells.1))
        (let long = prefix_length q.sight.entries new.sight.entries load.grows in
        omega (arith, load.tells.1, load.epoch, load.word.within, way.keeps.sees.is.most, long))

    pub finds_bary : (slot rd : ℕ) → now.waits ≡ Some (waits.Bary slot rd) → now.base.stop ≡ None
        → (new : PassView) (found : ℕ) → IsLoad k (places.Bary slot) found q new → slot < slots_of k.code_words
        → HasFound new found
    finds_bary slot rd wait going new found load inside =
        let sees = bary_more new slot found load in
        let done : finish_of now found ≡ finish_as (Some (waits.Bary slot rd)) now found =
        ap (λ w. finish_as w now found) wait in
        let taken = takes_more k fuel p old can q now way new (access_of k.code_words (places.Bary slot) found (last_moment k new.sight))
        load.now.accesses sees
        (subst (λ w. AsksFor k.code_words w now (bary_word k.code_words slot)) (sym wait) refl)
        (λ later more. subst (λ w. FitsWord (history_seen k later) (code_seen k later) w now found) (sym wait)
        (let word = word_later k new.sight later sees.is more (places.Bary slot) found load.word in
        bary_seen k later more.is slot found word.0
        (omega (arith, word.1, load.epoch, load.tells.1, more.latest)))) in
        record {
          may = subst (λ w. MayLoad w now.base.log found) (sym wait) tt;
          under = record {
            way = record {
              taken = subst (HasTaken k p new old) (ap (λ w. take_word w now found) wait ∙ sym done) taken;
              keeps = on_keeps new (places.Bary slot) found load sees;
              kept = λ word e.
                  ap (kept_of k) load.now.accesses
                  ∙ (kept_snoc k q.sight.accesses (places.Bary slot) found (last_moment k new.sight) inside tt
                  ∙ (sym (ap (λ r. r.bary) done) ∙ e));
              logs = logs_same (policy_seen k p.sight) old.base.log now way.logs (finish_of now found)
                  (ap (λ r. r.base.log) done)
                  (λ word e. way.logs.next word (sym (ap (λ r. r.tary) done) ∙ e));
            };
            idle = ap (λ r. r.waits) done;
            going = ap (λ r. r.base.stop) done ∙ going;
          };
        }

    pub finds_tary : (at rd : ℕ) → now.waits ≡ Some (waits.Tary at rd) → now.base.stop ≡ None
        → (new : PassView) (found : ℕ) → IsLoad k (places.Tary (tary_index k.code_words at)) found q new
        → tary_index k.code_words at < k.code_words → HasFound new found
    finds_tary at rd wait going new found load inside =
        let index : ℕ = tary_index k.code_words at in
        let long = prefix_length q.sight.entries new.sight.entries load.grows in
        let sees = more_seen new (places.Tary index) found load (omega (arith, load.tells.1))
        (omega (arith, load.tells.1, way.keeps.sees.is.most, long)) in
        let done : finish_of now found ≡ finish_as (Some (waits.Tary at rd)) now found =
        ap (λ w. finish_as w now found) wait in
        let up = policy_later k q.sight new.sight way.keeps.sees.is sees in
        let tary = tary_rises k new.sight sees.is index found load.word
        (omega (arith, load.tells.0, load.tells.1, load.epoch)) in
        let rises : last_policy now.base.log ≤ policy_in found =
        omega (arith, low k fuel p old can q now way, up, tary) in
        let before = policy_later k p.sight q.sight can.sight way.keeps.sees in
        let taken = takes_more k fuel p old can q now way new (access_of k.code_words (places.Tary index) found (last_moment k new.sight))
        load.now.accesses sees
        (subst (λ w. AsksFor k.code_words w now (tary_word k.code_words index)) (sym wait) refl)
        (λ later more. subst (λ w. FitsWord (history_seen k later) (code_seen k later) w now found) (sym wait)
        (record {
          found = tary_seen k later more.is at found
              (word_later k new.sight later sees.is more (places.Tary index) found load.word).0;
          fair = fair_in (history_at k) (history_seen k later) now.bary found refl
              (fair_kept (history_at k) now.bary (kept_of k q.sight.accesses) found way.kept load.fair);
          rises = rises;
        })) in
        record {
          may = subst (λ w. MayLoad w now.base.log found) (sym wait) rises;
          under = record {
            way = record {
              taken = subst (HasTaken k p new old) (ap (λ w. take_word w now found) wait ∙ sym done) taken;
              keeps = on_keeps new (places.Tary index) found load sees;
              kept = λ word e.
                  ap (kept_of k) load.now.accesses
                  ∙ (kept_snoc k q.sight.accesses (places.Tary index) found (last_moment k new.sight) inside tt
                  ∙ way.kept word (sym (ap (λ r. r.bary) done) ∙ e));
              logs = logs_found (policy_seen k p.sight) old.base.log now way.logs (finish_of now found) found
                  (ap (λ r. r.base.log) done) (ap (λ r. r.tary) done) (omega (arith, before, up, tary)) rises;
            };
            idle = ap (λ r. r.waits) done;
            going = ap (λ r. r.base.stop) done ∙ going;
          };
        }

    -- ---- the address that the instruction asked for

    bary_place : (c slot address : ℕ) → address ≡ BARY + 4 * slot → place_at c address ≡ places.Bary slot
    bary_place c slot address is =
        let high : nat_le BARY address ≡ true = grind (arith, nat_tests) in
        ap (λ b. cond b (places.Bary ((address - BARY) / 4)) (places.Tary (tary_index c (address - TARY)))) high
        ∙ ap places.Bary (let same : (address - BARY) / 4 ≡ slot = omega (arith, is) in same)

    needs_address : (wait : Option Wait) (address : ℕ) → WaitsAt wait address → MayNeed k.code_words wait
        → IsTableAddress k.code_words address
    needs_address (Some (waits.Tary at rd)) address is may =
        inr (omega (arith, is), omega (arith, is, may.0), omega (arith, is, may.1))
    needs_address (Some (waits.Bary slot rd)) address is may =
        inl (omega (arith, is), omega (arith, is, may), omega (arith, is))
    needs_address (Some (waits.Service number)) address is may = absurd is
    needs_address None address is may = absurd is

    pub address_within : (address : ℕ) → WaitsAt now.waits address → IsTableAddress k.code_words address
    address_within address is = needs_address now.waits address is (needs k fuel p old can q now way)

    tary_place : (c at address : ℕ) → address ≡ TARY + at → at < CODE_BYTES
        → place_at c address ≡ places.Tary (tary_index c at)
    tary_place c at address is small =
        let low : nat_le BARY address ≡ false = grind (arith, nat_tests) in
        ap (λ b. cond b (places.Bary ((address - BARY) / 4)) (places.Tary (tary_index c (address - TARY)))) low
        ∙ ap (λ n. places.Tary (tary_index c n)) (let same : address - TARY ≡ at = omega (arith, is) in same)

    finds_by : (wait : Option Wait) → now.waits ≡ wait → (address : ℕ) → WaitsAt wait address
        → MayNeed k.code_words wait → now.base.stop ≡ None
        → (new : PassView) (found : ℕ) → IsLoad k (place_at k.code_words address) found q new → HasFound new found
    finds_by (Some (waits.Tary at rd)) wait address is may going new found load =
        finds_tary at rd wait going new found
        (subst (λ place. IsLoad k place found q new) (tary_place k.code_words at address is may.0) load)
        (index_within (tables_with k q.sight.entries) way.keeps.sees.is.tables at)
    finds_by (Some (waits.Bary slot rd)) wait address is may going new found load =
        finds_bary slot rd wait going new found
        (subst (λ place. IsLoad k place found q new) (bary_place k.code_words slot address is) load) may
    finds_by (Some (waits.Service number)) wait address is may going new found load = absurd is
    finds_by None wait address is may going new found load = absurd is

    pub finds : (address : ℕ) → WaitsAt now.waits address → now.base.stop ≡ None
        → (new : PassView) (found : ℕ) → IsLoad k (place_at k.code_words address) found q new → HasFound new found
    finds address is = finds_by now.waits refl address is (needs k fuel p old can q now way)
