-- What comes to a guest fits: a code word, a Bary word, and a Tary word.
use Rattle.std.proofs.Common.{◌≡◌, ℕ, ◌/◌, ◌%◌, ◌<◌, ◌≤◌, List, length, slice_index, Option, Some, None, refl, sym, ◌∙◌, subst, arith, inl, inr}
use Rattle.std.proofs.lemmas.Option.{none-some}
use Rattle.cfi_word.specs.Table.{Code, Tary, Bary, slots_of}
use Rattle.cfi_word.specs.Word.{epoch_in}
use Rattle.cfi_model.specs.declared.act.Wait.TheVariants as waits
use Rattle.cfi_model.specs.InForce.{in_force, history_of, code_in_force, tary_index}
use Rattle.cfi_model.specs.Fits.{Fits, FitsWord}
use Rattle.cfi_model.specs.History.{History, IsFair}
use Rattle.cfi_model.specs.Log.{last_policy}
use Rattle.cfi_model.specs.Raw.{Raw}
use Rattle.cfi_model.specs.Run.{Word}
use Rattle.cfi_model.specs.Running.{IsRunning}
use Rattle.cfi_model.specs.Shows.{MayWait, Shows}
use Rattle.cfi_model.specs.State.{State}
use Rattle.cfi_model.specs.Tables.{IsTables}
use Rattle.cfi_model.specs.Words.{Tables, next_epoch, epoch_in_force, policy_in_force, word_at}
use Rattle.cfi_model.proofs.GrowLemmas.{no_step}
use Rattle.cfi_model.proofs.RunningLemmas.{running_shows, running_steps}
use Rattle.cfi_model.proofs.InForceLemmas.{history_is, force_within, bary_is, bary_epoch, tary_is, tary_epoch, tary_policy, index_within, code_is}
use Rattle.cfi_world.specs.Worlds.{IsQuietSince, IsKeptSince}
use Rattle.cfi_world.proofs.SettledLemmas.{settled_low}
use Rattle.cfi_world.proofs.VersionLemmas.{one_turn}
use Rattle.cfi_world.proofs.WithinLemmas.{slot_low}

module _ (t : Tables) (is : IsTables t) where
  abbrev h : History
  h = history_of t

  abbrev code : List ℕ
  code = code_in_force t

  abbrev force : ℕ
  force = policy_in_force t

  -- the code word at the guest's address
  pub fetch_fits : (retries : ℕ) (s : State) (r : Raw) → IsRunning h code retries s r → r.base.stop ≡ None
      → r.waits ≡ None → Fits h code r (Word (word_at t (Code (r.base.pc / 4))))
  fetch_fits retries s r runs going idle =
      let place : ℕ = r.base.pc / 4 in
      let word : ℕ = slice_index code place in
      let fits : Fits h code r (Word word) = subst (λ w. FitsWord h code w r word) (sym idle) (going, refl) in
      let has = running_steps h code (history_is t is) retries s r runs idle word fits in
      subst (λ w. Fits h code r (Word w)) (sym (code_is t is place (no_step r word has))) fits

  -- the word of a branch slot
  pub bary_fits : (r : Raw) (slot rd : ℕ) → r.waits ≡ Some (waits.Bary slot rd)
      → Fits h code r (Word (word_at t (Bary slot)))
  bary_fits r slot rd wait =
      subst (λ w. FitsWord h code w r (word_at t (Bary slot))) (sym wait) (bary_is t is slot)

  -- a slot that a guest waits for is one of the table
  pub slot_inside : (retries : ℕ) (s : State) (r : Raw) (slot rd : ℕ) → IsRunning h code retries s r
      → r.waits ≡ Some (waits.Bary slot rd) → slot < slots_of t.code_words
  slot_inside retries s r slot rd runs wait = by (running_shows h code (history_is t is) retries s r runs)
    where
      by : Shows h code retries s r → slot < slots_of t.code_words
      by (inl between) = absurd (none-some (waits.Bary slot rd) (sym between.idle ∙ wait))
      by (inr within) =
          let may = subst (MayWait (length code) within.unit s) wait within.waits in
          subst (λ n. slot < slots_of n) (is.closed (in_force t) (force_within t is)).1.classes.code_length
          (slot_low (length code) within.unit s slot rd may)

  -- its epoch is not below the guest's floor
  pub bary_since : (guest : ℕ) (r : Raw) (quiet slot : ℕ) → slot < slots_of t.code_words
      → (since : IsQuietSince t guest r quiet) → IsKeptSince t since.floor (word_at t (Bary slot))
  bary_since guest r quiet slot inside since =
      let epoch = bary_epoch t is slot in
      record { least = omega (arith, since.settled, settled_low t is slot inside); most = epoch.0 }

  -- equal versions are equal epochs, since no version has come again since the guest's quiescent point
  pub fair_word : (guest : ℕ) (r : Raw) (quiet kept word : ℕ) → (since : IsQuietSince t guest r quiet)
      → IsKeptSince t since.floor kept → epoch_in_force t ≤ epoch_in word → epoch_in word < next_epoch t
      → epoch_in kept % t.versions ≡ epoch_in word % t.versions → epoch_in kept ≡ epoch_in word
  fair_word guest r quiet kept word since keeps least most same =
      one_turn (epoch_in kept) (epoch_in word) t.versions (omega (arith, keeps.most, least))
      (omega (arith, keeps.least, since.newest, most)) same

  fair_to : (guest : ℕ) (r : Raw) (quiet : ℕ) → IsQuietSince t guest r quiet → (kept : Option ℕ) → r.bary ≡ kept
      → (word : ℕ) → epoch_in_force t ≤ epoch_in word → epoch_in word < next_epoch t → IsFair h kept word
  fair_to guest r quiet since None is_kept word least most = tt
  fair_to guest r quiet since (Some kept) is_kept word least most =
      fair_word guest r quiet kept word since (since.kept kept is_kept) least most

  pub tary_fits : (guest : ℕ) (r : Raw) (quiet : ℕ) (at rd : ℕ) → IsQuietSince t guest r quiet
      → last_policy r.base.log ≤ force → r.waits ≡ Some (waits.Tary at rd)
      → Fits h code r (Word (word_at t (Tary (tary_index t.code_words at))))
  tary_fits guest r quiet at rd since low wait =
      let index : ℕ = tary_index t.code_words at in
      let word : ℕ = word_at t (Tary index) in
      let inside = index_within t is at in
      let epoch = tary_epoch t is index inside in
      subst (λ w. FitsWord h code w r word) (sym wait) (record {
        found = tary_is t is at;
        fair = fair_to guest r quiet since r.bary refl word epoch.0 epoch.1;
        rises = omega (arith, low, tary_policy t is index inside);
      })
