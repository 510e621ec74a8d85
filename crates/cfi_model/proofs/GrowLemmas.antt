-- A guest runs on where the history and the code grow.
use Rattle.std.proofs.Common.{◌≡◌, ◌≢◌, ℕ, ◌+◌, ◌/◌, ◌%◌, List, [], ◌∷◌, slice_index, Option, Some, None, refl, sym, ◌∙◌, ap, subst, arith, inl, inr}
use Rattle.rv_insn.specs.InsnOf.{insn_of}
use Rattle.cfi_unit.specs.declared.unit.Unit.{Unit as CodeUnit}
use Rattle.cfi_word.specs.Word.{packed, epoch_in}
use Rattle.cfi_model.specs.declared.act.Wait.{Wait}
use Rattle.cfi_model.specs.declared.act.Wait.TheVariants as waits
use Rattle.cfi_model.specs.Begin.{HasStepBy}
use Rattle.cfi_model.specs.Closed.{IsStartIn}
use Rattle.cfi_model.specs.State.{State}
use Rattle.cfi_model.specs.Raw.{Raw}
use Rattle.cfi_model.specs.Run.{Take, Word, Served, take_one}
use Rattle.cfi_model.specs.History.{History, IsEpoch, IsSeen, IsStart, IsHistory, IsBaryWord, IsTaryWord, IsFair, slot_class, target_class}
use Rattle.cfi_model.specs.Fits.{FitsWord, Fits, Along}
use Rattle.cfi_model.specs.Shows.{Stands}
use Rattle.cfi_model.specs.Running.{IsResting, IsRunning, Extends, Keeps}
use Rattle.cfi_model.proofs.AdvanceLemmas.{Running, advance}
use Rattle.cfi_model.proofs.IdLemmas.{seen_of}
use Rattle.cfi_model.proofs.StartLemmas.{begins_on}
use Rattle.cfi_model.proofs.StuckLemmas.{running_has}

-- the word 0 is no instruction
zero_is_none : insn_of 0 ≡ None
unfolding insn_of
zero_is_none = refl

pub no_step : (r : Raw) (word : ℕ) → HasStepBy (insn_of word) r → word ≢ 0
no_step r word has zero = subst (λ i. HasStepBy i r) (ap insn_of zero ∙ zero_is_none) has

module _ (h g : History) (e : Extends h g) where
  epoch_grows : (epoch : ℕ) → IsEpoch h epoch → IsEpoch g epoch
  epoch_grows epoch is =
      record { least = omega (arith, e.first, is.least); most = omega (arith, e.first, e.longer, is.most) }

  seen_grows : (epoch : ℕ) → IsSeen h epoch → IsSeen g epoch
  seen_grows epoch is =
      record { least = omega (arith, e.first, is.least); most = omega (arith, e.first, e.seen, is.most) }

  -- the word of an epoch's class
  word_grows : (epoch class class' : ℕ) → IsSeen h epoch → class' ≡ class
      → packed epoch (h.policy epoch) class h.versions ≡ packed epoch (g.policy epoch) class' g.versions
  word_grows epoch class class' seen same =
      ap (λ p. packed epoch p class h.versions) (sym (e.policy epoch seen))
      ∙ ap (λ c. packed epoch (g.policy epoch) c h.versions) (sym same)
      ∙ ap (λ v. packed epoch (g.policy epoch) class' v) (sym e.versions)

  bary_grows : (slot word : ℕ) → IsBaryWord h slot word → IsBaryWord g slot word
  bary_grows slot word found =
      let seen = seen_of h found.epoch found.known in
      record {
        epoch = found.epoch;
        known = epoch_grows found.epoch found.known;
        is = found.is ∙ word_grows found.epoch (slot_class h found.epoch slot) (slot_class g found.epoch slot) seen
            (ap (λ image. slice_index image.bary slot) (e.image found.epoch seen));
      }

  tary_grows : (address word : ℕ) → IsTaryWord h address word → IsTaryWord g address word
  tary_grows address word found = record {
    epoch = found.epoch;
    known = seen_grows found.epoch found.known;
    is = found.is
        ∙ word_grows found.epoch (target_class h found.epoch address) (target_class g found.epoch address) found.known
        (ap (λ image. slice_index image.tary (address / 4)) (e.image found.epoch found.known));
  }

  fair_grows : (kept : Option ℕ) (word : ℕ) → IsFair h kept word → IsFair g kept word
  fair_grows None word fair = fair
  fair_grows (Some kept) word fair =
      λ same. fair (ap (λ v. epoch_in kept % v) (sym e.versions) ∙ same ∙ ap (λ v. epoch_in word % v) e.versions)

  start_grows : (address : ℕ) → IsStart h address → IsStart g address
  start_grows address start = record {
    epoch = start.epoch;
    known = epoch_grows start.epoch start.known;
    starts = subst (λ image. IsStartIn image address) (sym (e.image start.epoch (seen_of h start.epoch start.known)))
        start.starts;
  }

  module _ (code more : List ℕ) (keeps : Keeps code more) where
    word_fits : (wait : Option Wait) (r : Raw) (word : ℕ) → (wait ≡ None → word ≢ 0) → FitsWord h code wait r word
        → FitsWord g more wait r word
    word_fits None r word some fits =
        (fits.0, fits.1 ∙ sym (keeps.kept (r.base.pc / 4) (λ none. some refl (fits.1 ∙ none))))
    word_fits (Some (waits.Tary at rd)) r word some fits = record {
      found = tary_grows at word fits.found;
      fair = fair_grows r.bary word fits.fair;
      rises = fits.rises;
    }
    word_fits (Some (waits.Bary slot rd)) r word some fits = bary_grows slot word fits
    word_fits (Some (waits.Service number)) r word some fits = absurd fits

    stands_grows : (address : ℕ) (unit : CodeUnit) → Stands code address unit → Stands more address unit
    stands_grows address unit stands = record {
      aligned = stands.aligned;
      begins = begins_on code more (address / 4) unit stands.begins keeps.same keeps.kept;
    }

    rests_grow : (retries : ℕ) (s : State) (r : Raw) → IsResting h code retries s r → IsResting g more retries s r
    rests_grow retries s r rests = record {
      ready = record {
        zero_is = rests.ready.zero_is;
        start = λ going. start_grows s.pc (rests.ready.start going);
      };
      between = rests.between;
      held = λ stops.
          let held = rests.held stops in
          record {
            starts = start_grows s.pc held.starts;
            unit = held.unit;
            stands = stands_grows s.pc held.unit held.stands;
            lies = held.lies;
          };
    }

    module _ (known : IsHistory h code) where
      one_grows : (p : State) (retries : ℕ) (r : Raw) → Running h code p retries r → (t : Take) → Fits h code r t
          → Fits g more r t
      one_grows p retries r running (Word word) fits =
          word_fits r.waits r word
          (λ idle. no_step r word (running_has h code p retries known r running idle word fits)) fits
      one_grows p retries r running (Served reply) fits = fits

      along_grows : (takes : List Take) (p : State) (retries : ℕ) (r : Raw) → Running h code p retries r
          → Along h code r takes → Along g more r takes
      along_grows [] p retries r running along = tt
      along_grows (t ∷ takes) p retries r running along =
          let first = one_grows p retries r running t along.0 in
          elim (advance h code p retries known r running t along.0) [
            | inl within ↦ (first, along_grows takes p retries (take_one r t) (inr within) along.1)
            | inr ended ↦ (
              first,
              along_grows takes ended.new (retries + ended.more) (take_one r t) (inl (ended.ready, ended.between))
                  along.1,
            )
          ]

      pub running_grows : (retries : ℕ) (s : State) (r : Raw) → IsRunning h code retries s r
          → IsRunning g more retries s r
      running_grows retries s r runs = record {
        start = runs.start;
        rests = rests_grow retries s runs.start runs.rests;
        takes = runs.takes;
        along = along_grows runs.takes s retries runs.start (inl (runs.rests.ready, runs.rests.between)) runs.along;
        unended = runs.unended;
        is = runs.is;
      }
