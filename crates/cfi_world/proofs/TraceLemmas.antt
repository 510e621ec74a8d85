-- Which words a check's present try has found, and at which moments of a run its guest has loaded them.
use Rattle.std.proofs.Common.{◌≡◌, ℕ, ◌+◌, ◌-◌, ◌*◌, ◌<◌, ◌==◌, ◌&&◌, nat_lt, cond, is_none, is_some, List, Option, Some, None, inl, inr, refl, sym, ap, ◌∙◌, subst, arith}
use Rattle.std.proofs.lemmas.Bool.{cases_lt}
use Rattle.cfi_model.specs.declared.act.Wait.{Wait}
use Rattle.cfi_model.specs.declared.act.Wait.TheVariants as waits
use Rattle.cfi_model.specs.Raw.{Raw}
use Rattle.cfi_model.specs.Run.{Word, take_one, take_word}
use Rattle.cfi_model.specs.State.{State}
use Rattle.cfi_model.specs.World.{World}
use Rattle.cfi_model.proofs.CheckPlaces.{CheckPlace, Aimed, Split, Far, Trying, Pointed, AskedBary, FoundBary, Tabled, Added, AskedTary, FoundTary, Differed, Compared, Lowered, Refused, Allowed, Values, check_raw, Found, Neither, SlotWord, BothWords, FollowsBy, found_at}
use Rattle.cfi_world.specs.Checks.{bary_in, tary_in}
use Rattle.cfi_world.specs.Moments.{ComesFor, IsLastTryOf, LeavesTry, LoadsBary, OnlyFetches, world_at}
use Rattle.cfi_world.specs.declared.event.Event.{Event}

-- ---- what a try has found follows from how far the guest is in its check, what it waits for, and whether it keeps a
-- slot's word

abbrev found_by : (distance : ℕ) → (wait : Option Wait) → (bary : Option ℕ) → Found
found_by distance wait bary =
    cond (nat_lt distance 20) Neither
    (cond (distance == 20) (cond (is_some wait) Neither SlotWord)
    (cond (nat_lt distance 32) SlotWord
    (cond (distance == 32) (cond (is_some wait) SlotWord BothWords)
    (cond ((distance == 48) && is_none bary) Neither BothWords))))

abbrev pub found_in : State → Raw → Found
found_in p r = found_by (r.base.pc - p.pc) r.waits r.bary

far : (start k : ℕ) → start + 4 * k - start ≡ 4 * k
far start k = omega arith

found_for : (p : State) (k : ℕ) (r : Raw) (found : Found) → r.base.pc ≡ p.pc + 4 * k
    → found_by (4 * k) r.waits r.bary ≡ found → found_in p r ≡ found
found_for p k r found at is =
    ap (λ pc. found_by (pc - p.pc) r.waits r.bary) at ∙ ap (λ d. found_by d r.waits r.bary) (far p.pc k) ∙ is

pub found_is : (p : State) (n slot target : ℕ) (v : Values) (place : CheckPlace)
    → found_in p (check_raw p n slot target v place) ≡ found_at place
found_is p n slot target v Aimed = found_for p 1 (check_raw p n slot target v Aimed) Neither refl refl
found_is p n slot target v Split = found_for p 2 (check_raw p n slot target v Split) Neither refl refl
found_is p n slot target v Far = found_for p 12 (check_raw p n slot target v Far) Neither refl refl
found_is p n slot target v Trying = found_for p 3 (check_raw p n slot target v Trying) Neither refl refl
found_is p n slot target v Pointed = found_for p 4 (check_raw p n slot target v Pointed) Neither refl refl
found_is p n slot target v AskedBary = found_for p 5 (check_raw p n slot target v AskedBary) Neither refl refl
found_is p n slot target v FoundBary = found_for p 5 (check_raw p n slot target v FoundBary) SlotWord refl refl
found_is p n slot target v Tabled = found_for p 6 (check_raw p n slot target v Tabled) SlotWord refl refl
found_is p n slot target v Added = found_for p 7 (check_raw p n slot target v Added) SlotWord refl refl
found_is p n slot target v AskedTary = found_for p 8 (check_raw p n slot target v AskedTary) SlotWord refl refl
found_is p n slot target v FoundTary = found_for p 8 (check_raw p n slot target v FoundTary) BothWords refl refl
found_is p n slot target v Differed = found_for p 9 (check_raw p n slot target v Differed) BothWords refl refl
found_is p n slot target v Compared = found_for p 10 (check_raw p n slot target v Compared) BothWords refl refl
found_is p n slot target v Lowered = found_for p 11 (check_raw p n slot target v Lowered) BothWords refl refl
found_is p n slot target v Refused = found_for p 12 (check_raw p n slot target v Refused) BothWords refl refl
found_is p n slot target v Allowed = found_for p 13 (check_raw p n slot target v Allowed) BothWords refl refl

-- between two units it has found none
pub found_none : (p : State) (r : Raw) → r.base.pc ≡ p.pc → found_in p r ≡ Neither
found_none p r start =
    let none : r.base.pc - p.pc ≡ 0 = omega (arith, start) in
    ap (λ d. found_by d r.waits r.bary) none

-- what it has found it keeps
pub keeps_slot : (p : State) (n slot target : ℕ) (v : Values) (place : CheckPlace) → found_at place ≡ SlotWord
    → (check_raw p n slot target v place).bary ≡ Some v.bary
keeps_slot p n slot target v FoundBary e = refl
keeps_slot p n slot target v Tabled e = refl
keeps_slot p n slot target v Added e = refl
keeps_slot p n slot target v AskedTary e = refl
keeps_slot p n slot target v Aimed e = absurd (cc)
keeps_slot p n slot target v Split e = absurd (cc)
keeps_slot p n slot target v Far e = absurd (cc)
keeps_slot p n slot target v Trying e = absurd (cc)
keeps_slot p n slot target v Pointed e = absurd (cc)
keeps_slot p n slot target v AskedBary e = absurd (cc)
keeps_slot p n slot target v FoundTary e = absurd (cc)
keeps_slot p n slot target v Differed e = absurd (cc)
keeps_slot p n slot target v Compared e = absurd (cc)
keeps_slot p n slot target v Lowered e = absurd (cc)
keeps_slot p n slot target v Refused e = absurd (cc)
keeps_slot p n slot target v Allowed e = absurd (cc)

pub keeps_both : (p : State) (n slot target : ℕ) (v : Values) (place : CheckPlace) → found_at place ≡ BothWords
    → ((check_raw p n slot target v place).bary ≡ Some v.bary)
    × ((check_raw p n slot target v place).tary ≡ Some v.tary)
keeps_both p n slot target v FoundTary e = (refl, refl)
keeps_both p n slot target v Differed e = (refl, refl)
keeps_both p n slot target v Compared e = (refl, refl)
keeps_both p n slot target v Lowered e = (refl, refl)
keeps_both p n slot target v Refused e = (refl, refl)
keeps_both p n slot target v Allowed e = (refl, refl)
keeps_both p n slot target v Aimed e = absurd (cc)
keeps_both p n slot target v Split e = absurd (cc)
keeps_both p n slot target v Far e = absurd (cc)
keeps_both p n slot target v Trying e = absurd (cc)
keeps_both p n slot target v Pointed e = absurd (cc)
keeps_both p n slot target v AskedBary e = absurd (cc)
keeps_both p n slot target v FoundBary e = absurd (cc)
keeps_both p n slot target v Tabled e = absurd (cc)
keeps_both p n slot target v Added e = absurd (cc)
keeps_both p n slot target v AskedTary e = absurd (cc)

-- ---- at which moments

module _ (w : World) (run : List Event) (guest : ℕ) where
  -- the slot's word was loaded, and since then no more than code was fetched
  pub record HasSlot (now slot : ℕ) (bary : Option ℕ) : Type 0 where
    pub from : ℕ
    pub load : LoadsBary w run guest slot from
    pub past : from < now
    pub only : OnlyFetches w run guest from now
    pub is : bary ≡ Some (bary_in (world_at w run from) slot)

  -- and then the target's
  pub record HasBoth (now slot target : ℕ) (bary tary : Option ℕ) : Type 0 where
    pub from : ℕ
    pub to : ℕ
    pub last : IsLastTryOf w run guest slot target from to now
    pub bary_is : bary ≡ Some (bary_in (world_at w run from) slot)
    pub tary_is : tary ≡ Some (tary_in (world_at w run to) target)

  abbrev pub HoldsTry : Found → (now slot target : ℕ) → (bary tary : Option ℕ) → Type 0
  HoldsTry Neither now slot target bary tary = Unit {0}
  HoldsTry SlotWord now slot target bary tary = HasSlot now slot bary
  HoldsTry BothWords now slot target bary tary = HasBoth now slot target bary tary

  -- one event more
  more_fetches : (from now : ℕ) → LeavesTry w run guest now → OnlyFetches w run guest from now
      → OnlyFetches w run guest from (now + 1)
  more_fetches from now leaves only moment after before = elim (cases_lt moment now) [
    | inl less ↦ only moment after less
    | inr last ↦
        let same : now ≡ moment = omega (arith, last, before) in
        subst (LeavesTry w run guest) same leaves
  ]

  slot_stays : (now slot : ℕ) (bary later : Option ℕ) → later ≡ bary → LeavesTry w run guest now → HasSlot now slot bary
      → HasSlot (now + 1) slot later
  slot_stays now slot bary later same leaves has =
      let past = has.past in
      record {
        from = has.from;
        load = has.load;
        past = omega (arith, past);
        only = more_fetches has.from now leaves has.only;
        is = same ∙ has.is;
      }

  both_stay : (now slot target : ℕ) (bary tary later last : Option ℕ) → later ≡ bary → last ≡ tary
      → LeavesTry w run guest now → HasBoth now slot target bary tary → HasBoth (now + 1) slot target later last
  both_stay now slot target bary tary later last same_bary same_tary leaves has =
      let past = has.last.past in
      record {
        from = has.from;
        to = has.to;
        last = record {
          try = has.last.try;
          past = omega (arith, past);
          last = more_fetches has.to now leaves has.last.last;
        };
        bary_is = same_bary ∙ has.bary_is;
        tary_is = same_tary ∙ has.tary_is;
      }

  -- an event that leaves the guest
  pub holds_later : (found : Found) (now slot target : ℕ) (bary tary : Option ℕ) → LeavesTry w run guest now
      → HoldsTry found now slot target bary tary → HoldsTry found (now + 1) slot target bary tary
  holds_later Neither now slot target bary tary leaves has = tt
  holds_later SlotWord now slot target bary tary leaves has = slot_stays now slot bary bary refl leaves has
  holds_later BothWords now slot target bary tary leaves has =
      both_stay now slot target bary tary bary tary refl refl leaves has

  -- the guest's own event
  module _ (now : ℕ) (r : Raw) (comes : ComesFor w run guest r.waits now) (word : ℕ) (slot target : ℕ)
      (bary_word : (rd : ℕ) → r.waits ≡ Some (waits.Bary slot rd) → word ≡ bary_in (world_at w run now) slot)
      (tary_word : (rd : ℕ) → r.waits ≡ Some (waits.Tary target rd) → word ≡ tary_in (world_at w run now) target) where
    abbrev next : Raw
    next = take_one r (Word word)

    fetches : r.waits ≡ None → LeavesTry w run guest now
    fetches idle = inr (subst (λ x. ComesFor w run guest x now) idle comes)

    slot_loaded : r.waits ≡ Some (waits.Bary slot 29) → HasSlot (now + 1) slot next.bary
    slot_loaded wait = record {
      from = now;
      load = (29, subst (λ x. ComesFor w run guest x now) wait comes);
      past = omega arith;
      only = λ moment after before. absurd (omega (arith, after, before));
      is = ap (λ x. (take_word x r word).bary) wait ∙ ap Some (bary_word 29 wait);
    }

    target_loaded : r.waits ≡ Some (waits.Tary target 30) → HasSlot now slot r.bary
        → HasBoth (now + 1) slot target next.bary next.tary
    target_loaded wait has = record {
      from = has.from;
      to = now;
      last = record {
        try = record {
          bary = has.load;
          tary = (30, subst (λ x. ComesFor w run guest x now) wait comes);
          order = has.past;
          between = has.only;
        };
        past = omega arith;
        last = λ moment after before. absurd (omega (arith, after, before));
      };
      bary_is = ap (λ x. (take_word x r word).bary) wait ∙ has.is;
      tary_is = ap (λ x. (take_word x r word).tary) wait ∙ ap Some (tary_word 30 wait);
    }

    -- from one place to the next
    module _ (p : State) (n m : ℕ) (v z : Values) (place later : CheckPlace)
        (is : r ≡ check_raw p n slot target v place) (goes : next ≡ check_raw p m slot target z later) where
      slot_goes : found_at place ≡ SlotWord → found_at later ≡ SlotWord → z.bary ≡ v.bary → next.bary ≡ r.bary
      slot_goes old new same =
          ap (λ x. x.bary) goes ∙ keeps_slot p m slot target z later new ∙ ap Some same
          ∙ sym (ap (λ x. x.bary) is ∙ keeps_slot p n slot target v place old)

      bary_goes : found_at place ≡ BothWords → found_at later ≡ BothWords → z.bary ≡ v.bary → next.bary ≡ r.bary
      bary_goes old new same =
          ap (λ x. x.bary) goes ∙ (keeps_both p m slot target z later new).0 ∙ ap Some same
          ∙ sym (ap (λ x. x.bary) is ∙ (keeps_both p n slot target v place old).0)

      tary_goes : found_at place ≡ BothWords → found_at later ≡ BothWords → z.tary ≡ v.tary → next.tary ≡ r.tary
      tary_goes old new same =
          ap (λ x. x.tary) goes ∙ (keeps_both p m slot target z later new).1 ∙ ap Some same
          ∙ sym (ap (λ x. x.tary) is ∙ (keeps_both p n slot target v place old).1)

      goes_by : (old new : Found) → found_at place ≡ old → found_at later ≡ new
          → FollowsBy old new slot target v r (Word word) z → HoldsTry old now slot target r.bary r.tary
          → HoldsTry new (now + 1) slot target next.bary next.tary
      goes_by Neither Neither old new follows has = tt
      goes_by Neither SlotWord old new follows has = slot_loaded follows.0
      goes_by Neither BothWords old new follows has = absurd follows
      goes_by SlotWord Neither old new follows has = absurd follows
      goes_by SlotWord SlotWord old new follows has =
          slot_stays now slot r.bary next.bary (slot_goes old new follows.1) (fetches follows.0) has
      goes_by SlotWord BothWords old new follows has = target_loaded follows.0 has
      goes_by BothWords Neither old new follows has = tt
      goes_by BothWords SlotWord old new follows has = absurd follows
      goes_by BothWords BothWords old new follows has =
          both_stay now slot target r.bary r.tary next.bary next.tary (bary_goes old new follows.1)
          (tary_goes old new follows.2) (fetches follows.0) has

      pub holds_next : FollowsBy (found_at place) (found_at later) slot target v r (Word word) z
          → HoldsTry (found_at place) now slot target r.bary r.tary
          → HoldsTry (found_at later) (now + 1) slot target next.bary next.tary
      holds_next follows has = goes_by (found_at place) (found_at later) refl refl follows has
