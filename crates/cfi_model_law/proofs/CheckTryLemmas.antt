-- What a check within its try has loaded, one access after the other.
use Rattle.std.proofs.Common.{◌≡◌, ◌≢◌, ℕ, ◌+◌, ◌*◌, ◌/◌, ◌<◌, ◌≤◌, List, [], ◌∷◌, ◌++◌, Option, Some, None, refl, sym, ap, ◌∙◌, subst, arith}
use Rattle.cfi_word.specs.Table.{IsCode, code_word}
use Rattle.cfi_model.specs.declared.act.Wait.{Wait}
use Rattle.cfi_model.specs.declared.act.Wait.TheVariants as waits
use Rattle.cfi_model.specs.declared.history.Access.{Access}
use Rattle.cfi_model.specs.Came.{AsksFor}
use Rattle.cfi_model.specs.Raw.{Raw}
use Rattle.cfi_model.specs.Run.{Take, Word}
use Rattle.cfi_model.specs.State.{State}
use Rattle.cfi_model.proofs.CheckPlaces.{CheckPlace, Aimed, Split, Far, Trying, Pointed, AskedBary, FoundBary, Tabled, Added, AskedTary, FoundTary, Differed, Compared, Lowered, Refused, Allowed, Values, check_raw, Found, Neither, SlotWord, BothWords, FollowsBy, found_at}
use Rattle.cfi_model_law.proofs.TryLemmas.{HoldsTry, both_stay, slot_loaded, slot_stays, target_loaded}

-- a word that is taken
same_word : (a b : ℕ) → Word a ≡ Word b → a ≡ b
same_word a b e = cc

-- an access that leaves the words of the try, or finds one more
module _ (c : ℕ) (loads : List Access) (access : Access) (slot target : ℕ) (r : Raw)
    (asked : AsksFor c r.waits r access.word) (code : r.waits ≡ None → IsCode c access.word) where
  slot_word : r.waits ≡ Some (waits.Bary slot 29) → AsksFor c (Some (waits.Bary slot 29)) r access.word
  slot_word wait = subst (λ w. AsksFor c w r access.word) wait asked

  target_word : r.waits ≡ Some (waits.Tary target 30) → AsksFor c (Some (waits.Tary target 30)) r access.word
  target_word wait = subst (λ w. AsksFor c w r access.word) wait asked

  pub try_goes_on : (old new : Found) (v w : Values) → FollowsBy old new slot target v r (Word access.found) w
      → HoldsTry c old loads slot target v → HoldsTry c new (loads ++ access ∷ []) slot target w
  try_goes_on Neither Neither v w follows holds = tt
  try_goes_on Neither SlotWord v w follows holds =
      slot_loaded c loads access slot w.bary (slot_word follows.0) (same_word access.found w.bary follows.1)
  try_goes_on Neither BothWords v w follows holds = absurd follows
  try_goes_on SlotWord Neither v w follows holds = absurd follows
  try_goes_on SlotWord SlotWord v w follows holds =
      slot_stays c loads access slot w.bary (code follows.0)
      (subst (λ b. HoldsTry c SlotWord loads slot target (record v { bary = b })) (sym follows.1) holds)
  try_goes_on SlotWord BothWords v w follows holds =
      target_loaded c loads access slot target w.bary w.tary
      (subst (λ b. HoldsTry c SlotWord loads slot target (record v { bary = b })) (sym follows.1) holds)
      (target_word follows.0) (same_word access.found w.tary follows.2)
  try_goes_on BothWords Neither v w follows holds = tt
  try_goes_on BothWords SlotWord v w follows holds = absurd follows
  try_goes_on BothWords BothWords v w follows holds =
      both_stay c loads access slot target w.bary w.tary (code follows.0)
      (subst (λ (z : ℕ × ℕ). HoldsTry c BothWords loads slot target (record v { bary = z.0; tary = z.1 }))
      (λ i. (sym follows.1 i, sym follows.2 i)) holds)

-- a check waits for no service
pub waits_for_none : (p : State) (n slot target : ℕ) (v : Values) (place : CheckPlace) (number : ℕ)
    → (check_raw p n slot target v place).waits ≡ Some (waits.Service number) → ⊥
waits_for_none p n slot target v Aimed number e = absurd (cc)
waits_for_none p n slot target v Split number e = absurd (cc)
waits_for_none p n slot target v Far number e = absurd (cc)
waits_for_none p n slot target v Trying number e = absurd (cc)
waits_for_none p n slot target v Pointed number e = absurd (cc)
waits_for_none p n slot target v AskedBary number e = absurd (cc)
waits_for_none p n slot target v FoundBary number e = absurd (cc)
waits_for_none p n slot target v Tabled number e = absurd (cc)
waits_for_none p n slot target v Added number e = absurd (cc)
waits_for_none p n slot target v AskedTary number e = absurd (cc)
waits_for_none p n slot target v FoundTary number e = absurd (cc)
waits_for_none p n slot target v Differed number e = absurd (cc)
waits_for_none p n slot target v Compared number e = absurd (cc)
waits_for_none p n slot target v Lowered number e = absurd (cc)
waits_for_none p n slot target v Refused number e = absurd (cc)
waits_for_none p n slot target v Allowed number e = absurd (cc)

-- a try that has found both words keeps them
pub keeps_both : (p : State) (n slot target : ℕ) (v : Values) (place : CheckPlace) → found_at place ≡ BothWords
    → ((check_raw p n slot target v place).bary ≡ Some v.bary)
    × ((check_raw p n slot target v place).tary ≡ Some v.tary)
keeps_both p n slot target v Aimed e = absurd (cc)
keeps_both p n slot target v Split e = absurd (cc)
keeps_both p n slot target v Far e = absurd (cc)
keeps_both p n slot target v Trying e = absurd (cc)
keeps_both p n slot target v Pointed e = absurd (cc)
keeps_both p n slot target v AskedBary e = absurd (cc)
keeps_both p n slot target v FoundBary e = absurd (cc)
keeps_both p n slot target v Tabled e = absurd (cc)
keeps_both p n slot target v Added e = absurd (cc)
keeps_both p n slot target v AskedTary e = absurd (cc)
keeps_both p n slot target v FoundTary e = (refl, refl)
keeps_both p n slot target v Differed e = (refl, refl)
keeps_both p n slot target v Compared e = (refl, refl)
keeps_both p n slot target v Lowered e = (refl, refl)
keeps_both p n slot target v Refused e = (refl, refl)
keeps_both p n slot target v Allowed e = (refl, refl)
