-- The loads of a check's present try, one load after the other.
use Rattle.std.proofs.Common.{◌≡◌, ℕ, zero, suc, ◌+◌, ◌*◌, ◌<◌, ◌≤◌, List, [], ◌∷◌, ◌++◌, length, length-append, slice_get, Some, None, ◌⊎◌, inl, inr, refl, sym, ap, ◌∙◌, subst, arith}
use Rattle.std.proofs.lemmas.Bool.{cases_lt}
use Rattle.cfi_word.specs.Table.{IsCode, IsTary, IsBary, bary_word, tary_word}
use Rattle.cfi_model.specs.declared.history.Access.{Access}
use Rattle.cfi_model.specs.InForce.{tary_index}
use Rattle.cfi_model.specs.Tries.{Loads, IsLastTry}
use Rattle.cfi_model.proofs.CheckPlaces.{Found, Neither, SlotWord, BothWords, Values}

-- ---- one load more

pub load_stays : (loads : List Access) (access a : Access) (number : ℕ) → slice_get loads number ≡ Some a
    → slice_get (loads ++ access ∷ []) number ≡ Some a
load_stays [] access a number is = absurd (cc)
load_stays (x ∷ loads) access a zero is = is
load_stays (x ∷ loads) access a (suc number) is = load_stays loads access a number is

pub load_last : (loads : List Access) (access : Access) → slice_get (loads ++ access ∷ []) (length loads) ≡ Some access
load_last [] access = refl
load_last (x ∷ loads) access = load_last loads access

pub in_first : (loads later : List Access) (a : Access) (number : ℕ) → slice_get loads number ≡ Some a
    → slice_get (loads ++ later) number ≡ Some a
in_first [] later a number is = absurd (cc)
in_first (x ∷ loads) later a zero is = is
in_first (x ∷ loads) later a (suc number) is = in_first loads later a number is

-- all loads after a number are of code
abbrev pub OnlyCode : (c : ℕ) → List Access → (number : ℕ) → Type 0
OnlyCode c loads number = (later : ℕ) → number < later → later < length loads → Loads (IsCode c) loads later

more_code : (c : ℕ) (loads : List Access) (access : Access) → IsCode c access.word → (number : ℕ) → OnlyCode c loads number
    → OnlyCode c (loads ++ access ∷ []) number
more_code c loads access code number only later after within =
    let long = length-append loads (access ∷ []) in
    elim (cases later) [
      | inl before ↦
          let was = only later after before in
          record { access = was.access; is = load_stays loads access was.access later was.is; inside = was.inside }
      | inr last ↦ record {
        access = access;
        is = ap (slice_get (loads ++ access ∷ [])) (omega (arith, last, within, long)) ∙ load_last loads access;
        inside = code;
      }
    ]
  where
    cases : (n : ℕ) → (n < length loads) ⊎ (length loads ≤ n)
    cases n = cases_lt n (length loads)

-- ---- the words that a try has found

-- the last load but those of code is that of the slot's word
pub record HasSlot (c : ℕ) (loads : List Access) (slot bary : ℕ) : Type 0 where
  pub from : ℕ
  pub access : Access
  pub is : slice_get loads from ≡ Some access
  pub within : from < length loads
  pub word : access.word ≡ bary_word c slot
  pub found : access.found ≡ bary
  pub after : OnlyCode c loads from

-- the last two are those of the slot's word and the target's
pub record HasBoth (c : ℕ) (loads : List Access) (slot target bary tary : ℕ) : Type 0 where
  pub from : ℕ
  pub to : ℕ
  pub first : Access
  pub first_is : slice_get loads from ≡ Some first
  pub slot_is : first.word ≡ bary_word c slot
  pub bary_is : first.found ≡ bary
  pub second : Access
  pub second_is : slice_get loads to ≡ Some second
  pub target_is : second.word ≡ tary_word c (tary_index c target)
  pub tary_is : second.found ≡ tary
  pub order : from < to
  pub between : (number : ℕ) → from < number → number < to → Loads (IsCode c) loads number
  pub within : to < length loads
  pub after : OnlyCode c loads to

abbrev pub HoldsTry : (c : ℕ) → Found → List Access → (slot target : ℕ) → Values → Type 0
HoldsTry c Neither loads slot target v = Unit {0}
HoldsTry c SlotWord loads slot target v = HasSlot c loads slot v.bary
HoldsTry c BothWords loads slot target v = HasBoth c loads slot target v.bary v.tary

module _ (c : ℕ) (loads : List Access) (access : Access) where
  long : length (loads ++ access ∷ []) ≡ length loads + 1
  long = length-append loads (access ∷ [])

  -- the slot's word is loaded
  pub slot_loaded : (slot bary : ℕ) → access.word ≡ bary_word c slot → access.found ≡ bary
      → HasSlot c (loads ++ access ∷ []) slot bary
  slot_loaded slot bary word found = record {
    from = length loads;
    access = access;
    is = load_last loads access;
    within = omega (arith, long);
    word = word;
    found = found;
    after = λ later past within. absurd (omega (arith, past, within, long));
  }

  -- and then the target's
  pub target_loaded : (slot target bary tary : ℕ) → HasSlot c loads slot bary
      → access.word ≡ tary_word c (tary_index c target) → access.found ≡ tary
      → HasBoth c (loads ++ access ∷ []) slot target bary tary
  target_loaded slot target bary tary was word found = record {
    from = was.from;
    to = length loads;
    first = was.access;
    first_is = load_stays loads access was.access was.from was.is;
    slot_is = was.word;
    bary_is = was.found;
    second = access;
    second_is = load_last loads access;
    target_is = word;
    tary_is = found;
    order = was.within;
    between = λ number after before.
        (let code = was.after number after before in
        record { access = code.access; is = load_stays loads access code.access number code.is; inside = code.inside });
    within = omega (arith, long);
    after = λ later past within. absurd (omega (arith, past, within, long));
  }

  -- code is fetched
  pub slot_stays : (slot bary : ℕ) → IsCode c access.word → HasSlot c loads slot bary
      → HasSlot c (loads ++ access ∷ []) slot bary
  slot_stays slot bary code was = record {
    from = was.from;
    access = was.access;
    is = load_stays loads access was.access was.from was.is;
    within = omega (arith, was.within, long);
    word = was.word;
    found = was.found;
    after = more_code c loads access code was.from was.after;
  }

  pub both_stay : (slot target bary tary : ℕ) → IsCode c access.word → HasBoth c loads slot target bary tary
      → HasBoth c (loads ++ access ∷ []) slot target bary tary
  both_stay slot target bary tary code was = record {
    from = was.from;
    to = was.to;
    first = was.first;
    first_is = load_stays loads access was.first was.from was.first_is;
    slot_is = was.slot_is;
    bary_is = was.bary_is;
    second = was.second;
    second_is = load_stays loads access was.second was.to was.second_is;
    target_is = was.target_is;
    tary_is = was.tary_is;
    order = was.order;
    between = λ number after before.
        (let code = was.between number after before in
        record { access = code.access; is = load_stays loads access code.access number code.is; inside = code.inside });
    within = omega (arith, was.within, long);
    after = more_code c loads access code was.to was.after;
  }

-- the last try of these loads
abbrev pub last_try : (c : ℕ) (loads : List Access) (slot target bary tary : ℕ) → (was : HasBoth c loads slot target bary tary)
    → IsBary c was.first.word → IsTary c was.second.word → IsLastTry c loads was.from was.to
last_try c loads slot target bary tary was in_bary in_tary = record {
  try = record {
    bary = record { access = was.first; is = was.first_is; inside = in_bary };
    tary = record { access = was.second; is = was.second_is; inside = in_tary };
    order = was.order;
    between = was.between;
  };
  last = was.after;
}
