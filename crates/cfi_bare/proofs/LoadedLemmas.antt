-- The module of a bare file at the first place of the largest code is a list of one that was loaded.
use Rattle.std.proofs.Common.{◌≡◌, ℕ, zero, suc, ◌+◌, ◌-◌, ◌≤◌, List, [], ◌∷◌, length, take, replicate, Some, None, refl, ap, sym, subst, ◌∙◌, add-one, arith}
use Rattle.std.specs.List.{Contains, slice_get}
use Rattle.std.proofs.lemmas.List.Elements.{All-nil, All-cons}
use Rattle.cfi_word.specs.declared.map.TheConstants.{FIRST_BASE, DATA_START}
use Rattle.cfi_word.specs.declared.limits.TheConstants.{MAX_CODE_WORDS}
use Rattle.cfi_aux.specs.declared.placed.Placed.{Placed}
use Rattle.cfi_graph.specs.Shaped.{Follows}
use Rattle.cfi_verify.specs.Fault.{IsVerified}
use Rattle.cfi_modules.specs.Loaded.{IsVerifiedAmong, AreLoaded}
use Rattle.cfi_modules.proofs.LoadedLemmas.{begins}
use Rattle.cfi_aux.specs.declared.placed.PlacedFunction.{PlacedFunction}
use Rattle.cfi_place.specs.declared.room.Room.{Room}
use Rattle.cfi_place.specs.Names.{Names}
use Rattle.cfi_place.specs.Placed.{IsPlaced}
use Rattle.cfi_bare.specs.Modules.{bare_module}

-- so many copies of a value
unfoldable pub copies : (count value : ℕ) → List ℕ
copies count value = replicate count value

-- its place, and the names that are known there
abbrev pub bare_room : Room
bare_room = record { base = FIRST_BASE; slot_base = 0; data_base = DATA_START; code_words = MAX_CODE_WORDS }

abbrev pub no_names : Names
no_names name = None

-- that module at its place
abbrev pub IsPlacedFile : (bytes : List ℕ) → Placed → Type 0
IsPlacedFile bytes placed = IsPlaced (bare_module bytes) bare_room no_names placed

-- the words are a module's at that place, and its only function has them all
pub record IsWhole (m : Placed) (words : List ℕ) : Type 0 where
  pub base : m.base ≡ FIRST_BASE
  pub slot_base : m.slot_base ≡ 0
  pub same : m.words ≡ words
  pub function : PlacedFunction
  pub only : m.functions ≡ function ∷ []
  pub first : function.first ≡ 0
  pub count : function.count ≡ length words

module _ (m : Placed) (words : List ℕ) (whole : IsWhole m words) (fits : length words ≤ MAX_CODE_WORDS - FIRST_BASE)
    (verified : IsVerified m []) where
  next : (k : ℕ) (a b : Placed) → slice_get (m ∷ []) k ≡ Some a → slice_get (m ∷ []) (k + 1) ≡ Some b → Follows a b
  next k a b here there =
      let none : slice_get (m ∷ []) (suc k) ≡ Some b = ap (slice_get (m ∷ [])) (sym (add-one k)) ∙ there in absurd (cc)

  each : (k : ℕ) (n : Placed) → slice_get (m ∷ []) k ≡ Some n → IsVerifiedAmong (take k (m ∷ [])) n
  each zero n is =
      let same : m ≡ n = cc in
      ([], All-nil (Contains []), subst (λ (p : Placed). IsVerified p []) same verified)
  each (suc k) n is = absurd (cc)

  pub loaded : AreLoaded MAX_CODE_WORDS (m ∷ [])
  loaded = record {
    size = record { multiple = refl; least = omega arith; most = omega arith };
    first = begins m [] (whole.base, whole.slot_base);
    next = next;
    ends = All-cons (λ (n : Placed). n.base + length n.words ≤ MAX_CODE_WORDS) m []
        (omega (arith, whole.base, fits, ap length whole.same))
        (All-nil (λ (n : Placed). n.base + length n.words ≤ MAX_CODE_WORDS));
    verified = each;
  }
